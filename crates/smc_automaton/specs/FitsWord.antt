-- The ranges that the words of a region keep.
use Rattle.std.specs.Prelude.{ℕ, ◌≤◌}
use Rattle.smc_shape.specs.declared.place.Place.{Place}
use Rattle.smc_shape.specs.declared.place.Place.TheVariants as place
use Rattle.smc_core.specs.declared.op.Op.{Op}
use Rattle.smc_core.specs.declared.op.Op.TheVariants.{Load, Store, Exchange, MarkGone}
use Rattle.smc_core.specs.declared.section.TheConstants.{LAST_EPOCH}
use Rattle.smc_core.specs.declared.word.Word.{Word}
use Rattle.smc_core.specs.declared.word.Word.TheVariants as word
use Rattle.smc_core.specs.Row.{Suits}

-- the word is of the class of the place, and its parts fit: an epoch is none above the last one, a field is any number
abbrev pub FitsWord : Place → Word → Type 0
FitsWord place.Epoch (word.Plain number) = number ≤ LAST_EPOCH
FitsWord (place.Section pass) (word.Plain number) = number ≤ LAST_EPOCH
FitsWord (place.Field coll slot field) (word.Plain number) = Unit {0}
FitsWord there w = Suits there w

-- the same of the number that stands there: only an epoch has a limit of its own
abbrev pub FitsAt : Place → ℕ → Type 0
FitsAt place.Epoch number = number ≤ LAST_EPOCH
FitsAt (place.Section pass) number = number ≤ LAST_EPOCH
FitsAt _ number = Unit {0}

-- the words that an operation stores, and the one that it expects, fit their place
abbrev pub FitsOp : Op → Type 0
FitsOp (Load there) = Unit {0}
FitsOp (Store there w) = FitsWord there w
FitsOp (Exchange there expect w) = FitsWord there expect × FitsWord there w
FitsOp (MarkGone coll entry) = Unit {0}

-- the word that it is shown fits its place; a store is shown none
abbrev pub FitsSeen : Op → Word → Type 0
FitsSeen (Load there) w = FitsWord there w
FitsSeen (Store there stored) w = Unit {0}
FitsSeen (Exchange there expect put) w = FitsWord there w
FitsSeen (MarkGone coll entry) w = FitsWord (place.Entry coll entry) w
