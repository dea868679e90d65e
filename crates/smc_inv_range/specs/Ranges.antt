-- What each word of a region keeps: its class, and its parts within the region.
use Rattle.std.specs.Prelude.{◌≡◌, ℕ, ◌<◌, ◌≤◌, ◌^◌, Some, None}
use Rattle.smc_words.specs.declared.layout.TheConstants.{EPOCHS, INCARNATIONS}
use Rattle.smc_words.specs.declared.number.Number.{Number}
use Rattle.smc_words.specs.Dir.{FitsDir}
use Rattle.smc_words.specs.RoundWord.{FitsRound}
use Rattle.smc_shape.specs.Layout.{Layout, slots_of, entries_of}
use Rattle.smc_shape.specs.Places.{InRange}
use Rattle.smc_shape.specs.declared.place.Place.{Place}
use Rattle.smc_shape.specs.declared.place.Place.TheVariants as place
use Rattle.smc_core.specs.declared.op.Op.{Op}
use Rattle.smc_core.specs.declared.op.Op.TheVariants.{Load, Store, Exchange, MarkGone}
use Rattle.smc_core.specs.declared.section.TheConstants.{LAST_EPOCH}
use Rattle.smc_core.specs.declared.word.State.{State}
use Rattle.smc_core.specs.declared.word.State.TheVariants as state
use Rattle.smc_core.specs.declared.word.Word.{Word}
use Rattle.smc_core.specs.declared.word.Word.TheVariants as word
use Rattle.smc_rules.specs.Memory.{Memory}

-- a number with an entry of the region, whose incarnation an entry can have
pub record IsNamed (shape : Layout) (number : Number) : Type 0 where
  pub incarnation : number.incarnation < INCARNATIONS
  pub entry : number.entry < entries_of shape number.coll

-- a number of this collection that an object may have
pub record IsNumberOf (shape : Layout) (coll : ℕ) (number : Number) : Type 0 where
  pub given : 1 ≤ number.incarnation
  pub incarnation : number.incarnation < INCARNATIONS
  pub entry : number.entry < entries_of shape number.coll
  pub home : number.coll ≡ coll

-- the slot is one of the collection
abbrev pub IsSlot : Layout → ℕ → ℕ → Type 0
IsSlot shape coll slot = slot < slots_of shape coll

-- an entry of this collection names a slot of it
abbrev pub InState : Layout → ℕ → State → Type 0
InState shape coll (state.Free incarnation stamp) = (incarnation < INCARNATIONS) × (stamp < EPOCHS)
InState shape coll (state.Claimed incarnation) = incarnation < INCARNATIONS
InState shape coll (state.Present incarnation slot) = (incarnation < INCARNATIONS) × IsSlot shape coll slot
InState shape coll (state.Frozen incarnation slot) = (incarnation < INCARNATIONS) × IsSlot shape coll slot
InState shape coll (state.Locked incarnation slot) = (incarnation < INCARNATIONS) × IsSlot shape coll slot
InState shape coll (state.Removed incarnation slot frozen locked) = (incarnation < INCARNATIONS) × IsSlot shape coll slot

-- the word is of the class of the place, and its parts are within the region
abbrev pub InWord : Layout → Place → Word → Type 0
InWord shape place.Epoch (word.Plain number) = number ≤ LAST_EPOCH
InWord shape place.Round (word.Round None) = Unit {0}
InWord shape place.Round (word.Round (Some round)) = FitsRound round
InWord shape (place.Section pass) (word.Plain number) = number ≤ LAST_EPOCH
InWord shape (place.Entry coll entry) (word.Entry state) = InState shape coll state
InWord shape (place.Directory coll slot) (word.Directory dir) = FitsDir dir
InWord shape (place.Back coll slot) (word.Back None) = Unit {0}
InWord shape (place.Back coll slot) (word.Back (Some number)) = IsNumberOf shape coll number
InWord shape (place.Forward coll slot) (word.Forward target) = IsSlot shape coll target
InWord shape (place.Field coll slot field) (word.Plain number) = number < 2 ^ 64
InWord shape _ _ = ⊥

-- each word of the region keeps its range
abbrev pub InMemory : Layout → Memory → Type 0
InMemory shape memory = (there : Place) → InRange shape there → InWord shape there (memory there)

-- the operation is on a word of the region, and the words that it may put keep their range
abbrev pub InOp : Layout → Op → Type 0
InOp shape (Load there) = InRange shape there
InOp shape (Store there w) = InRange shape there × InWord shape there w
InOp shape (Exchange there expect w) = InRange shape there × InWord shape there expect × InWord shape there w
InOp shape (MarkGone coll entry) = InRange shape (place.Entry coll entry)

-- the word that an operation is shown keeps its range; a store is shown none
abbrev pub InShown : Layout → Op → Word → Type 0
InShown shape (Load there) w = InWord shape there w
InShown shape (Store there stored) w = Unit {0}
InShown shape (Exchange there expect put) w = InWord shape there w
InShown shape (MarkGone coll entry) w = InWord shape (place.Entry coll entry) w
