-- What a memory says, by what its places are for.
use Rattle.std.specs.Prelude.{◌≡◌, ℕ, ◌<◌, Option, Some}
use Rattle.smc_words.specs.declared.dir.Dir.{Dir}
use Rattle.smc_words.specs.declared.dir.Dir.TheVariants as dir
use Rattle.smc_words.specs.declared.layout.TheConstants.{BLANK}
use Rattle.smc_words.specs.declared.number.Number.{Number}
use Rattle.smc_words.specs.declared.round.RoundWord.{RoundWord}
use Rattle.smc_shape.specs.Layout.{Layout, width_of}
use Rattle.smc_shape.specs.declared.place.Place.TheVariants as place
use Rattle.smc_model.specs.World.{World, word_of}
use Rattle.smc_core.specs.declared.word.State.{State}
use Rattle.smc_core.specs.Words.{plain_of, round_of, state_of, dir_of, back_of, forward_of}
use Rattle.smc_rules.specs.Memory.{Memory}

-- the epoch of the region
abbrev pub epoch_of_region : Memory → ℕ
epoch_of_region memory = plain_of (memory place.Epoch)

-- the round in progress, if there is one
abbrev pub round_in : Memory → Option RoundWord
round_in memory = round_of (memory place.Round)

-- the epoch that the section word of a pass announces, or 0
abbrev pub announced_by : Memory → ℕ → ℕ
announced_by memory pass = plain_of (memory (place.Section pass))

-- the state of an entry
abbrev pub state_in : Memory → ℕ → ℕ → State
state_in memory coll entry = state_of (memory (place.Entry coll entry))

-- the state of the entry of a number
abbrev pub state_for : Memory → Number → State
state_for memory number = state_in memory number.coll number.entry

-- what is in a slot
abbrev pub dir_in : Memory → ℕ → ℕ → Dir
dir_in memory coll slot = dir_of (memory (place.Directory coll slot))

-- the object that owns it, if one does
abbrev pub back_in : Memory → ℕ → ℕ → Option Number
back_in memory coll slot = back_of (memory (place.Back coll slot))

-- the slot that its object is to move to
abbrev pub forward_in : Memory → ℕ → ℕ → ℕ
forward_in memory coll slot = forward_of (memory (place.Forward coll slot))

-- a field of the record in it
abbrev pub field_in : Memory → ℕ → ℕ → ℕ → ℕ
field_in memory coll slot field = plain_of (memory (place.Field coll slot field))

-- the object with this incarnation of the entry
abbrev pub object : ℕ → ℕ → ℕ → Number
object incarnation entry coll = record { incarnation = incarnation; entry = entry; coll = coll }

-- an object is to move to the slot
abbrev pub IsIncoming : Memory → ℕ → ℕ → Type 0
IsIncoming memory coll slot = dir_in memory coll slot ≡ dir.Incoming

-- an add or a begin has claimed the slot
abbrev pub IsClaimed : Memory → ℕ → ℕ → Type 0
IsClaimed memory coll slot = dir_in memory coll slot ≡ dir.Claimed

-- the slot names the number as its owner
abbrev pub IsOwnedBy : Memory → ℕ → Number → Type 0
IsOwnedBy memory slot number = back_in memory number.coll slot ≡ Some number

-- the fields of the slot are the record of the number in the world
abbrev pub HasRecord : Layout → World → Memory → ℕ → Number → Type 0
HasRecord shape world memory slot number = (field : ℕ) → field < width_of shape number.coll
    → word_of world number field ≡ Some (field_in memory number.coll slot field)

-- the first fields of the slot, so many of them, are blank
abbrev pub IsBlankBelow : Memory → ℕ → ℕ → ℕ → Type 0
IsBlankBelow memory coll slot many = (field : ℕ) → field < many → field_in memory coll slot field ≡ BLANK
