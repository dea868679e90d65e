-- What slots and entries are where no call is in progress.
use Rattle.std.specs.Prelude.{◌≡◌, ℕ, ◌<◌, None}
use Rattle.smc_words.specs.declared.dir.Dir.{Dir}
use Rattle.smc_words.specs.declared.dir.Dir.TheVariants as dir
use Rattle.smc_shape.specs.Layout.{Layout, slots_of, entries_of}
use Rattle.smc_core.specs.declared.word.State as E
use Rattle.smc_core.specs.declared.word.State.TheVariants as state
use Rattle.smc_rules.specs.Memory.{Memory}
use Rattle.smc_rules.specs.Reads.{round_in, state_in, dir_in, object}
use Rattle.smc_rules.specs.SlotRule.{IsHome}
use Rattle.smc_rules.specs.State.{State}
use Rattle.smc_aside.specs.Aside.{IsResting}

-- no pass has a call in progress but an advance, and there is no round
pub record IsAtRest (shape : Layout) (s : State) : Type 0 where
  pub resting : (pass : ℕ) → pass < shape.passes → IsResting (s.stands pass).phase
  pub no_round : round_in s.memory ≡ None

-- one object is present in the slot, whose record is the slot's fields, and no other
pub record HasOneObject (shape : Layout) (s : State) (coll slot : ℕ) : Type 0 where
  pub entry : ℕ
  pub incarnation : ℕ
  pub within : entry < entries_of shape coll
  pub here : state_in s.memory coll entry ≡ state.Present incarnation slot
  pub only : (other again : ℕ) → other < entries_of shape coll → state_in s.memory coll other ≡ state.Present again slot → other ≡ entry
  pub home : IsHome shape s.world s.memory slot (object incarnation entry coll)

-- a slot with this directory word is free, or was left for later use, or has one object
abbrev pub IsSlotAtRest : Layout → State → ℕ → ℕ → Dir → Type 0
IsSlotAtRest shape s coll slot dir.Free = Unit {0}
IsSlotAtRest shape s coll slot (dir.Limbo stamp) = Unit {0}
IsSlotAtRest shape s coll slot dir.Valid = HasOneObject shape s coll slot
IsSlotAtRest shape s coll slot dir.Claimed = ⊥
IsSlotAtRest shape s coll slot dir.Incoming = ⊥

-- an entry in this state is free, or its object is present, without marks, in a slot that is valid
abbrev pub IsEntryAtRest : Layout → Memory → ℕ → E.State → Type 0
IsEntryAtRest shape memory coll (state.Free incarnation stamp) = Unit {0}
IsEntryAtRest shape memory coll (state.Present incarnation slot) = (slot < slots_of shape coll) × (dir_in memory coll slot ≡ dir.Valid)
IsEntryAtRest shape memory coll _ = ⊥
