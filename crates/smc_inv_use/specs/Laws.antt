-- What is proved of slots in use, and of regions at rest.
use Rattle.std.specs.Prelude.{◌≡◌, ℕ, ◌<◌}
use Rattle.smc_words.specs.declared.dir.Dir.TheVariants as dir
use Rattle.smc_shape.specs.Layout.{Layout, slots_of, entries_of}
use Rattle.smc_core.specs.declared.local.Opening.{Opening}
use Rattle.smc_rules.specs.Reads.{state_in, dir_in}
use Rattle.smc_rules.specs.State.{State}
use Rattle.smc_inv_use.specs.Rest.{IsAtRest, IsSlotAtRest, IsEntryAtRest}
use Rattle.smc_inv_use.specs.Uses.{IsUsed}

-- each slot whose directory word says valid has a user
abbrev pub ValidIsUsed : Layout → Opening → State → Type 0
ValidIsUsed shape opening s = (coll slot : ℕ) → dir_in s.memory coll slot ≡ dir.Valid → IsUsed shape s.memory s.stands coll slot

-- at rest each slot is free, or left for later use, or has one object
abbrev pub SlotsAtRest : Layout → Opening → State → Type 0
SlotsAtRest shape opening s = IsAtRest shape s → (coll slot : ℕ) → slot < slots_of shape coll → IsSlotAtRest shape s coll slot (dir_in s.memory coll slot)

-- at rest each entry is free, or has its object in a valid slot
abbrev pub EntriesAtRest : Layout → Opening → State → Type 0
EntriesAtRest shape opening s = IsAtRest shape s → (coll entry : ℕ) → entry < entries_of shape coll → IsEntryAtRest shape s.memory coll (state_in s.memory coll entry)
