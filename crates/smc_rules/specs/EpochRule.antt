-- The epoch rule: how far apart the epoch, the sections and the advances may be.
use Rattle.std.specs.Prelude.{◌≡◌, ℕ, ◌+◌, ◌<◌, ◌≤◌, nat_lt, Bool, true, false, IsTrue, Option, Some, None}
use Rattle.smc_shape.specs.Layout.{Layout}
use Rattle.smc_core.specs.declared.phase.Phase.{Phase}
use Rattle.smc_core.specs.declared.phase.Phase.TheVariants as phase
use Rattle.smc_core.specs.declared.section.Section.{Section}
use Rattle.smc_core.specs.declared.section.Section.TheVariants.{Outside, Loaded, Announced, Again, Lasting, Inside}
use Rattle.smc_core.specs.declared.section.TheConstants.{FIRST_EPOCH, LAST_EPOCH}
use Rattle.smc_rules.specs.Reads.{epoch_of_region}
use Rattle.smc_rules.specs.State.{State}

-- the epoch that a section loaded first, until it lasts
abbrev pub first_load : Section → Option ℕ
first_load (Loaded seen) = Some seen
first_load (Announced seen) = Some seen
first_load (Again seen epoch) = Some seen
first_load Outside = None
first_load (Lasting epoch) = None
first_load (Inside epoch calm) = None

-- the epoch that is the section's, from its second load of the epoch to its end
abbrev pub own_epoch : Section → Option ℕ
own_epoch (Again seen epoch) = Some epoch
own_epoch (Lasting epoch) = Some epoch
own_epoch (Inside epoch calm) = Some epoch
own_epoch Outside = None
own_epoch (Loaded seen) = None
own_epoch (Announced seen) = None

-- the epoch that an advance in progress means to move on from
abbrev pub advance_from : Phase → Option ℕ
advance_from (phase.Advancing epoch other) = Some epoch
advance_from (phase.Ready epoch) = Some epoch
advance_from _ = None

-- whether an advance in progress has already loaded the section word of this pass
abbrev pub has_loaded : Phase → ℕ → Bool
has_loaded (phase.Advancing epoch other) pass = nat_lt pass other
has_loaded (phase.Ready epoch) pass = true
has_loaded _ pass = false

-- what holds of epochs, sections and advances in every state
pub record EpochRule (shape : Layout) (state : State) : Type 0 where
  -- the region's epoch is from the first one on, and at most the last
  pub first : FIRST_EPOCH ≤ epoch_of_region state.memory
  pub last : epoch_of_region state.memory ≤ LAST_EPOCH
  -- no advance is ahead of it
  pub advance : (pass from : ℕ) → pass < shape.passes → advance_from (state.stands pass).phase ≡ Some from
      → from ≤ epoch_of_region state.memory
  -- nor is what a section loaded first
  pub loaded : (pass seen : ℕ) → pass < shape.passes → first_load (state.stands pass).section ≡ Some seen
      → seen ≤ epoch_of_region state.memory
  -- what a section loads again is not below what it loaded first
  pub again : (pass seen own : ℕ) → pass < shape.passes → (state.stands pass).section ≡ Again seen own → seen ≤ own
  -- from then on, and while the section lasts, the region's epoch is the section's or the next one
  pub near : (pass own : ℕ) → pass < shape.passes → own_epoch (state.stands pass).section ≡ Some own
      → (own ≤ epoch_of_region state.memory) × (epoch_of_region state.memory ≤ own + 1)
  -- and an advance that has already loaded its section word is not ahead of the section
  pub passed : (pass own other from : ℕ) → pass < shape.passes → other < shape.passes
      → own_epoch (state.stands pass).section ≡ Some own → advance_from (state.stands other).phase ≡ Some from
      → IsTrue (has_loaded (state.stands other).phase pass) → from ≤ own
