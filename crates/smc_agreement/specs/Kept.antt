-- What it is that each step keeps a part of the agreement.
use Rattle.std.specs.Prelude.{◌≡◌, ℕ, ◌<◌, Some, ⊤}
use Rattle.smc_shape.specs.Layout.{Layout}
use Rattle.smc_core.specs.declared.call.Choice.{Choice}
use Rattle.smc_core.specs.declared.local.Opening.{Opening}
use Rattle.smc_core.specs.declared.op.Offer.{Offer}
use Rattle.smc_model.specs.World.{World}
use Rattle.smc_rules.specs.Memory.{Memory, seen}
use Rattle.smc_rules.specs.Start.{IsAtStart, starting}
use Rattle.smc_rules.specs.State.{State, stand_offer, state_after}
use Rattle.smc_inv_epoch.specs.Rounds.{Rounds}
use Rattle.smc_inv_range.specs.Calls.{Ranges}
use Rattle.smc_agreement.specs.Agreement.{Agreement}
use Rattle.smc_agreement.specs.Records.{RecordsAgree}

-- the ranges, the epoch rule with that of the round word, and the agreement
pub record Agrees (shape : Layout) (s : State) : Type 0 where
  pub ranges : Ranges shape s
  pub rounds : Rounds shape s
  pub agrees : Agreement shape s

-- from a state that has all of it, and this beside, each step that a pass offers leads to one that has this part
abbrev pub IsKept : (Layout → State → Type 0) → (Layout → State → Type 0) → Type 0
IsKept Beside Part = (shape : Layout) (s : State) (pass : ℕ) (choice : Choice) (offered : Offer) (told : ℕ) → pass < shape.passes
    → Agrees shape s → Beside shape s → stand_offer shape pass (s.stands pass) choice ≡ Some offered
    → Part shape (state_after shape s pass choice told offered.op (seen offered.op s.memory))

-- nothing beside
abbrev pub Nothing : Layout → State → Type 0
Nothing shape s = ⊤

-- a region starts with it
abbrev pub BeginsAgreed : Type 0
BeginsAgreed = (shape : Layout) (opening : Opening) (world : World) (memory : Memory) → IsAtStart shape opening world memory
    → Agreement shape (starting shape memory world) × RecordsAgree opening.incarnation shape (starting shape memory world)
