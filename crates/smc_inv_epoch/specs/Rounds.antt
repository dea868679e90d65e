-- What the round word tells: whose round it is, and that no calm section is past its bound.
use Rattle.smc_shape.specs.Layout.{Layout, IsShape}
use Rattle.smc_core.specs.declared.local.Opening.{Opening}
use Rattle.smc_core.specs.Machine.{Machine}
use Rattle.smc_model.specs.World.{World}
use Rattle.smc_rules.specs.History.{History}
use Rattle.smc_rules.specs.RelocationRule.{NamesOwner, CalmBound}
use Rattle.smc_rules.specs.RoundAgreement.{RoundAgreement}
use Rattle.smc_rules.specs.State.{State, IsKept, Backed}
use Rattle.smc_inv_epoch.specs.Epochs.{Epochs, is_first}

-- the two parts of the relocation rule that speak of the round word and of sections alone
pub record RoundWordRule (shape : Layout) (state : State) : Type 0 where
  pub names_owner : NamesOwner shape state
  pub calm_bound : CalmBound shape state

-- with what they need to be kept
pub record Rounds (shape : Layout) (state : State) : Type 0 where
  pub epochs : Epochs shape state
  pub rule : RoundWordRule shape state
  pub agrees : RoundAgreement shape state

-- each step of each kind keeps it
abbrev pub RoundsAreKept : Type 0
RoundsAreKept = (shape : Layout) → IsShape shape → IsKept shape is_first (Rounds shape)

-- the round word tells the truth behind every history
abbrev pub RoundWordRuleHolds : Type 0
RoundWordRuleHolds = (shape : Layout) (opening : Opening) (first : World) (m : Machine) → IsShape shape → History shape opening first m
    → Backed shape is_first (RoundWordRule shape) m.row m.locals
