-- Passes that stand aside while one pass works.
use Rattle.std.specs.Prelude.{◌≡◌, ◌≢◌, ◌⊎◌, ℕ, Some, None, List, slice_get}
use Rattle.std.specs.List.{AllByRecursion}
use Rattle.smc_shape.specs.Layout.{Layout}
use Rattle.smc_core.specs.declared.call.Call.TheVariants as call
use Rattle.smc_core.specs.declared.call.Choice.{Choice}
use Rattle.smc_core.specs.declared.call.Choice.TheVariants.{Start, Go}
use Rattle.smc_core.specs.declared.local.Local.{Local}
use Rattle.smc_core.specs.declared.local.Stand.{Stand}
use Rattle.smc_core.specs.declared.phase.Phase.{Phase}
use Rattle.smc_core.specs.declared.phase.Phase.TheVariants as phase
use Rattle.smc_core.specs.declared.section.Section.TheVariants.{Outside}
use Rattle.smc_core.specs.Machine.{Machine, Leads}

-- no call is in progress, or an advance
abbrev pub IsResting : Phase → Type 0
IsResting phase.Idle = Unit {0}
IsResting (phase.Advancing epoch other) = Unit {0}
IsResting (phase.Ready epoch) = Unit {0}
IsResting _ = ⊥

-- a pass that stands aside: outside sections, in no call but an advance, without a round
pub record StandsAside (stand : Stand) : Type 0 where
  pub outside : stand.section ≡ Outside
  pub resting : IsResting stand.phase
  pub no_round : stand.round ≡ None

-- all passes but this one stand aside
abbrev pub OthersAside : ℕ → List Local → Type 0
OthersAside pass locals = (other : ℕ) (l : Local) → other ≢ pass → slice_get locals other ≡ Some l → StandsAside l.stand

-- the pass stands idle: in no call, outside sections, without a round
pub record StandsIdle (pass : ℕ) (locals : List Local) : Type 0 where
  pub local : Local
  pub here : slice_get locals pass ≡ Some local
  pub idle : local.stand.phase ≡ phase.Idle
  pub outside : local.stand.section ≡ Outside
  pub no_round : local.stand.round ≡ None

-- it stands idle, and the others stand aside
pub record IsAlone (pass : ℕ) (m : Machine) : Type 0 where
  pub idle : StandsIdle pass m.locals
  pub others : OthersAside pass m.locals

-- what one that stands aside may choose: an advance or a note, or to go on
abbrev pub IsAsideChoice : Choice → Type 0
IsAsideChoice Go = Unit {0}
IsAsideChoice (Start call.Advance) = Unit {0}
IsAsideChoice (Start call.Note) = Unit {0}
IsAsideChoice _ = ⊥

-- the steps are of this pass, and of others that stand aside
abbrev pub IsUndisturbed : ℕ → List (ℕ × Choice) → Type 0
IsUndisturbed pass steps = AllByRecursion (λ x. (x.0 ≡ pass) ⊎ IsAsideChoice x.1) steps

-- others that stand aside do so after such steps
abbrev pub OthersStayAside : Type 0
OthersStayAside = (shape : Layout) (pass : ℕ) (m last : Machine) (steps : List (ℕ × Choice))
    → OthersAside pass m.locals → IsUndisturbed pass steps → Leads shape m steps last → OthersAside pass last.locals
