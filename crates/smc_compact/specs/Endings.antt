-- How a finish goes on.
use Rattle.std.specs.Prelude.{◌≡◌, ℕ, ◌+◌, ◌*◌, ◌≤◌, ◌<◌, None}
use Rattle.smc_shape.specs.Layout.{Layout, width_of}
use Rattle.smc_core.specs.declared.done.Done.TheVariants as done
use Rattle.smc_core.specs.declared.local.Local.{Local}
use Rattle.smc_core.specs.declared.phase.moves.Targets.{Targets}
use Rattle.smc_region.specs.Callers.{answered_by}
use Rattle.smc_compact.specs.declared.begun.Round.{Round}
use Rattle.smc_compact.specs.declared.ending.Finished.{Finished}
use Rattle.smc_compact.specs.declared.ending.Finished.TheVariants as finished
use Rattle.smc_compact.specs.Begins.{owning}

-- the walk is still at this slot, and no count is above the slots that it has passed
pub record IsTally (old new : Targets) (passed : ℕ) : Type 0 where
  pub coll : new.coll ≡ old.coll
  pub slot : new.slot ≡ old.slot
  pub moved : new.moved ≤ passed
  pub abandoned : new.abandoned ≤ passed
  pub gone : new.gone ≤ passed

-- what a finish that answers this leaves of a pass, in a section at this epoch
abbrev pub Ends : Finished → Round → ℕ → Local → Local → Type 0
Ends (finished.Done moved abandoned gone) round epoch old new = (round.bound + 2 ≤ epoch) × (new ≡ answered_by (owning old None) new.steps (done.Finished moved abandoned gone))
Ends (finished.Early again) round epoch old new = (epoch < round.bound + 2) × (again ≡ round) × (new ≡ answered_by old (old.steps + 1) (done.Early epoch round.bound))

-- the steps of a target, at most
abbrev pub target_steps : Layout → ℕ → ℕ
target_steps shape coll = 2 * width_of shape coll + 8
