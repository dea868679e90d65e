-- How a begin goes on.
use Rattle.std.specs.Prelude.{◌≡◌, ℕ, ◌+◌, ◌≤◌, Option, Some, None}
use Rattle.smc_shape.specs.Layout.{Layout, width_of}
use Rattle.smc_core.specs.declared.change.Change.{Change}
use Rattle.smc_core.specs.declared.done.Done.TheVariants as done
use Rattle.smc_core.specs.declared.local.Local.{Local}
use Rattle.smc_core.specs.declared.local.Owned.{Owned}
use Rattle.smc_core.specs.declared.phase.moves.Walk.{Walk}
use Rattle.smc_core.specs.Begin.{ends_round, next_source}
use Rattle.smc_region.specs.Callers.{answered_by}
use Rattle.smc_compact.specs.declared.begun.Begun.{Begun}
use Rattle.smc_compact.specs.declared.begun.Begun.TheVariants as begun

-- a pass that owns this round, or none
abbrev pub owning : Local → Option Owned → Local
owning l owned = record l { stand = record l.stand { round = owned } }

-- where the walk leaves the call that answers this for a source: it looks for the next source, or no target is left
abbrev pub walked : Layout → ℕ → Walk → Option Walk → Change
walked shape epoch walk None = ends_round epoch walk
walked shape epoch walk (Some next) = next_source shape epoch next

-- how many targets it has passed then
abbrev pub targets_by : Walk → Option Walk → ℕ
targets_by walk None = walk.kept
targets_by walk (Some next) = next.target

-- the walk is still over these sources and these targets, and has moved no more objects than it has passed targets
pub record IsAlong (walk next : Walk) : Type 0 where
  pub coll : next.coll ≡ walk.coll
  pub source : next.source ≡ walk.source
  pub kept : next.kept ≡ walk.kept
  pub within : next.target ≤ next.kept
  pub few : next.moves ≤ next.target

-- the steps of a target, at most
abbrev pub target_steps : Layout → ℕ → ℕ
target_steps shape coll = width_of shape coll + 7

-- what a begin that answers this leaves of a pass, in a section at this epoch
abbrev pub Begins : Begun → ℕ → ℕ → Local → Local → Type 0
Begins (begun.Round round) epoch coll old new = (round.coll ≡ coll) × (round.bound ≡ epoch + 1)
    × (new ≡ answered_by (owning old (Some (record { bound = round.bound; coll = coll }))) new.steps (done.Round coll round.bound round.moves))
Begins begun.Nothing epoch coll old new = new ≡ answered_by (owning old None) new.steps (done.Nothing coll)
Begins (begun.Busy seen) epoch coll old new = new ≡ answered_by old (old.steps + 1) (done.Busy seen.bound seen.pass seen.coll)
