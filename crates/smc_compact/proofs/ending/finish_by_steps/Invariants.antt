use Rattle.std.proofs.Common.{◌≡◌, ◌+◌, ◌*◌, ◌≤◌}
use Rattle.std.specs.Prelude.{nat_lt, if◌then◌else◌}
use Rattle.smc_core.specs.declared.phase.Phase.TheVariants as phase
use Rattle.smc_core.specs.declared.phase.moves.FinishPhase.TheVariants as finish
use Rattle.smc_core.specs.Step.{goes}
use Rattle.smc_region.specs.Callers.{IsSame}
use Rattle.smc_compact.specs.Counting.{going}
use Rattle.smc_compact.specs.Endings.{target_steps}
use Rattle.smc_compact.proofs.ending.finish_by_steps.Given as goal

-- the slots below `slot` are passed
abbrev pub invariant-loop-slot : goal.invariant-loop-slot
invariant-loop-slot l = record {
  same : IsSame l.fn.s l.s;
  coll : l.targets.coll ≡ l.fn.r.coll;
  steps : l.s.local.steps ≤ l.fn.s.local.steps + l.slot * target_steps l.fn.s.shape l.fn.r.coll;
  moved : l.targets.moved ≤ l.slot;
  abandoned : l.targets.abandoned ≤ l.slot;
  gone : l.targets.gone ≤ l.slot;
  local : l.s.local ≡ going l.fn.s.local l.s.local.steps
      (goes (phase.Finish (if nat_lt l.slot l.slots then finish.Directory (record l.targets { slot = l.slot }) else finish.End l.targets)));
}
