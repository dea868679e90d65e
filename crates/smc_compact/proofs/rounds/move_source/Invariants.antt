use Rattle.std.proofs.Common.{◌≡◌, ◌+◌, ◌*◌, ◌≤◌}
use Rattle.smc_core.specs.Begin.{to_target}
use Rattle.smc_core.specs.Section.{epoch_of}
use Rattle.smc_region.specs.Callers.{IsSame}
use Rattle.smc_compact.specs.Counting.{going}
use Rattle.smc_compact.specs.Begins.{target_steps}
use Rattle.smc_compact.proofs.rounds.move_source.Given as goal

-- the targets below `target` are passed
abbrev pub invariant-loop-target : goal.invariant-loop-target
invariant-loop-target l = record {
  same : IsSame l.fn.s l.s;
  ahead : l.walk.target ≤ l.target;
  steps : l.s.local.steps + l.walk.target * target_steps l.fn.s.shape l.walk.coll ≤ l.fn.s.local.steps + 3 + l.target * target_steps l.fn.s.shape l.walk.coll;
  local : l.s.local ≡ going l.fn.s.local l.s.local.steps (to_target (epoch_of l.fn.s.local.stand.section) (record l.walk { target = l.target }) l.number);
}
