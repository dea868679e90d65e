use Rattle.std.proofs.Common.{◌≡◌, ◌+◌, ◌*◌}
use Rattle.smc_core.specs.declared.phase.Phase.TheVariants as phase
use Rattle.smc_core.specs.declared.phase.moves.FinishPhase.TheVariants as finish
use Rattle.smc_core.specs.Look.{copy_field}
use Rattle.smc_core.specs.Step.{goes}
use Rattle.smc_region.specs.Callers.{IsSame}
use Rattle.smc_compact.specs.Counting.{going}
use Rattle.smc_compact.proofs.ending.copy.Given as goal

-- the fields below `field` are dealt with
abbrev pub invariant-loop-field : goal.invariant-loop-field
invariant-loop-field l = record {
  same : IsSame l.fn.s l.s;
  local : l.s.local ≡ going l.fn.s.local (l.fn.s.local.steps + 1 + 2 * l.field) (goes (phase.Finish (finish.Move l.fn.targets l.fn.number l.source (copy_field l.fn.s.shape l.fn.number.coll l.target l.field))));
}
