use Rattle.std.proofs.Common.{◌≡◌, ◌+◌}
use Rattle.smc_core.specs.declared.phase.Phase.TheVariants as phase
use Rattle.smc_core.specs.Begin.{blank_field}
use Rattle.smc_core.specs.Step.{goes}
use Rattle.smc_region.specs.Callers.{IsSame}
use Rattle.smc_compact.specs.Counting.{going}
use Rattle.smc_compact.proofs.rounds.freeze.Given as goal

-- the fields below `field` are blank
abbrev pub invariant-loop-field : goal.invariant-loop-field
invariant-loop-field l = record {
  same : IsSame l.fn.s l.s;
  local : l.s.local ≡ going l.fn.s.local (l.fn.s.local.steps + l.field) (goes (phase.Begin (blank_field l.fn.s.shape l.fn.walk l.fn.number l.field)));
}
