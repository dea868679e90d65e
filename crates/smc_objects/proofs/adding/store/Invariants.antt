use Rattle.std.proofs.Common.{◌≡◌, ◌+◌}
use Rattle.smc_core.specs.declared.phase.Phase.TheVariants as phase
use Rattle.smc_core.specs.Add.{store_field}
use Rattle.smc_core.specs.Step.{goes}
use Rattle.smc_region.specs.Callers.{IsSame}
use Rattle.smc_objects.specs.Adding.{adding}
use Rattle.smc_objects.proofs.adding.store.Given as goal

-- the fields below `field` are stored
abbrev pub invariant-loop-word : goal.invariant-loop-word
invariant-loop-word l = record {
  same : IsSame l.fn.s l.s;
  index : l.field ≡ l.word-index;
  local : l.s.local ≡ adding l.fn.s.local l.words (l.fn.s.local.steps + 1 + l.field) (goes (phase.Add (store_field l.fn.s.shape l.slot l.fn.number l.field)));
}
