use Rattle.std.proofs.Common.{◌≡◌, ◌+◌, ◌*◌, ◌≤◌}
use Rattle.std.specs.Prelude.{Some}
use Rattle.smc_core.specs.Begin.{to_source}
use Rattle.smc_core.specs.Section.{epoch_of}
use Rattle.smc_region.specs.Callers.{IsSame}
use Rattle.smc_compact.specs.Counting.{going}
use Rattle.smc_compact.specs.Begins.{owning, target_steps}
use Rattle.smc_compact.proofs.rounds.begin_by_steps.Given as goal

-- the sources below `source` are passed
abbrev pub invariant-loop-source : goal.invariant-loop-source
invariant-loop-source l = record {
  same : IsSame l.fn.s l.s;
  coll : l.walk.coll ≡ l.c;
  kept : l.walk.kept ≡ l.kept;
  within : l.walk.target ≤ l.kept;
  few : l.walk.moves ≤ l.walk.target;
  low : l.walk.target ≤ l.slots;
  near : l.source ≤ l.kept + l.slots;
  steps : l.s.local.steps + 3 * l.kept ≤ l.fn.s.local.steps + 1 + 3 * l.slots + 3 * l.source + l.walk.target * target_steps l.fn.s.shape l.c;
  local : l.s.local ≡ going (owning l.fn.s.local (Some (record { bound = l.bound; coll = l.c }))) l.s.local.steps (to_source l.fn.s.shape (epoch_of l.fn.s.local.stand.section) (record l.walk { source = l.source }));
}
