use Rattle.std.proofs.Common.{◌≡◌, ◌+◌, ◌*◌, ◌≤◌}
use Rattle.smc_core.specs.Begin.{begin_counting}
use Rattle.smc_core.specs.Section.{epoch_of}
use Rattle.smc_region.specs.Callers.{IsSame}
use Rattle.smc_compact.specs.Counting.{IsFew, going, to_count}
use Rattle.smc_compact.specs.Shown.{CountsTo}
use Rattle.smc_compact.proofs.rounds.count.Given as goal

-- the slots below `slot` are counted
abbrev pub invariant-loop-slot : goal.invariant-loop-slot
invariant-loop-slot l = record {
  same : IsSame l.fn.s l.s;
  steps : l.s.local.steps ≤ l.fn.s.local.steps + 3 * l.slot;
  later : l.fn.s.local.steps ≤ l.s.local.steps;
  few : IsFew l.slot l.count;
  counted : CountsTo l.fn.s.shape l.fn.s.number l.fn.s.local.steps l.s.local.steps l.c l.slot l.count;
  local : l.s.local ≡ going l.fn.s.local l.s.local.steps (begin_counting l.fn.s.shape (epoch_of l.fn.s.local.stand.section) (to_count l.fn.s.shape l.c l.slot l.count));
}
