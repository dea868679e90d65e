use Rattle.std.proofs.Common.{◌≡◌, ◌+◌, ◌*◌, ◌≤◌}
use Rattle.std.specs.Prelude.{nat_lt, if◌then◌else◌}
use Rattle.smc_core.specs.declared.phase.Phase.TheVariants as phase
use Rattle.smc_core.specs.declared.phase.moves.CancelPhase.TheVariants as cancel
use Rattle.smc_core.specs.Step.{goes}
use Rattle.smc_region.specs.Callers.{IsSame}
use Rattle.smc_compact.specs.Counting.{going}
use Rattle.smc_compact.proofs.cancelling.cancel_by_steps.Given as goal

-- the slots below `slot` are passed
abbrev pub invariant-loop-slot : goal.invariant-loop-slot
invariant-loop-slot l = record {
  same : IsSame l.fn.s l.s;
  steps : l.s.local.steps ≤ l.fn.s.local.steps + 5 * l.slot;
  local : l.s.local ≡ going l.fn.s.local l.s.local.steps (goes (phase.Cancel (if nat_lt l.slot l.slots then cancel.Directory l.coll l.slot else cancel.End)));
}
