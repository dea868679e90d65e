use Rattle.smc_machine.proofs.RunningLaws.{IsRunning-started}
use Rattle.smc_machine.proofs.machine.Machine.open.Goals as goal

pub invariant_of-result : goal.invariant_of-result
invariant_of-result c =
    IsRunning-started c.in_ok-row.row.shape c.in_ok-passes.passes.items (rw c.in_ok-row.ensures.shape c.in_ok-passes.ensures) c.fresh_stands_fit.ensures
