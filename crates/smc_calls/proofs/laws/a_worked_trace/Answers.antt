use Rattle.smc_calls.proofs.WorkedTrace.{removes_twice-trace}
use Rattle.smc_calls.proofs.laws.a_worked_trace.Goals as goal

pub returns : goal.returns
returns c = removes_twice-trace
