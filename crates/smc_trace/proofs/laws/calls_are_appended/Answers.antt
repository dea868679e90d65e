use Rattle.smc_trace.proofs.TraceSteps.{tells-then}
use Rattle.smc_trace.proofs.laws.calls_are_appended.Goals as goal

pub returns : goal.returns
returns c = tells-then
