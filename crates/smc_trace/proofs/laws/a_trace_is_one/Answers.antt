use Rattle.smc_trace.proofs.TraceSteps.{trace-one}
use Rattle.smc_trace.proofs.laws.a_trace_is_one.Goals as goal

pub returns : goal.returns
returns c = trace-one
