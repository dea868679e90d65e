use Rattle.smc_trace.proofs.TraceSteps.{trace-grows}
use Rattle.smc_trace.proofs.laws.a_trace_grows.Goals as goal

pub returns : goal.returns
returns c = trace-grows
