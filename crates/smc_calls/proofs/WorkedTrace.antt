-- The worked schedule is computed.
use Rattle.std.proofs.Common.{refl}
use Rattle.smc_shape.specs.Places.{at}
use Rattle.smc_core.specs.Played.{played}
use Rattle.smc_calls.specs.Worked.{HasTraceAfter, first_trace, removes_twice}

pub removes_twice-trace : HasTraceAfter removes_twice 0 first_trace
unfolding at played
removes_twice-trace = (refl, refl)
