use Rattle.smc_region.specs.Callers.{IsPassOf}
use Rattle.bench_region.proofs.enter_and_leave.Given as goal

abbrev pub invariant-loop : goal.invariant-loop
invariant-loop l = IsPassOf l.region l.pass
