use Rattle.std.proofs.Common.{◌≡◌}
use Rattle.smc_region.specs.Callers.{IsPassOf}
use Rattle.check_threads.proofs.four.work.Given as goal

abbrev pub invariant-loop : goal.invariant-loop
invariant-loop l = record {
  here : IsPassOf l.region l.pass;
  number : l.pass.number ≡ l.fn.pass.number;
}
