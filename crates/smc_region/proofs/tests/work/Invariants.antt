use Rattle.std.proofs.Common.{◌≡◌, ◌+◌, ◌*◌, length}
use Rattle.smc_region.specs.Callers.{IsPassOf}
use Rattle.smc_region.proofs.tests.work.Given as goal

abbrev pub invariant-loop : goal.invariant-loop
invariant-loop l = record {
  here : IsPassOf l.region l.pass;
  number : l.pass.number ≡ l.fn.pass.number;
  events : length l.pass.local.log ≡ length l.fn.pass.local.log + 2 * l.counter;
}
