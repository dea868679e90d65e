use Rattle.std.proofs.Common.{◌≡◌}
use Rattle.smc_region.specs.Callers.{IsPassOf}
use Rattle.smc_does.specs.Does.{OwnsNone}
use Rattle.example_accounts.proofs.work.Given as goal

abbrev pub invariant-loop-turn : goal.invariant-loop-turn
invariant-loop-turn l = record {
  here : IsPassOf l.region l.pass;
  number : l.pass.number ≡ l.fn.pass.number;
  free : OwnsNone l.pass;
}
