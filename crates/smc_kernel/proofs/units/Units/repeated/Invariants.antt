use Rattle.std.proofs.Common.{◌≡◌, replicate}
use Rattle.smc_kernel.proofs.units.Units.repeated.Given as goal

abbrev pub invariant-loop : goal.invariant-loop
invariant-loop l = l.units ≡ replicate l.counter l.unit
