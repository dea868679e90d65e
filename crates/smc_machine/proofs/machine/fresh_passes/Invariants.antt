use Rattle.std.proofs.Common.{◌≡◌, replicate}
use Rattle.smc_core.specs.Local.{fresh}
use Rattle.smc_machine.proofs.machine.fresh_passes.Given as goal

abbrev pub invariant-loop : goal.invariant-loop
invariant-loop l = l.passes.items ≡ replicate l.counter (fresh l.shape)
