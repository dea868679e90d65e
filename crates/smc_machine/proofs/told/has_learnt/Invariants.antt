use Rattle.std.proofs.Common.{◌≡◌, drop}
use Rattle.smc_core.specs.Machine.{has_learnt}
use Rattle.smc_machine.proofs.told.has_learnt.Given as goal

abbrev pub invariant-loop-known : goal.invariant-loop-known
invariant-loop-known l = has_learnt (drop l.known-index l.learnt) l.other l.note ≡ has_learnt l.learnt l.other l.note
