use Rattle.std.proofs.Common.{◌≡◌, drop}
use Rattle.smc_core.specs.Machine.{is_learnt}
use Rattle.smc_machine.proofs.told.is_learnt.Given as goal

abbrev pub invariant-loop-pass : goal.invariant-loop-pass
invariant-loop-pass l = is_learnt (drop l.pass-index l.passes) l.other l.note ≡ is_learnt l.passes l.other l.note
