use Rattle.std.proofs.Common.{◌≡◌, take}
use Rattle.smc_machine.specs.Plays.{Plays}
use Rattle.smc_machine.proofs.schedule.play.Given as goal

abbrev pub invariant-loop-at : goal.invariant-loop-at
invariant-loop-at l = record {
  shape : l.machine.shape ≡ l.fn.machine.shape;
  played : Plays l.fn.machine.shape l.fn.machine.machine (take l.at l.schedule) l.events.items l.machine.machine;
}
