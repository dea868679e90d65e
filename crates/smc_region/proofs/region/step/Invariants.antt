use Rattle.smc_region.specs.Choices.{seat_choice}
use Rattle.smc_region.proofs.region.step.Given as goal

abbrev pub ghosts-step_as : goal.ghosts-step_as
ghosts-step_as a = record { choice = seat_choice a.seat.now.me.0 a.chosen; op = a.op }
