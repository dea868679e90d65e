use Rattle.smc_region.specs.Acts.{op_in}
use Rattle.smc_region.specs.Choices.{seat_choice}
use Rattle.smc_region.specs.Views.{sole_offer}
use Rattle.smc_region.proofs.act.step_by.Given as goal

abbrev pub ghosts-step_by_as : goal.ghosts-step_by_as
ghosts-step_by_as a = record { choice = seat_choice a.seat.now.me.0 a.chosen; op = op_in (sole_offer a.seat.now.me.0 (seat_choice a.seat.now.me.0 a.chosen)) }
