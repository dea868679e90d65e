use Rattle.smc_core.proofs.StepLaws.{computed_is_taken, taken_is_computed}
use Rattle.smc_core.proofs.laws.steps_are_computed.Goals as goal

pub returns : goal.returns
returns c = λ shape m pass choice next. (computed_is_taken shape m pass choice next, taken_is_computed shape m pass choice next)
