use Rattle.smc_core.proofs.StepLaws.{played_is_reached}
use Rattle.smc_core.proofs.laws.schedules_are_reached.Goals as goal

pub returns : goal.returns
returns c = played_is_reached
