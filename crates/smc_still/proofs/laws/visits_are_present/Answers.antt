use Rattle.smc_still.proofs.CalmLaws.{present-visited}
use Rattle.smc_still.proofs.laws.visits_are_present.Goals as goal

pub returns : goal.returns
returns c = present-visited
