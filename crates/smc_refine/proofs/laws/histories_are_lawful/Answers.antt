use Rattle.smc_refine.proofs.Ordered.{histories_lawful}
use Rattle.smc_refine.proofs.laws.histories_are_lawful.Goals as goal

pub returns : goal.returns
returns c = histories_lawful
