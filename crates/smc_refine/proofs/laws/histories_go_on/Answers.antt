use Rattle.smc_refine.proofs.GoingOn.{histories_go_on}
use Rattle.smc_refine.proofs.laws.histories_go_on.Goals as goal

pub returns : goal.returns
returns c = histories_go_on
