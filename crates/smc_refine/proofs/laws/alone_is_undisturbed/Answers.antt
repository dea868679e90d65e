use Rattle.smc_refine.proofs.AloneLaws.{alone-undisturbed}
use Rattle.smc_refine.proofs.laws.alone_is_undisturbed.Goals as goal

pub returns : goal.returns
returns c = alone-undisturbed
