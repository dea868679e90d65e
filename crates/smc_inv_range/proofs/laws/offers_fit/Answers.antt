use Rattle.smc_inv_range.proofs.ReachLaws.{offered_fits}
use Rattle.smc_inv_range.proofs.laws.offers_fit.Goals as goal

pub returns : goal.returns
returns c = offered_fits
