use Rattle.smc_inv_epoch.proofs.EveryList.{epochs-kept}
use Rattle.smc_inv_epoch.proofs.laws.epochs_are_kept.Goals as goal

pub returns : goal.returns
returns c = epochs-kept
