use Rattle.smc_epochs.proofs.EpochsCounted.{epochs-counted}
use Rattle.smc_epochs.proofs.laws.epochs_are_counted.Goals as goal

pub returns : goal.returns
returns c = epochs-counted
