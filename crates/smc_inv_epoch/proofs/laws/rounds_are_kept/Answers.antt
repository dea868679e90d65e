use Rattle.smc_inv_epoch.proofs.RoundLaws.{rounds-kept}
use Rattle.smc_inv_epoch.proofs.laws.rounds_are_kept.Goals as goal

pub returns : goal.returns
returns c = rounds-kept
