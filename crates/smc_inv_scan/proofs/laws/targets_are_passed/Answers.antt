use Rattle.smc_inv_scan.proofs.StepLaws.{targets_passed}
use Rattle.smc_inv_scan.proofs.laws.targets_are_passed.Goals as goal

pub returns : goal.returns
returns c = targets_passed
