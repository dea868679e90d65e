use Rattle.smc_inv_scan.proofs.StepLaws.{scans_kept}
use Rattle.smc_inv_scan.proofs.laws.scans_are_kept.Goals as goal

pub returns : goal.returns
returns c = scans_kept
