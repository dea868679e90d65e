use Rattle.smc_inv_scan.proofs.StepLaws.{marks_kept}
use Rattle.smc_inv_scan.proofs.laws.marks_are_kept.Goals as goal

pub returns : goal.returns
returns c = marks_kept
