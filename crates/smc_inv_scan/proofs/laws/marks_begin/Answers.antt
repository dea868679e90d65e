use Rattle.smc_inv_scan.proofs.StepLaws.{marks_begun}
use Rattle.smc_inv_scan.proofs.laws.marks_begin.Goals as goal

pub returns : goal.returns
returns c = marks_begun
