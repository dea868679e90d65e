use Rattle.smc_inv_scan.proofs.StepLaws.{events_fit}
use Rattle.smc_inv_scan.proofs.laws.events_fit_marks.Goals as goal

pub returns : goal.returns
returns c = events_fit
