use Rattle.smc_inv_scan.proofs.Targets.{first_scans}
use Rattle.smc_inv_scan.proofs.laws.scans_begin.Goals as goal

pub returns : goal.returns
returns c = first_scans
