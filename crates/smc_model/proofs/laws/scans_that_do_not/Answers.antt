use Rattle.smc_model.proofs.ExampleLaws.{scans_missed, scans_what_is_gone}
use Rattle.smc_model.proofs.laws.scans_that_do_not.Goals as goal

pub returns-clause-missed : goal.returns-clause-missed
returns-clause-missed c = scans_missed

pub returns-clause-removed : goal.returns-clause-removed
returns-clause-removed c = scans_what_is_gone
