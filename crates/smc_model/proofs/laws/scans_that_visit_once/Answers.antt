use Rattle.smc_model.proofs.ExampleLaws.{scans_visited, scans_removed}
use Rattle.smc_model.proofs.laws.scans_that_visit_once.Goals as goal

pub returns-clause-visited : goal.returns-clause-visited
returns-clause-visited c = scans_visited

pub returns-clause-removed : goal.returns-clause-removed
returns-clause-removed c = scans_removed
