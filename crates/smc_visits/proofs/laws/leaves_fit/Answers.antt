use Rattle.smc_visits.proofs.FitLaws.{paths-fit, placed-fit}
use Rattle.smc_visits.proofs.laws.leaves_fit.Goals as goal

pub returns-clause-paths : goal.returns-clause-paths
returns-clause-paths c = paths-fit

pub returns-clause-placed : goal.returns-clause-placed
returns-clause-placed c = placed-fit
