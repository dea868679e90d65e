use Rattle.smc_census.specs.Laws.{HomesAreObjects}
use Rattle.smc_census.proofs.Always.{always_fits, homes_objects}
use Rattle.smc_census.proofs.laws.homes_are_objects.Goals as goal

pub returns : goal.returns
returns c = always_fits HomesAreObjects (λ opening shape s valid. homes_objects opening shape s)
