use Rattle.smc_census.specs.Laws.{BlocksAreEnough}
use Rattle.smc_census.proofs.Always.{always_fits, blocks_enough}
use Rattle.smc_census.proofs.laws.blocks_are_enough.Goals as goal

pub returns : goal.returns
returns c = always_fits BlocksAreEnough blocks_enough
