use Rattle.smc_inv_range.proofs.ReachLaws.{ranges_hold, stands_behind}
use Rattle.smc_inv_range.proofs.laws.rows_are_mirrored.Goals as goal

pub returns-clause-mirrored : goal.returns-clause-mirrored
returns-clause-mirrored c = stands_behind

pub returns-clause-within : goal.returns-clause-within
returns-clause-within c = ranges_hold
