use Rattle.smc_inv_range.proofs.ReachLaws.{ranges_kept}
use Rattle.smc_inv_range.proofs.laws.ranges_are_kept.Goals as goal

pub returns : goal.returns
returns c = ranges_kept
