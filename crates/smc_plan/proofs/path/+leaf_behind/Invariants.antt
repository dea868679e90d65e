use Rattle.std.proofs.Common.{length}
use Rattle.smc_plan.proofs.path.+leaf_behind.Given as goal

abbrev pub decreases-leaf_behind : goal.decreases-leaf_behind
decreases-leaf_behind l = length l.names.now
