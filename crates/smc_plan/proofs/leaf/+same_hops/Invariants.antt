use Rattle.std.proofs.Common.{length}
use Rattle.smc_plan.proofs.leaf.+same_hops.Given as goal

abbrev pub decreases-same_hops : goal.decreases-same_hops
decreases-same_hops l = length l.one.now
