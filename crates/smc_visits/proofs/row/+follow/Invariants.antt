use Rattle.std.proofs.Common.{length}
use Rattle.smc_visits.proofs.row.+follow.Given as goal

abbrev pub decreases-follow : goal.decreases-follow
decreases-follow l = length l.hops.now
