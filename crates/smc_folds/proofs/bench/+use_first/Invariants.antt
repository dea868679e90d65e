use Rattle.std.proofs.Common.{length}
use Rattle.smc_folds.proofs.bench.+use_first.Given as goal

abbrev pub decreases-use_first : goal.decreases-use_first
decreases-use_first g l = length l.boxes.now
