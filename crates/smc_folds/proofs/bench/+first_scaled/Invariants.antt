use Rattle.std.proofs.Common.{length}
use Rattle.smc_folds.proofs.bench.+first_scaled.Given as goal

abbrev pub decreases-first_scaled : goal.decreases-first_scaled
decreases-first_scaled g l = length l.boxes.now
