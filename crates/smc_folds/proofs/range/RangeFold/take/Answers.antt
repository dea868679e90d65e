use Rattle.std.proofs.Common.{to_z-of_z}
use Rattle.smc_folds.proofs.BoxLaws.{keeps-ends}
use Rattle.smc_folds.proofs.range.RangeFold.take.Goals as goal

pub returns-clause-taken : goal.returns-clause-taken
returns-clause-taken c = λ taking kept can.
    rw (c.or-self.ensures, to_z-of_z c.ranges.value) (keeps-ends taking c.args.self.now.first c.args.self.now.last c.args.value kept can)
