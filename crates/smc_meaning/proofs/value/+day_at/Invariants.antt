use Rattle.smc_plan.specs.Typed.{typed_tree}
use Rattle.smc_meaning.proofs.TreeSizes.{parts_of}
use Rattle.smc_meaning.proofs.value.+day_at.Given as goal

abbrev pub decreases-day_at : goal.decreases-day_at
decreases-day_at l = parts_of (typed_tree l.expr.now)
