use Rattle.smc_plan.specs.Typed.{typed_tree}
use Rattle.smc_meaning.proofs.TreeSizes.{parts_of}
use Rattle.smc_meaning.proofs.value.+number_at.Given as goal

abbrev pub decreases-number_at : goal.decreases-number_at
decreases-number_at l = parts_of (typed_tree l.expr.now)
