use Rattle.smc_plan.specs.Typed.{typed_tree}
use Rattle.smc_meaning.proofs.TreeSizes.{parts_of}
use Rattle.smc_kernel.proofs.column.+column_at.Given as goal

abbrev pub decreases-column_at : goal.decreases-column_at
decreases-column_at l = parts_of (typed_tree l.expr.now)
