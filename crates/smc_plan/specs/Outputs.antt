-- Output columns of a plan as trees alone, without where in memory their parts stand.
use Rattle.smc_query.specs.Trees.{Word, Aggregate, total, average, least, greatest}
use Rattle.smc_plan.specs.Typed.{KindedTree, kinded_tree}
use Rattle.smc_plan.specs.declared.output.Output.{Output}
use Rattle.smc_plan.specs.declared.output.Output.TheVariants.{Count, Sum, Avg, Min, Max, Fold}

-- what an output column shows of a group
pub data OutputTree : Type 0 where
  count : OutputTree
  aggregate : Aggregate → KindedTree → OutputTree
  fold : Word → KindedTree → OutputTree

-- the tree of an output column
abbrev pub output_tree : Output → OutputTree
output_tree Count = count
output_tree (Sum of) = aggregate total (kinded_tree of)
output_tree (Avg of) = aggregate average (kinded_tree of)
output_tree (Min of) = aggregate least (kinded_tree of)
output_tree (Max of) = aggregate greatest (kinded_tree of)
output_tree (Fold name of) = fold name (kinded_tree of)
