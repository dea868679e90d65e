use Rattle.std.proofs.Common.{map}
use Rattle.smc_query.specs.Trees.{item_tree}
use Rattle.smc_plan.specs.Items.{names_of, planned_item}
use Rattle.smc_plan.specs.Outputs.{output_tree}
use Rattle.smc_plan.proofs.EachLaws.{IsAt}
use Rattle.smc_plan.proofs.item.planned_items.Given as goal

abbrev pub invariant-loop-item : goal.invariant-loop-item
invariant-loop-item l =
    IsAt (planned_item l.catalog (names_of l.folds) l.table) item_tree l.items l.initial.leaves l.item-index (map output_tree l.outputs.items) l.leaves
