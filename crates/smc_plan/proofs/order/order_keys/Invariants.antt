use Rattle.std.proofs.Common.{List, map}
use Rattle.smc_query.specs.Trees.{item_tree, key_tree, path_tree}
use Rattle.smc_plan.specs.Planned.{planned_key}
use Rattle.smc_plan.specs.declared.leaf.Leaf.{Leaf}
use Rattle.smc_plan.proofs.EachLaws.{IsAt}
use Rattle.smc_plan.proofs.order.order_keys.Given as goal

abbrev pub invariant-loop-key : goal.invariant-loop-key
invariant-loop-key l =
    (leaves : List Leaf) → IsAt (planned_key (map path_tree l.by) (map item_tree l.items)) key_tree l.keys leaves l.key-index l.columns.items leaves
