use Rattle.std.proofs.Common.{◌≡◌, [], List, length, take}
use Rattle.std.specs.List.{AllByRecursion}
use Rattle.smc_plan.specs.Planned.{output_trees}
use Rattle.smc_plan.specs.declared.leaf.Leaf.{Leaf}
use Rattle.smc_kernel.specs.Taken.{AreTotals, FitsTotal}
use Rattle.smc_kernel.proofs.kernel.totals_of_none.Given as goal

abbrev pub invariant-loop-item : goal.invariant-loop-item
invariant-loop-item l = record {
  none : (leaves : List Leaf) → AreTotals leaves (output_trees (take l._item-index l.items)) l.totals.items [];
  fit : AllByRecursion (FitsTotal l.words 0) l.totals.items;
  many : length l.totals.items ≡ l._item-index;
}
