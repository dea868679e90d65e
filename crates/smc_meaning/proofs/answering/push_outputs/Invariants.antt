use Rattle.std.proofs.Common.{◌≡◌, ◌++◌, map, take}
use Rattle.smc_plan.specs.Planned.{output_trees}
use Rattle.smc_meaning.specs.Cells.{column_seen}
use Rattle.smc_meaning.specs.Groups.{shown}
use Rattle.smc_meaning.proofs.answering.push_outputs.Given as goal

-- the columns so far, by the same boxes
abbrev pub invariant-loop-item : goal.invariant-loop-item
invariant-loop-item g l = record {
  columns : map column_seen l.columns.items ≡ map column_seen l.fn.columns.items ++ map (λ item. shown (map (λ b. (goal.Fold-dyn g (b.fold.vtable, b.fold.value)).kind b.fold.value) l.fn.bench.boxes.items) l.leaves item l.group.rows) (output_trees (take l.item-index l.items));
  kept : (map (λ b. (goal.Fold-dyn g (b.fold.vtable, b.fold.value)).kind b.fold.value) l.bench.boxes.items) ≡ (map (λ b. (goal.Fold-dyn g (b.fold.vtable, b.fold.value)).kind b.fold.value) l.fn.bench.boxes.items);
}
