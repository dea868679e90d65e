use Rattle.std.proofs.Common.{◌≡◌, map, take}
use Rattle.smc_plan.specs.Planned.{plan_tree}
use Rattle.smc_meaning.specs.Answers.{columns_of}
use Rattle.smc_meaning.specs.Groups.{rows_like}
use Rattle.smc_meaning.proofs.answering.rows_by.Given as goal

-- the rows so far, by the same boxes
abbrev pub invariant-loop-place : goal.invariant-loop-place
invariant-loop-place g l = record {
  rows : l.all.items ≡ map (columns_of (plan_tree l.plan) (map (λ b. (goal.Fold-dyn g (b.fold.vtable, b.fold.value)).kind b.fold.value) l.fn.bench.boxes.items)) (map (λ first. rows_like (plan_tree l.plan) first l.rows.rows) (take l.place l.firsts.rows));
  kept : (map (λ b. (goal.Fold-dyn g (b.fold.vtable, b.fold.value)).kind b.fold.value) l.bench.boxes.items) ≡ (map (λ b. (goal.Fold-dyn g (b.fold.vtable, b.fold.value)).kind b.fold.value) l.fn.bench.boxes.items);
}
