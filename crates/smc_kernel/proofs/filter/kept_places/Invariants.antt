use Rattle.std.proofs.Common.{◌≡◌, filter, length}
use Rattle.std.specs.List.{range_with_len}
use Rattle.smc_plan.specs.Leaves.{leaves_words}
use Rattle.smc_plan.specs.Planned.{plan_tree}
use Rattle.smc_meaning.specs.Kept.{is_kept}
use Rattle.smc_kernel.specs.Batches.{row_at}
use Rattle.smc_kernel.proofs.filter.kept_places.Given as goal

abbrev pub invariant-loop-place : goal.invariant-loop-place
invariant-loop-place l = record {
  chosen : l.chosen ≡ filter (λ place. is_kept (plan_tree l.plan) (row_at l.batch.rows place)) (range_with_len 0 l.place);
  row : length l.row ≡ leaves_words l.plan.leaves;
}
