use Rattle.std.proofs.Common.{◌≡◌, ◌*◌, ◌-◌, ◌≤◌, length, take, unsigned_abs}
use Rattle.smc_plan.specs.Typed.{typed_tree}
use Rattle.smc_plan.specs.declared.kind.TheConstants.{SUM_LIMIT}
use Rattle.smc_meaning.specs.Groups.{sum_of, values_of}
use Rattle.smc_kernel.specs.Batches.{rows_at}
use Rattle.smc_kernel.proofs.total.sum_rows.Given as goal

-- the units so far
abbrev pub invariant-loop-place : goal.invariant-loop-place
invariant-loop-place l = record {
  total : l.total ≡ sum_of (values_of l.leaves (typed_tree l.of) (rows_at l.batch.rows (take l.place-index l.places)));
  small : unsigned_abs l.total ≤ l.place-index * (SUM_LIMIT - 1);
  row : length l.row ≡ length l.fn.row;
}
