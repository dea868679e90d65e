use Rattle.std.proofs.Common.{◌≡◌, ◌+◌, ◌++◌, ℕ, List, length, take}
use Rattle.smc_plan.specs.Typed.{typed_tree}
use Rattle.smc_meaning.specs.Groups.{choice_of, chosen_of, values_of}
use Rattle.smc_kernel.specs.Batches.{rows_at}
use Rattle.smc_kernel.specs.Taken.{end_found}
use Rattle.smc_kernel.proofs.total.take_ends.Given as goal

-- the best so far
abbrev pub invariant-loop-i : goal.invariant-loop-i
invariant-loop-i l = record {
  found : (rows : List (List ℕ)) → end_found l.leaves (typed_tree l.of) l.kept l.fn.best ≡ chosen_of (choice_of l.end) (values_of l.leaves (typed_tree l.of) rows)
      → end_found l.leaves (typed_tree l.of) (l.kept + l.i) l.best
      ≡ chosen_of (choice_of l.end) (values_of l.leaves (typed_tree l.of) (rows ++ rows_at l.batch.rows (take l.i l.places)));
  best : length l.best ≡ length l.fn.best;
  row : length l.row ≡ length l.fn.row;
}
