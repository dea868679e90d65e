use Rattle.std.proofs.Common.{◌≡◌, IfSome, length, take}
use Rattle.smc_plan.specs.Leaves.{leaves_words}
use Rattle.smc_plan.specs.Typed.{typed_tree}
use Rattle.smc_meaning.specs.Groups.{choice_of, chosen_of, values_of}
use Rattle.smc_meaning.specs.Nearer.{value_in}
use Rattle.smc_meaning.proofs.extremes.end_row.Given as goal

-- the best so far
abbrev pub invariant-loop-place : goal.invariant-loop-place
invariant-loop-place l = record {
  value : value_in l.leaves (typed_tree l.of) l.best ≡ chosen_of (choice_of l.end) (values_of l.leaves (typed_tree l.of) (take l.place l.rows.rows));
  words : IfSome l.best (λ words. length words.now ≡ leaves_words l.leaves);
}
