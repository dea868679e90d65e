-- The value at an end of the order, found row by row.
use Rattle.std.proofs.Common.{◌≡◌, ℕ, ◌+◌, Bool, true, false, cond, nat_eq, List, [], ◌∷◌, ◌++◌, Option, None, Some, refl, sym, ap, ◌∙◌, arith}
use Rattle.std.specs.Ordering.{is_gt, is_lt}
use Rattle.std.proofs.lemmas.Bool.Decides.{nat_tests}
use Rattle.std.proofs.lemmas.List.Sums.{fold-append}
use Rattle.smc_plan.specs.Typed.{TypedTree}
use Rattle.smc_plan.specs.declared.leaf.Leaf.{Leaf}
use Rattle.smc_meaning.specs.Comparing.{compare}
use Rattle.smc_meaning.specs.Groups.{choice_of, chosen_of, values_of}
use Rattle.smc_meaning.specs.Nearer.{better, is_nearer}
use Rattle.smc_meaning.specs.Values.{Cell, value_of}
use Rattle.smc_meaning.specs.declared.extremes.End.{End}
use Rattle.smc_meaning.specs.declared.extremes.End.TheVariants.{Least, Greatest}
use Rattle.smc_kernel.specs.Taken.{end_found}
use Rattle.smc_kernel.proofs.SumLaws.{values_of-append}

-- the best of one value more
chosen_of-append : (choice : Cell → Cell → Cell) (cells : List Cell) (cell : Cell) → chosen_of choice (cells ++ cell ∷ []) ≡ Some (better choice (chosen_of choice cells) cell)
chosen_of-append choice [] cell = refl
chosen_of-append choice (first ∷ cells) cell = ap Some (fold-append choice first cells (cell ∷ []))

-- the value of one of two rows
value-chosen : (leaves : List Leaf) (of : TypedTree) (test : Bool) (row best : List ℕ)
    → value_of leaves of (cond test row best) ≡ cond test (value_of leaves of row) (value_of leaves of best)
value-chosen leaves of true row best = refl
value-chosen leaves of false row best = refl

-- the nearer of two values is the one that is chosen
nearer-chosen : (end : End) (one other : Cell) → cond (is_nearer end (compare other one)) other one ≡ choice_of end one other
nearer-chosen Least one other = refl
nearer-chosen Greatest one other = refl

-- the best of one row more, which is the first or not
end-step : (end : End) (leaves : List Leaf) (of : TypedTree) (first : Bool) (rows : List (List ℕ)) (row best now : List ℕ)
    → now ≡ cond first row (cond (is_nearer end (compare (value_of leaves of row) (value_of leaves of best))) row best)
    → cond first None (Some (value_of leaves of best)) ≡ chosen_of (choice_of end) (values_of leaves of rows)
    → Some (value_of leaves of now) ≡ chosen_of (choice_of end) (values_of leaves of (rows ++ row ∷ []))
end-step end leaves of true rows row best now is found =
    ap (λ words. Some (value_of leaves of words)) is
    ∙ ap (λ b. Some (better (choice_of end) b (value_of leaves of row))) found
    ∙ sym (ap (chosen_of (choice_of end)) (values_of-append leaves of rows (row ∷ [])) ∙ chosen_of-append (choice_of end) (values_of leaves of rows) (value_of leaves of row))
end-step end leaves of false rows row best now is found =
    ap (λ words. Some (value_of leaves of words)) is
    ∙ ap Some (value-chosen leaves of (is_nearer end (compare (value_of leaves of row) (value_of leaves of best))) row best ∙ nearer-chosen end (value_of leaves of best) (value_of leaves of row))
    ∙ ap (λ b. Some (better (choice_of end) b (value_of leaves of row))) found
    ∙ sym (ap (chosen_of (choice_of end)) (values_of-append leaves of rows (row ∷ [])) ∙ chosen_of-append (choice_of end) (values_of leaves of rows) (value_of leaves of row))

pub end-more : (end : End) (leaves : List Leaf) (of : TypedTree) (kept : ℕ) (rows : List (List ℕ)) (row best now : List ℕ)
    → now ≡ cond (nat_eq kept 0) row (cond (is_nearer end (compare (value_of leaves of row) (value_of leaves of best))) row best)
    → end_found leaves of kept best ≡ chosen_of (choice_of end) (values_of leaves of rows)
    → end_found leaves of (kept + 1) now ≡ chosen_of (choice_of end) (values_of leaves of (rows ++ row ∷ []))
end-more end leaves of kept rows row best now is found =
    let some : nat_eq (kept + 1) 0 ≡ false = grind (arith, nat_tests) in
    ap (λ test. cond test None (Some (value_of leaves of now))) some ∙ end-step end leaves of (nat_eq kept 0) rows row best now is found
