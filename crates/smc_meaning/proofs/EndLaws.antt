-- The value at an end of the order, found row by row.
use Rattle.std.proofs.Common.{◌≡◌, ℕ, ◌+◌, List, [], ◌∷◌, ◌++◌, take, Option, Some, slice_get, refl, sym, ap, ◌∙◌}
use Rattle.std.proofs.lemmas.List.Sums.{fold-append}
use Rattle.smc_plan.specs.Typed.{TypedTree}
use Rattle.smc_plan.specs.declared.leaf.Leaf.{Leaf}
use Rattle.smc_meaning.specs.Groups.{chosen_of, values_of}
use Rattle.smc_meaning.specs.Nearer.{better}
use Rattle.smc_meaning.specs.Values.{Cell, value_of}
use Rattle.smc_meaning.proofs.SumLaws.{values_of-next}

-- the best of one value more
chosen_of-append : (choice : Cell → Cell → Cell) (cells : List Cell) (cell : Cell) → chosen_of choice (cells ++ cell ∷ []) ≡ Some (better choice (chosen_of choice cells) cell)
chosen_of-append choice [] cell = refl
chosen_of-append choice (first ∷ cells) cell = ap Some (fold-append choice first cells (cell ∷ []))

-- and of one row more
pub chosen-next : (choice : Cell → Cell → Cell) (leaves : List Leaf) (of : TypedTree) (rows : List (List ℕ)) (place : ℕ) (row : List ℕ) (best : Option Cell) (found : Cell)
    → slice_get rows place ≡ Some row → best ≡ chosen_of choice (values_of leaves of (take place rows)) → found ≡ better choice best (value_of leaves of row)
    → Some found ≡ chosen_of choice (values_of leaves of (take (place + 1) rows))
chosen-next choice leaves of rows place row best found at is found_is =
    sym (ap (chosen_of choice) (values_of-next leaves of rows place row at)
    ∙ chosen_of-append choice (values_of leaves of (take place rows)) (value_of leaves of row)
    ∙ ap (λ b. Some (better choice b (value_of leaves of row))) (sym is)
    ∙ ap Some (sym found_is))
