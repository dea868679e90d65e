-- Sums of values, and the best of them, with those of rows more.
use Rattle.std.proofs.Common.{◌≡◌, ℕ, suc, ◌+◌, ◌*◌, ◌-◌, ◌≤◌, ◌<◌, ℤ, pos, ◌+ℤ◌, unsigned_abs, List, [], ◌∷◌, ◌++◌, map, fold, length, Option, None, Some, refl, sym, ap, ◌∙◌, arith}
use Rattle.std.proofs.lemmas.Int.{ints}
use Rattle.smc_plan.specs.Typed.{TypedTree}
use Rattle.smc_plan.specs.declared.leaf.Leaf.{Leaf}
use Rattle.smc_meaning.specs.Decimals.{decimal_cell}
use Rattle.smc_meaning.specs.Groups.{chosen_of, sum_of, units_of, values_of}
use Rattle.smc_meaning.specs.Nearer.{better}
use Rattle.smc_meaning.specs.Values.{Cell, value_of}
use Rattle.smc_meaning.specs.declared.decimal.Decimal.{Decimal}

-- ---- values

pub values_of-append : (leaves : List Leaf) (of : TypedTree) (rows more : List (List ℕ)) → values_of leaves of (rows ++ more) ≡ values_of leaves of rows ++ values_of leaves of more
values_of-append leaves of [] more = refl
values_of-append leaves of (row ∷ rows) more = ap (λ cells. value_of leaves of row ∷ cells) (values_of-append leaves of rows more)

-- ---- sums

sum-from : (start : ℤ) (cells : List Cell) → fold (λ all c. all +ℤ units_of c) start cells ≡ start +ℤ sum_of cells
sum-from start [] = omega (arith, ints)
sum-from start (cell ∷ cells) = omega (arith, ints, sum-from (start +ℤ units_of cell) cells, sum-from (pos 0 +ℤ units_of cell) cells)

fold-both : (start : ℤ) (cells more : List Cell) → fold (λ all c. all +ℤ units_of c) start (cells ++ more) ≡ fold (λ all c. all +ℤ units_of c) (fold (λ all c. all +ℤ units_of c) start cells) more
fold-both start [] more = refl
fold-both start (cell ∷ cells) more = fold-both (start +ℤ units_of cell) cells more

-- the sum of values and more
pub sum_of-append : (cells more : List Cell) → sum_of (cells ++ more) ≡ sum_of cells +ℤ sum_of more
sum_of-append cells more = fold-both (pos 0) cells more ∙ sum-from (sum_of cells) more

-- the sum of the values of rows, and of more
pub sum-both : (leaves : List Leaf) (of : TypedTree) (rows more : List (List ℕ)) (one other : ℤ) → one ≡ sum_of (values_of leaves of rows) → other ≡ sum_of (values_of leaves of more)
    → one +ℤ other ≡ sum_of (values_of leaves of (rows ++ more))
sum-both leaves of rows more one other is also =
    rw (is, also) (sym (ap sum_of (values_of-append leaves of rows more) ∙ sum_of-append (values_of leaves of rows) (values_of leaves of more)))

-- and of one row more, whose value is a number
pub sum-number : (leaves : List Leaf) (of : TypedTree) (rows : List (List ℕ)) (row : List ℕ) (so_far : ℤ) (decimal : Decimal)
    → so_far ≡ sum_of (values_of leaves of rows) → value_of leaves of row ≡ decimal_cell decimal → so_far +ℤ decimal.units ≡ sum_of (values_of leaves of (rows ++ row ∷ []))
sum-number leaves of rows row so_far decimal is value =
    sum-both leaves of rows (row ∷ []) so_far decimal.units is (sym (ap (λ c. pos 0 +ℤ units_of c) value ∙ omega (arith, ints)))
