-- The best of some values, found one after another.
use Rattle.std.specs.Prelude.{ℕ, Bool, List, Option, None, Some, option_map}
use Rattle.std.specs.Borrow.{Bor}
use Rattle.std.specs.Ordering.{is_lt, is_gt}
use Rattle.std.specs.declared.cmp.Ordering.{Ordering}
use Rattle.smc_plan.specs.Typed.{TypedTree}
use Rattle.smc_plan.specs.declared.leaf.Leaf.{Leaf}
use Rattle.smc_meaning.specs.Values.{Cell, value_of}
use Rattle.smc_meaning.specs.declared.extremes.End.{End}
use Rattle.smc_meaning.specs.declared.extremes.End.TheVariants.{Least, Greatest}

-- whether a value that compares so with the best so far is better
abbrev pub is_nearer : End → Ordering → Bool
is_nearer Least order = is_lt order
is_nearer Greatest order = is_gt order

-- the better of the best so far and one more
abbrev pub better : (Cell → Cell → Cell) → Option Cell → Cell → Cell
better choice None cell = cell
better choice (Some best) cell = choice best cell

-- the value in a row that may lack
abbrev pub value_in : List Leaf → TypedTree → Option (Bor (List ℕ)) → Option Cell
value_in leaves of row = option_map (λ words. value_of leaves of words.now) row
