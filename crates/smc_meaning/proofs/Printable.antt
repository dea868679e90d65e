-- What a plan shows can be printed.
use Rattle.std.proofs.Common.{◌≡◌, ℕ, ◌≤◌, Bool, true, false, cond, ◌||◌, fold, IsTrue, ℤ, List, [], ◌∷◌, map, slice_index, slice_get, FitsSigned, Option, None, Some, option_map, Ok, refl, subst, arith}
use Rattle.std.specs.Ordering.{is_lt, is_gt}
use Rattle.std.specs.Int.{w32}
use Rattle.std.proofs.lemmas.Int.{ints, clamps}
use Rattle.smc_folds.specs.Kinds as folds
use Rattle.smc_types.specs.Days.{IsDay}
use Rattle.smc_types.specs.Numbers.{moved_back, nearest}
use Rattle.smc_types.specs.Rows as rows
use Rattle.smc_types.specs.declared.column.FieldType.{FieldType}
use Rattle.smc_types.specs.declared.column.FieldType.TheVariants as of
use Rattle.smc_types.specs.declared.number.TheConstants.{DAY_MAX, DAY_MIN}
use Rattle.smc_query.specs.Trees.{total, average, least, greatest}
use Rattle.smc_plan.specs.Bounds.{is_number, is_within}
use Rattle.smc_plan.specs.Conds.{where_fit}
use Rattle.smc_plan.specs.Items.{ordered}
use Rattle.smc_plan.specs.Kinds.{IsKinded, IsOutput, kind_in}
use Rattle.smc_plan.specs.Outputs.{OutputTree, count, aggregate, fold as fold_of}
use Rattle.smc_plan.specs.Typed as typed
use Rattle.smc_plan.specs.Typed.{KindedTree, TypedTree, is_leaf}
use Rattle.smc_plan.specs.declared.kind.Extent.{Extent}
use Rattle.smc_plan.specs.declared.kind.Kind.{Kind}
use Rattle.smc_plan.specs.declared.kind.Kind.TheVariants.{Number, Day, Text}
use Rattle.smc_plan.specs.declared.kind.TheConstants.{MAX_SCALE}
use Rattle.smc_plan.specs.declared.leaf.Leaf.{Leaf}
use Rattle.smc_meaning.specs.Cells.{CanPrint}
use Rattle.smc_meaning.specs.Comparing.{compare}
use Rattle.smc_meaning.specs.Groups.{average_of, chosen_of, fold_answer, greater, is_scaled, lesser, scale_in, shown, units_of, values_of}
use Rattle.smc_meaning.specs.Kinds.{IsOf}
use Rattle.smc_meaning.specs.Shown.{IsShowable}
use Rattle.smc_meaning.specs.Values.{Cell, number, day, text, cell_of, leaf_value, leaf_words, value_of}
use Rattle.smc_meaning.proofs.BoundLaws.{kind_within, value_has}
use Rattle.smc_meaning.proofs.OperandLaws.{IsLimited, limited, number_limited}

-- ---- values

-- the nearest day of the calendar is one of it
nearest_day : (days : ℤ) → IsDay (nearest DAY_MIN DAY_MAX days)
nearest_day days = record { low = omega (arith, ints, clamps); high = omega (arith, ints, clamps) }

-- the value of a column
column-prints : (kind : FieldType) (words : List ℕ) → CanPrint (Some (cell_of kind (rows.value_of kind words)))
column-prints of.Count words = omega arith
column-prints of.Amount words = omega arith
column-prints of.Rate words = omega arith
column-prints of.Day words = nearest_day (moved_back (slice_index words 0))
column-prints (of.Text width) words = tt
column-prints (of.RefTo table) words = tt

leaf-prints : (leaves : List Leaf) (place : ℕ) (found : Option Leaf) (words : List ℕ) → CanPrint (Some (leaf_value leaves place found words))
leaf-prints leaves place None words = tt
leaf-prints leaves place (Some leaf) words = column-prints leaf.kind (leaf_words leaves place leaf words)

-- the value of a key
pub key-prints : (leaves : List Leaf) (place : ℕ) (words : List ℕ) → CanPrint (Some (value_of leaves (typed.leaf place) words))
key-prints leaves place words = leaf-prints leaves place (slice_get leaves place) words

-- a number whose decimals are within the limits
cell-prints : (extent : Extent) (cell : Cell) → IsLimited extent → IsOf (Number extent) cell → CanPrint (Some cell)
cell-prints extent (number units scale) limits has = omega (arith, has.scale_is, limits.few)
cell-prints extent (day days) limits has = absurd has
cell-prints extent (text bytes) limits has = tt

number-prints : (leaves : List Leaf) (of : TypedTree) (words : List ℕ) (kind : Kind) → kind_in leaves of ≡ Ok kind → is_number kind ≡ true → CanPrint (Some (value_of leaves of words))
number-prints leaves of words (Number extent) is test =
    cell-prints extent (value_of leaves of words) (number_limited leaves of extent is) (value_has leaves of words (Number extent) is)
number-prints leaves of words (Day bound) is test = cc
number-prints leaves of words Text is test = cc

first_of_two : (one : Bool) → (one || false) ≡ true → one ≡ true
first_of_two true is = refl
first_of_two false is = cc

-- the value of a number or a path
pub value-prints : (leaves : List Leaf) (of : TypedTree) (words : List ℕ) → IsShowable leaves of → CanPrint (Some (value_of leaves of words))
value-prints leaves (typed.leaf place) words is = key-prints leaves place words
value-prints leaves of words is = number-prints leaves of words is.kind is.kind_is (first_of_two (is_number is.kind) is.fits)

-- a day of the calendar fits its word
day-word : (days : ℤ) → IsDay days → FitsSigned w32 days
day-word days is = omega (arith, ints, is.low, is.high)

-- and so does a day that is shown
pub day-fits : (leaves : List Leaf) (of : TypedTree) (words : List ℕ) (days : ℤ) → IsShowable leaves of → value_of leaves of words ≡ day days → FitsSigned w32 days
day-fits leaves of words days is found = day-word days (subst (λ (c : Cell). CanPrint (Some c)) found (value-prints leaves of words is))

-- ---- aggregates

-- the decimals of an expression
scale_few : (kind : Kind) → IsTrue (is_within kind) → scale_in kind ≤ MAX_SCALE
scale_few (Number extent) within = (limited extent within).few
scale_few (Day bound) within = omega arith
scale_few Text within = omega arith

-- an average of such numbers has two decimals at least
average-prints : (scale : ℕ) (cells : List Cell) → scale ≤ MAX_SCALE → CanPrint (average_of scale cells)
average-prints scale [] few = tt
average-prints scale (cell ∷ cells) few = omega (arith, few)

-- of two values that can be printed one is chosen
abbrev Chooses : (Cell → Cell → Cell) → Type 0
Chooses choice = (one other : Cell) → CanPrint (Some one) → CanPrint (Some other) → CanPrint (Some (choice one other))

either-prints : (test : Bool) (one other : Cell) → CanPrint (Some one) → CanPrint (Some other) → CanPrint (Some (cond test other one))
either-prints true one other first second = second
either-prints false one other first second = first

lesser-chooses : Chooses lesser
lesser-chooses one other first second = either-prints (is_lt (compare other one)) one other first second

greater-chooses : Chooses greater
greater-chooses one other first second = either-prints (is_gt (compare other one)) one other first second

best-prints : (choice : Cell → Cell → Cell) (leaves : List Leaf) (of : TypedTree) (rows : List (List ℕ)) (best : Cell) → Chooses choice → IsShowable leaves of
    → CanPrint (Some best) → CanPrint (Some (fold choice best (values_of leaves of rows)))
best-prints choice leaves of [] best chooses is prints = prints
best-prints choice leaves of (row ∷ rows) best chooses is prints =
    best-prints choice leaves of rows (choice best (value_of leaves of row)) chooses is
    (chooses best (value_of leaves of row) prints (value-prints leaves of row is))

chosen-prints : (choice : Cell → Cell → Cell) (leaves : List Leaf) (of : TypedTree) (rows : List (List ℕ)) → Chooses choice → IsShowable leaves of
    → CanPrint (chosen_of choice (values_of leaves of rows))
chosen-prints choice leaves of [] chooses is = tt
chosen-prints choice leaves of (row ∷ rows) chooses is =
    best-prints choice leaves of rows (value_of leaves of row) chooses is (value-prints leaves of row is)

fit : (fits : Bool) (of : KindedTree) → where_fit fits true of ≡ Ok of → fits ≡ true
fit true of is = refl
fit false of is = cc

-- the argument of a least or a greatest
pub showable : (leaves : List Leaf) (of : KindedTree) → IsKinded leaves of → ordered of ≡ Ok of → IsShowable leaves of.typed
showable leaves of is taken = record { kind = of.kind; kind_is = is; fits = fit (is_number of.kind || is_leaf of.typed) of taken }

-- an answer has the scale of the numbers, or is whole
scaled_few : (scaled : Bool) (scale : ℕ) → scale ≤ MAX_SCALE → cond scaled scale 0 ≤ MAX_SCALE
scaled_few true scale few = few
scaled_few false scale few = omega arith

answer-prints : (scale : ℕ) (answer : Option ℤ) → scale ≤ MAX_SCALE → CanPrint (option_map (λ units. number units scale) answer)
answer-prints scale None few = tt
answer-prints scale (Some units) few = few

-- what an output column shows
pub shown-prints : (kinds : List folds.Kind) (leaves : List Leaf) (item : OutputTree) (rows : List (List ℕ)) → IsOutput leaves item
    → CanPrint (shown kinds leaves item rows)
shown-prints kinds leaves count rows is = omega arith
shown-prints kinds leaves (aggregate total of) rows is = scale_few of.kind (kind_within leaves of.typed of.kind is.0)
shown-prints kinds leaves (aggregate average of) rows is =
    average-prints (scale_in of.kind) (values_of leaves of.typed rows) (scale_few of.kind (kind_within leaves of.typed of.kind is.0))
shown-prints kinds leaves (aggregate least of) rows is = chosen-prints lesser leaves of.typed rows lesser-chooses (showable leaves of is.0 is.1)
shown-prints kinds leaves (aggregate greatest of) rows is = chosen-prints greater leaves of.typed rows greater-chooses (showable leaves of is.0 is.1)
shown-prints kinds leaves (fold_of name of) rows is =
    answer-prints (cond (is_scaled kinds name) (scale_in of.kind) 0) (fold_answer kinds name (map units_of (values_of leaves of.typed rows)))
    (scaled_few (is_scaled kinds name) (scale_in of.kind) (scale_few of.kind (kind_within leaves of.typed of.kind is.0)))
