-- The groups of rows, and what is made of the rows of a group.
use Rattle.std.specs.Prelude.{ℕ, suc, ◌+◌, ◌*◌, ◌/◌, max, Bool, false, if◌then◌else◌, ℤ, pos, negsuc, ◌+ℤ◌, neg_ℤ, List, [], ◌∷◌, ◌++◌, map, filter, fold, length, Option, None, Some, option_and_then, option_map, unwrap_or}
use Rattle.std.specs.List.{list_any}
use Rattle.std.specs.Ordering.{int_cmp, is_eq, is_lt, is_gt}
use Rattle.std.specs.Cmp.Lexicographic.{pointwise}
use Rattle.smc_folds.specs.Kinds as folds
use Rattle.smc_query.specs.Trees.{Aggregate, total, average, least, greatest}
use Rattle.smc_plan.specs.Outputs.{OutputTree, count, aggregate, fold as fold_of}
use Rattle.smc_plan.specs.Planned.{Planned}
use Rattle.smc_plan.specs.Typed.{TypedTree, leaf}
use Rattle.smc_plan.specs.declared.kind.Kind.{Kind}
use Rattle.smc_plan.specs.declared.kind.Kind.TheVariants.{Number, Day, Text}
use Rattle.smc_plan.specs.declared.kind.TheConstants.{HUNDREDTHS}
use Rattle.smc_plan.specs.declared.leaf.Leaf.{Leaf}
use Rattle.smc_meaning.specs.declared.extremes.End.{End}
use Rattle.smc_meaning.specs.declared.extremes.End.TheVariants.{Least, Greatest}
use Rattle.smc_meaning.specs.Comparing.{compare}
use Rattle.smc_meaning.specs.Sorting.{sorted}
use Rattle.smc_meaning.specs.Values.{Cell, number, day, text, units_at, value_of}

-- ---- groups

-- the values of the leaves at these places
abbrev pub values_at : List Leaf → List ℕ → List ℕ → List Cell
values_at leaves places words = map (λ place. value_of leaves (leaf place) words) places

-- the values of a row by which rows are grouped
abbrev pub key_of : Planned → List ℕ → List Cell
key_of plan words = values_at plan.leaves plan.by words

-- whether two values are one
abbrev pub same_cell : Cell → Cell → Bool
same_cell one other = is_eq (compare one other)

abbrev pub same_cells : List Cell → List Cell → Bool
same_cells one other = pointwise same_cell one other

-- whether two rows belong to one group
abbrev pub same_key : Planned → List ℕ → List ℕ → Bool
same_key plan one other = same_cells (key_of plan one) (key_of plan other)

-- the rows whose key neither these rows before them have, nor one between
abbrev pub first_rows : Planned → (before rows : List (List ℕ)) → List (List ℕ)
first_rows plan before [] = []
first_rows plan before (row ∷ rows) =
    let later : List (List ℕ) = first_rows plan (before ++ row ∷ []) rows in
    if list_any (λ other. same_key plan other row) before then later else row ∷ later

-- the rows that have the key of this one
abbrev pub rows_like : Planned → List ℕ → List (List ℕ) → List (List ℕ)
rows_like plan first rows = filter (same_key plan first) rows

-- the groups of rows, in the order of their first rows; without a key all rows are one group, perhaps of none
abbrev pub groups_by : Planned → List ℕ → List (List ℕ) → List (List (List ℕ))
groups_by plan [] rows = rows ∷ []
groups_by plan (place ∷ places) rows = map (λ first. rows_like plan first rows) (first_rows plan [] rows)

abbrev pub groups : Planned → List (List ℕ) → List (List (List ℕ))
groups plan rows = groups_by plan plan.by rows

-- ---- what is made of a group

-- how many decimals a number has
abbrev pub scale_in : Kind → ℕ
scale_in (Number extent) = extent.scale
scale_in (Day bound) = 0
scale_in Text = 0

-- the units of a number
abbrev pub units_of : Cell → ℤ
units_of (number units scale) = units
units_of (day days) = days
units_of (text bytes) = pos 0

-- the values of an expression in the rows of a group
abbrev pub values_of : List Leaf → TypedTree → List (List ℕ) → List Cell
values_of leaves of rows = map (λ words. value_of leaves of words) rows

-- the units of these values together
abbrev pub sum_of : List Cell → ℤ
sum_of cells = fold (λ all cell. all +ℤ units_of cell) (pos 0) cells

-- units divided by a count and rounded to the nearest whole one, halves away from zero
abbrev pub nearest_part : ℕ → ℕ → ℕ
nearest_part units parts = (2 * units + parts) / (2 * parts)

abbrev pub divided : ℤ → ℕ → ℤ
divided (pos units) parts = pos (nearest_part units parts)
divided (negsuc less) parts = neg_ℤ (pos (nearest_part (suc less) parts))

-- the decimals of an average: those of its values, and two at least
abbrev pub average_scale : ℕ → ℕ
average_scale scale = max scale HUNDREDTHS

-- the average of values that have this scale
abbrev pub average_of : ℕ → List Cell → Option Cell
average_of scale [] = None
average_of scale (cell ∷ cells) =
    let places : ℕ = average_scale scale in
    Some (number (divided (units_at places (sum_of (cell ∷ cells)) scale) (length (cell ∷ cells))) places)

-- the less and the greater of two values
abbrev pub lesser : Cell → Cell → Cell
lesser one other = if is_lt (compare other one) then other else one

abbrev pub greater : Cell → Cell → Cell
greater one other = if is_gt (compare other one) then other else one

-- the one of all values that a choice of two leaves over
abbrev pub chosen_of : (Cell → Cell → Cell) → List Cell → Option Cell
chosen_of choice [] = None
chosen_of choice (cell ∷ cells) = Some (fold choice cell cells)

-- which of two values stands nearer to an end of their order
abbrev pub choice_of : End → Cell → Cell → Cell
choice_of Least = lesser
choice_of Greatest = greater

-- an aggregate of values that have this scale
abbrev pub aggregate_of : Aggregate → ℕ → List Cell → Option Cell
aggregate_of total scale cells = Some (number (sum_of cells) scale)
aggregate_of average scale cells = average_of scale cells
aggregate_of least scale cells = chosen_of lesser cells
aggregate_of greatest scale cells = chosen_of greater cells

-- whether the answers of the fold of this name have the scale of its numbers
abbrev pub is_scaled : List folds.Kind → List ℕ → Bool
is_scaled kinds name = unwrap_or (folds.scaled_by kinds name) false

-- what the fold of this name answers to numbers, in ascending order
abbrev pub fold_answer : List folds.Kind → List ℕ → List ℤ → Option ℤ
fold_answer kinds name units = option_and_then (λ answer. answer) (folds.answer_by kinds name (sorted int_cmp units))

-- a fold of values that have this scale
abbrev pub folded : List folds.Kind → List ℕ → ℕ → List Cell → Option Cell
folded kinds name scale cells =
    option_map (λ units. number units (if is_scaled kinds name then scale else 0)) (fold_answer kinds name (map units_of cells))

-- what an output column shows of a group
abbrev pub shown : List folds.Kind → List Leaf → OutputTree → List (List ℕ) → Option Cell
shown kinds leaves count rows = Some (number (pos (length rows)) 0)
shown kinds leaves (aggregate call of) rows = aggregate_of call (scale_in of.kind) (values_of leaves of.typed rows)
shown kinds leaves (fold_of name of) rows = folded kinds name (scale_in of.kind) (values_of leaves of.typed rows)
