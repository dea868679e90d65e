-- Answers over a few rows.
use Rattle.std.specs.Prelude.{◌≡◌, ℕ, ℤ, pos, neg_ℤ, false, true, List, [], ◌∷◌, codes, map, Option, None, Some}
use Rattle.smc_query.specs.Trees.{total, average, least, greatest}
use Rattle.smc_types.specs.Numbers.{moved}
use Rattle.smc_types.specs.Texts.{text_words}
use Rattle.smc_types.specs.declared.column.FieldType.{FieldType}
use Rattle.smc_types.specs.declared.column.FieldType.TheVariants as of
use Rattle.smc_folds.specs.Boxes.{median_kind, distinct_kind}
use Rattle.smc_folds.specs.Kinds as folds
use Rattle.smc_plan.specs.Bounds.{kind_of}
use Rattle.smc_plan.specs.Outputs.{OutputTree, count, aggregate, fold}
use Rattle.smc_plan.specs.Planned.{Planned}
use Rattle.smc_plan.specs.Typed.{KindedTree, leaf}
use Rattle.smc_plan.specs.declared.leaf.Leaf.{Leaf}
use Rattle.smc_plan.specs.declared.plan.OrderKey.{OrderKey}
use Rattle.smc_meaning.specs.Answers.{Columns, answer_of}
use Rattle.smc_meaning.specs.Values.{number, text}

-- a leaf of this type
abbrev leaf_of : FieldType → Leaf
leaf_of kind = record { hops = []; table = 1; width = 2; at = 0; kind = kind }

-- the rows have an amount, and then a text of at most eight bytes
abbrev leaves : List Leaf
leaves = leaf_of of.Amount ∷ (leaf_of (of.Text 8) ∷ [])

abbrev row : ℤ → List ℕ → List ℕ
row hundredths name = moved hundredths ∷ text_words 1 name

-- the leaf at a place, as the argument of an aggregate
abbrev amount : KindedTree
amount = record { typed = leaf 0; kind = kind_of of.Amount }

abbrev name : KindedTree
name = record { typed = leaf 1; kind = kind_of (of.Text 8) }

-- a query of these parts
abbrev plan : List ℕ → List OutputTree → List OrderKey → Option ℕ → Planned
plan by items sort first = record { leaves = leaves; filter = None; by = by; items = items; sort = sort; first = first }

abbrev folds_here : List folds.Kind
folds_here = median_kind ∷ (distinct_kind ∷ [])

-- the averages of these hundredths, in one group
abbrev average_of : List ℤ → List Columns
average_of amounts = answer_of (plan [] (aggregate average amount ∷ []) [] None) [] (map (λ hundredths. row hundredths (codes "a")) amounts)

-- -0.005, 0.005 and 0.015 are rounded away from zero; of no rows there is no average
abbrev pub AveragesAreRounded : Type 0
AveragesAreRounded =
    (average_of (neg_ℤ (pos 1) ∷ (pos 0 ∷ [])) ≡ (Some (number (neg_ℤ (pos 1)) 2) ∷ []) ∷ [])
    × (average_of (pos 0 ∷ (pos 1 ∷ [])) ≡ (Some (number (pos 1) 2) ∷ []) ∷ [])
    × (average_of (pos 1 ∷ (pos 2 ∷ [])) ≡ (Some (number (pos 2) 2) ∷ []) ∷ [])
    × (average_of [] ≡ (None ∷ []) ∷ [])

-- of no rows sums and counts are 0, and there is no least
abbrev pub NoRowsAreOneGroup : Type 0
NoRowsAreOneGroup =
    answer_of (plan [] (count ∷ (aggregate total amount ∷ (aggregate least name ∷ []))) [] None) [] []
    ≡ (Some (number (pos 0) 0) ∷ (Some (number (pos 0) 2) ∷ (None ∷ []))) ∷ []

-- three rows of two names
abbrev rows : List (List ℕ)
rows = row (pos 500) (codes "bolt") ∷ (row (pos 250) (codes "axle") ∷ (row (neg_ℤ (pos 50)) (codes "bolt") ∷ []))

abbrev bolts : Columns
bolts = Some (text (codes "bolt")) ∷ (Some (number (pos 2) 0) ∷ (Some (number (pos 450) 2) ∷ []))

abbrev axles : Columns
axles = Some (text (codes "axle")) ∷ (Some (number (pos 1) 0) ∷ (Some (number (pos 250) 2) ∷ []))

abbrev by_name : List OrderKey → Option ℕ → List Columns
by_name sort first = answer_of (plan (1 ∷ []) (count ∷ (aggregate total amount ∷ [])) sort first) [] rows

-- groups come by their names, by their sums with the larger first, or none of them; and of no rows there is no group
abbrev pub GroupsAreOrdered : Type 0
GroupsAreOrdered =
    (by_name [] None ≡ axles ∷ (bolts ∷ []))
    × (by_name (record { column = 2; desc = true } ∷ []) None ≡ bolts ∷ (axles ∷ []))
    × (by_name (record { column = 2; desc = true } ∷ []) (Some 1) ≡ bolts ∷ [])
    × (by_name [] (Some 0) ≡ [])
    × (answer_of (plan (1 ∷ []) (count ∷ []) [] None) [] [] ≡ [])

-- groups that a sort key leaves in a tie come by their columns from the left
abbrev pub TiesGoByTheColumns : Type 0
TiesGoByTheColumns =
    answer_of (plan (1 ∷ []) (count ∷ []) (record { column = 1; desc = false } ∷ []) None) []
    (row (pos 1) (codes "c") ∷ (row (pos 2) (codes "b") ∷ (row (pos 3) (codes "c") ∷ (row (pos 4) (codes "a") ∷ []))))
    ≡ (Some (text (codes "a")) ∷ (Some (number (pos 1) 0) ∷ []))
    ∷ ((Some (text (codes "b")) ∷ (Some (number (pos 1) 0) ∷ []))
    ∷ ((Some (text (codes "c")) ∷ (Some (number (pos 2) 0) ∷ [])) ∷ []))

-- the least and the greatest text, and folds of the ascending amounts
abbrev pub TextsAndFolds : Type 0
TextsAndFolds =
    (answer_of (plan [] (aggregate least name ∷ (aggregate greatest name ∷ [])) [] None) [] rows
    ≡ (Some (text (codes "axle")) ∷ (Some (text (codes "bolt")) ∷ [])) ∷ [])
    × (answer_of (plan [] (fold (codes "median") amount ∷ (fold (codes "distinct") amount ∷ [])) [] None) folds_here rows
    ≡ (Some (number (pos 250) 2) ∷ (Some (number (pos 3) 0) ∷ [])) ∷ [])
