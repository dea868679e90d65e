-- The rows that a plan keeps.
use Rattle.std.specs.Prelude.{ℕ, Bool, true, not, ◌&&◌, ◌||◌, List, filter, Option, None, Some}
use Rattle.std.specs.declared.cmp.Ordering.{Ordering}
use Rattle.std.specs.Ordering.{is_eq, is_ne, is_lt, is_le, is_gt, is_ge}
use Rattle.smc_query.specs.declared.cond.Op.{Op}
use Rattle.smc_query.specs.declared.cond.Op.TheVariants as op
use Rattle.smc_plan.specs.Conditions.{ConditionTree, either, both, negation, comparison, within}
use Rattle.smc_plan.specs.Planned.{Planned}
use Rattle.smc_plan.specs.declared.leaf.Leaf.{Leaf}
use Rattle.smc_meaning.specs.Comparing.{compare}
use Rattle.smc_meaning.specs.Values.{value_of}

-- whether two values that compare so are as the operator says
abbrev pub holds : Op → Ordering → Bool
holds op.Equal order = is_eq order
holds op.Unequal order = is_ne order
holds op.Less order = is_lt order
holds op.LessEqual order = is_le order
holds op.Greater order = is_gt order
holds op.GreaterEqual order = is_ge order

-- whether a condition holds of a row
abbrev pub meets : List Leaf → ConditionTree → List ℕ → Bool
meets leaves (either one other) words = meets leaves one words || meets leaves other words
meets leaves (both one other) words = meets leaves one words && meets leaves other words
meets leaves (negation of) words = not (meets leaves of words)
meets leaves (comparison op left right) words = holds op (compare (value_of leaves left words) (value_of leaves right words))
meets leaves (within value low high) words =
    is_ge (compare (value_of leaves value words) (value_of leaves low words)) && is_le (compare (value_of leaves value words) (value_of leaves high words))

-- the same of a condition that may be absent
abbrev pub meets_filter : List Leaf → Option ConditionTree → List ℕ → Bool
meets_filter leaves None words = true
meets_filter leaves (Some condition) words = meets leaves condition words

-- whether a plan keeps a row
abbrev pub is_kept : Planned → List ℕ → Bool
is_kept plan words = meets_filter plan.leaves plan.filter words

-- the rows that a plan keeps, in order
abbrev pub kept_rows : Planned → List (List ℕ) → List (List ℕ)
kept_rows plan rows = filter (is_kept plan) rows
