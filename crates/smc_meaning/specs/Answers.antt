-- The answer of a plan over rows.
use Rattle.std.specs.Prelude.{ℕ, List, [], ◌∷◌, ◌++◌, map, Option, Some}
use Rattle.smc_folds.specs.Kinds as folds
use Rattle.smc_plan.specs.Planned.{Planned}
use Rattle.smc_meaning.specs.Groups.{groups, key_of, shown}
use Rattle.smc_meaning.specs.Kept.{kept_rows}
use Rattle.smc_meaning.specs.Orders.{ordered}
use Rattle.smc_meaning.specs.Values.{Cell}

-- the columns of a group: its key, and what is shown of its rows
abbrev pub Columns : Type 0
Columns = List (Option Cell)

-- the key of a group
abbrev pub group_key : Planned → List (List ℕ) → List Cell
group_key plan [] = []
group_key plan (row ∷ rows) = key_of plan row

-- the output columns of a group
abbrev pub columns_of : Planned → List folds.Kind → List (List ℕ) → Columns
columns_of plan kinds group = map Some (group_key plan group) ++ map (λ item. shown kinds plan.leaves item group) plan.items

-- ---- the answer

-- the columns of all groups of the rows that a plan keeps, in order, as many as it wants
abbrev pub answer_of : Planned → List folds.Kind → List (List ℕ) → List Columns
answer_of plan kinds rows =
    ordered plan.sort plan.first (map (columns_of plan kinds) (groups plan (kept_rows plan rows)))
