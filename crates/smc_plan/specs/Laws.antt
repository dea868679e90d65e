-- What holds of every plan.
use Rattle.std.specs.Prelude.{◌≡◌, ◌≢◌, List, Option, Ok}
use Rattle.std.specs.List.{AllPairs}
use Rattle.smc_query.specs.Trees.{Word, ExprTree, CondTree, QueryTree}
use Rattle.smc_types.specs.declared.catalog.Catalog.{Catalog}
use Rattle.smc_plan.specs.Edits.{PlannedEdit, planned_edit}
use Rattle.smc_plan.specs.Kinds.{IsEdit, IsPlan}
use Rattle.smc_plan.specs.Planned.{Planned, planned}
use Rattle.smc_plan.specs.declared.leaf.Leaf.{Leaf}

-- no leaf stands twice
abbrev pub AreDifferent : List Leaf → Type 0
AreDifferent leaves = AllPairs (λ one other. one ≢ other) leaves

-- the leaves of the plan of each query are different
abbrev pub QueriesDiffer : Type 0
QueriesDiffer = (catalog : Catalog) (folds : List Word) (query : QueryTree) (plan : Planned) → planned catalog folds query ≡ Ok plan → AreDifferent plan.leaves

-- the leaves of the plan of each edit are different
abbrev pub EditsDiffer : Type 0
EditsDiffer =
    (catalog : Catalog) (table field : Word) (value : ExprTree) (cond : Option CondTree) (plan : PlannedEdit)
    → planned_edit catalog table field value cond ≡ Ok plan → AreDifferent plan.leaves

-- the parts of the plan of each query are what they are said to be
abbrev pub QueriesAreTyped : Type 0
QueriesAreTyped = (catalog : Catalog) (folds : List Word) (query : QueryTree) (plan : Planned) → planned catalog folds query ≡ Ok plan → IsPlan plan.leaves plan

-- the parts of the plan of each edit are what they are said to be
abbrev pub EditsAreTyped : Type 0
EditsAreTyped =
    (catalog : Catalog) (table field : Word) (value : ExprTree) (cond : Option CondTree) (plan : PlannedEdit)
    → planned_edit catalog table field value cond ≡ Ok plan → IsEdit plan.leaves plan
