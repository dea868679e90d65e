-- Plans that the planner made, and what can be relied on where they are run.
use Rattle.std.specs.Prelude.{◌≡◌, ◌<◌, List, Option, Ok}
use Rattle.std.specs.List.{AllByRecursion}
use Rattle.smc_query.specs.Trees.{CondTree, ExprTree, QueryTree, Word}
use Rattle.smc_types.specs.declared.catalog.Catalog.{Catalog}
use Rattle.smc_plan.specs.Edits.{PlannedEdit, planned_edit}
use Rattle.smc_plan.specs.Kinds.{IsEdit, IsPlan}
use Rattle.smc_plan.specs.Planned.{Planned, planned}
use Rattle.smc_visits.specs.Rows.{FitsRecord}

-- ---- queries

-- it is the plan of a query over a catalog, in which folds of these names may be called
pub record IsPlanned (plan : Planned) : Type 0 where
  pub catalog : Catalog
  pub folds : List Word
  pub query : QueryTree
  pub is : planned catalog folds query ≡ Ok plan

-- its leaves can be read, and its parts are what they are said to be
pub record CanRun (plan : Planned) : Type 0 where
  pub fits : AllByRecursion FitsRecord plan.leaves
  pub typed : IsPlan plan.leaves plan

-- the plan of each query is so
abbrev pub QueriesCanRun : Type 0
QueriesCanRun = (plan : Planned) → IsPlanned plan → CanRun plan

-- ---- edits

-- it is the plan of an edit over a catalog
pub record IsPlannedEdit (plan : PlannedEdit) : Type 0 where
  pub catalog : Catalog
  pub table : Word
  pub field : Word
  pub value : ExprTree
  pub cond : Option CondTree
  pub is : planned_edit catalog table field value cond ≡ Ok plan

-- its leaves can be read, its parts are what they are said to be, and its field stands within the record
pub record CanEdit (plan : PlannedEdit) : Type 0 where
  pub fits : AllByRecursion FitsRecord plan.leaves
  pub typed : IsEdit plan.leaves plan
  pub field : plan.field.at < plan.field.width

-- the plan of each edit is so
abbrev pub EditsCanRun : Type 0
EditsCanRun = (plan : PlannedEdit) → IsPlannedEdit plan → CanEdit plan
