-- What the commands on the rows that meet a condition do, and what they reply.
use Rattle.std.specs.Prelude.{◌≡◌, ℕ, List, [], ◌++◌, codes, Option, Result, Ok}
use Rattle.std.specs.Fmt.{decimal}
use Rattle.smc_shape.specs.Layout.{Layout}
use Rattle.smc_trace.specs.Trace.{CallEnd}
use Rattle.smc_objects.specs.Alone.{InSection}
use Rattle.smc_query.specs.Trees.{CondTree, ExprTree, Word}
use Rattle.smc_types.specs.Tables.{the_tables}
use Rattle.smc_plan.specs.Deletes.{delete_query}
use Rattle.smc_plan.specs.Edits.{PlannedEdit, planned_edit}
use Rattle.smc_plan.specs.Planned.{Planned, planned}
use Rattle.smc_plan.specs.declared.fault.PlanFault.{PlanFault}
use Rattle.smc_exec.specs.Deletes.{DeletesRows}
use Rattle.smc_exec.specs.Updates.{UpdatesRows}
use Rattle.smc_exec.specs.declared.update.Updated.{Updated}

-- ---- delete

-- the reply to a delete: how many objects it removed first
abbrev pub deleted_line : ℕ → List ℕ
deleted_line removed = codes "deleted " ++ decimal removed ++ codes "\n"

-- what a delete from the table of this name is planned as, or why it has no plan
abbrev pub delete_plan : Word → CondTree → Result Planned PlanFault
delete_plan table filter = planned the_tables [] (delete_query table filter)

-- the objects of the collection are removed whose rows meet the condition, in a section of its own
pub record DeletesWhere (shape : Layout) (table : Word) (coll : ℕ) (filter : CondTree) (calls : List CallEnd) (text : List ℕ) : Type 0 where
  pub plan : Planned
  pub removed : ℕ
  pub planned : delete_plan table filter ≡ Ok plan
  pub deletes : InSection (DeletesRows shape coll plan removed) calls
  pub reply : text ≡ deleted_line removed

-- ---- update

-- the reply to an update: how many objects it wrote, and how many it passed over
abbrev pub updated_line : Updated → List ℕ
updated_line updated = codes "updated " ++ decimal updated.written ++ codes " skipped " ++ decimal updated.skipped ++ codes "\n"

-- what an update of the table of this name is planned as, or why it has no plan
abbrev pub update_plan : Word → (column : Word) → ExprTree → Option CondTree → Result PlannedEdit PlanFault
update_plan table column value filter = planned_edit the_tables table column value filter

-- the value is written into the column of the objects whose rows meet the condition, in a section of its own
pub record UpdatesWhere (shape : Layout) (table : Word) (coll : ℕ) (column : Word) (value : ExprTree) (filter : Option CondTree) (calls : List CallEnd) (text : List ℕ) : Type 0 where
  pub plan : PlannedEdit
  pub updated : Updated
  pub planned : update_plan table column value filter ≡ Ok plan
  pub updates : InSection (UpdatesRows shape coll plan updated) calls
  pub reply : text ≡ updated_line updated
