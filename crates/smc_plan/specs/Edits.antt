-- The plan of an edit, or its first fault in the order of the text.
use Rattle.std.specs.Prelude.{ℕ, List, [], Option, Result, Ok, Err}
use Rattle.smc_query.specs.Trees.{Word, ExprTree, CondTree}
use Rattle.smc_types.specs.declared.catalog.Catalog.{Catalog}
use Rattle.smc_types.specs.declared.column.FieldType.{FieldType}
use Rattle.smc_types.specs.declared.column.FieldType.TheVariants.{Text, RefTo}
use Rattle.smc_plan.specs.Answers.{and_then}
use Rattle.smc_plan.specs.Bounds.{is_narrow_in, is_taken_by, kind_of}
use Rattle.smc_plan.specs.Conditions.{ConditionTree}
use Rattle.smc_plan.specs.Conds.{where_fit}
use Rattle.smc_plan.specs.Exprs.{typed_expr}
use Rattle.smc_plan.specs.Planned.{filter_condition, planned_filter, table_or_fault, with_leaves}
use Rattle.smc_plan.specs.Planning.{Planning, ◌>>=◌, given}
use Rattle.smc_plan.specs.Tables.{field_named, table_named}
use Rattle.smc_plan.specs.Typed.{KindedTree, kinded_tree}
use Rattle.smc_plan.specs.declared.edit.EditPlan.{EditPlan}
use Rattle.smc_plan.specs.declared.fault.PlanFault.{PlanFault}
use Rattle.smc_plan.specs.declared.fault.PlanFault.TheVariants.{Types}
use Rattle.smc_plan.specs.declared.leaf.Leaf.{Leaf}
use Rattle.smc_plan.specs.declared.table.Field.{Field}

-- what an edit means over a catalog
pub record PlannedEdit : Type 0 where
  pub leaves : List Leaf
  pub field : Field
  pub value : KindedTree
  pub filter : Option ConditionTree

-- the tree of the plan of an edit
abbrev pub edit_tree : EditPlan → PlannedEdit
edit_tree plan = record { leaves = plan.leaves; field = plan.field; value = kinded_tree plan.value; filter = filter_condition plan.filter }

-- a field of a column of this type may be written, where it is no text and no reference
abbrev pub editable : FieldType → Field → Result Field PlanFault
editable (Text bytes) field = Err Types
editable (RefTo table) field = Err Types
editable _ field = Ok field

-- the field of that name of a table, where an edit may write it
abbrev pub edited_field : Catalog → ℕ → Word → Result Field PlanFault
edited_field catalog table name = and_then (field_named catalog table name) (λ field. editable field.kind field)

-- a value that is written into a field
abbrev pub written : FieldType → KindedTree → Result KindedTree PlanFault
written field value = where_fit (is_taken_by (kind_of field) value.kind) (is_narrow_in (kind_of field) value.kind) value

-- the parts of an edit of this field, in the order of the text
abbrev pub edited_parts : Catalog → Field → ExprTree → Option CondTree → Planning PlannedEdit
edited_parts catalog field one cond = do
  typed ← typed_expr catalog field.table one
  value ← given (written field.kind typed)
  filter ← planned_filter catalog field.table cond
  with_leaves (λ leaves. record { leaves = leaves; field = field; value = value; filter = filter })

-- the plan of an edit over a catalog, or its first fault in the order of the text: table, field, value, condition
abbrev pub planned_edit : Catalog → Word → Word → ExprTree → Option CondTree → Result PlannedEdit PlanFault
planned_edit catalog table name one cond =
    and_then (table_or_fault (table_named catalog table))
    (λ is. and_then (edited_field catalog is name) (λ field. and_then (edited_parts catalog field one cond []) (λ all. Ok all.part)))
