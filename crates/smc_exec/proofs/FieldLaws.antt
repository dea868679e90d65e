-- The field that an edit writes stands within its record.
use Rattle.std.proofs.Common.{◌≡◌, ℕ, ◌+◌, ◌<◌, ◌≤◌, false, [], ◌∷◌, Option, Some, None, Ok, refl, ap, ◌∙◌, subst, arith}
use Rattle.smc_query.specs.Trees.{CondTree, ExprTree, Word}
use Rattle.smc_types.specs.Columns.{is_reference, width_of}
use Rattle.smc_types.specs.declared.catalog.Catalog.{Catalog}
use Rattle.smc_types.specs.declared.column.FieldType.{FieldType}
use Rattle.smc_types.specs.declared.column.FieldType.TheVariants.{Count, Amount, Rate, Day, Text, RefTo}
use Rattle.smc_plan.specs.Answers.{and_then}
use Rattle.smc_plan.specs.Edits.{PlannedEdit, editable, edited_field, edited_parts, planned_edit, written}
use Rattle.smc_plan.specs.Exprs.{typed_expr}
use Rattle.smc_plan.specs.Leaves.{leaf_at, leaf_of}
use Rattle.smc_plan.specs.Planned.{planned_filter, table_or_fault, with_leaves}
use Rattle.smc_plan.specs.Planning.{Made, given, made}
use Rattle.smc_plan.specs.Tables.{field_named, table_named}
use Rattle.smc_plan.specs.declared.table.Field.{Field}
use Rattle.smc_plan.proofs.GrowLaws.{and_then-Ok, behind-typed, behind-value}
use Rattle.smc_visits.specs.Rows.{FitsRecord}
use Rattle.smc_visits.proofs.FitLaws.{paths-fit}
use Rattle.smc_exec.specs.Plans.{IsPlannedEdit}

-- a field that may be written has a word, and is no reference
record MayBeWritten (kind : FieldType) (one field : Field) : Type 0 where
  same : one ≡ field
  plain : is_reference kind ≡ false
  wide : 0 < width_of kind

editable-is : (kind : FieldType) (one field : Field) → editable kind one ≡ Ok field → MayBeWritten kind one field
editable-is Count one field is = record { same = cc; plain = refl; wide = omega arith }
editable-is Amount one field is = record { same = cc; plain = refl; wide = omega arith }
editable-is Rate one field is = record { same = cc; plain = refl; wide = omega arith }
editable-is Day one field is = record { same = cc; plain = refl; wide = omega arith }
editable-is (Text bytes) one field is = absurd cc
editable-is (RefTo table) one field is = absurd cc

-- the path of its name alone comes to it
path-is : (catalog : Catalog) (table : ℕ) (name : Word) (field : Field) → field_named catalog table name ≡ Ok field → is_reference field.kind ≡ false
    → leaf_of catalog table (name ∷ []) ≡ Ok (leaf_at [] field)
path-is catalog table name field is plain = rw (is, plain) refl

edited-within : (catalog : Catalog) (table : ℕ) (name : Word) (field : Field) → edited_field catalog table name ≡ Ok field → field.at < field.width
edited-within catalog table name field is =
    let step = and_then-Ok (field_named catalog table name) (λ one. editable one.kind one) field is in
    let may = editable-is step.0.kind step.0 field step.2 in
    let fits : FitsRecord (leaf_at [] step.0) = paths-fit catalog table (name ∷ []) (leaf_at [] step.0) (path-is catalog table name step.0 step.1 may.plain) in
    let column : step.0.at + width_of step.0.kind ≤ step.0.width = fits.column in
    let wide = may.wide in
    let within : step.0.at < step.0.width = omega (arith, column, wide) in
    subst (λ (one : Field). one.at < one.width) may.same within

-- the plan of an edit has its field
field-is : (catalog : Catalog) (field : Field) (value : ExprTree) (cond : Option CondTree) (all : Made PlannedEdit) → edited_parts catalog field value cond [] ≡ Ok all → field ≡ all.part.field
field-is catalog field one cond all is =
    let first = and_then-Ok (typed_expr catalog field.table one []) (λ got. behind-typed catalog field cond got.part got.leaves) all is in
    let second = and_then-Ok (given (written field.kind first.0.part) first.0.leaves) (λ got. behind-value catalog field cond got.part got.leaves) all first.2 in
    let third = and_then-Ok (planned_filter catalog field.table cond second.0.leaves)
    (λ got. with_leaves (λ leaves. record { leaves = leaves; field = field; value = second.0.part; filter = got.part }) got.leaves) all second.2 in
    let plan : PlannedEdit = record { leaves = third.0.leaves; field = field; value = second.0.part; filter = third.0.part } in
    let same : made third.0.leaves plan ≡ all = cc in
    ap (λ (made' : Made PlannedEdit). made'.part.field) same

-- a table that was found has its number
table-is : (found : Option ℕ) (table : ℕ) → table_or_fault found ≡ Ok table → found ≡ Some table
table-is None table is = absurd cc
table-is (Some found) table is = cc

-- it is the field of that name of the table
pub field-named : (catalog : Catalog) (table name : Word) (value : ExprTree) (cond : Option CondTree) (plan : PlannedEdit) → planned_edit catalog table name value cond ≡ Ok plan
    → (number : ℕ) × (table_named catalog table ≡ Some number) × (field_named catalog number name ≡ Ok plan.field)
field-named catalog table name one cond plan is =
    let first = and_then-Ok (table_or_fault (table_named catalog table))
    (λ number. and_then (edited_field catalog number name) (λ field. and_then (edited_parts catalog field one cond []) (λ all. Ok all.part))) plan is in
    let second = and_then-Ok (edited_field catalog first.0 name) (λ field. and_then (edited_parts catalog field one cond []) (λ all. Ok all.part)) plan first.2 in
    let third = and_then-Ok (edited_parts catalog second.0 one cond []) (λ all. Ok all.part) plan second.2 in
    let same : third.0.part ≡ plan = cc in
    let field : second.0 ≡ plan.field = field-is catalog second.0 one cond third.0 third.1 ∙ ap (λ (made' : PlannedEdit). made'.field) same in
    let found = and_then-Ok (field_named catalog first.0 name) (λ one. editable one.kind one) second.0 second.1 in
    let may = editable-is found.0.kind found.0 second.0 found.2 in
    (first.0, table-is (table_named catalog table) first.0 first.1, found.1 ∙ ap (λ (f : Field). Ok f) (may.same ∙ field))

pub field-within : (plan : PlannedEdit) → IsPlannedEdit plan → plan.field.at < plan.field.width
field-within plan of =
    let first = and_then-Ok (table_or_fault (table_named of.catalog of.table))
    (λ is. and_then (edited_field of.catalog is of.field) (λ field. and_then (edited_parts of.catalog field of.value of.cond []) (λ all. Ok all.part))) plan of.is in
    let second = and_then-Ok (edited_field of.catalog first.0 of.field) (λ field. and_then (edited_parts of.catalog field of.value of.cond []) (λ all. Ok all.part)) plan first.2 in
    let third = and_then-Ok (edited_parts of.catalog second.0 of.value of.cond []) (λ all. Ok all.part) plan second.2 in
    let same : third.0.part ≡ plan = cc in
    let field : second.0 ≡ plan.field = field-is of.catalog second.0 of.value of.cond third.0 third.1 ∙ ap (λ (one : PlannedEdit). one.field) same in
    subst (λ (one : Field). one.at < one.width) field (edited-within of.catalog first.0 of.field second.0 second.1)
