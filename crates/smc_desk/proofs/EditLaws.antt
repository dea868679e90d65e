-- The objects of a table are as wide as the records of its fields.
use Rattle.std.proofs.Common.{◌≡◌, ℕ, zero, suc, ◌+◌, ◌-◌, Bool, false, List, [], ◌∷◌, Option, Some, None, Ok, refl, sym, subst, ap, ◌∙◌, arith}
use Rattle.std.specs.Option.{option_and_then, option_map}
use Rattle.std.specs.Prelude.{◌==◌, if◌then◌else◌, position, slice_get}
use Rattle.std.specs.Str.{bytes_eq}
use Rattle.std.proofs.lemmas.Bool.Decides.{nat_tests}
use Rattle.smc_shape.specs.Layout.{Layout, width_of}
use Rattle.smc_query.specs.Trees.{CondTree, ExprTree, Word}
use Rattle.smc_types.specs.Columns.{columns_width}
use Rattle.smc_types.specs.Tables.{the_tables}
use Rattle.smc_types.specs.declared.column.Column.{Column}
use Rattle.smc_types.specs.declared.schema.Schema.{Schema}
use Rattle.smc_plan.specs.Edits.{PlannedEdit}
use Rattle.smc_plan.specs.Tables.{field_among, field_at, field_by, field_named, field_or_fault, table_named}
use Rattle.smc_plan.specs.declared.table.Field.{Field}
use Rattle.smc_exec.proofs.FieldLaws.{field-named}
use Rattle.smc_script.specs.Tables.{schema_of}
use Rattle.smc_script.specs.declared.script.Place.{Place}
use Rattle.smc_replies.specs.Commands.{IsTableOf, name_by, table_name}
use Rattle.smc_replies.specs.Edits.{update_plan}

-- ---- tables by their names

-- no two tables have one name
place-named : (k : ℕ) (schema : Schema) → slice_get the_tables.schemas k ≡ Some schema
    → position (λ (other : Schema). bytes_eq other.name (name_by (slice_get the_tables.schemas k))) the_tables.schemas ≡ Some k
unfolding the_tables
place-named zero schema is = refl
place-named (suc zero) schema is = refl
place-named (suc (suc zero)) schema is = refl
place-named (suc (suc (suc zero))) schema is = refl
place-named (suc (suc (suc (suc zero)))) schema is = refl
place-named (suc (suc (suc (suc (suc zero))))) schema is = refl
place-named (suc (suc (suc (suc (suc (suc zero)))))) schema is = refl
place-named (suc (suc (suc (suc (suc (suc (suc zero))))))) schema is = refl
place-named (suc (suc (suc (suc (suc (suc (suc (suc k)))))))) schema is = absurd cc

-- a table stands one place before its number
place-of : (table : ℕ) (schema : Schema) → schema_of the_tables table ≡ Some schema → (k : ℕ) × (table ≡ k + 1) × (slice_get the_tables.schemas k ≡ Some schema)
place-of zero schema is = absurd cc
place-of (suc k) schema is =
    let one : suc k - 1 ≡ k = omega arith in
    let not : (suc k == 0) ≡ false = grind (arith, nat_tests) in
    let there : slice_get the_tables.schemas (suc k - 1) ≡ Some schema =
    subst (λ (b : Bool). (if b then None else slice_get the_tables.schemas (suc k - 1)) ≡ Some schema) not is in
    (k, omega arith, subst (λ (n : ℕ). slice_get the_tables.schemas n ≡ Some schema) one there)

-- a table is found by its name
named-table : (table : ℕ) (schema : Schema) → schema_of the_tables table ≡ Some schema → table_named the_tables (table_name table) ≡ Some table
named-table table schema is =
    let at = place-of table schema is in
    let name : table_name table ≡ name_by (slice_get the_tables.schemas at.0) = ap name_by (is ∙ sym at.2) in
    ap (λ (n : Word). table_named the_tables n) name
    ∙ ap (λ (p : Option ℕ). option_map (λ place. place + 1) p) (place-named at.0 schema at.2)
    ∙ ap (λ (n : ℕ). Some n) (sym at.1)

-- ---- the records of a field

-- a field knows how wide its records are
among-width : (table : ℕ) (columns : List Column) (name : Word) (field : Field) → field_or_fault (field_among table columns name) ≡ Ok field → field.width ≡ columns_width columns
among-width table columns name field is = go (position (λ (column : Column). bytes_eq column.name name) columns) is
  where
    there : (place : ℕ) (found : Option Column) → field_or_fault (option_map (field_at table columns place) found) ≡ Ok field → field.width ≡ columns_width columns
    there place None is = absurd cc
    there place (Some column) is = let same : field_at table columns place column ≡ field = cc in ap (λ (f : Field). f.width) (sym same)

    go : (place : Option ℕ) → field_or_fault (option_and_then (λ p. option_map (field_at table columns p) (slice_get columns p)) place) ≡ Ok field → field.width ≡ columns_width columns
    go None is = absurd cc
    go (Some place) is = there place (slice_get columns place) is

by-width : (by : Option Schema) (schema : Schema) (table : ℕ) (name : Word) (field : Field) → by ≡ Some schema → field_by by table name ≡ Ok field → field.width ≡ columns_width schema.columns
by-width by schema table name field is found =
    among-width table schema.columns name field (subst (λ (s : Option Schema). field_by s table name ≡ Ok field) is found)

-- the objects of a table are as wide as the records of a field that is written in it
pub records-wide : (shape : Layout) (place : Place) (column : Word) (value : ExprTree) (filter : Option CondTree) (plan : PlannedEdit) → IsTableOf shape place
    → update_plan (table_name place.table) column value filter ≡ Ok plan → width_of shape place.coll ≡ plan.field.width
records-wide shape place column value filter plan table is =
    let field = field-named the_tables (table_name place.table) column value filter plan is in
    let number : field.0 ≡ place.table = some-number field.0 place.table (sym field.1 ∙ named-table place.table table.schema table.is) in
    let found = subst (λ (n : ℕ). field_named the_tables n column ≡ Ok plan.field) number field.2 in
    sym table.width ∙ sym (by-width (schema_of the_tables place.table) table.schema place.table column plan.field table.is found)
  where
    some-number : (a b : ℕ) → Some a ≡ Some b → a ≡ b
    some-number a b is = cc
