-- The words of a field stand within the record, so what a path comes to reads within its records.
use Rattle.std.proofs.Common.{◌≡◌, ℕ, ◌+◌, ◌≤◌, Bool, true, false, Option, Some, None, List, [], ◌∷◌, ◌++◌, take, refl, subst, arith}
use Rattle.std.specs.Prelude.{Result, Ok, Err, option_map, option_and_then, position, slice_get, if◌then◌else◌}
use Rattle.std.specs.List.{AllByRecursion}
use Rattle.std.specs.Str.{bytes_eq}
use Rattle.std.proofs.lemmas.List.Sums.{sum_by_more_le}
use Rattle.std.proofs.lemmas.Option.{get_or_from_slice_get, slice_get_within}
use Rattle.smc_query.specs.Trees.{PathTree, Word}
use Rattle.smc_types.specs.Columns.{columns_width, is_reference, width_of}
use Rattle.smc_types.specs.declared.catalog.Catalog.{Catalog}
use Rattle.smc_types.specs.declared.column.Column.{Column}
use Rattle.smc_types.specs.declared.column.FieldType.{FieldType}
use Rattle.smc_types.specs.declared.column.FieldType.TheVariants.{Count, Amount, Rate, Day, Text, RefTo}
use Rattle.smc_types.specs.declared.schema.Schema.{Schema}
use Rattle.smc_plan.specs.Answers.{and_then}
use Rattle.smc_plan.specs.Leaves.{hop_of, is_last, last_leaf, leaf_at, leaf_behind, place_of, table_behind}
use Rattle.smc_plan.specs.Planning.{placed_at}
use Rattle.smc_plan.specs.Tables.{field_among, field_at, field_by, field_named, field_or_fault, schema_of}
use Rattle.smc_plan.specs.declared.fault.PlanFault.{PlanFault}
use Rattle.smc_plan.specs.declared.fault.PlanFault.TheVariants.{Path}
use Rattle.smc_plan.specs.declared.leaf.Hop.{Hop}
use Rattle.smc_plan.specs.declared.leaf.Leaf.{Leaf}
use Rattle.smc_plan.specs.declared.table.Field.{Field}
use Rattle.smc_visits.specs.Fits.{PathsFit, PlacedFit}
use Rattle.smc_visits.specs.Rows.{FitsHop, FitsRecord}
use Rattle.smc_visits.proofs.VisitLaws.{all-more}

-- the words of a field stand within the record
abbrev FitsField : Field → Type 0
FitsField field = field.at + width_of field.kind ≤ field.width

-- ---- fields

fits-at : (columns : List Column) (place : ℕ) (column : Column) → slice_get columns place ≡ Some column → columns_width (take place columns) + width_of column.kind ≤ columns_width columns
fits-at columns place column is =
    subst (λ (k : Column). columns_width (take place columns) + width_of k.kind ≤ columns_width columns) (get_or_from_slice_get columns place column column is)
    (sum_by_more_le (λ (k : Column). width_of k.kind) columns place column (slice_get_within columns place column is))

field-among : (table : ℕ) (columns : List Column) (name : Word) (field : Field) → field_among table columns name ≡ Some field → FitsField field
field-among table columns name field is = by_place (position (λ (c : Column). bytes_eq c.name name) columns) is
  where
    by_column : (place : ℕ) (column : Option Column) → slice_get columns place ≡ column → option_map (field_at table columns place) column ≡ Some field → FitsField field
    by_column place None here is = absurd (cc)
    by_column place (Some column) here is = let same : field_at table columns place column ≡ field = cc in subst FitsField same (fits-at columns place column here)

    by_place : (found : Option ℕ) → option_and_then (λ place. option_map (field_at table columns place) (slice_get columns place)) found ≡ Some field → FitsField field
    by_place None is = absurd (cc)
    by_place (Some place) is = by_column place (slice_get columns place) refl is

field-named : (catalog : Catalog) (table : ℕ) (name : Word) (field : Field) → field_named catalog table name ≡ Ok field → FitsField field
field-named catalog table name field is = by_schema (schema_of catalog table) is
  where
    by_found : (columns : List Column) (found : Option Field) → field_among table columns name ≡ found → field_or_fault found ≡ Ok field → FitsField field
    by_found columns None here is = absurd (cc)
    by_found columns (Some one) here is = let same : one ≡ field = cc in subst FitsField same (field-among table columns name one here)

    by_schema : (schema : Option Schema) → field_by schema table name ≡ Ok field → FitsField field
    by_schema None is = absurd (cc)
    by_schema (Some schema) is = by_found schema.columns (field_among table schema.columns name) refl is

-- ---- paths

last-fits : (hops : List Hop) (field : Field) (leaf : Leaf) → AllByRecursion FitsHop hops → FitsField field → last_leaf hops field ≡ Ok leaf → FitsRecord leaf
last-fits hops field leaf are fits is = by_test (is_reference field.kind) is
  where
    by_test : (b : Bool) → (if b then Err Path else Ok (leaf_at hops field)) ≡ Ok leaf → FitsRecord leaf
    by_test true is = absurd (cc)
    by_test false is =
        let same : leaf_at hops field ≡ leaf = cc in
        let one : FitsRecord (leaf_at hops field) = record { hops = are; column = fits } in
        subst FitsRecord same one

hop-fits : (hops : List Hop) (field : Field) (table : ℕ) → field.kind ≡ RefTo table → AllByRecursion FitsHop hops → FitsField field → AllByRecursion FitsHop (hops ++ hop_of field ∷ [])
hop-fits hops field table is are fits =
    let one : field.at + width_of (RefTo table) ≤ field.width = subst (λ (k : FieldType). field.at + width_of k ≤ field.width) is fits in
    all-more FitsHop hops (hop_of field) are (omega (arith, one))

leaf-fits : (catalog : Catalog) (names : PathTree) (hops : List Hop) (table : ℕ) (leaf : Leaf) → AllByRecursion FitsHop hops → leaf_behind catalog hops table names ≡ Ok leaf → FitsRecord leaf
leaf-fits catalog [] hops table leaf are is = absurd (cc)
leaf-fits catalog (name ∷ names) hops table leaf are is =
    by_field (λ next further. leaf-fits catalog names further next leaf) (field_named catalog table name) refl is
  where
    by_kind : ((next : ℕ) (further : List Hop) → AllByRecursion FitsHop further → leaf_behind catalog further next names ≡ Ok leaf → FitsRecord leaf)
        → (field : Field) → FitsField field → (kind : FieldType) → field.kind ≡ kind
        → and_then (table_behind kind) (λ next. leaf_behind catalog (hops ++ hop_of field ∷ []) next names) ≡ Ok leaf → FitsRecord leaf
    by_kind on field fits Count same is = absurd (cc)
    by_kind on field fits Amount same is = absurd (cc)
    by_kind on field fits Rate same is = absurd (cc)
    by_kind on field fits Day same is = absurd (cc)
    by_kind on field fits (Text bytes) same is = absurd (cc)
    by_kind on field fits (RefTo next) same is = on next (hops ++ hop_of field ∷ []) (hop-fits hops field next same are fits) is

    by_test : ((next : ℕ) (further : List Hop) → AllByRecursion FitsHop further → leaf_behind catalog further next names ≡ Ok leaf → FitsRecord leaf)
        → (field : Field) → FitsField field → (b : Bool)
        → (if b then last_leaf hops field else and_then (table_behind field.kind) (λ next. leaf_behind catalog (hops ++ hop_of field ∷ []) next names)) ≡ Ok leaf → FitsRecord leaf
    by_test on field fits true is = last-fits hops field leaf are fits is
    by_test on field fits false is = by_kind on field fits field.kind refl is

    by_field : ((next : ℕ) (further : List Hop) → AllByRecursion FitsHop further → leaf_behind catalog further next names ≡ Ok leaf → FitsRecord leaf)
        → (found : Result Field PlanFault) → field_named catalog table name ≡ found
        → and_then found (λ field. if is_last names then last_leaf hops field else and_then (table_behind field.kind) (λ next. leaf_behind catalog (hops ++ hop_of field ∷ []) next names)) ≡ Ok leaf
        → FitsRecord leaf
    by_field on (Err fault) here is = absurd (cc)
    by_field on (Ok field) here is = by_test on field (field-named catalog table name field here) (is_last names) is

pub paths-fit : PathsFit
paths-fit catalog table path leaf is = leaf-fits catalog path [] table leaf tt is

-- ---- leaves of a plan

pub placed-fit : PlacedFit
placed-fit leaves leaf are one = by_place (place_of leaves leaf)
  where
    by_place : (found : Option ℕ) → AllByRecursion FitsRecord (placed_at leaves leaf found).leaves
    by_place None = all-more FitsRecord leaves leaf are one
    by_place (Some place) = are
