-- The tables of a catalog by name and by number, and the fields of their records.
use Rattle.std.specs.Prelude.{ℕ, ◌+◌, ◌-◌, ◌==◌, if◌then◌else◌, List, take, position, Option, Some, None, slice_get, Result, Ok, Err}
use Rattle.std.specs.Option.{option_map, option_and_then}
use Rattle.std.specs.Str.{bytes_eq}
use Rattle.smc_query.specs.Trees.{Word}
use Rattle.smc_types.specs.Columns.{columns_width}
use Rattle.smc_types.specs.declared.catalog.Catalog.{Catalog}
use Rattle.smc_types.specs.declared.column.Column.{Column}
use Rattle.smc_types.specs.declared.schema.Schema.{Schema}
use Rattle.smc_plan.specs.declared.fault.PlanFault.{PlanFault}
use Rattle.smc_plan.specs.declared.fault.PlanFault.TheVariants.{NoField}
use Rattle.smc_plan.specs.declared.table.Field.{Field}

-- the number of the table with this name
abbrev pub table_named : Catalog → Word → Option ℕ
table_named catalog name = option_map (λ place. place + 1) (position (λ schema. bytes_eq schema.name name) catalog.schemas)

-- the schema of the table with this number
abbrev pub schema_of : Catalog → ℕ → Option Schema
schema_of catalog table = if table == 0 then None else slice_get catalog.schemas (table - 1)

-- the field of a column of a table, which begins behind the columns before it
abbrev pub field_at : ℕ → List Column → ℕ → Column → Field
field_at table columns place column =
    record { table = table; width = columns_width columns; at = columns_width (take place columns); kind = column.kind }

-- the field of that name among the columns of a table
abbrev pub field_among : ℕ → List Column → Word → Option Field
field_among table columns name =
    option_and_then (λ place. option_map (field_at table columns place) (slice_get columns place)) (position (λ column. bytes_eq column.name name) columns)

-- a field that may lack
abbrev pub field_or_fault : Option Field → Result Field PlanFault
field_or_fault None = Err NoField
field_or_fault (Some field) = Ok field

-- the field of that name of a table that may lack
abbrev pub field_by : Option Schema → ℕ → Word → Result Field PlanFault
field_by None table name = Err NoField
field_by (Some schema) table name = field_or_fault (field_among table schema.columns name)

-- the field of that name of the table with this number
abbrev pub field_named : Catalog → ℕ → Word → Result Field PlanFault
field_named catalog table name = field_by (schema_of catalog table) table name
