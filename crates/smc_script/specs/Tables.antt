-- The tables and columns that the words of a script name.
use Rattle.std.specs.Prelude.{ℕ, ◌+◌, ◌-◌, ◌==◌, Bool, true, false, not, ◌&&◌, if◌then◌else◌, List, position, Option, Some, None, slice_get}
use Rattle.std.specs.Option.{option_map}
use Rattle.std.specs.Str.{bytes_eq}
use Rattle.smc_query.specs.Trees.{Word}
use Rattle.smc_types.specs.Columns.{columns_width, is_reference}
use Rattle.smc_types.specs.declared.catalog.Catalog.{Catalog}
use Rattle.smc_types.specs.declared.column.Column.{Column}
use Rattle.smc_types.specs.declared.column.FieldType.{FieldType}
use Rattle.smc_types.specs.declared.column.FieldType.TheVariants.{Count, Amount, Rate, Day, Text, RefTo}
use Rattle.smc_types.specs.declared.schema.Schema.{Schema}

-- the number of the table with this name
abbrev pub table_named : Catalog → Word → Option ℕ
table_named catalog word = option_map (λ place. place + 1) (position (λ schema. bytes_eq schema.name word) catalog.schemas)

-- the schema of the table with this number
abbrev pub schema_of : Catalog → ℕ → Option Schema
schema_of catalog table = if table == 0 then None else slice_get catalog.schemas (table - 1)

-- the words of a record by a schema; where there is none, no words
abbrev pub width_by : Option Schema → ℕ
width_by None = 0
width_by (Some schema) = columns_width schema.columns

-- the words of a record of the table with this number
abbrev pub table_width : Catalog → ℕ → ℕ
table_width catalog table = width_by (schema_of catalog table)

-- the column has this name, and a field of its own in the table's file
abbrev pub is_column : Word → Column → Bool
is_column word column = not (is_reference column.kind) && bytes_eq column.name word

-- where the column of this name stands among the columns
abbrev pub column_at : List Column → Word → Option ℕ
column_at columns word = position (is_column word) columns

-- the type of the column at this place
abbrev pub kind_at : List Column → Option ℕ → Option FieldType
kind_at columns None = None
kind_at columns (Some place) = option_map (λ column. column.kind) (slice_get columns place)

-- the type of the column of this name by a schema, where there is one
abbrev pub kind_by : Option Schema → Word → Option FieldType
kind_by None word = None
kind_by (Some schema) word = kind_at schema.columns (column_at schema.columns word)

-- the type of the column of this name in the rows of the table with this number
abbrev pub column_kind : Catalog → ℕ → Word → Option FieldType
column_kind catalog table word = kind_by (schema_of catalog table) word

-- the same of a table that there may be
abbrev pub kind_of : Catalog → Option ℕ → Word → Option FieldType
kind_of catalog None word = None
kind_of catalog (Some table) word = column_kind catalog table word

-- a column that may be written: a number or a day
abbrev pub is_editable : FieldType → Bool
is_editable Count = true
is_editable Amount = true
is_editable Rate = true
is_editable Day = true
is_editable (Text width) = false
is_editable (RefTo table) = false

-- there is such a column, and it may be written
abbrev pub may_write : Option FieldType → Bool
may_write None = false
may_write (Some kind) = is_editable kind
