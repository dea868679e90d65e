-- What the table of tables in `src/tables.rt` writes down.
use Rattle.std.specs.Borrow.{Bor}
use Rattle.std.specs.Prelude.{ℕ, Bool, ◌&&◌, nat_le, List, ◌++◌, map, length, None, Some}
use Rattle.smc_types.specs.Columns.{columns_width}
use Rattle.smc_types.specs.declared.column.TheConstants.{WIDTH_MAX}
use Rattle.smc_types.specs.declared.column.Column.{Column}
use Rattle.smc_types.specs.declared.column.FieldType.{FieldType}
use Rattle.smc_types.specs.declared.column.FieldType.TheVariants.{RefTo}
use Rattle.smc_types.specs.declared.schema.Schema.{Schema}
use Rattle.smc_types.specs.declared.tables.Written.{Written}

-- a column of the file is written as its name and its type
abbrev pub file_column : Bor (List ℕ) × FieldType → Column
file_column written = record { name = written.0.now; kind = written.1; by = None }

-- a reference is written as its name, its table, and the place of its key column
abbrev pub reference_column : Bor (List ℕ) × ℕ × ℕ → Column
reference_column written = record { name = written.0.now; kind = RefTo written.1; by = Some written.2 }

-- the columns of the file, then the references
abbrev pub columns_of : Written → List Column
columns_of written = map file_column written.file.now ++ map reference_column written.references.now

-- the schema of a table that is written down so
abbrev pub schema_of : Written → Schema
schema_of written = record { name = written.name.now; keyed = written.keyed; file = length written.file.now; columns = columns_of written }

-- its record is narrow enough, and so is the list of its columns
abbrev pub fits : Written → Bool
fits written = nat_le (columns_width (columns_of written)) WIDTH_MAX && nat_le (length written.file.now) WIDTH_MAX
