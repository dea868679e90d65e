-- The rows of a file, as they are read line by line.
use Rattle.std.specs.Prelude.{ℕ, ◌+◌, nat_lt, if◌then◌else◌, Option, None, Some, option_and_then, List, [], ◌∷◌, Result, Ok, Err}
use Rattle.std.specs.Str.Lines.{strip_carriage_return}
use Rattle.smc_outside.specs.Shelves.{file_named}
use Rattle.smc_query.specs.Trees.{Word}
use Rattle.smc_types.specs.Columns.{value_kinds}
use Rattle.smc_types.specs.Records.{row_words}
use Rattle.smc_types.specs.declared.row.Value.{Value}
use Rattle.smc_types.specs.declared.schema.Schema.{Schema}
use Rattle.smc_tbl.specs.TableText.{lines}
use Rattle.smc_tbl.specs.declared.fault.TblFault.{TblFault}
use Rattle.smc_tbl.specs.declared.fault.TblFault.TheVariants as tbl
use Rattle.smc_tbl.specs.declared.lines.TheConstants.{MAX_LINES}
use Rattle.smc_load.specs.Files.{Told}

-- what each line gives by the columns of its table: a row, or its first fault
abbrev pub Reader : Type 0
Reader = Schema → List ℕ → Result (List Value) TblFault

-- what is read of a text: the words of its rows up to the first line that is refused, and why that is, if there is one
pub record ReadTable : Type 0 where
  pub rows : List (List ℕ)
  pub fault : Option TblFault

-- a text that ends here
abbrev pub no_more : Option TblFault → ReadTable
no_more fault = record { rows = []; fault = fault }

-- the row of a line, with those behind it; or the fault of the line
abbrev pub with_line : Schema → Result (List Value) TblFault → ReadTable → ReadTable
with_line schema (Ok row) later = record later { rows = row_words (value_kinds schema.columns) row ∷ later.rows }
with_line schema (Err fault) later = no_more (Some fault)

-- what is read of lines behind so many others; of a table no more lines are read than it may have
abbrev pub read_lines : Reader → Schema → ℕ → List (List ℕ) → ReadTable
read_lines reader schema before [] = no_more None
read_lines reader schema before (line ∷ later) =
    if nat_lt before MAX_LINES then with_line schema (reader schema (strip_carriage_return line)) (read_lines reader schema (before + 1) later)
    else no_more (Some tbl.TooManyLines)

-- what is read of a text
abbrev pub read_table : Reader → Schema → List ℕ → ReadTable
read_table reader schema text = read_lines reader schema 0 (lines text)

-- the text of the file of this name, where there is one
abbrev pub text_of : Told → Word → Option (List ℕ)
text_of told name = option_and_then (λ files. file_named files name) told
