-- The columns of an answer, as the code has them.
use Rattle.std.specs.Prelude.{⊤, ◌≤◌, Option, None, Some}
use Rattle.smc_types.specs.Days.{IsDay}
use Rattle.smc_plan.specs.declared.kind.TheConstants.{MAX_SCALE}
use Rattle.smc_meaning.specs.Values.{Cell, number, day, text}
use Rattle.smc_meaning.specs.Decimals.{decimal_cell}
use Rattle.smc_meaning.specs.declared.cell.Cell.{Cell as Shown}
use Rattle.smc_meaning.specs.declared.cell.Cell.TheVariants.{Number, Day, Text}

-- the value that a cell is
abbrev pub cell_seen : Shown → Cell
cell_seen (Number decimal) = decimal_cell decimal
cell_seen (Day days) = day days
cell_seen (Text bytes) = text bytes

-- the value of a column, where it has one
abbrev pub column_seen : Option Shown → Option Cell
column_seen None = None
column_seen (Some cell) = Some (cell_seen cell)

-- a column can be printed: a number has no more decimals than a plan gives, and a day is one of the calendar
abbrev pub CanPrint : Option Cell → Type 0
CanPrint None = ⊤
CanPrint (Some (number units scale)) = scale ≤ MAX_SCALE
CanPrint (Some (day days)) = IsDay days
CanPrint (Some (text bytes)) = ⊤

-- the value is a text
abbrev pub IsOfText : Cell → Type 0
IsOfText (text bytes) = ⊤
IsOfText _ = ⊥
