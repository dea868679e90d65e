-- The text of an answer.
use Rattle.std.specs.Prelude.{ℕ, zero, suc, ◌+◌, ◌/◌, ◌%◌, ◌^◌, ℤ, pos, negsuc, List, [], ◌∷◌, ◌++◌, length, Option, None, Some, codes, decimal}
use Rattle.std.specs.List.{flat_map}
use Rattle.smc_meaning.specs.Dates.{day_text}
use Rattle.smc_meaning.specs.Values.{Cell, number, day, text}
use Rattle.smc_meaning.specs.declared.cell.TheConstants.{MINUS, POINT, ZERO_DIGIT}
use Rattle.smc_meaning.specs.declared.answer.TheConstants.{BAR, NEWLINE}

-- so many of the last digits of a number
abbrev pub last_digits : (count : ℕ) → ℕ → List ℕ
last_digits zero whole = []
last_digits (suc count) whole = last_digits count (whole / 10) ++ (ZERO_DIGIT + whole % 10) ∷ []

-- a point and so many decimals, and nothing where there are none
abbrev pub decimals_text : (scale : ℕ) → ℕ → List ℕ
decimals_text zero fraction = []
decimals_text (suc fewer) fraction = POINT ∷ last_digits (suc fewer) fraction

-- units of which ten to the power of `scale` make one, with their decimals
abbrev pub size_text : ℕ → (scale : ℕ) → List ℕ
size_text units scale = decimal (units / 10 ^ scale) ++ decimals_text scale (units % 10 ^ scale)

-- the same, with a minus before those below 0
abbrev pub number_text : ℤ → (scale : ℕ) → List ℕ
number_text (pos units) scale = size_text units scale
number_text (negsuc less) scale = MINUS ∷ size_text (suc less) scale

-- the text of a value; a day and a text stand as in a table
abbrev pub cell_text : Cell → List ℕ
cell_text (number units scale) = number_text units scale
cell_text (day days) = day_text days
cell_text (text bytes) = bytes

-- the text of a column
abbrev pub column_text : Option Cell → List ℕ
column_text None = codes "none"
column_text (Some cell) = cell_text cell

-- the text of a further column, behind a bar
abbrev pub further_text : Option Cell → List ℕ
further_text column = BAR ∷ column_text column

-- the text of a row: its columns with bars between them
abbrev pub row_text : List (Option Cell) → List ℕ
row_text [] = []
row_text (first ∷ further) = column_text first ++ flat_map further_text further

-- the line of a row
abbrev pub row_line : List (Option Cell) → List ℕ
row_line row = row_text row ++ NEWLINE ∷ []

-- the text of an answer: how many rows it has, then the line of each
abbrev pub answer_text : List (List (Option Cell)) → List ℕ
answer_text rows = codes "rows " ++ decimal (length rows) ++ NEWLINE ∷ flat_map row_line rows
