-- The row that stands in the words of a record.
use Rattle.std.specs.Prelude.{⊤, ℕ, pos, neg_ℤ, List, [], ◌∷◌, take, drop, slice_index, if◌then◌else◌}
use Rattle.smc_types.specs.Columns.{width_of, is_reference}
use Rattle.smc_types.specs.Numbers.{moved_back, nearest}
use Rattle.smc_types.specs.Texts.{IsText, text_of}
use Rattle.smc_types.specs.declared.column.Column.{Column}
use Rattle.smc_types.specs.declared.column.FieldType.{FieldType}
use Rattle.smc_types.specs.declared.column.FieldType.TheVariants.{Count, Amount, Rate, Day, Text, RefTo}
use Rattle.smc_types.specs.declared.number.TheConstants.{COUNT_MAX, AMOUNT_MAX, RATE_MAX, DAY_MIN, DAY_MAX}
use Rattle.smc_types.specs.declared.row.Value.{Value}
use Rattle.smc_types.specs.declared.row.Value.TheVariants.{Number, Day as OfDay, Text as OfText}

-- a text in a row has no byte that it may not have
abbrev pub IsValue : Value → Type 0
IsValue (Number number) = ⊤
IsValue (OfDay day) = ⊤
IsValue (OfText text) = IsText text

-- the value that stands in the words of a column; a number outside its range counts as the nearest end of it
abbrev pub value_of : FieldType → List ℕ → Value
value_of Count words = Number (nearest (pos 0) COUNT_MAX (pos (slice_index words 0)))
value_of Amount words = Number (nearest (neg_ℤ AMOUNT_MAX) AMOUNT_MAX (moved_back (slice_index words 0)))
value_of Rate words = Number (nearest (pos 0) RATE_MAX (moved_back (slice_index words 0)))
value_of Day words = OfDay (nearest DAY_MIN DAY_MAX (moved_back (slice_index words 0)))
value_of (Text width) words = OfText (text_of width words)
value_of (RefTo table) words = OfText []

-- column by column, each in its own words: a reference is passed over, of every other column the value is read
abbrev pub row_of : List Column → List ℕ → List Value
row_of [] words = []
row_of (column ∷ columns) words =
    let later : List Value = row_of columns (drop (width_of column.kind) words) in
    if is_reference column.kind then later else value_of column.kind (take (width_of column.kind) words) ∷ later
