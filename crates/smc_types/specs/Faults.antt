-- Why a row has no words.
use Rattle.std.specs.Prelude.{◌≡◌, ⊤, ℕ, ℤ, pos, neg_ℤ, List, ◌∷◌, Option, None, Some, length, nat_le, ◌==◌, if◌then◌else◌}
use Rattle.std.specs.Option.{option_or}
use Rattle.smc_types.specs.Columns.{value_count, value_kinds}
use Rattle.smc_types.specs.Numbers.{is_from}
use Rattle.smc_types.specs.declared.column.Column.{Column}
use Rattle.smc_types.specs.declared.column.FieldType.{FieldType}
use Rattle.smc_types.specs.declared.column.FieldType.TheVariants.{Count, Amount, Rate, Day, Text}
use Rattle.smc_types.specs.declared.encoding.EncodeFault.{EncodeFault}
use Rattle.smc_types.specs.declared.encoding.EncodeFault.TheVariants.{Columns, Kind, Range, Long, NoMemory}
use Rattle.smc_types.specs.declared.number.TheConstants.{COUNT_MAX, AMOUNT_MAX, RATE_MAX, DAY_MIN, DAY_MAX}
use Rattle.smc_types.specs.declared.row.Value.{Value}
use Rattle.smc_types.specs.declared.row.Value.TheVariants.{Number, Day as OfDay, Text as OfText}

-- a number is to lie between these two
abbrev pub range_fault : ℤ → ℤ → ℤ → Option EncodeFault
range_fault least greatest number = if is_from least greatest number then None else Some Range

-- a text is to have at most that many bytes
abbrev pub text_fault : ℕ → List ℕ → Option EncodeFault
text_fault width text = if nat_le (length text) width then None else Some Long

-- a value is to be of its column's kind, and then within its range or width
abbrev pub value_fault : FieldType → Value → Option EncodeFault
value_fault Count (Number number) = range_fault (pos 0) COUNT_MAX number
value_fault Amount (Number number) = range_fault (neg_ℤ AMOUNT_MAX) AMOUNT_MAX number
value_fault Rate (Number number) = range_fault (pos 0) RATE_MAX number
value_fault Day (OfDay day) = range_fault DAY_MIN DAY_MAX day
value_fault (Text width) (OfText text) = text_fault width text
value_fault kind value = Some Kind

-- the first fault of the values, from the left
abbrev pub values_fault : List FieldType → List Value → Option EncodeFault
values_fault (kind ∷ kinds) (value ∷ values) = option_or (value_fault kind value) (values_fault kinds values)
values_fault kinds values = None

-- a row is to have one value for each column that is no reference, and these are to be without fault
abbrev pub row_fault : List Column → List Value → Option EncodeFault
row_fault columns row =
    if length row == value_count columns then values_fault (value_kinds columns) row else Some Columns

-- an error is the fault of the row, or the want of memory, which may come at any row
abbrev pub IsCause : Option EncodeFault → EncodeFault → Type 0
IsCause fault Columns = fault ≡ Some Columns
IsCause fault Kind = fault ≡ Some Kind
IsCause fault Range = fault ≡ Some Range
IsCause fault Long = fault ≡ Some Long
IsCause fault NoMemory = ⊤
