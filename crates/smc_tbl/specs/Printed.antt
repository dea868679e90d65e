-- The one text in which a row is printed.
use Rattle.std.specs.Prelude.{◌≡◌, ℕ, suc, ◌+◌, ◌/◌, ◌%◌, ℤ, pos, negsuc, unsigned_abs, List, [], ◌∷◌, ◌++◌, decimal, sum_by}
use Rattle.smc_types.specs.Days.{SpellsDay, digits as two_digits}
use Rattle.smc_types.specs.declared.column.FieldType.{FieldType}
use Rattle.smc_types.specs.declared.column.FieldType.TheVariants.{Count, Amount, Rate, Day, Text, RefTo}
use Rattle.smc_types.specs.declared.row.Value.{Value}
use Rattle.smc_types.specs.declared.row.Value.TheVariants.{Number as OfNumber, Day as OfDay, Text as OfText}
use Rattle.smc_tbl.specs.declared.bytes.TheConstants.{BAR}
use Rattle.smc_tbl.specs.declared.numbers.TheConstants.{AMOUNT_DIGITS, COUNT_DIGITS, DECIMALS, MINUS, POINT, RATE_DIGITS}

-- hundredths with two decimals
abbrev pub hundredths_text : ℕ → List ℕ
hundredths_text units = decimal (units / 100) ++ POINT ∷ two_digits (units % 100)

-- the same, with a minus before those below 0
abbrev pub amount_text : ℤ → List ℕ
amount_text (pos units) = hundredths_text units
amount_text (negsuc less) = MINUS ∷ hundredths_text (suc less)

-- the value is printed so in a column of this type
abbrev pub PrintsValue : FieldType → Value → List ℕ → Type 0
PrintsValue Count (OfNumber count) text = text ≡ decimal (unsigned_abs count)
PrintsValue Amount (OfNumber amount) text = text ≡ amount_text amount
PrintsValue Rate (OfNumber rate) text = text ≡ hundredths_text (unsigned_abs rate)
PrintsValue Day (OfDay day) text = SpellsDay text day
PrintsValue (Text width) (OfText bytes) text = text ≡ bytes
PrintsValue kind value text = ⊥

-- the row is printed so: each value in its column, with a bar behind it
abbrev pub PrintsRow : List FieldType → List Value → List ℕ → Type 0
PrintsRow [] [] line = line ≡ []
PrintsRow (kind ∷ kinds) (value ∷ values) line =
    (field : List ℕ) × (rest : List ℕ) × (line ≡ field ++ BAR ∷ rest) × PrintsValue kind value field × PrintsRow kinds values rest
PrintsRow kinds values line = ⊥

-- the text grew by a field in which the value is printed
pub record PrintsBehind (kind : FieldType) (value : Value) (old new : List ℕ) : Type 0 where
  pub field : List ℕ
  pub grown : new ≡ old ++ field
  pub prints : PrintsValue kind value field

-- how many bytes hundredths have with so many digits before the point, and two decimals
abbrev pub hundredths_length : ℕ → ℕ
hundredths_length most = most + 1 + DECIMALS

-- how many bytes a day has: eight digits and two dashes
abbrev pub day_length : ℕ
day_length = 10

-- how many bytes are printed at most of a value within its column; no value stands for a reference
abbrev pub longest_value : FieldType → ℕ
longest_value Count = COUNT_DIGITS
longest_value Amount = 1 + hundredths_length AMOUNT_DIGITS
longest_value Rate = hundredths_length RATE_DIGITS
longest_value Day = day_length
longest_value (Text width) = width
longest_value (RefTo table) = 0

-- how many bytes are printed at most of a row, with a bar behind each value
abbrev pub longest_row : List FieldType → ℕ
longest_row kinds = sum_by (λ kind. longest_value kind + 1) kinds
