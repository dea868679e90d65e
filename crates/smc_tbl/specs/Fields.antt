-- The text of one field: the values that it spells in a column of each type.
use Rattle.std.specs.Prelude.{◌≡◌, ℕ, ◌+◌, ◌-◌, ◌*◌, ◌≤◌, ℤ, pos, neg_ℤ, Bool, true, false, not, ◌==◌, IsTrue, List, [], ◌∷◌, ◌++◌, length, fold}
use Rattle.std.specs.Char.{is_ascii_digit}
use Rattle.std.specs.List.{list_all}
use Rattle.smc_types.specs.Days.{SpellsDay}
use Rattle.smc_types.specs.declared.column.FieldType.{FieldType}
use Rattle.smc_types.specs.declared.column.FieldType.TheVariants.{Count, Amount, Rate, Day, Text}
use Rattle.smc_types.specs.declared.row.Value.{Value}
use Rattle.smc_types.specs.declared.row.Value.TheVariants.{Number as OfNumber, Day as OfDay, Text as OfText}
use Rattle.smc_tbl.specs.declared.fault.TblFault.{TblFault}
use Rattle.smc_tbl.specs.declared.fault.TblFault.TheVariants.{Number, Date, TextTooLong}
use Rattle.smc_tbl.specs.declared.numbers.TheConstants.{AMOUNT_DIGITS, COUNT_DIGITS, DECIMALS, MINUS, POINT, RATE_DIGITS, ZERO_DIGIT}

-- this byte is not among the bytes
abbrev pub Lacks : ℕ → List ℕ → Type 0
Lacks byte bytes = IsTrue (list_all (λ other. not (other == byte)) bytes)

-- digits, from the least number of them to the most
pub record IsDigits (least most : ℕ) (bytes : List ℕ) : Type 0 where
  pub some : least ≤ length bytes
  pub few : length bytes ≤ most
  pub digits : IsTrue (list_all is_ascii_digit bytes)

-- the number that digits spell, the first digit the highest
abbrev pub decimal_value : List ℕ → ℕ
decimal_value digits = fold (λ value digit. 10 * value + (digit - ZERO_DIGIT)) 0 digits

-- a point stands before decimals, and none where there are no decimals
abbrev pub behind_point : List ℕ → List ℕ
behind_point [] = []
behind_point (tenth ∷ decimals) = POINT ∷ tenth ∷ decimals

-- the hundredths that decimals spell; those that are missing are zeros
abbrev pub hundredths : List ℕ → ℕ
hundredths [] = 0
hundredths (tenth ∷ []) = 10 * decimal_value (tenth ∷ [])
hundredths decimals = decimal_value decimals

-- the text is at most so many digits, then nothing or a point with one or two decimals: so many hundredths
pub record SpellsHundredths (most : ℕ) (text : List ℕ) (value : ℕ) : Type 0 where
  pub whole : List ℕ
  pub decimals : List ℕ
  pub text_is : text ≡ whole ++ behind_point decimals
  pub whole_digits : IsDigits 1 most whole
  pub decimal_digits : IsDigits 0 DECIMALS decimals
  pub value_is : value ≡ 100 * decimal_value whole + hundredths decimals

-- the text is one to twelve digits
pub record SpellsCount (text : List ℕ) (count : ℤ) : Type 0 where
  pub digits : IsDigits 1 COUNT_DIGITS text
  pub count_is : count ≡ pos (decimal_value text)

-- what stands before an amount, which may be below 0
abbrev pub sign : Bool → List ℕ
sign true = MINUS ∷ []
sign false = []

-- so many hundredths, above 0 or below it
abbrev pub signed : Bool → ℕ → ℤ
signed true units = neg_ℤ (pos units)
signed false units = pos units

-- the text is a minus or nothing, and then hundredths
pub record SpellsAmount (text : List ℕ) (amount : ℤ) : Type 0 where
  pub below : Bool
  pub number : List ℕ
  pub units : ℕ
  pub text_is : text ≡ sign below ++ number
  pub number_is : SpellsHundredths AMOUNT_DIGITS number units
  pub amount_is : amount ≡ signed below units

-- the text is hundredths, with one digit before the point
pub record SpellsRate (text : List ℕ) (rate : ℤ) : Type 0 where
  pub units : ℕ
  pub number_is : SpellsHundredths RATE_DIGITS text units
  pub rate_is : rate ≡ pos units

-- the text is no wider than the column
pub record SpellsText (width : ℕ) (bytes text : List ℕ) : Type 0 where
  pub fits : length bytes ≤ width
  pub text_is : text ≡ bytes

-- the field spells the value in a column of this type; no field stands for a reference
abbrev pub SpellsField : FieldType → List ℕ → Value → Type 0
SpellsField Count bytes (OfNumber count) = SpellsCount bytes count
SpellsField Amount bytes (OfNumber amount) = SpellsAmount bytes amount
SpellsField Rate bytes (OfNumber rate) = SpellsRate bytes rate
SpellsField Day bytes (OfDay day) = SpellsDay bytes day
SpellsField (Text width) bytes (OfText text) = SpellsText width bytes text
SpellsField kind bytes value = ⊥

-- the field spells no value
abbrev pub SpellsNothing : FieldType → List ℕ → Type 0
SpellsNothing kind bytes = (value : Value) → ¬ SpellsField kind bytes value

-- the fault of a column whose field spells no value
abbrev pub fault_of : FieldType → TblFault
fault_of Day = Date
fault_of (Text width) = TextTooLong
fault_of kind = Number
