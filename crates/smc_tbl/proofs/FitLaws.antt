-- The values that fields spell are within the ranges and widths of their columns.
use Rattle.std.proofs.Common.{◌≡◌, ℕ, ◌+◌, ◌-◌, ◌*◌, ◌^◌, ◌<◌, ◌≤◌, ℤ, pos, neg_ℤ, ◌≤ℤ◌, Bool, true, false, List, [], ◌∷◌, length, None, Ok, arith}
use Rattle.std.specs.Prelude.{fold, Result, Err, IfOk}
use Rattle.std.specs.Char.{is_ascii_digit}
use Rattle.std.specs.List.{list_all}
use Rattle.std.proofs.Math.Nat.{mul-le-mul_right, mul_assoc, pow-suc}
use Rattle.std.proofs.lemmas.Bool.Decides.{nat_tests}
use Rattle.std.proofs.lemmas.Int.{ints}
use Rattle.smc_types.specs.Columns.{value_kinds}
use Rattle.smc_types.specs.Days.{SpellsDay, IsDay}
use Rattle.smc_types.specs.Faults.{range_fault, text_fault, value_fault}
use Rattle.smc_types.specs.declared.column.FieldType.{FieldType}
use Rattle.smc_types.specs.declared.column.FieldType.TheVariants.{Count, Amount, Rate, Day, Text, RefTo}
use Rattle.smc_types.specs.declared.number.TheConstants.{COUNT_MAX, AMOUNT_MAX, RATE_MAX, DAY_MIN, DAY_MAX}
use Rattle.smc_types.specs.declared.row.Value.{Value}
use Rattle.smc_types.specs.declared.row.Value.TheVariants.{Number as OfNumber, Day as OfDay, Text as OfText}
use Rattle.smc_types.specs.declared.schema.Schema.{Schema}
use Rattle.smc_tbl.specs.declared.numbers.TheConstants.{ZERO_DIGIT}
use Rattle.smc_tbl.specs.Fields.{IsDigits, SpellsHundredths, SpellsField, decimal_value, hundredths, signed}
use Rattle.smc_tbl.specs.TableText.{FitsColumns, Gives, SpellValues, UnlessMemory}
use Rattle.smc_tbl.specs.declared.fault.TblFault.{TblFault}
use Rattle.smc_tbl.proofs.Counts.{below_more}

-- digits behind a number make it less than so many powers of ten larger
digits-below : (value : ℕ) (digits : List ℕ) → list_all is_ascii_digit digits ≡ true
    → fold (λ number digit. 10 * number + (digit - ZERO_DIGIT)) value digits < (value + 1) * 10 ^ length digits
digits-below value [] all = omega arith
digits-below value (digit ∷ digits) all =
    let rest : list_all is_ascii_digit digits ≡ true = grind (arith, nat_tests) in
    let small : digit - ZERO_DIGIT ≤ 9 = grind (arith, nat_tests) in
    let more = 10 * value + (digit - ZERO_DIGIT) in
    let later = digits-below more digits rest in
    let most : (more + 1) * 10 ^ length digits ≤ 10 * (value + 1) * 10 ^ length digits = mul-le-mul_right (10 ^ length digits) (omega arith) in
    rw (pow-suc 10 (length digits)) (omega (arith, mul_assoc 10 (value + 1) (10 ^ length digits), mul_assoc (value + 1) (10 ^ length digits) 10))

-- so many digits are below that power of ten
pub value-below : (least most : ℕ) (digits : List ℕ) → IsDigits least most digits → decimal_value digits < 10 ^ most
value-below least most digits is =
    let small : decimal_value digits < 10 ^ length digits = omega (arith, digits-below 0 digits is.digits) in
    below_more (decimal_value digits) (length digits) most small is.few

hundredths-below : (decimals : List ℕ) → IsDigits 0 2 decimals → hundredths decimals < 100
hundredths-below [] is = omega arith
hundredths-below (tenth ∷ []) is =
    let one : IsDigits 0 1 (tenth ∷ []) = record { some = omega arith; few = omega arith; digits = is.digits } in
    omega (arith, value-below 0 1 (tenth ∷ []) one)
hundredths-below (tenth ∷ hundredth ∷ decimals) is = omega (arith, value-below 0 2 (tenth ∷ hundredth ∷ decimals) is)

-- hundredths with so many digits before the point
pub units-below : (most value : ℕ) (text : List ℕ) → SpellsHundredths most text value → value < 100 * 10 ^ most
units-below most value text spells =
    let whole = value-below 1 most spells.whole spells.whole_digits in
    let rest = hundredths-below spells.decimals spells.decimal_digits in
    omega (arith, spells.value_is)

in_range : (least greatest number : ℤ) → least ≤ℤ number → number ≤ℤ greatest → range_fault least greatest number ≡ None
in_range least greatest number low high = grind (arith, ints, nat_tests)

within : (width : ℕ) (text : List ℕ) → length text ≤ width → text_fault width text ≡ None
within width text fits = grind (arith, nat_tests)

signed-range : (below : Bool) (units : ℕ) → units < 10 ^ 12 → (neg_ℤ AMOUNT_MAX ≤ℤ signed below units) × (signed below units ≤ℤ AMOUNT_MAX)
signed-range true units small = (omega (arith, ints), omega (arith, ints))
signed-range false units small = (omega (arith, ints), omega (arith, ints))

module _ (day_in_range : (text : List ℕ) (day : ℤ) → SpellsDay text day → IsDay day) where
  -- a value that a field spells has no fault
  pub spelled-good : (kind : FieldType) (field : List ℕ) (value : Value) → SpellsField kind field value → value_fault kind value ≡ None
  spelled-good Count field (OfNumber count) spells =
      let small = value-below 1 12 field spells.digits in
      rw (spells.count_is) (in_range (pos 0) COUNT_MAX (pos (decimal_value field)) (omega (arith, ints)) (omega (arith, ints)))
  spelled-good Amount field (OfNumber amount) spells =
      let small = units-below 10 spells.units spells.number spells.number_is in
      let range = signed-range spells.below spells.units (omega arith) in
      rw (spells.amount_is) (in_range (neg_ℤ AMOUNT_MAX) AMOUNT_MAX (signed spells.below spells.units) range.0 range.1)
  spelled-good Rate field (OfNumber rate) spells =
      let small = units-below 1 spells.units field spells.number_is in
      rw (spells.rate_is) (in_range (pos 0) RATE_MAX (pos spells.units) (omega (arith, ints)) (omega (arith, ints)))
  spelled-good Day field (OfDay day) spells = let range = day_in_range field day spells in in_range DAY_MIN DAY_MAX day range.low range.high
  spelled-good (Text width) field (OfText text) spells = rw (spells.text_is) (within width field spells.fits)
  spelled-good Count field _ spells = absurd spells
  spelled-good Amount field _ spells = absurd spells
  spelled-good Rate field _ spells = absurd spells
  spelled-good Day field _ spells = absurd spells
  spelled-good (Text width) field _ spells = absurd spells
  spelled-good (RefTo table) field value spells = absurd spells

  -- a row that fields spell fits its columns
  pub spelled-fits : (kinds : List FieldType) (fields : List (List ℕ)) (row : List Value) → SpellValues kinds fields row → FitsColumns kinds row
  spelled-fits [] [] [] spells = tt
  spelled-fits [] [] (value ∷ row) spells = absurd spells
  spelled-fits [] (field ∷ fields) row spells = absurd spells
  spelled-fits (kind ∷ kinds) [] row spells = absurd spells
  spelled-fits (kind ∷ kinds) (field ∷ fields) [] spells = absurd spells
  spelled-fits (kind ∷ kinds) (field ∷ fields) (value ∷ row) spells = (spelled-good kind field value spells.0, spelled-fits kinds fields row spells.1)

  -- and so does the row of a line
  pub row-fits : (schema : Schema) (line : List ℕ) (row : List Value) → Gives schema line (Ok row) → FitsColumns (value_kinds schema.columns) row
  row-fits schema line row (short, text, (fields, has, count, spells)) = spelled-fits (value_kinds schema.columns) fields row spells

  pub result-fits : (schema : Schema) (line : List ℕ) (reading : Result (List Value) TblFault) → UnlessMemory reading (Gives schema line)
      → IfOk reading (FitsColumns (value_kinds schema.columns))
  result-fits schema line (Ok row) gives = row-fits schema line row gives
  result-fits schema line (Err fault) gives = tt
