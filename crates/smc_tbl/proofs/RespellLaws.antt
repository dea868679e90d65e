-- What is printed for a value that a field spelled spells it again.
use Rattle.std.proofs.Common.{◌≡◌, ℕ, zero, suc, ◌-◌, ◌+◌, ◌*◌, ◌/◌, ◌%◌, ◌^◌, ◌<◌, ◌≤◌, pos, Bool, true, false, List, [], ◌∷◌, ◌++◌, refl, sym, ap, ◌∙◌, arith}
use Rattle.std.specs.Prelude.{decimal, unsigned_abs}
use Rattle.std.specs.Char.{is_ascii_digit}
use Rattle.std.specs.List.{list_all}
use Rattle.std.proofs.lemmas.Bool.Decides.{nat_tests}
use Rattle.std.proofs.lemmas.Fmt.{decimal_by_steps, decimal_nonempty, length-decimal-le}
use Rattle.std.proofs.lemmas.List.Folds.{list_all-append}
use Rattle.std.proofs.lemmas.List.Sums.{fold-append}
use Rattle.smc_types.specs.Days.{digits as two_digits}
use Rattle.smc_types.specs.declared.column.FieldType.{FieldType}
use Rattle.smc_types.specs.declared.column.FieldType.TheVariants.{Count, Amount, Rate, Day, Text, RefTo}
use Rattle.smc_types.specs.declared.row.Value.{Value}
use Rattle.smc_types.specs.declared.row.Value.TheVariants.{Number as OfNumber, Day as OfDay, Text as OfText}
use Rattle.smc_tbl.specs.declared.numbers.TheConstants.{AMOUNT_DIGITS, RATE_DIGITS, ZERO_DIGIT}
use Rattle.smc_tbl.specs.Fields.{IsDigits, SpellsAmount, SpellsField, SpellsHundredths, decimal_value, signed}
use Rattle.smc_tbl.specs.Printed.{PrintsValue, amount_text, hundredths_text}
use Rattle.smc_tbl.proofs.FitLaws.{units-below, value-below}

-- digits, and the number that they spell
abbrev Spelled : ℕ → List ℕ → Type 0
Spelled number digits = (list_all is_ascii_digit digits ≡ true) × (decimal_value digits ≡ number)

one_digit : (number : ℕ) → number < 10 → Spelled number ((48 + number) ∷ [])
one_digit number small = (grind (arith, nat_tests), omega arith)

more_digits : (number : ℕ) (digits : List ℕ) → 10 ≤ number → Spelled (number / 10) digits → Spelled number (digits ++ (48 + number % 10) ∷ [])
more_digits number digits large spelled =
    let last : is_ascii_digit (48 + number % 10) ≡ true = grind (arith, nat_tests) in (
      rw (list_all-append is_ascii_digit digits ((48 + number % 10) ∷ []), spelled.0, last) refl,
      rw (fold-append (λ value digit. 10 * value + (digit - ZERO_DIGIT)) 0 digits ((48 + number % 10) ∷ [])) (omega (arith, spelled.1)),
    )

-- a printed number has its digits
decimal-spelled : (number : ℕ) → number < 2 ^ 64 → Spelled number (decimal number)
decimal-spelled = decimal_by_steps Spelled one_digit more_digits

decimal-digits : (most number : ℕ) → 0 < most → number < 10 ^ most → number < 2 ^ 64 → IsDigits 1 most (decimal number)
decimal-digits most number some small fits = record {
  some = decimal_nonempty number fits;
  few = length-decimal-le most number some small fits;
  digits = (decimal-spelled number fits).0;
}

pub two_are_digits : (number : ℕ) → number < 100 → list_all is_ascii_digit (two_digits number) ≡ true
two_are_digits number small = grind (arith, nat_tests)

-- printed hundredths are spelled
hundredths-spelled : (most units : ℕ) → 0 < most → units / 100 < 10 ^ most → units < 2 ^ 64 → SpellsHundredths most (hundredths_text units) units
hundredths-spelled most units some small fits = record {
  whole = decimal (units / 100);
  decimals = two_digits (units % 100);
  text_is = refl;
  whole_digits = decimal-digits most (units / 100) some small (omega arith);
  decimal_digits = record { some = omega arith; few = omega arith; digits = two_are_digits (units % 100) (omega arith) };
  value_is = omega (arith, (decimal-spelled (units / 100) (omega arith)).1);
}

-- so is an amount
plain-spelled : (units : ℕ) → units < 10 ^ 12 → SpellsAmount (hundredths_text units) (pos units)
plain-spelled units small = record {
  below = false;
  number = hundredths_text units;
  units = units;
  text_is = refl;
  number_is = hundredths-spelled AMOUNT_DIGITS units (omega arith) (omega arith) (omega arith);
  amount_is = refl;
}

amount-spelled : (below : Bool) (units : ℕ) → units < 10 ^ 12 → SpellsAmount (amount_text (signed below units)) (signed below units)
amount-spelled true zero small = plain-spelled 0 small
amount-spelled true (suc less) small = record {
  below = true;
  number = hundredths_text (suc less);
  units = suc less;
  text_is = refl;
  number_is = hundredths-spelled AMOUNT_DIGITS (suc less) (omega arith) (omega arith) (omega arith);
  amount_is = refl;
}
amount-spelled false units small = plain-spelled units small

-- the value of a field is spelled by what is printed for it
pub respelled : (kind : FieldType) (value : Value) (field text : List ℕ) → SpellsField kind field value → PrintsValue kind value text → SpellsField kind text value
respelled Count (OfNumber count) field text spells prints =
    let value = decimal_value field in
    let small = value-below 1 12 field spells.digits in
    let printed : text ≡ decimal value = prints ∙ ap (λ c. decimal (unsigned_abs c)) spells.count_is in
    let digits = decimal-digits 12 value (omega arith) small (omega arith) in
    let same : decimal_value (decimal value) ≡ value = (decimal-spelled value (omega arith)).1 in
    record { digits = rw printed digits; count_is = rw printed (spells.count_is ∙ ap pos (sym same)) }
respelled Amount (OfNumber amount) field text spells prints =
    let small = units-below 10 spells.units spells.number spells.number_is in
    rw (prints, spells.amount_is) (amount-spelled spells.below spells.units (omega arith))
respelled Rate (OfNumber rate) field text spells prints =
    let small = units-below 1 spells.units field spells.number_is in
    let printed : text ≡ hundredths_text spells.units = prints ∙ ap (λ r. hundredths_text (unsigned_abs r)) spells.rate_is in
    record { units = spells.units; number_is = rw printed (hundredths-spelled RATE_DIGITS spells.units (omega arith) (omega arith) (omega arith)); rate_is = spells.rate_is }
respelled Day (OfDay day) field text spells prints = prints
respelled (Text width) (OfText bytes) field text spells prints =
    let same : text ≡ field = prints ∙ spells.text_is in
    record { fits = rw same spells.fits; text_is = sym prints }
respelled Count _ field text spells prints = absurd spells
respelled Amount _ field text spells prints = absurd spells
respelled Rate _ field text spells prints = absurd spells
respelled Day _ field text spells prints = absurd spells
respelled (Text width) _ field text spells prints = absurd spells
respelled (RefTo table) value field text spells prints = absurd spells
