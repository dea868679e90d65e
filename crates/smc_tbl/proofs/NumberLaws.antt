-- What a text of hundredths says of its digits, and when it is none.
use Rattle.std.proofs.Common.{◌≡◌, ◌≢◌, ℕ, ◌+◌, ◌*◌, ◌<◌, ℤ, pos, neg_ℤ, Bool, true, false, List, [], ◌∷◌, ◌++◌, length, append-nil, refl, sym, ap, ◌∙◌, arith}
use Rattle.std.specs.Char.{is_ascii_digit}
use Rattle.std.specs.List.{list_all}
use Rattle.std.proofs.lemmas.Bool.Decides.{nat_tests}
use Rattle.smc_tbl.specs.Fields.{Lacks, IsDigits, SpellsHundredths, SpellsAmount, behind_point, hundredths, decimal_value, sign}
use Rattle.smc_tbl.specs.declared.numbers.TheConstants.{AMOUNT_DIGITS, DECIMALS, MINUS, POINT}
use Rattle.smc_tbl.proofs.Cuts.{one_cut, uncut}

-- digits lack the point
all_digits-Lacks : (bytes : List ℕ) → list_all is_ascii_digit bytes ≡ true → Lacks POINT bytes
all_digits-Lacks [] digits = refl
all_digits-Lacks (byte ∷ bytes) digits =
    let rest : list_all is_ascii_digit bytes ≡ true = grind (arith, nat_tests) in
    let later : Lacks POINT bytes = all_digits-Lacks bytes rest in
    grind (arith, nat_tests, later)

pub IsDigits-Lacks : (least most : ℕ) (bytes : List ℕ) → IsDigits least most bytes → Lacks POINT bytes
IsDigits-Lacks least most bytes is = all_digits-Lacks bytes is.digits

-- the value of digits without a point
pub spells-whole : (most value : ℕ) (text : List ℕ) → IsDigits 1 most text → value ≡ decimal_value text → SpellsHundredths most text (100 * value)
spells-whole most value text digits is = record {
  whole = text;
  decimals = [];
  text_is = sym (append-nil text);
  whole_digits = digits;
  decimal_digits = record { some = omega arith; few = omega arith; digits = refl };
  value_is = omega (arith, is);
}

behind_point-some : (decimals : List ℕ) → 0 < length decimals → behind_point decimals ≡ POINT ∷ decimals
behind_point-some [] some = absurd (omega arith)
behind_point-some (tenth ∷ decimals) some = refl

-- the value of digits with decimals
pub spells-decimals : (most whole_value decimal : ℕ) (text whole decimals : List ℕ) → text ≡ whole ++ POINT ∷ decimals
    → IsDigits 1 most whole → whole_value ≡ decimal_value whole → IsDigits 1 DECIMALS decimals → decimal ≡ hundredths decimals
    → SpellsHundredths most text (100 * whole_value + decimal)
spells-decimals most whole_value decimal text whole decimals cut digits is decimal_digits decimal_is = record {
  whole = whole;
  decimals = decimals;
  text_is = cut ∙ ap (λ behind. whole ++ behind) (sym (behind_point-some decimals decimal_digits.some));
  whole_digits = digits;
  decimal_digits = record { some = omega arith; few = decimal_digits.few; digits = decimal_digits.digits };
  value_is = omega (arith, is, decimal_is);
}

-- text without a point has no decimals
no_point : (text whole decimals : List ℕ) → Lacks POINT text → text ≡ whole ++ behind_point decimals → whole ≡ text
no_point text whole [] lacks is = sym (is ∙ append-nil whole)
no_point text whole (tenth ∷ decimals) lacks is = absurd (uncut POINT text whole (tenth ∷ decimals) lacks is)

-- and is no hundredths where it is no digits
pub whole-not : (most : ℕ) (text : List ℕ) → Lacks POINT text → ¬ IsDigits 1 most text → (value : ℕ) → ¬ SpellsHundredths most text value
whole-not most text lacks none value spells =
    let same : spells.whole ≡ text = no_point text spells.whole spells.decimals lacks spells.text_is in
    none (rw same at spells.whole_digits)

-- the two parts of a text with a point
pub record IsCut (most : ℕ) (text whole decimals : List ℕ) : Type 0 where
  pub whole_digits : IsDigits 1 most whole
  pub decimal_digits : IsDigits 1 DECIMALS decimals

at_point : (most : ℕ) (text whole decimals a b : List ℕ) → text ≡ whole ++ POINT ∷ decimals → Lacks POINT whole
    → text ≡ a ++ behind_point b → IsDigits 1 most a → IsDigits 0 DECIMALS b → (whole ≡ a) × (decimals ≡ b) × (0 < length b)
at_point most text whole decimals a [] cut lacks is digits decimal_digits =
    let plain : text ≡ a = is ∙ append-nil a in
    absurd (uncut POINT a whole decimals (IsDigits-Lacks 1 most a digits) (sym plain ∙ cut))
at_point most text whole decimals a (tenth ∷ b) cut lacks is digits decimal_digits =
    let (fronts, behinds) = one_cut POINT whole a decimals (tenth ∷ b) lacks (IsDigits-Lacks 1 most a digits) (sym cut ∙ is) in
    (fronts, behinds, omega arith)

pub parts-of : (most value : ℕ) (text whole decimals : List ℕ) → text ≡ whole ++ POINT ∷ decimals → Lacks POINT whole → SpellsHundredths most text value
    → IsCut most text whole decimals
parts-of most value text whole decimals cut lacks spells =
    let (fronts, behinds, some) = at_point most text whole decimals spells.whole spells.decimals cut lacks spells.text_is spells.whole_digits spells.decimal_digits in
    record {
      whole_digits = rw fronts spells.whole_digits;
      decimal_digits = rw behinds (record { some = omega arith; few = spells.decimal_digits.few; digits = spells.decimal_digits.digits });
    }

-- hundredths begin with a digit, so with no minus
digit_first : (most : ℕ) (text whole behind rest : List ℕ) → text ≡ whole ++ behind → IsDigits 1 most whole → text ≢ MINUS ∷ rest
digit_first most text [] behind rest is digits same = let some = digits.some in absurd (omega arith)
digit_first most text (byte ∷ whole) behind rest is digits same =
    let here : byte ≡ MINUS = cc in
    let digit : list_all is_ascii_digit (byte ∷ whole) ≡ true = digits.digits in
    grind (arith, nat_tests)

pub no_minus : (most value : ℕ) (text rest : List ℕ) → SpellsHundredths most text value → text ≢ MINUS ∷ rest
no_minus most value text rest spells = digit_first most text spells.whole (behind_point spells.decimals) rest spells.text_is spells.whole_digits

below-none : (below : Bool) (number rest : List ℕ) (units : ℕ) → MINUS ∷ rest ≡ sign below ++ number → SpellsHundredths AMOUNT_DIGITS number units → number ≡ rest
below-none true number rest units is spells = cc
below-none false number rest units is spells = absurd (no_minus AMOUNT_DIGITS units number rest spells (sym is))

-- behind a minus, what is no hundredths makes no amount
pub minus-not : (text rest : List ℕ) → text ≡ MINUS ∷ rest → ((value : ℕ) → ¬ SpellsHundredths AMOUNT_DIGITS rest value) → (amount : ℤ) → ¬ SpellsAmount text amount
minus-not text rest is none amount spells =
    let same : spells.number ≡ rest = below-none spells.below spells.number rest spells.units (sym is ∙ spells.text_is) spells.number_is in
    none spells.units (rw same at spells.number_is)

above-none : (below : Bool) (text number : List ℕ) → ((rest : List ℕ) → text ≢ MINUS ∷ rest) → text ≡ sign below ++ number → number ≡ text
above-none true text number other is = absurd (other number is)
above-none false text number other is = sym is

-- nor does it without a minus
pub plain-not : (text : List ℕ) → ((rest : List ℕ) → text ≢ MINUS ∷ rest) → ((value : ℕ) → ¬ SpellsHundredths AMOUNT_DIGITS text value) → (amount : ℤ) → ¬ SpellsAmount text amount
plain-not text other none amount spells =
    let same : spells.number ≡ text = above-none spells.below text spells.number other spells.text_is in
    none spells.units (rw same at spells.number_is)

-- hundredths behind a minus are an amount
pub spells-below : (text number : List ℕ) (units : ℕ) (amount : ℤ) → text ≡ MINUS ∷ number → SpellsHundredths AMOUNT_DIGITS number units → amount ≡ neg_ℤ (pos units) → SpellsAmount text amount
spells-below text number units amount is spells value = record { below = true; number = number; units = units; text_is = is; number_is = spells; amount_is = value }
