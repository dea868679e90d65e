-- A field spells a value in its column, or spells none.
use Rattle.std.proofs.Common.{◌≡◌, ◌≢◌, ℕ, ◌+◌, ◌*◌, ◌<◌, ℤ, pos, neg_ℤ, false, List, [], ◌∷◌, length, refl, sym, ◌∙◌, arith, inl, inr}
use Rattle.std.specs.Prelude.{◌⊎◌}
use Rattle.std.specs.Char.{is_ascii_digit}
use Rattle.std.specs.List.{list_all}
use Rattle.std.proofs.lemmas.Bool.{cases_lt, cases_Bool, false≢true}
use Rattle.std.proofs.lemmas.Bool.Decides.{eqb_tells}
use Rattle.smc_types.specs.Days.{SpellsDay}
use Rattle.smc_types.specs.declared.column.FieldType.{FieldType}
use Rattle.smc_types.specs.declared.column.FieldType.TheVariants.{Count, Amount, Rate, Day, Text, RefTo}
use Rattle.smc_types.specs.declared.row.Value.{Value}
use Rattle.smc_types.specs.declared.row.Value.TheVariants.{Number as OfNumber, Day as OfDay, Text as OfText}
use Rattle.smc_tbl.specs.declared.numbers.TheConstants.{AMOUNT_DIGITS, COUNT_DIGITS, DECIMALS, MINUS, POINT, RATE_DIGITS}
use Rattle.smc_tbl.specs.Fields.{IsDigits, SpellsAmount, SpellsField, SpellsHundredths, SpellsNothing, decimal_value, hundredths}
use Rattle.smc_tbl.proofs.DayCases.{day_or_none}
use Rattle.smc_tbl.proofs.NumberLaws.{minus-not, parts-of, plain-not, spells-below, spells-decimals, spells-whole, whole-not}
use Rattle.smc_tbl.proofs.Cuts.{cut_or_lacks}

digits_or_not : (least most : ℕ) (bytes : List ℕ) → IsDigits least most bytes ⊎ ¬ IsDigits least most bytes
digits_or_not least most bytes =
    elim (cases_lt (length bytes) least) [
      | inl short ↦ inr (λ is. let some = is.some in omega arith)
      | inr some ↦ elim (cases_lt most (length bytes)) [
        | inl many ↦ inr (λ is. let few = is.few in omega arith)
        | inr few ↦ elim (cases_Bool (list_all is_ascii_digit bytes)) [
          | inl digits ↦ inl (record { some = some; few = few; digits = digits })
          | inr others ↦ inr (λ is. false≢true (sym others ∙ is.digits))
        ]
      ]
    ]

-- a value of which the fact holds, or none
abbrev pub OneOrNone : (A : Type 0) → (A → Type 0) → Type 0
OneOrNone A fact = ((value : A) × fact value) ⊎ ((value : A) → ¬ fact value)

hundredths_or_none : (most : ℕ) (text : List ℕ) → OneOrNone ℕ (SpellsHundredths most text)
hundredths_or_none most text =
    elim (cut_or_lacks POINT text) [
      | inr lacks ↦ elim (digits_or_not 1 most text) [
        | inl digits ↦ inl (100 * decimal_value text, spells-whole most (decimal_value text) text digits refl)
        | inr none ↦ inr (whole-not most text lacks none)
      ]
      | inl (whole, decimals, cut, lacks) ↦ elim (digits_or_not 1 most whole) [
        | inr none ↦ inr (λ value spells. none (parts-of most value text whole decimals cut lacks spells).whole_digits)
        | inl digits ↦ elim (digits_or_not 1 DECIMALS decimals) [
          | inr none ↦ inr (λ value spells. none (parts-of most value text whole decimals cut lacks spells).decimal_digits)
          | inl more ↦ inl (100 * decimal_value whole + hundredths decimals, spells-decimals most (decimal_value whole) (hundredths decimals) text whole decimals cut digits refl more refl)
        ]
      ]
    ]

-- an amount behind a minus
below_or_none : (rest : List ℕ) → OneOrNone ℤ (SpellsAmount (MINUS ∷ rest))
below_or_none rest =
    elim (hundredths_or_none AMOUNT_DIGITS rest) [
      | inl (units, spells) ↦ inl (neg_ℤ (pos units), spells-below (MINUS ∷ rest) rest units (neg_ℤ (pos units)) refl spells refl)
      | inr none ↦ inr (minus-not (MINUS ∷ rest) rest refl none)
    ]

-- an amount without one
above_or_none : (text : List ℕ) → ((rest : List ℕ) → text ≢ MINUS ∷ rest) → OneOrNone ℤ (SpellsAmount text)
above_or_none text plain =
    elim (hundredths_or_none AMOUNT_DIGITS text) [
      | inl (units, spells) ↦ inl (pos units, record { below = false; number = text; units = units; text_is = refl; number_is = spells; amount_is = refl })
      | inr none ↦ inr (plain-not text plain none)
    ]

amount_or_none : (text : List ℕ) → OneOrNone ℤ (SpellsAmount text)
amount_or_none [] = above_or_none [] (λ rest same. let never : ⊥ = cc in never)
amount_or_none (byte ∷ rest) =
    elim (eqb_tells byte MINUS) [
      | inl here ↦ rw here.1 (below_or_none rest)
      | inr other ↦ above_or_none (byte ∷ rest) (λ behind same. let first : byte ≡ MINUS = cc in other.1 first)
    ]

-- a field that spells no number, no day or no text spells no value
no_count : (field : List ℕ) → ¬ IsDigits 1 COUNT_DIGITS field → SpellsNothing Count field
no_count field none (OfNumber count) spells = none spells.digits
no_count field none _ spells = absurd spells

no_amount : (field : List ℕ) → ((amount : ℤ) → ¬ SpellsAmount field amount) → SpellsNothing Amount field
no_amount field none (OfNumber amount) spells = none amount spells
no_amount field none _ spells = absurd spells

no_rate : (field : List ℕ) → ((units : ℕ) → ¬ SpellsHundredths RATE_DIGITS field units) → SpellsNothing Rate field
no_rate field none (OfNumber rate) spells = none spells.units spells.number_is
no_rate field none _ spells = absurd spells

no_day : (field : List ℕ) → ((day : ℤ) → ¬ SpellsDay field day) → SpellsNothing Day field
no_day field none (OfDay day) spells = none day spells
no_day field none _ spells = absurd spells

no_text : (width : ℕ) (field : List ℕ) → width < length field → SpellsNothing (Text width) field
no_text width field wide (OfText text) spells = let fits = spells.fits in omega arith
no_text width field wide _ spells = absurd spells

-- a field spells a value in its column, or none
pub value_or_none : (kind : FieldType) (field : List ℕ) → OneOrNone Value (SpellsField kind field)
value_or_none Count field =
    elim (digits_or_not 1 COUNT_DIGITS field) [
      | inl digits ↦ inl (OfNumber (pos (decimal_value field)), record { digits = digits; count_is = refl })
      | inr none ↦ inr (no_count field none)
    ]
value_or_none Amount field = elim (amount_or_none field) [ inl (amount, spells) ↦ inl (OfNumber amount, spells) | inr none ↦ inr (no_amount field none) ]
value_or_none Rate field =
    elim (hundredths_or_none RATE_DIGITS field) [
      | inl (units, spells) ↦ inl (OfNumber (pos units), record { units = units; number_is = spells; rate_is = refl })
      | inr none ↦ inr (no_rate field none)
    ]
value_or_none Day field = elim (day_or_none field) [ inl (day, spells) ↦ inl (OfDay day, spells) | inr none ↦ inr (no_day field none) ]
value_or_none (Text width) field =
    elim (cases_lt width (length field)) [
      | inl wide ↦ inr (no_text width field wide)
      | inr fits ↦ inl (OfText field, record { fits = fits; text_is = refl })
    ]
value_or_none (RefTo table) field = inr (λ value spells. spells)
