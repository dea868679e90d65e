-- A text says a day or says none.
use Rattle.std.proofs.Common.{◌≡◌, ℕ, ◌+◌, ◌-◌, ◌*◌, ℤ, List, [], ◌∷◌, get_or, refl, sym, ap, ◌∙◌, arith, inl, inr}
use Rattle.std.specs.Prelude.{◌⊎◌}
use Rattle.std.proofs.lemmas.Bool.{cases_lt}
use Rattle.std.proofs.lemmas.Bool.Decides.{eqb_tells}
use Rattle.smc_types.specs.Calendar.{IsDate, day_number, days_in_month}
use Rattle.smc_types.specs.Days.{SpellsDay, date_text}
use Rattle.smc_types.specs.declared.days.CivilDate.{CivilDate}
use Rattle.smc_types.specs.declared.days.TheConstants.{YEAR_MAX, ZERO_DIGIT}

-- texts are one or they are not
same_or_not : (a b : List ℕ) → (a ≡ b) ⊎ ¬ (a ≡ b)
same_or_not [] [] = inl refl
same_or_not [] (byte ∷ b) = inr (λ same. let never : ⊥ = cc in never)
same_or_not (byte ∷ a) [] = inr (λ same. let never : ⊥ = cc in never)
same_or_not (byte ∷ a) (other ∷ b) =
    elim (eqb_tells byte other) [
      | inr apart ↦ inr (λ same. let heads : byte ≡ other = cc in apart.1 heads)
      | inl here ↦ elim (same_or_not a b) [
        | inl rest ↦ inl (ap (λ first. first ∷ a) here.1 ∙ ap (λ l. other ∷ l) rest)
        | inr apart ↦ inr (λ same. let tails : a ≡ b = cc in apart tails)
      ]
    ]

-- the calendar has a date or has it not
date_or_not : (date : CivilDate) → IsDate date ⊎ ¬ IsDate date
date_or_not date =
    elim (cases_lt YEAR_MAX date.year) [
      | inl late ↦ inr (λ is. let year = is.year in omega arith)
      | inr year ↦ elim (cases_lt 0 date.month) [
        | inr none ↦ inr (λ is. let low = is.month_low in omega arith)
        | inl month ↦ elim (cases_lt 12 date.month) [
          | inl many ↦ inr (λ is. let high = is.month_high in omega arith)
          | inr months ↦ elim (cases_lt 0 date.day) [
            | inr none ↦ inr (λ is. let low = is.day_low in omega arith)
            | inl day ↦ elim (cases_lt (days_in_month date.year date.month) date.day) [
              | inl many ↦ inr (λ is. let high = is.day_high in omega arith)
              | inr days ↦ inl (record { year = year; month_low = month; month_high = months; day_low = day; day_high = days })
            ]
          ]
        ]
      ]
    ]

-- the number of two digits of the text
abbrev two_at : List ℕ → ℕ → ℕ
two_at text place = 10 * (get_or text place 0 - ZERO_DIGIT) + (get_or text (place + 1) 0 - ZERO_DIGIT)

-- the one date whose text this can be
abbrev date_in : List ℕ → CivilDate
date_in text = record { year = 100 * two_at text 0 + two_at text 2; month = two_at text 5; day = two_at text 8 }

same_parts : (a b : CivilDate) → a.year ≡ b.year → a.month ≡ b.month → a.day ≡ b.day → a ≡ b
same_parts a b year month day = λ i. record { year = year i; month = month i; day = day i }

date_in-text : (date : CivilDate) → date_in (date_text date) ≡ date
date_in-text date =
    let year : 100 * two_at (date_text date) 0 + two_at (date_text date) 2 ≡ date.year = omega arith in
    let month : two_at (date_text date) 5 ≡ date.month = omega arith in
    let day : two_at (date_text date) 8 ≡ date.day = omega arith in
    same_parts (date_in (date_text date)) date year month day

-- a text says a day, or none
pub day_or_none : (text : List ℕ) → ((day : ℤ) × SpellsDay text day) ⊎ ((day : ℤ) → ¬ SpellsDay text day)
day_or_none text =
    elim (same_or_not text (date_text (date_in text))) [
      | inr other ↦ inr (λ day says. other (says.text_is ∙ ap date_text (sym (date_in-text says.date)) ∙ ap (λ t. date_text (date_in t)) (sym says.text_is)))
      | inl same ↦ elim (date_or_not (date_in text)) [
        | inl is ↦ inl (day_number (date_in text), record { date = date_in text; is_date = is; text_is = same; day_is = refl })
        | inr none ↦ inr (λ day says. let found : date_in text ≡ says.date = ap date_in says.text_is ∙ date_in-text says.date in none (rw found says.is_date))
      ]
    ]
