-- A text says one day, and a day has one text.
use Rattle.std.proofs.Common.{◌≡◌, ℕ, ◌+◌, ◌*◌, ◌/◌, ◌%◌, ◌<◌, inl, inr, IsSome, IfSome, Option, Some, None, List, [], ◌∷◌, length, get_or, refl, sym, ap, ◌∙◌, arith, ℤ, pos, ◌<ℤ◌}
use Rattle.std.proofs.lemmas.Bool.{cases_order}
use Rattle.std.proofs.lemmas.Int.{ints}
use Rattle.std.proofs.lemmas.Slice.Eq.{text_from_reads}
use Rattle.jiff_core.specs.Calendar.{day_count, IsCivilDate}
use Rattle.jiff_core.proofs.CalendarLemmas.{day_count-lt_year, day_count-lt_month, day_count-day, day_count_bounds}
use Rattle.smc_types.specs.declared.days.CivilDate.{CivilDate}
use Rattle.smc_types.specs.declared.days.TheConstants.{DASH, ZERO_DIGIT}
use Rattle.smc_types.specs.Calendar.{IsDate, days_before, day_number}
use Rattle.smc_types.specs.Days.{digits, date_text, SpellsDay, IsDay}
use Rattle.smc_types.proofs.CalendarLaws.{count_same, days_before-epoch}

-- the first of two digits
tens_are : (tens ones number : ℕ) → tens ∷ ones ∷ [] ≡ digits number → tens ≡ ZERO_DIGIT + number / 10
tens_are tens ones number are = ap (λ text. get_or text 0 0) are

-- and the second
ones_are : (tens ones number : ℕ) → tens ∷ ones ∷ [] ≡ digits number → ones ≡ ZERO_DIGIT + number % 10
ones_are tens ones number are = ap (λ text. get_or text 1 0) are

-- a text with these digits and dashes is that of the date
pub date_text_is : (text : List ℕ) (century year month day : ℕ) → year < 100 → length text ≡ 10
    → get_or text 0 0 ∷ get_or text 1 0 ∷ [] ≡ digits century → get_or text 2 0 ∷ get_or text 3 0 ∷ [] ≡ digits year → get_or text 4 0 ≡ DASH
    → get_or text 5 0 ∷ get_or text 6 0 ∷ [] ≡ digits month → get_or text 7 0 ≡ DASH → get_or text 8 0 ∷ get_or text 9 0 ∷ [] ≡ digits day
    → text ≡ date_text (record { year = century * 100 + year; month = month; day = day })
date_text_is text century year month day small all first second dash third dash₂ fourth =
    let high : century ≡ (century * 100 + year) / 100 = omega arith in
    let low : year ≡ (century * 100 + year) % 100 = omega arith in
    let whole : ℕ = century * 100 + year in
    text_from_reads text (date_text (record { year = whole; month = month; day = day })) all (
      tens_are _ _ century first ∙ ap (λ number. ZERO_DIGIT + number / 10) high,
      (
        ones_are _ _ century first ∙ ap (λ number. ZERO_DIGIT + number % 10) high,
        (
          tens_are _ _ year second ∙ ap (λ number. ZERO_DIGIT + number / 10) low,
          (
            ones_are _ _ year second ∙ ap (λ number. ZERO_DIGIT + number % 10) low,
            (dash, (tens_are _ _ month third, (ones_are _ _ month third, (dash₂, (tens_are _ _ day fourth, (ones_are _ _ day fourth, tt)))))),
          ),
        ),
      ),
    )

-- a day that was read is the number of the date in the text
pub read_is : (text : List ℕ) (date : CivilDate) (day : Option ℤ) → text ≡ date_text date → (IsSome day → IsDate date) → IfSome day (λ number. number ≡ day_number date) → IfSome day (SpellsDay text)
read_is text date None text_is is number = tt
read_is text date (Some day) text_is is number = record { date = date; is_date = is refl; text_is = text_is; day_is = number }

-- a date by its parts
abbrev dated : ℕ → ℕ → ℕ → CivilDate
dated year month day = record { year = year; month = month; day = day }

-- dates of the same parts are one
same_parts : (a b : CivilDate) → a.year ≡ b.year → a.month ≡ b.month → a.day ≡ b.day → a ≡ b
same_parts a b year month day =
    ap (λ y. dated y a.month a.day) year ∙ ap (λ m. dated b.year m a.day) month ∙ ap (λ d. dated b.year b.month d) day

-- dates with one text are one
date_text_injective : (a b : CivilDate) → date_text a ≡ date_text b → a ≡ b
date_text_injective a b same =
    let y1 : ZERO_DIGIT + a.year / 100 / 10 ≡ ZERO_DIGIT + b.year / 100 / 10 = ap (λ text. get_or text 0 0) same in
    let y2 : ZERO_DIGIT + a.year / 100 % 10 ≡ ZERO_DIGIT + b.year / 100 % 10 = ap (λ text. get_or text 1 0) same in
    let y3 : ZERO_DIGIT + a.year % 100 / 10 ≡ ZERO_DIGIT + b.year % 100 / 10 = ap (λ text. get_or text 2 0) same in
    let y4 : ZERO_DIGIT + a.year % 100 % 10 ≡ ZERO_DIGIT + b.year % 100 % 10 = ap (λ text. get_or text 3 0) same in
    let m1 : ZERO_DIGIT + a.month / 10 ≡ ZERO_DIGIT + b.month / 10 = ap (λ text. get_or text 5 0) same in
    let m2 : ZERO_DIGIT + a.month % 10 ≡ ZERO_DIGIT + b.month % 10 = ap (λ text. get_or text 6 0) same in
    let d1 : ZERO_DIGIT + a.day / 10 ≡ ZERO_DIGIT + b.day / 10 = ap (λ text. get_or text 8 0) same in
    let d2 : ZERO_DIGIT + a.day % 10 ≡ ZERO_DIGIT + b.day % 10 = ap (λ text. get_or text 9 0) same in
    same_parts a b (omega arith) (omega arith) (omega arith)

-- a date of the calendar is one of `jiff`
civil_is : (date : CivilDate) → IsDate date → IsCivilDate (pos date.year) date.month date.day
civil_is date is = ((omega (arith, ints), omega (arith, ints, is.year)), (is.month_low, is.month_high), (is.day_low, is.day_high))

-- a date of an earlier year has fewer days before it
earlier_year : (a b : CivilDate) → IsDate a → IsDate b → a.year < b.year → days_before a < days_before b
earlier_year a b is_a is_b lt =
    let before : pos a.year <ℤ pos b.year = omega (arith, ints) in
    omega (
      arith,
      count_same a is_a.day_low,
      count_same b is_b.day_low,
      day_count-lt_year (pos a.year) a.month a.day (pos b.year) b.month b.day (civil_is a is_a) is_b.day_low before,
    )

-- and so has a date of an earlier month
earlier_month : (a b : CivilDate) → IsDate a → IsDate b → a.year ≡ b.year → a.month < b.month → days_before a < days_before b
earlier_month a b is_a is_b year lt =
    let moved : day_count (pos a.year) a.month a.day ≡ day_count (pos b.year) a.month a.day = ap (λ y. day_count (pos y) a.month a.day) year in
    let civil = rw year at (civil_is a is_a) in
    omega (arith, moved, count_same a is_a.day_low, count_same b is_b.day_low, day_count-lt_month (pos b.year) a.month a.day b.month b.day civil is_b.day_low lt)

-- dates with as many days before them are of one year
year_injective : (a b : CivilDate) → IsDate a → IsDate b → days_before a ≡ days_before b → a.year ≡ b.year
year_injective a b is_a is_b same = elim (cases_order a.year b.year) [
  | inl year ↦ year
  | inr apart ↦ elim apart [
    | inl lt ↦ let before = earlier_year a b is_a is_b lt in absurd (omega arith)
    | inr lt ↦ let before = earlier_year b a is_b is_a lt in absurd (omega arith)
  ]
]

-- and of one month
month_injective : (a b : CivilDate) → IsDate a → IsDate b → days_before a ≡ days_before b → a.year ≡ b.year → a.month ≡ b.month
month_injective a b is_a is_b same year = elim (cases_order a.month b.month) [
  | inl month ↦ month
  | inr apart ↦ elim apart [
    | inl lt ↦ let before = earlier_month a b is_a is_b year lt in absurd (omega arith)
    | inr lt ↦ let before = earlier_month b a is_b is_a (sym year) lt in absurd (omega arith)
  ]
]

-- and are one day of it
day_injective : (a b : CivilDate) → IsDate a → IsDate b → days_before a ≡ days_before b → a.year ≡ b.year → a.month ≡ b.month → a.day ≡ b.day
day_injective a b is_a is_b same year month =
    let moved : day_count (pos a.year) a.month a.day ≡ day_count (pos b.year) b.month a.day =
    ap (λ y. day_count (pos y) a.month a.day) year ∙ ap (λ m. day_count (pos b.year) m a.day) month in
    omega (arith, moved, count_same a is_a.day_low, count_same b is_b.day_low, day_count-day (pos b.year) b.month a.day b.day is_a.day_low is_b.day_low)

-- dates with one number are one
day_number_injective : (a b : CivilDate) → IsDate a → IsDate b → day_number a ≡ day_number b → a ≡ b
day_number_injective a b is_a is_b same =
    let count : days_before a ≡ days_before b = omega (arith, ints, same) in
    let year = year_injective a b is_a is_b count in
    let month = month_injective a b is_a is_b count year in
    same_parts a b year month (day_injective a b is_a is_b count year month)

-- a text says one day alone
pub one_day_said : (text : List ℕ) (a b : ℤ) → SpellsDay text a → SpellsDay text b → a ≡ b
one_day_said text a b says_a says_b =
    says_a.day_is ∙ ap day_number (date_text_injective says_a.date says_b.date (sym says_a.text_is ∙ says_b.text_is)) ∙ sym says_b.day_is

-- a day is said by one text alone
pub one_text_says : (a b : List ℕ) (day : ℤ) → SpellsDay a day → SpellsDay b day → a ≡ b
one_text_says a b day says_a says_b =
    says_a.text_is ∙ ap date_text (day_number_injective says_a.date says_b.date says_a.is_date says_b.is_date (sym says_a.day_is ∙ says_b.day_is)) ∙ sym says_b.text_is

-- a day that is said is one of the years 0000 to 9999
pub said_in_range : (text : List ℕ) (day : ℤ) → SpellsDay text day → IsDay day
said_in_range text day says =
    let count = count_same says.date says.is_date.day_low in
    let bounds = day_count_bounds (pos says.date.year) says.date.month says.date.day (civil_is says.date says.is_date) in
    record {
      low = omega (arith, ints, says.day_is, days_before-epoch);
      high = omega (arith, ints, says.day_is, days_before-epoch, count, bounds.1);
    }
