-- The date that is counted off from a day's number is the one that has this number.
use Rattle.std.proofs.Common.{◌≡◌, inl, inr, ℕ, zero, suc, ◌+◌, ◌-◌, ◌<◌, ◌≤◌, Bool, true, false, if◌then◌else◌, ℤ, ◌-ℤ◌, unsigned_abs, List, refl, sym, ap, ◌∙◌, arith}
use Rattle.std.proofs.lemmas.Bool.{cases_order, cond-true, cond-false, lt-ltb, le-ltb}
use Rattle.std.proofs.lemmas.Int.{ints}
use Rattle.smc_types.specs.Calendar.{IsDate, day_number, days_before, days_in_month, days_in_year, days_of_months, days_of_years, epoch, is_leap_year}
use Rattle.smc_types.specs.Days.{SpellsDay, date_text}
use Rattle.smc_types.specs.declared.days.CivilDate.{CivilDate}
use Rattle.smc_types.specs.declared.days.TheConstants.{YEAR_MAX}
use Rattle.smc_types.specs.declared.number.TheConstants.{DAY_MIN}
use Rattle.smc_meaning.specs.Dates.{date_behind_months, date_behind_years, date_of, day_text}

-- a date by its parts
abbrev dated : ℕ → ℕ → ℕ → CivilDate
dated year month day = record { year = year; month = month; day = day }

same_date : (year month day other_month other_day : ℕ) → month ≡ other_month → day ≡ other_day → dated year month day ≡ dated year other_month other_day
same_date year month day other_month other_day months days = ap (λ m. dated year m day) months ∙ ap (λ d. dated year other_month d) days

-- ---- months

-- no month takes days away
months_grow : (year from more : ℕ) → days_of_months year from ≤ days_of_months year (more + from)
unfolding days_of_months
months_grow year from zero = let none : 0 + from ≡ from = omega arith in rw none (omega arith)
months_grow year from (suc more) =
    let next : suc more + from ≡ suc (more + from) = omega arith in
    let grown = months_grow year from more in
    rw next (omega (arith, grown))

-- a whole month lies before a later one
month_before : (year from to : ℕ) → from < to → days_of_months year from + days_in_month year (suc from) ≤ days_of_months year to
unfolding days_of_months
month_before year from to earlier =
    let far : to ≡ (to - suc from) + suc from = omega (arith, earlier) in
    let grown : days_of_months year (suc from) ≤ days_of_months year ((to - suc from) + suc from) = months_grow year (suc from) (to - suc from) in
    rw far grown

-- the date in its year
module _ (year over day : ℕ) (inside : day < days_in_month year (suc over)) where
  months_counted : (more months days : ℕ) → months ≤ over → over ≤ months + more → days + days_of_months year months ≡ days_of_months year over + day
      → date_behind_months more year months days ≡ dated year (suc over) (suc day)
  unfolding date_behind_months days_of_months
  months_counted zero months days from to is =
      let same : months ≡ over = omega (arith, from, to) in
      let whole : days_of_months year months ≡ days_of_months year over = ap (λ m. days_of_months year m) same in
      same_date year (suc months) (suc days) (suc over) (suc day) (ap suc same) (omega (arith, is, whole))
  months_counted (suc more) months days from to is = elim (cases_order months over) [
    | inl same ↦
        let whole : days_of_months year months ≡ days_of_months year over = ap (λ m. days_of_months year m) same in
        let left : days ≡ day = omega (arith, is, whole) in
        let few : days < days_in_month year (suc months) = rw (left, same) inside in
        cond-true _ _ _ (lt-ltb days (days_in_month year (suc months)) few) ∙ same_date year (suc months) (suc days) (suc over) (suc day) (ap suc same) (ap suc left)
    | inr apart ↦ elim apart [
      | inl earlier ↦
          let before = month_before year months over earlier in
          let many : days_in_month year (suc months) ≤ days = omega (arith, before, is) in
          cond-false _ _ _ (le-ltb days (days_in_month year (suc months)) many)
          ∙ months_counted more (suc months) (days - days_in_month year (suc months)) (omega (arith, earlier)) (omega (arith, to)) (omega (arith, is, many))
      | inr later ↦ absurd (omega (arith, later, from))
    ]
  ]

-- the months of a year are its days
year_of_months : (year : ℕ) → days_of_months year 12 ≡ days_in_year year
unfolding days_of_months
year_of_months year = by (is_leap_year year)
  where
    by : (leap : Bool) → 0 + 31 + (if leap then 29 else 28) + 31 + 30 + 31 + 30 + 31 + 31 + 30 + 31 + 30 + 31 ≡ (if leap then 366 else 365)
    by true = refl
    by false = refl

-- ---- years

years_grow : (from more : ℕ) → days_of_years from ≤ days_of_years (more + from)
unfolding days_of_years
years_grow from zero = let none : 0 + from ≡ from = omega arith in rw none (omega arith)
years_grow from (suc more) =
    let next : suc more + from ≡ suc (more + from) = omega arith in
    let grown = years_grow from more in
    rw next (omega (arith, grown))

-- a whole year lies before a later one
year_before : (from to : ℕ) → from < to → days_of_years from + days_in_year from ≤ days_of_years to
unfolding days_of_years
year_before from to earlier =
    let far : to ≡ (to - suc from) + suc from = omega (arith, earlier) in
    let grown : days_of_years (suc from) ≤ days_of_years ((to - suc from) + suc from) = years_grow (suc from) (to - suc from) in
    rw far grown

-- the date
module _ (year over day : ℕ) (months_in : over < 12) (inside : day < days_in_month year (suc over)) where
  -- its year alone is left
  in_year : (days : ℕ) → days ≡ days_of_months year over + day → date_behind_months 11 year 0 days ≡ dated year (suc over) (suc day)
  unfolding days_of_months
  in_year days is = months_counted year over day inside 11 0 days (omega arith) (omega (arith, months_in)) (omega (arith, is))

  -- and fewer days than the year has
  few_left : days_of_months year over + day < days_in_year year
  few_left =
      let before = month_before year over 12 months_in in
      let whole = year_of_months year in
      omega (arith, before, whole, inside)

  years_counted : (more years days : ℕ) → years ≤ year → year ≤ years + more → days + days_of_years years ≡ days_of_years year + (days_of_months year over + day)
      → date_behind_years more years days ≡ dated year (suc over) (suc day)
  unfolding date_behind_years days_of_years
  years_counted zero years days from to is =
      let same : years ≡ year = omega (arith, from, to) in
      let whole : days_of_years years ≡ days_of_years year = ap days_of_years same in
      rw same (in_year days (omega (arith, is, whole)))
  years_counted (suc more) years days from to is = elim (cases_order years year) [
    | inl same ↦
        let whole : days_of_years years ≡ days_of_years year = ap days_of_years same in
        let left : days ≡ days_of_months year over + day = omega (arith, is, whole) in
        let few : days < days_in_year years = rw (left, same) few_left in
        cond-true _ _ _ (lt-ltb days (days_in_year years) few) ∙ (rw same (in_year days left))
    | inr apart ↦ elim apart [
      | inl earlier ↦
          let before = year_before years year earlier in
          let many : days_in_year years ≤ days = omega (arith, before, is) in
          cond-false _ _ _ (le-ltb days (days_in_year years) many)
          ∙ years_counted more (suc years) (days - days_in_year years) (omega (arith, earlier)) (omega (arith, to)) (omega (arith, is, many))
      | inr later ↦ absurd (omega (arith, later, from))
    ]
  ]

-- the first of January 1970 is this many days behind the first day
days_before-epoch : days_before epoch ≡ 719_528
unfolding days_of_years days_of_months
days_before-epoch = refl

-- the date of a date's number is the date
pub date_of-number : (date : CivilDate) → IsDate date → date_of (day_number date) ≡ date
unfolding days_of_years
date_of-number date is =
    let low = is.month_low in
    let high = is.month_high in
    let first = is.day_low in
    let last = is.day_high in
    let month : suc (date.month - 1) ≡ date.month = omega (arith, low) in
    let day : suc (date.day - 1) ≡ date.day = omega (arith, first) in
    let inside : date.day - 1 < days_in_month date.year (suc (date.month - 1)) = rw month (omega (arith, first, last)) in
    let days : unsigned_abs (day_number date -ℤ DAY_MIN) ≡ days_of_years date.year + (days_of_months date.year (date.month - 1) + (date.day - 1)) =
    omega (arith, ints, days_before-epoch) in
    years_counted date.year (date.month - 1) (date.day - 1) (omega (arith, low, high)) inside YEAR_MAX 0 (unsigned_abs (day_number date -ℤ DAY_MIN))
    (omega arith) (omega (arith, is.year)) (omega (arith, days))
    ∙ same_date date.year (suc (date.month - 1)) (suc (date.day - 1)) date.month date.day month day

-- the text that says a day is that of its date
pub day_text-says : (text : List ℕ) (day : ℤ) → SpellsDay text day → text ≡ day_text day
day_text-says text day says = says.text_is ∙ ap date_text (sym (ap date_of says.day_is ∙ date_of-number says.date says.is_date))
