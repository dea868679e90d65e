-- The days of the calendar are those of `jiff`, whose years begin at -10000.
use Rattle.std.proofs.Common.{◌≡◌, ℕ, zero, suc, ◌+◌, ◌-◌, ◌≤◌, refl, ap, arith, ℤ, pos, negsuc, Fits, w16, ◌-ℤ◌, ◌≤ℤ◌, unsigned_abs}
use Rattle.std.proofs.lemmas.Int.{ints, by_lt_z}
use lib.Dec.{T}
use lib.Signed.{non_neg}
use Rattle.jiff_core.specs.Calendar.{days_of_years as jiff_years, days_of_months as jiff_months, days_in_year as jiff_year, day_count, days_from_civil}
use Rattle.jiff_core.proofs.CalendarLemmas.{day_count-epoch, day_count-lt_year, days_from_civil-day_count}
use Rattle.jiff_core.proofs.DateLemmas.{civil as civil_date}
use Rattle.jiff_core.specs.Date.{epoch_day}
use Rattle.jiff_core.specs.declared.civil.date.Date.{Date}
use Rattle.smc_types.specs.declared.number.TheConstants.{DAY_MIN}
use Rattle.jiff_core.proofs.MarchLemmas.{day_count-early}
use Rattle.jiff_core.proofs.SignedLemmas.{signed_arith}
use Rattle.smc_types.specs.declared.days.CivilDate.{CivilDate}
use Rattle.smc_types.specs.Calendar.{days_in_year, days_in_month, days_of_years, days_of_months, days_before, epoch, day_number}

-- the days of the first months are the same
months_same : (year months : ℕ) → jiff_months (pos year) months ≡ days_of_months year months
unfolding jiff_months days_of_months
months_same year zero = refl
months_same year (suc months) = ap (λ days. days + days_in_month year (suc months)) (months_same year months)

-- a year behind the first ones is the same
year_same : (from years : ℕ) → from ≡ 10000 → jiff_year (pos (years + from) -ℤ pos 10000) ≡ days_in_year years
year_same from years at =
    let back : pos (years + from) -ℤ pos 10000 ≡ pos years = omega (arith, ints) in
    ap jiff_year back

-- the years from 0 on are those behind the first ones
years_same : (from years : ℕ) → from ≡ 10000 → jiff_years (years + from) ≡ jiff_years from + days_of_years years
unfolding jiff_years days_of_years
years_same from zero at = let none : 0 + from ≡ from = omega arith in rw none (omega arith)
years_same from (suc years) at =
    let next : suc years + from ≡ suc (years + from) = omega arith in
    rw next (omega (arith, years_same from years at, year_same from years at))

-- 0000-01-01 in days from the year -10000
zero_count : day_count (pos 0) 1 1 ≡ 3_652_425
zero_count = day_count-early (pos 0) 9999 1 1 refl (omega arith) (omega arith) (omega arith)

-- which are the days of those years
first_years : jiff_years 10000 ≡ 3_652_425
unfolding day_count jiff_months
first_years = let count = zero_count in omega arith

-- a date is as many days behind 0000-01-01 in both
pub count_same : (date : CivilDate) → 1 ≤ date.day → day_count (pos date.year) date.month date.day ≡ 3_652_425 + days_before date
unfolding day_count
count_same date first =
    omega (arith, years_same 10000 date.year refl, first_years, months_same date.year (date.month - 1))

-- 1970-01-01 is this many days behind 0000-01-01
pub days_before-epoch : days_before epoch ≡ 719_528
days_before-epoch = let count = count_same epoch (omega arith) in omega (arith, day_count-epoch)

-- a date has the day number of `jiff`
pub day_number_is : (date : CivilDate) → 1 ≤ date.day → days_from_civil (pos date.year) date.month date.day ≡ day_number date
unfolding days_from_civil
day_number_is date first =
    let same : day_count (pos 1970) 1 1 ≡ 3_652_425 + days_before epoch = count_same epoch (omega arith) in
    rw (count_same date first, same) (omega (arith, ints))

-- a date of `jiff` with the same parts has the same day number
pub epoch_day_is : (civil : Date) (date : CivilDate) → civil.year ≡ pos date.year → civil.month ≡ date.month → civil.day ≡ date.day → epoch_day civil ≡ day_number date
epoch_day_is civil date year month day =
    let first : 1 ≤ date.day = rw day at civil.day_in.0 in
    rw (year, month, day) (day_number_is date first)

-- a day from 0000-01-01 on is of a year from 0 on
pub year_from_zero : (civil : Date) → DAY_MIN ≤ℤ epoch_day civil → pos 0 ≤ℤ civil.year
year_from_zero civil low = by_lt_z civil.year (pos 0)
    (λ before. absurd (omega (
      arith,
      signed_arith,
      days_from_civil-day_count civil.year civil.month civil.day,
      zero_count,
      day_count-lt_year civil.year civil.month civil.day (pos 0) 1 1 (civil_date civil) (omega arith) before,
    )))
    (λ after. after)

-- a year from 0 on is a natural number
pub natural_year : (year : ℤ) → pos 0 ≤ℤ year → year ≡ pos (unsigned_abs year)
natural_year (pos year) low = refl
natural_year (negsuc year) low = absurd (omega (arith, ints))

-- and it fits its type
pub year_fits : (year : ℤ) → pos 0 ≤ℤ year → year ≤ℤ pos 9999 → T (non_neg year) × Fits w16 (unsigned_abs year)
year_fits (pos year) low high = (tt, omega (arith, ints))
year_fits (negsuc year) low high = absurd (omega (arith, ints))
