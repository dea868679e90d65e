-- The civil calendar of the years from 0000 on. Each follows the rule of today, also those before 1582.
use Rattle.std.specs.Prelude.{ℕ, zero, suc, ◌+◌, ◌-◌, ◌%◌, ◌≤◌, Bool, not, ◌&&◌, ◌||◌, ◌==◌, if◌then◌else◌, ℤ, pos, ◌-ℤ◌}
use Rattle.smc_types.specs.declared.days.CivilDate.{CivilDate}
use Rattle.smc_types.specs.declared.days.TheConstants.{YEAR_MAX}

-- every fourth year, but of the centuries only every fourth
abbrev pub is_leap_year : ℕ → Bool
is_leap_year year = (year % 4 == 0) && (not (year % 100 == 0) || (year % 400 == 0))

-- the days of a year
abbrev pub days_in_year : ℕ → ℕ
days_in_year year = if is_leap_year year then 366 else 365

-- thirty days have April, June, September and November
abbrev pub days_in_month : ℕ → ℕ → ℕ
days_in_month year month =
    if month == 2 then (if is_leap_year year then 29 else 28)
    else (if (month == 4) || (month == 6) || (month == 9) || (month == 11) then 30 else 31)

-- a date of the calendar, in the years that have four digits
pub record IsDate (date : CivilDate) : Type 0 where
  pub year : date.year ≤ YEAR_MAX
  pub month_low : 1 ≤ date.month
  pub month_high : date.month ≤ 12
  pub day_low : 1 ≤ date.day
  pub day_high : date.day ≤ days_in_month date.year date.month

-- the days of so many years, from the year 0 on
unfoldable pub days_of_years : ℕ → ℕ
days_of_years zero = 0
days_of_years (suc years) = days_of_years years + days_in_year years

-- the days of so many months of a year, from January on
unfoldable pub days_of_months : ℕ → ℕ → ℕ
days_of_months year zero = 0
days_of_months year (suc months) = days_of_months year months + days_in_month year (suc months)

-- the days from 0000-01-01 to a date
abbrev pub days_before : CivilDate → ℕ
days_before date = days_of_years date.year + days_of_months date.year (date.month - 1) + (date.day - 1)

-- the first of January 1970
abbrev pub epoch : CivilDate
epoch = record { year = 1970; month = 1; day = 1 }

-- the days from 1970-01-01 to a date, negative where it comes before
abbrev pub day_number : CivilDate → ℤ
day_number date = pos (days_before date) -ℤ pos (days_before epoch)
