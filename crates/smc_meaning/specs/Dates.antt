-- The date of a day, counted off.
use Rattle.std.specs.Prelude.{ℕ, zero, suc, ◌-◌, nat_lt, if◌then◌else◌, ℤ, ◌-ℤ◌, unsigned_abs, List}
use Rattle.smc_types.specs.Calendar.{days_in_month, days_in_year}
use Rattle.smc_types.specs.Days.{date_text}
use Rattle.smc_types.specs.declared.days.CivilDate.{CivilDate}
use Rattle.smc_types.specs.declared.days.TheConstants.{YEAR_MAX}
use Rattle.smc_types.specs.declared.number.TheConstants.{DAY_MIN}

-- the date behind so many months of a year and so many days, where at most so many more months are counted off
unfoldable pub date_behind_months : (more year months days : ℕ) → CivilDate
date_behind_months zero year months days = record { year = year; month = suc months; day = suc days }
date_behind_months (suc more) year months days =
    if nat_lt days (days_in_month year (suc months)) then record { year = year; month = suc months; day = suc days }
    else date_behind_months more year (suc months) (days - days_in_month year (suc months))

-- the date behind so many years and so many days, where at most so many more years are counted off
unfoldable pub date_behind_years : (more years days : ℕ) → CivilDate
date_behind_years zero years days = date_behind_months 11 years 0 days
date_behind_years (suc more) years days =
    if nat_lt days (days_in_year years) then date_behind_months 11 years 0 days
    else date_behind_years more (suc years) (days - days_in_year years)

-- the date of a day of the years 0000 to 9999
abbrev pub date_of : ℤ → CivilDate
date_of day = date_behind_years YEAR_MAX 0 (unsigned_abs (day -ℤ DAY_MIN))

-- its text
abbrev pub day_text : ℤ → List ℕ
day_text day = date_text (date_of day)
