-- The text of a day, `YYYY-MM-DD` in digits.
use Rattle.std.specs.Prelude.{◌≡◌, ℕ, ◌+◌, ◌/◌, ◌%◌, ℤ, ◌≤ℤ◌, List, [], ◌∷◌, ◌++◌}
use Rattle.smc_types.specs.Calendar.{IsDate, day_number}
use Rattle.smc_types.specs.declared.days.CivilDate.{CivilDate}
use Rattle.smc_types.specs.declared.days.TheConstants.{DASH, ZERO_DIGIT}
use Rattle.smc_types.specs.declared.number.TheConstants.{DAY_MIN, DAY_MAX}

-- two decimal digits
abbrev pub digits : ℕ → List ℕ
digits number = (ZERO_DIGIT + number / 10) ∷ (ZERO_DIGIT + number % 10) ∷ []

-- four digits of the year, two of the month and two of the day, with dashes between them
abbrev pub date_text : CivilDate → List ℕ
date_text date = digits (date.year / 100) ++ digits (date.year % 100) ++ DASH ∷ [] ++ digits date.month ++ DASH ∷ [] ++ digits date.day

-- the text is that of a date, and the day is its number
pub record SpellsDay (text : List ℕ) (day : ℤ) : Type 0 where
  pub date : CivilDate
  pub is_date : IsDate date
  pub text_is : text ≡ date_text date
  pub day_is : day ≡ day_number date

-- a day of the years 0000 to 9999
pub record IsDay (day : ℤ) : Type 0 where
  pub low : DAY_MIN ≤ℤ day
  pub high : day ≤ℤ DAY_MAX
