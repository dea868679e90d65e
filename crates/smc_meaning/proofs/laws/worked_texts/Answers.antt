use Rattle.std.proofs.Common.{◌≡◌, List, ℕ, [], ◌∷◌, ◌++◌, pos, codes, decimal, refl, sym, ap, ◌∙◌, arith}
use Rattle.std.specs.Fmt.{digits}
use Rattle.smc_types.specs.Calendar.{IsDate, day_number, days_of_months, days_of_years}
use Rattle.smc_types.specs.Days.{date_text}
use Rattle.smc_types.specs.declared.days.CivilDate.{CivilDate}
use Rattle.smc_meaning.specs.Dates.{day_text}
use Rattle.smc_meaning.specs.declared.answer.TheConstants.{NEWLINE}
use Rattle.smc_meaning.proofs.DateLaws.{date_of-number}
use Rattle.smc_meaning.proofs.laws.worked_texts.Goals as goal

pub returns-clause-count : goal.returns-clause-count
unfolding digits
returns-clause-count c = refl

pub returns-clause-kinds : goal.returns-clause-kinds
unfolding digits
returns-clause-kinds c = refl

pub returns-clause-nothing : goal.returns-clause-nothing
unfolding digits
returns-clause-nothing c = refl

-- the first of March
abbrev march : CivilDate
march = record { year = 1995; month = 3; day = 1 }

march_is : IsDate march
march_is = record {
  year = omega arith;
  month_low = omega arith;
  month_high = omega arith;
  day_low = omega arith;
  day_high = omega arith;
}

march_number : day_number march ≡ pos 9_190
unfolding days_of_years days_of_months
march_number = refl

march_text : day_text (pos 9_190) ≡ date_text march
march_text = ap day_text (sym march_number) ∙ ap date_text (date_of-number march march_is)

pub returns-clause-day : goal.returns-clause-day
unfolding digits
returns-clause-day c = ap (λ (text : List ℕ). codes "rows " ++ decimal 1 ++ NEWLINE ∷ (((text ++ []) ++ NEWLINE ∷ []) ++ [])) march_text
