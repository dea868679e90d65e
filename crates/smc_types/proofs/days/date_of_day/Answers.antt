-- The date that `jiff` gives for the day is of a year from 0 on, and has the day's number.
use Rattle.std.proofs.Common.{◌≡◌, ◌≤ℤ◌, pos, unsigned_abs, refl, sym, ◌∙◌, arith, w16, w64, to_z, of_z}
use Rattle.jiff_core.proofs.SignedLemmas.{signed_arith}
use Rattle.jiff_core.specs.Date.{epoch_day}
use Rattle.smc_types.proofs.CalendarLaws.{epoch_day_is, year_from_zero, natural_year, year_fits}
use Rattle.smc_types.proofs.days.date_of_day.Goals as goal

-- the date of `jiff` has the day's number
number_is : (c : goal.After-struct_told-1) → epoch_day c.in-Ok.civil ≡ c.args.day
number_is c =
    let back : to_z w64 (of_z w64 c.from.result) ≡ c.args.day = omega (arith, signed_arith, c.ranges.day) in
    c.in-Ok.ensures.value ∙ back

-- its year is not before 0
year_is : (c : goal.After-struct_told-1) → pos 0 ≤ℤ c.in-Ok.civil.year
year_is c = year_from_zero c.in-Ok.civil (rw (number_is c) c.requires.low)

-- and comes back from its bits
bits_are : (c : goal.After-struct_told-1) → to_z w16 (of_z w16 c.in-Ok.civil.year) ≡ c.in-Ok.civil.year
bits_are c = omega (arith, signed_arith, c.in-Ok.civil.year_in)

pub overflow_cast-result : goal.overflow_cast-result
overflow_cast-result c = rw (bits_are c) (year_fits c.in-Ok.civil.year (year_is c) c.in-Ok.civil.year_in.1)

pub returns-clause-number : goal.returns-clause-number
returns-clause-number c =
    let year : c.in-Ok.civil.year ≡ pos (unsigned_abs (to_z w16 (of_z w16 c.in-Ok.civil.year))) =
    rw (bits_are c) (natural_year c.in-Ok.civil.year (year_is c)) in
    sym (epoch_day_is c.in-Ok.civil (record { year = unsigned_abs (to_z w16 (of_z w16 c.in-Ok.civil.year)); month = c.in-Ok.civil.month; day = c.in-Ok.civil.day }) year refl refl) ∙ number_is c
