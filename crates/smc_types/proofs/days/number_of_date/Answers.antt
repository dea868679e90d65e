-- A date of `jiff` with these parts has the day number of the calendar.
use Rattle.std.proofs.Common.{◌≡◌, pos, ◌∙◌, ap, arith, w32, to_z, of_z}
use Rattle.std.proofs.lemmas.Int.{ints}
use Rattle.jiff_core.proofs.SignedLemmas.{signed_arith}
use Rattle.jiff_core.specs.Date.{epoch_day}
use Rattle.smc_types.proofs.CalendarLaws.{epoch_day_is}
use Rattle.smc_types.proofs.days.number_of_date.Goals as goal

pub returns-in-Ok-clause-some : goal.returns-in-Ok-clause-some
returns-in-Ok-clause-some c =
    let parts = c.in-Ok.ensures.value in
    let year : c.in-Ok.civil.year ≡ pos c.args.date.year = omega (arith, ints, parts.0, c.requires.year) in
    let month : c.in-Ok.civil.month ≡ c.args.date.month = omega (arith, ints, parts.1, c.requires.month) in
    let day : c.in-Ok.civil.day ≡ c.args.date.day = omega (arith, ints, parts.2, c.requires.day) in
    let back : to_z w32 (of_z w32 c.to_unix_epoch_day.result) ≡ c.to_unix_epoch_day.result = omega (arith, signed_arith, c.to_unix_epoch_day.ensures.bound) in
    back ∙ c.to_unix_epoch_day.ensures.value ∙ ap epoch_day c.to_plain.ensures ∙ epoch_day_is c.in-Ok.civil c.args.date year month day
