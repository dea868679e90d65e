-- The digits and dashes that were read are the text of the date.
use Rattle.std.proofs.Common.{◌≡◌, ◌+◌, ◌*◌}
use Rattle.smc_types.specs.declared.days.CivilDate.{CivilDate}
use Rattle.smc_types.specs.Days.{date_text}
use Rattle.smc_types.proofs.DayLaws.{date_text_is, read_is}
use Rattle.smc_types.proofs.days.read_day.Goals as goal

pub returns-clause-some : goal.returns-clause-some
returns-clause-some c =
    let date : CivilDate = record { year = c.from.result * 100 + c.from-2.result; month = c.in_ok-month.month; day = c.in_ok-day.day } in
    let text_is : c.args.text.now ≡ date_text date = rw (c.from.ensures, c.from-2.ensures)
    (date_text_is c.args.text.now c.in_ok-century.century c.in_ok-year.year c.in_ok-month.month c.in_ok-day.day c.in_ok-year.ensures.small
    c.if-text-ne-DAY_BYTES.false c.in_ok-century.ensures.some c.in_ok-year.ensures.some c.if-text-ne-DASH.false c.in_ok-month.ensures.some c.if-text-ne-DASH-2.false c.in_ok-day.ensures.some) in
    read_is c.args.text.now date c.number_of_date.result text_is c.number_of_date.ensures.is.0 c.number_of_date.ensures.some
