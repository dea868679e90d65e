use Rattle.smc_plan.proofs.CalendarLaws.{date-taken, one-calendar}
use Rattle.smc_plan.proofs.laws.one_calendar.Goals as goal

pub returns-clause-same : goal.returns-clause-same
returns-clause-same c = one-calendar

pub returns-clause-taken : goal.returns-clause-taken
returns-clause-taken c = date-taken
