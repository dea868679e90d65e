use Rattle.smc_types.proofs.DayLaws.{said_in_range}
use Rattle.smc_types.proofs.laws.a_text_says_a_day_in_range.Goals as goal

pub returns : goal.returns
returns c = said_in_range
