use Rattle.smc_types.proofs.DayLaws.{one_day_said}
use Rattle.smc_types.proofs.laws.a_text_says_one_day.Goals as goal

pub returns : goal.returns
returns c = one_day_said
