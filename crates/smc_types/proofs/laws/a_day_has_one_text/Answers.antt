use Rattle.smc_types.proofs.DayLaws.{one_text_says}
use Rattle.smc_types.proofs.laws.a_day_has_one_text.Goals as goal

pub returns : goal.returns
returns c = one_text_says
