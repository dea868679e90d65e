use Rattle.smc_replies.proofs.PartLaws.{text-one}
use Rattle.smc_replies.proofs.laws.the_text_is_one.Goals as goal

pub returns : goal.returns
returns c = text-one c.a_day_has_one_text.ensures
