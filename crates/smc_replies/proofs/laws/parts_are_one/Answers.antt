use Rattle.smc_replies.proofs.PartLaws.{command-one}
use Rattle.smc_replies.proofs.laws.parts_are_one.Goals as goal

pub returns : goal.returns
returns c = command-one c.a_day_has_one_text.ensures
