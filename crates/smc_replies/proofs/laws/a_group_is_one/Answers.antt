use Rattle.smc_replies.proofs.GroupFronts.{group-text-one}
use Rattle.smc_replies.proofs.laws.a_group_is_one.Goals as goal

pub returns : goal.returns
returns c = group-text-one c.a_day_has_one_text.ensures
