use Rattle.smc_replies.proofs.PartLaws.{one-more}
use Rattle.smc_replies.proofs.laws.one_part_more.Goals as goal

pub returns : goal.returns
returns c = one-more
