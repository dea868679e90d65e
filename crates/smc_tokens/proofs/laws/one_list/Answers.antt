use Rattle.smc_tokens.proofs.TokenLaws.{falls-into-one}
use Rattle.smc_tokens.proofs.laws.one_list.Goals as goal

pub returns : goal.returns
returns c = falls-into-one
