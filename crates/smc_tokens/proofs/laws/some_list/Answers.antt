use Rattle.smc_tokens.proofs.FallLaws.{falls-into-some}
use Rattle.smc_tokens.proofs.laws.some_list.Goals as goal

pub returns : goal.returns
returns c = falls-into-some
