use Rattle.smc_alone.proofs.CalmCalls.{alone-calm}
use Rattle.smc_alone.proofs.laws.alone_is_calm.Goals as goal

pub returns : goal.returns
returns c = alone-calm
