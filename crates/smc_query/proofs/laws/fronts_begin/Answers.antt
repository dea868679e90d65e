use Rattle.smc_query.proofs.GrammarLaws.{fronts-begin}
use Rattle.smc_query.proofs.laws.fronts_begin.Goals as goal

pub returns : goal.returns
returns c = fronts-begin
