use Rattle.smc_query.proofs.GrammarLaws.{spells-one}
use Rattle.smc_query.proofs.laws.one_tree.Goals as goal

pub returns : goal.returns
returns c = spells-one
