use Rattle.smc_print.proofs.laws.tokens_spell_the_query.Goals as goal
use Rattle.smc_print.proofs.QueryPrints.{tokens_spell}

pub returns : goal.returns
returns c = tokens_spell
