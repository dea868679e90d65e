use Rattle.smc_query.proofs.GrammarLaws.{spells-or-stops}
use Rattle.smc_query.proofs.laws.spelled_or_stopped.Goals as goal

pub returns : goal.returns
returns c = spells-or-stops
