use Rattle.smc_query.proofs.GrammarLaws.{spelled-never-stops}
use Rattle.smc_query.proofs.laws.spelled_never_stops.Goals as goal

pub returns : goal.returns
returns c = spelled-never-stops
