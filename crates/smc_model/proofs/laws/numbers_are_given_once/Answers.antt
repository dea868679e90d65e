use Rattle.smc_model.proofs.HistoryLaws.{given_once}
use Rattle.smc_model.proofs.laws.numbers_are_given_once.Goals as goal

pub returns : goal.returns
returns c = given_once
