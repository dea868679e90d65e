use Rattle.smc_meaning.proofs.BoundLaws.{kind_within, value_has}
use Rattle.smc_meaning.proofs.laws.values_are_bounded.Goals as goal

pub returns-clause-value : goal.returns-clause-value
returns-clause-value c = value_has

pub returns-clause-limit : goal.returns-clause-limit
returns-clause-limit c = kind_within
