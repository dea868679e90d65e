use Rattle.smc_rules.proofs.FirstState.{epoch-first, slot-first, relocation-first}
use Rattle.smc_rules.proofs.laws.regions_begin_with_the_rules.Goals as goal

pub returns-clause-epochs : goal.returns-clause-epochs
returns-clause-epochs c = epoch-first

pub returns-clause-slots : goal.returns-clause-slots
returns-clause-slots c = slot-first

pub returns-clause-moves : goal.returns-clause-moves
returns-clause-moves c = relocation-first
