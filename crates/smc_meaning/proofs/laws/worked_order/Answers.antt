use Rattle.std.proofs.Common.{refl}
use Rattle.smc_meaning.proofs.laws.worked_order.Goals as goal

pub returns-clause-all : goal.returns-clause-all
returns-clause-all c = refl

pub returns-clause-first : goal.returns-clause-first
returns-clause-first c = refl

pub returns-clause-none : goal.returns-clause-none
returns-clause-none c = refl
