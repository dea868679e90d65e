use Rattle.std.proofs.Common.{[], refl}
use Rattle.smc_machine.proofs.PlayLaws.{Reach-step}
use Rattle.smc_machine.proofs.laws.steps_stay_in_reach.Goals as goal

pub returns-clause-opened : goal.returns-clause-opened
returns-clause-opened c = λ shape start. ([], refl)

pub returns-clause-stepped : goal.returns-clause-stepped
returns-clause-stepped c = Reach-step
