use Rattle.smc_shape.proofs.AskedLaws.{no-fault_of, fault_of-none}
use Rattle.smc_shape.proofs.laws.faults_are_exact.Goals as goal

pub returns : goal.returns
returns c passes colls = (no-fault_of passes colls, fault_of-none passes colls)
