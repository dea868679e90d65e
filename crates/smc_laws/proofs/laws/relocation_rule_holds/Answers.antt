use Rattle.smc_laws.specs.Laws.{Relocation}
use Rattle.smc_laws.proofs.Always.{always}
use Rattle.smc_laws.proofs.MoveLaws.{relocation_rule}
use Rattle.smc_laws.proofs.laws.relocation_rule_holds.Goals as goal

pub returns : goal.returns
returns c = always Relocation relocation_rule
