use Rattle.smc_laws.specs.Laws.{AllRules}
use Rattle.smc_laws.proofs.Always.{always, all_rules}
use Rattle.smc_laws.proofs.laws.all_rules_hold.Goals as goal

pub returns : goal.returns
returns c = always (λ shape opening s. AllRules shape opening s) all_rules
