use Rattle.smc_rules.specs.SlotRule.{SlotRule}
use Rattle.smc_laws.proofs.Always.{always}
use Rattle.smc_laws.proofs.SlotLaws.{slot_rule}
use Rattle.smc_laws.proofs.laws.slot_rule_holds.Goals as goal

pub returns : goal.returns
returns c = always SlotRule slot_rule
