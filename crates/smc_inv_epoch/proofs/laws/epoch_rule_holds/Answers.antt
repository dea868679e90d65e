use Rattle.smc_inv_epoch.proofs.EveryList.{rule-then}
use Rattle.smc_inv_epoch.proofs.laws.epoch_rule_holds.Goals as goal

pub returns : goal.returns
returns c shape opening first m valid h = rule-then shape valid opening first m h
