use Rattle.smc_inv_epoch.proofs.RoundLaws.{rounds-then}
use Rattle.smc_inv_epoch.proofs.laws.round_word_rule_holds.Goals as goal

pub returns : goal.returns
returns c shape opening first m valid h = rounds-then shape valid opening first m h
