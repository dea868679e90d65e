use Rattle.smc_rules.proofs.ReadBack.{unpacked-packed}
use Rattle.smc_rules.proofs.laws.words_are_read_back.Goals as goal

pub returns : goal.returns
returns c = unpacked-packed
