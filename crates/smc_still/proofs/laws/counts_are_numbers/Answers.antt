use Rattle.smc_still.proofs.PresentLaws.{counts-numbers}
use Rattle.smc_still.proofs.laws.counts_are_numbers.Goals as goal

pub returns : goal.returns
returns c = counts-numbers
