use Rattle.smc_print.proofs.laws.tokens_of_texts_are_read.Goals as goal
use Rattle.smc_print.proofs.ReadAgain.{read_again}

pub returns : goal.returns
returns c = read_again
