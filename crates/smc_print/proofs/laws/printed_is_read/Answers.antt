use Rattle.smc_print.proofs.laws.printed_is_read.Goals as goal
use Rattle.smc_print.proofs.PrintedRead.{printed_read}

pub returns : goal.returns
returns c = printed_read
