use Rattle.smc_print.proofs.number.without_last.Goals as goal
use Rattle.smc_print.proofs.DigitLaws.{ten_some}

pub nonzero_div-result : goal.nonzero_div-result
nonzero_div-result c = rw (c.in-Some.ensures.1) (ten_some c.args.count)
