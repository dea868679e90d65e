use Rattle.smc_meaning.proofs.DigitLaws.{fraction-fits, one-some}
use Rattle.smc_meaning.proofs.cell.print_number.Goals as goal

pub nonzero_div-size : goal.nonzero_div-size
nonzero_div-size c = rw (c.from-one.ensures, c.pow.ensures) (one-some c.args.number.scale)

pub nonzero_rem-size : goal.nonzero_rem-size
nonzero_rem-size c = rw (c.from-one.ensures, c.pow.ensures) (one-some c.args.number.scale)

pub overflow_cast-size : goal.overflow_cast-size
overflow_cast-size c = rw (c.from-one.ensures, c.pow.ensures) (fraction-fits c.args.number.scale c.unsigned_abs-size.result c.requires)
