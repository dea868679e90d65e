use Rattle.std.proofs.Common.{arith}
use Rattle.smc_tbl.proofs.Counts.{below_eleven, below_more}
use Rattle.smc_tbl.proofs.numbers.read_digits.Goals as goal

pub overflow_mul-value : goal.overflow_mul-value
overflow_mul-value c = omega (arith, below_eleven c.loop-digit.value c.loop-digit.digit-index c.loop-digit.invariant.bound (omega arith))

pub overflow_add-value : goal.overflow_add-value
overflow_add-value c = omega (arith, below_eleven c.loop-digit.value c.loop-digit.digit-index c.loop-digit.invariant.bound (omega arith))

pub returns-clause-small : goal.returns-clause-small
returns-clause-small c = below_more c.loop-digit.value c.loop-digit.digit-index c.args.most c.loop-digit.invariant.bound (omega arith)
