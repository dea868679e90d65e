use Rattle.std.proofs.Common.{arith}
use Rattle.std.proofs.lemmas.Int.{ints, clamps}
use Rattle.smc_filter.proofs.word.moved_within.Goals as goal

pub returns : goal.returns
returns c = omega (arith, ints, clamps, c.clamp.ensures.value, c.min.ensures, c.requires.low, c.requires.high, c.requires.order)
