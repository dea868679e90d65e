use Rattle.std.proofs.Common.{◌∙◌}
use Rattle.smc_print.proofs.number.push_last_digits.Goals as goal
use Rattle.smc_print.proofs.DigitLaws.{digit_behind}

pub loop-place-preserved : goal.loop-place-preserved
loop-place-preserved c = digit_behind _ _ _ _ _ c.loop-place-test.true c.without_last.ensures c.in_ok-push_decimal.ensures ∙ c.loop-place.invariant
