use Rattle.std.proofs.Common.{◌+◌, ◌*◌, ◌≤◌, ◌<◌, ◌^◌, length, arith}
use Rattle.smc_tokens.proofs.DigitLaws.{room_more, bound_more, value_more, digit_small}
use Rattle.smc_tokens.proofs.digits.digits_onto.Goals as goal

pub overflow_mul-value : goal.overflow_mul-value
overflow_mul-value c =
    let here : c.loop-digit.digit-index < length c.args.digits.now = omega arith in
    let room : c.loop-digit.value * 10 + 10 ≤ 10 ^ 16 = room_more _ _ _ _ c.loop-digit.invariant.bound here c.requires.room in
    omega arith

pub overflow_add-value : goal.overflow_add-value
overflow_add-value c =
    let here : c.loop-digit.digit-index < length c.args.digits.now = omega arith in
    let room : c.loop-digit.value * 10 + 10 ≤ 10 ^ 16 = room_more _ _ _ _ c.loop-digit.invariant.bound here c.requires.room in
    let digit : c.from.result ≤ 9 = digit_small _ _ _ c.requires.digits here c.from.ensures in
    omega arith

pub loop-digit-preserved : goal.loop-digit-preserved
loop-digit-preserved c =
    let here : c.loop-digit.digit-index < length c.args.digits.now = omega arith in
    let digit : c.from.result ≤ 9 = digit_small _ _ _ c.requires.digits here c.from.ensures in
    record {
      value = value_more _ _ _ _ _ c.requires.digits here c.from.ensures c.loop-digit.invariant.value;
      bound = bound_more _ _ _ _ c.loop-digit.invariant.bound digit;
    }
