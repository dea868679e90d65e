use Rattle.std.proofs.Common.{◌<◌, ◌^◌, length, arith}
use Rattle.smc_lines.proofs.NumberLaws.{number-overflow}
use Rattle.smc_lines.proofs.number.read_number.Goals as goal

pub returns-in-None : goal.returns-in-None
returns-in-None c =
    let word = c.as_bytes-digits.result.now in
    let within : c.loop-digit.digit-index < length word = omega arith in
    let small : c.args.most < 2 ^ 64 = omega arith in
    rw (← c.as_bytes-digits.ensures.value)
    (number-overflow c.args.most word c.loop-digit.digit-index c.loop-digit.value within small c.loop-digit.invariant.value c.in-None.ensures)
