use Rattle.std.proofs.Common.{◌≡◌, ◌++◌}
use Rattle.std.specs.String.{string_bytes}
use Rattle.smc_print.specs.TokenText.{last_digits}
use Rattle.smc_print.proofs.number.push_last_digits.Given as goal

abbrev pub invariant-loop-place : goal.invariant-loop-place
invariant-loop-place l = string_bytes l.text ++ last_digits l.place l.number ≡ string_bytes l.fn.text ++ last_digits l.fn.count l.number

abbrev pub decreases-loop-place : goal.decreases-loop-place
decreases-loop-place l = l.place
