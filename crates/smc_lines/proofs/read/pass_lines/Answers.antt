use Rattle.std.proofs.Common.{length, drop, sym, arith}
use Rattle.std.proofs.lemmas.Bool.{eqb-false}
use Rattle.smc_lines.proofs.LineLaws.{IsWithin-open, lines-begun, long-begun, refused}
use Rattle.smc_lines.proofs.read.pass_lines.Goals as goal

pub returns-in-Ok-clause-within : goal.returns-in-Ok-clause-within
returns-in-Ok-clause-within c =
    let good = rw c.split_at.ensures.back at c.in-Ok.ensures in
    IsWithin-open _ _ _ c.in_ok-place.ensures.ended c.in_ok-place.ensures.no_end (λ some. (good.few, good.short))

pub returns-in-Err-clause-refused : goal.returns-in-Err-clause-refused
returns-in-Err-clause-refused c = λ rest.
    let line = drop c.in_ok-place.place.start c.args.text.now in
    let gives = rw c.split_at.ensures.back at c.in-Err.ensures.refused in
    let not_none = rw c.split_at.ensures.back at (eqb-false (length c.split_at.result.1.now) 0 (sym c.if-is_empty.ensures)) in
    let (others, more, is) = lines-begun line rest c.in_ok-place.ensures.no_end (omega (arith, not_none)) in
    refused _ _ _ c.in_ok-place.ensures.ended c.in-Err.fault rest line _ _ is (long-begun line others) gives
