use Rattle.std.proofs.Common.{take, drop}
use Rattle.smc_lines.proofs.LineLaws.{HasEnded-more, first_line-kept, refused}
use Rattle.smc_lines.proofs.read.pass_ended.Goals as goal

pub returns-in-Err-clause-refused : goal.returns-in-Err-clause-refused
returns-in-Err-clause-refused c = λ rest.
    let line = take c.in-Some.size (drop c.loop-size.place.start c.args.text.now) in
    let found = rw c.split_at.ensures.back at c.in-Some.ensures in
    let gives = rw (c.split_at-in-loop-size.ensures.front, c.split_at.ensures.back) at c.in-Err.ensures.refused in
    let first = first_line-kept _ rest c.in-Some.size found.within found.here found.first in
    refused _ _ _ c.loop-size.invariant c.in-Err.fault rest line line _ first (λ long. long) gives

pub loop-size-preserved : goal.loop-size-preserved
loop-size-preserved c =
    let found = rw c.split_at.ensures.back at c.in-Some.ensures in
    let good = rw (c.split_at-in-loop-size.ensures.front, c.split_at.ensures.back) at c.in_default-check_line.ensures in
    HasEnded-more _ _ _ c.loop-size.invariant c.in-Some.size found.within found.here found.first good.short good.few
