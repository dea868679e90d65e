use Rattle.std.proofs.Common.{length, drop_of_length-le, arith}
use Rattle.std.proofs.Math.Seq.{take-length}
use Rattle.smc_lines.proofs.LineLaws.{first_line-at, lines-last}
use Rattle.smc_lines.proofs.cursor.split_line.Goals as goal

pub returns-in-Some : goal.returns-in-Some
returns-in-Some c =
    let found = c.in-Some.ensures in
    rw (c.split_at.ensures.front, c.split_at-in-Some.ensures.back) (first_line-at _ _ found.within found.here found.first)

pub returns-in-None : goal.returns-in-None
returns-in-None c =
    let text = c.args.text.now in
    rw (c.split_at-in-None.ensures.front, c.split_at-in-None.ensures.back, take-length text, drop_of_length-le text {i = length text} (omega arith))
    (lines-last text c.in-None.ensures.nowhere c.requires)
