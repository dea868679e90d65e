use Rattle.std.proofs.Common.{length}
use Rattle.smc_lines.specs.Ahead.{PassesOver}
use Rattle.smc_lines.proofs.cursor.Cursor.next_line.Given as goal

-- the lines so far were passed over
abbrev pub invariant-loop-line : goal.invariant-loop-line
invariant-loop-line l = PassesOver l.fn.self l.self

-- the lines that are left
abbrev pub decreases-loop-line : goal.decreases-loop-line
decreases-loop-line l = length l.self.lines
