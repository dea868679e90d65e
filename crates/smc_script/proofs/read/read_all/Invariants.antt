use Rattle.std.specs.Prelude.{length}
use Rattle.smc_script.specs.Scripts.{LinesGive, Outcome}
use Rattle.smc_script.specs.States.{reading, start}
use Rattle.smc_script.proofs.read.read_all.Given as goal

-- what the lines from here on give is what all lines give
abbrev pub invariant-loop-next : goal.invariant-loop-next
invariant-loop-next l = (outcome : Outcome) → LinesGive l.catalog l.folds (reading l.reader) l.cursor.number l.cursor.lines outcome
    → LinesGive l.catalog l.folds start 0 l.lines outcome

abbrev pub decreases-loop-next : goal.decreases-loop-next
decreases-loop-next l = length l.cursor.lines
