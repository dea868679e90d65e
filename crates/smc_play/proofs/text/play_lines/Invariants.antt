use Rattle.std.specs.Prelude.{◌++◌, ℕ, List, length, string_bytes}
use Rattle.smc_play.specs.Plays.{playing}
use Rattle.smc_play.specs.Texts.{PlaysLines}
use Rattle.smc_play.specs.declared.ending.Ending.{Ending}
use Rattle.smc_play.proofs.text.play_lines.Given as goal

-- whatever the lines from here on print stands behind what was printed
abbrev pub invariant-loop-next : goal.invariant-loop-next
invariant-loop-next l = (later : List ℕ) (ending : Ending) → PlaysLines l.width (playing l.player) l.cursor later ending
    → PlaysLines l.width (playing l.fn.player) l.fn.cursor (string_bytes l.text ++ later) ending

abbrev pub decreases-loop-next : goal.decreases-loop-next
decreases-loop-next l = length l.cursor.lines
