use Rattle.std.proofs.Common.{◌-◌, length}
use Rattle.smc_lines.specs.Reading.{HasEnded}
use Rattle.smc_lines.proofs.read.pass_ended.Given as goal

-- the lines before this place have ended
abbrev pub invariant-loop-size : goal.invariant-loop-size
invariant-loop-size l = HasEnded l.text l.place.start l.place.ended

-- the bytes that are left
abbrev pub decreases-loop-size : goal.decreases-loop-size
decreases-loop-size l = length l.text - l.place.start
