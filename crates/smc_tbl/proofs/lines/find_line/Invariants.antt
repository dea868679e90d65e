use Rattle.std.proofs.Common.{◌-◌, ◌≤◌, length}
use Rattle.std.specs.Io.KnownBytes.{Keeps, prepend_known}
use Rattle.smc_tbl.proofs.lines.find_line.Given as goal

-- nothing was lost, and no fault was taken back
abbrev pub invariant-loop-size : goal.invariant-loop-size
invariant-loop-size g l =
    let left = g.S.Source.left in
    record {
      kept : Keeps (prepend_known l.fn.buffer (left l.fn.source)) (prepend_known l.buffer (left l.source));
      faults : g.S.Source.faults l.fn.source ≤ g.S.Source.faults l.source;
    }

-- the room that is left
abbrev pub decreases-loop-size : goal.decreases-loop-size
decreases-loop-size g l = 2048 - length l.buffer
