use Rattle.std.proofs.Common.{◌≡◌, ◌-◌, false, length}
use Rattle.smc_shape.specs.Layout.{slots_of}
use Rattle.smc_does.specs.Does.{Stays}
use Rattle.smc_objects.specs.Scans.{IsScanOf, scan_in}
use Rattle.smc_visits.proofs.VisitLaws.{TakesSoFar}
use Rattle.smc_visits.proofs.rows.take_rows.Given as goal

-- the scan has come to some objects, and the whole ones of their rows were taken
abbrev pub invariant-loop-met : goal.invariant-loop-met
invariant-loop-met g l = record {
  stays : Stays l.fn.s l.s;
  scan : IsScanOf l.s l.scan;
  goes_on : l.scan.ended ≡ false;
  slots : l.slots ≡ slots_of l.s.shape l.scan.coll;
  long : length l.row ≡ length l.fn.row;
  words : g.T.TakeRow.words l.rows ≡ g.T.TakeRow.words l.fn.rows;
  about : g.T.TakeRow.about l.rows ≡ g.T.TakeRow.about l.fn.rows;
  so_far : TakesSoFar l.fn.s l.s l.fn.c l.leaves (scan_in l.s l.scan).number (g.T.TakeRow.has l.fn.rows) (g.T.TakeRow.has l.rows);
}

abbrev pub decreases-loop-met : goal.decreases-loop-met
decreases-loop-met g l = l.slots - l.scan.place
