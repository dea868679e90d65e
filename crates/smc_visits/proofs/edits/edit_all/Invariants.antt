use Rattle.std.proofs.Common.{◌≡◌, ◌-◌, false, length}
use Rattle.smc_shape.specs.Layout.{slots_of}
use Rattle.smc_does.specs.Does.{Stays}
use Rattle.smc_objects.specs.Scans.{IsScanOf, scan_in}
use Rattle.smc_visits.specs.Edits.{AreFew}
use Rattle.smc_visits.proofs.EditLaws.{EditsSoFar}
use Rattle.smc_visits.proofs.edits.edit_all.Given as goal

-- the scan has come to some objects, which were edited
abbrev pub invariant-loop-met : goal.invariant-loop-met
invariant-loop-met g l = record {
  stays : Stays l.fn.s l.s;
  scan : IsScanOf l.s l.scan;
  goes_on : l.scan.ended ≡ false;
  coll : l.scan.coll ≡ l.c;
  slots : l.slots ≡ slots_of l.s.shape l.scan.coll;
  long : length l.row ≡ length l.fn.row;
  few : AreFew l.edits l.scan.place;
  so_far : EditsSoFar l.fn.s l.s l.fn.c l.leaves (g.E.DecideEdit.edit l.by) (scan_in l.s l.scan).number l.edits;
}

abbrev pub decreases-loop-met : goal.decreases-loop-met
decreases-loop-met g l = l.slots - l.scan.place
