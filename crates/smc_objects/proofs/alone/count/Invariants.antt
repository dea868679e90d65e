use Rattle.std.proofs.Common.{◌≡◌, ℕ, ◌-◌, ◌≤◌, false, List, ◌++◌, length}
use Rattle.smc_shape.specs.Layout.{slots_of}
use Rattle.smc_core.specs.declared.local.Held.{Held}
use Rattle.smc_trace.specs.Named.{begins}
use Rattle.smc_does.specs.Does.{Does, Stays}
use Rattle.smc_objects.specs.Alone.{visits_all}
use Rattle.smc_objects.specs.Scans.{IsScanOf, scan_in}
use Rattle.smc_objects.proofs.alone.count.Given as goal

-- the scan has come to so many objects, each at a slot of its own
abbrev pub invariant-loop-met : goal.invariant-loop-met
invariant-loop-met l = record {
  stays : Stays l.fn.s l.s;
  scan : IsScanOf l.s l.scan;
  goes_on : l.scan.ended ≡ false;
  low : l.count ≤ l.scan.place;
  slots : l.slots ≡ slots_of l.s.shape l.scan.coll;
  met : (visits : List Held) × (length visits ≡ l.count) × Does l.fn.s l.s (begins (scan_in l.s l.scan).number l.fn.c ++ visits_all (scan_in l.s l.scan).number visits);
}

abbrev pub decreases-loop-met : goal.decreases-loop-met
decreases-loop-met l = l.slots - l.scan.place
