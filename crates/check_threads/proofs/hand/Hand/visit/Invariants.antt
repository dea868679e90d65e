use Rattle.std.proofs.Common.{◌≡◌, ◌-◌, false}
use Rattle.smc_shape.specs.Layout.{slots_of}
use Rattle.smc_core.specs.declared.phase.Phase.TheVariants.{Idle}
use Rattle.smc_region.specs.Callers.{IsSame}
use Rattle.smc_objects.specs.Scans.{IsScanOf}
use Rattle.check_threads.proofs.hand.Hand.visit.Given as goal

-- the scan has not ended
abbrev pub invariant-visits : goal.invariant-visits
invariant-visits l = record {
  same : IsSame l.fn.s l.s;
  idle : l.s.local.stand.phase ≡ Idle;
  scan : IsScanOf l.s l.scan;
  coll : l.scan.coll ≡ 0;
  goes_on : l.scan.ended ≡ false;
  slots : l.slots ≡ slots_of l.fn.s.shape 0;
}

abbrev pub decreases-visits : goal.decreases-visits
decreases-visits l = l.slots - l.scan.place
