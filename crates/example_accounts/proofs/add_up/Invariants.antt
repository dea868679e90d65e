use Rattle.std.proofs.Common.{◌≡◌, ◌-◌, false}
use Rattle.smc_shape.specs.Layout.{slots_of}
use Rattle.smc_core.specs.declared.phase.Phase.TheVariants.{Idle}
use Rattle.smc_region.specs.Callers.{IsSame}
use Rattle.smc_objects.specs.Scans.{IsScanOf}
use Rattle.example_accounts.proofs.add_up.Given as goal

-- the scan has not ended
abbrev pub invariant-loop-account : goal.invariant-loop-account
invariant-loop-account l = record {
  same : IsSame l.fn.section l.section;
  idle : l.section.local.stand.phase ≡ Idle;
  scan : IsScanOf l.section l.scan;
  coll : l.scan.coll ≡ 0;
  goes_on : l.scan.ended ≡ false;
  slots : l.slots ≡ slots_of l.fn.section.shape 0;
}

abbrev pub decreases-loop-account : goal.decreases-loop-account
decreases-loop-account l = l.slots - l.scan.place
