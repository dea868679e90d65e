use Rattle.std.proofs.Common.{◌≡◌}
use Rattle.std.specs.Prelude.{Some}
use Rattle.smc_core.specs.declared.phase.Phase.TheVariants.{Idle}
use Rattle.smc_core.specs.Offer.{held_slot}
use Rattle.smc_region.specs.Callers.{IsSame}
use Rattle.bench_region.proofs.read_fields.Given as goal

abbrev pub invariant-loop : goal.invariant-loop
invariant-loop l = record {
  same : IsSame l.fn.section l.section;
  inside : l.section.local.stand.section ≡ l.fn.section.local.stand.section;
  idle : l.section.local.stand.phase ≡ Idle;
  held : held_slot l.section.local.stand.held l.number ≡ Some l.fn.held.place;
}

abbrev pub invariant-loop-field : goal.invariant-loop-field
invariant-loop-field l = record {
  same : IsSame l.fn.section l.section;
  inside : l.section.local.stand.section ≡ l.fn.section.local.stand.section;
  idle : l.section.local.stand.phase ≡ Idle;
  held : held_slot l.section.local.stand.held l.number ≡ Some l.fn.held.place;
}
