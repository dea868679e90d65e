use Rattle.std.proofs.Common.{◌≡◌, ℕ, ◌+◌, ◌*◌, ◌<◌, ◌≤◌}
use Rattle.smc_core.specs.Ripe.{next_round}
use Rattle.smc_shape.specs.declared.place.Place.TheVariants as place
use Rattle.smc_core.specs.Section.{epoch_of}
use Rattle.smc_region.specs.Callers.{IsSame}
use Rattle.smc_objects.specs.Adding.{SawTaken, adding, behind, to_slot}
use Rattle.smc_objects.proofs.claim.claim_slot.Given as goal

-- the slots before `slot` and `slot` itself are passed, from `from` on, `tried` in all
abbrev pub invariant-loop-tried : goal.invariant-loop-tried
invariant-loop-tried l = record {
  same : IsSame l.fn.s l.s;
  later : l.fn.s.local.steps ≤ l.s.local.steps;
  few : l.s.local.steps ≤ l.fn.s.local.steps + 2 * l.tried;
  below : l.slot < l.slots;
  at : next_round l.slots l.slot ≡ behind l.slots l.from l.tried;
  local : l.s.local ≡ adding l.fn.s.local l.words l.s.local.steps (to_slot l.fn.s.shape l.c l.from (next_round l.slots l.slot) l.tried);
  seen : (k : ℕ) → k < l.tried → SawTaken l.fn.s.shape l.fn.s.number l.fn.s.local.steps l.s.local.steps (epoch_of l.fn.s.local.stand.section) (place.Directory l.c (behind l.slots l.from k));
}
