use Rattle.std.proofs.Common.{◌≡◌, ℕ, ◌<◌, [], vec_len}
use Rattle.std.specs.Prelude.{Some, slice_get}
use Rattle.smc_region.specs.Callers.{new_caller}
use Rattle.smc_region.proofs.Deals.{dealing}
use Rattle.smc_region.proofs.region.Region.open.Given as goal

-- the passes below `number` are dealt out
abbrev pub invariant-loop-number : goal.invariant-loop-number
invariant-loop-number l = record {
  count : vec_len l.passes ≡ l.number;
  passes : (k : ℕ) → k < l.number → slice_get l.passes.items k ≡ Some (new_caller l.table.shared.table_id l.about.shape k);
  table : l.rest.table_id ≡ l.table.shared.table_id;
  rest : l.rest.me ≡ (dealing l.about.shape l.number, []);
}
