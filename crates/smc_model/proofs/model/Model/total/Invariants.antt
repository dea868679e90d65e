use Rattle.std.proofs.Common.{◌≡◌, length, ◌+◌, ◌*◌, ◌^◌, ◌≤◌, ◌<◌}
use Rattle.std.specs.Prelude.{filter, sum_by, slice_index, All}
use Rattle.smc_model.specs.World.{is_present_in, total_of}
use Rattle.smc_model.proofs.model.Model.total.Given as goal

-- the sum so far and that of the objects left are the whole; few are left
abbrev pub invariant-loop-object : goal.invariant-loop-object
invariant-loop-object l = record {
  so_far : l.total + sum_by (λ object. slice_index object.words l.field) (filter (is_present_in l.coll) l.object-iterator) ≡ total_of l.self l.coll l.field;
  long : All (λ object. l.field < length object.words) (filter (is_present_in l.coll) l.object-iterator);
  few : l.total + length l.object-iterator * 2 ^ 64 ≤ 2 ^ 127;
}
