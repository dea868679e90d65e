use Rattle.std.proofs.Common.{◌≡◌, length, ◌+◌, ◌≤◌, ◌^◌}
use Rattle.std.specs.Prelude.{filter}
use Rattle.smc_model.specs.World.{is_present_in, count_of}
use Rattle.smc_model.proofs.model.Model.count.Given as goal

-- the count so far and that of the objects left are the whole
abbrev pub invariant-loop-object : goal.invariant-loop-object
invariant-loop-object l = record {
  so_far : l.count + length (filter (is_present_in l.coll) l.object-iterator) ≡ count_of l.self l.coll;
  few : l.count + length l.object-iterator ≤ 2 ^ 63;
}
