use Rattle.std.proofs.Common.{◌≡◌, ◌+◌, ◌*◌, ◌^◌, ◌≤◌}
use Rattle.smc_shape.specs.Layout.{asked}
use Rattle.smc_shape.specs.Places.{start_of}
use Rattle.smc_shape.proofs.fault.words_asked.Given as goal

abbrev pub invariant-loop-coll : goal.invariant-loop-coll
invariant-loop-coll l = record {
  so_far : l.words ≡ start_of (asked l.passes l.colls) l.coll-index;
  few : l.words ≤ 34 + l.coll-index * 2 ^ 39;
}
