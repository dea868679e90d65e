use Rattle.std.proofs.Common.{◌≢◌, ℕ, ◌<◌}
use Rattle.smc_shape.specs.Places.{InRange, at}
use Rattle.smc_shape.specs.declared.place.Place.TheVariants as place
use Rattle.smc_region.proofs.act.coll_at.Given as goal

-- the index is that of no entry of a collection below `c`
abbrev pub invariant-loop-c : goal.invariant-loop-c
invariant-loop-c l = (coll entry : ℕ) → coll < l.c → InRange l.fn.shape (place.Entry coll entry) → l.word ≢ at l.fn.shape (place.Entry coll entry)
