use Rattle.std.proofs.Common.{◌≡◌, ℕ, ◌<◌, length, map, take, slice_index_or}
use Rattle.smc_shape.specs.declared.shape.TheConstants.{MAX_COLLS, NO_SPAN}
use Rattle.smc_shape.specs.Layout.{asked, asked_coll}
use Rattle.smc_shape.specs.Places.{start_of}
use Rattle.smc_shape.specs.Span.{coll_in}
use Rattle.smc_shape.proofs.shape.Shape.laid_out.Given as goal

-- the spans so far are those of the collections so far, and the next one begins where they end
abbrev pub invariant-loop-c : goal.invariant-loop-c
invariant-loop-c l = record {
  room : length l.spans ≡ MAX_COLLS;
  next : l.start ≡ start_of (asked l.passes l.colls) l.c;
  colls : map coll_in (take l.c l.spans) ≡ map asked_coll (take l.c l.colls);
  starts : (k : ℕ) → k < l.c → (slice_index_or l.spans k NO_SPAN).start ≡ start_of (asked l.passes l.colls) k;
}
