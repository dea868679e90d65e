use Rattle.std.proofs.Common.{◌≡◌, length, map, slice_index, take}
use Rattle.smc_kernel.specs.Columns.{unit_in}
use Rattle.smc_kernel.proofs.column.units_at.Given as goal

abbrev pub invariant-loop-place : goal.invariant-loop-place
invariant-loop-place l = record {
  units : l.units ≡ map (λ place. unit_in l.kind (slice_index l.column place)) (take l.place-index l.places);
  many : length l.units ≡ l.place-index;
}
