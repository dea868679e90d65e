use Rattle.std.proofs.Common.{◌≡◌, ◌≢◌, ℕ, ◌+◌, ◌*◌, ◌<◌, slice_index}
use Rattle.smc_kernel.specs.declared.batch.TheConstants.{ROOM}
use Rattle.smc_kernel.proofs.batch.put_row.Given as goal

abbrev pub invariant-loop-i : goal.invariant-loop-i
invariant-loop-i l = record {
  here : (k : ℕ) → k < l.i → slice_index l.cells (k * ROOM + l.place) ≡ slice_index l.row k;
  others : (k j : ℕ) → j < ROOM → j ≢ l.place → slice_index l.cells (k * ROOM + j) ≡ slice_index l.initial.cells (k * ROOM + j);
}
