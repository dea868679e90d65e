use Rattle.std.proofs.Common.{◌≡◌, ℕ, ◌+◌, ◌*◌, ◌<◌, slice_index}
use Rattle.smc_kernel.specs.declared.batch.TheConstants.{ROOM}
use Rattle.smc_kernel.proofs.batch.take_row.Given as goal

abbrev pub invariant-loop-i : goal.invariant-loop-i
invariant-loop-i l = (k : ℕ) → k < l.i → slice_index l.row k ≡ slice_index l.cells (k * ROOM + l.place)
