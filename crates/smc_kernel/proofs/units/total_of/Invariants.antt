use Rattle.std.proofs.Common.{◌≡◌, ◌*◌, ◌^◌, ◌≤◌, take, unsigned_abs}
use Rattle.smc_kernel.specs.Columns.{all_of}
use Rattle.smc_kernel.proofs.units.total_of.Given as goal

abbrev pub invariant-loop-unit : goal.invariant-loop-unit
invariant-loop-unit l = record {
  total : l.total ≡ all_of (take l.unit-index l.units);
  small : unsigned_abs l.total ≤ l.unit-index * 2 ^ 63;
}
