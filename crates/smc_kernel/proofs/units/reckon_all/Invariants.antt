use Rattle.std.proofs.Common.{◌≡◌, length, take}
use Rattle.smc_kernel.specs.Columns.{pairs, reckoned}
use Rattle.smc_kernel.proofs.units.reckon_all.Given as goal

abbrev pub invariant-loop-i : goal.invariant-loop-i
invariant-loop-i l = record {
  made : l.made ≡ pairs (reckoned l.step) (take l.i l.ones) (take l.i l.others);
  many : length l.made ≡ l.i;
}
