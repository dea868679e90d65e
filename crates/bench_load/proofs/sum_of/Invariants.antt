use Rattle.std.proofs.Common.{◌≡◌, ◌≤◌, ◌-◌, None}
use Rattle.smc_tbl.specs.declared.lines.TheConstants.{MAX_LINES}
use Rattle.bench_load.proofs.sum_of.Given as goal

-- no line was refused
abbrev pub invariant-rows : goal.invariant-rows
invariant-rows g l = record {
  good : l.lines.fault ≡ None;
  limit : l.lines.number ≤ MAX_LINES;
}

-- the lines that may still come
abbrev pub decreases-rows : goal.decreases-rows
decreases-rows g l = MAX_LINES - l.lines.number
