use Rattle.std.proofs.Common.{◌≡◌, take}
use Rattle.smc_types.specs.Columns.{columns_width}
use Rattle.smc_plan.proofs.table.columns_width.Given as goal

abbrev pub invariant-loop-column : goal.invariant-loop-column
invariant-loop-column l = l.words ≡ columns_width (take l.column-index l.columns)
