use Rattle.std.proofs.Common.{drop}
use Rattle.smc_types.specs.Columns.{value_kinds}
use Rattle.smc_tbl.proofs.PrintLaws.{Progress}
use Rattle.smc_tbl.proofs.print.print_row.Given as goal

abbrev pub invariant-loop-column : goal.invariant-loop-column
invariant-loop-column l = Progress (value_kinds l.columns) l.values (value_kinds (drop l.column-index l.columns)) l.place l.line.items
