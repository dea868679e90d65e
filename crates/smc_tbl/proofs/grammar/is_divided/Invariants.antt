use Rattle.std.proofs.Common.{◌↔◌, drop}
use Rattle.smc_types.specs.Columns.{value_kinds}
use Rattle.smc_tbl.specs.TableText.{IsDivided}
use Rattle.smc_tbl.proofs.grammar.is_divided.Given as goal

-- the line is divided as the rest is by the other columns
abbrev pub invariant-loop-column : goal.invariant-loop-column
invariant-loop-column l = IsDivided (value_kinds l.columns) l.line ↔ IsDivided (value_kinds (drop l.column-index l.columns)) l.rest
