use Rattle.std.proofs.Common.{List, drop, Result}
use Rattle.smc_types.specs.Columns.{value_kinds}
use Rattle.smc_types.specs.Texts.{IsText}
use Rattle.smc_types.specs.declared.row.Value.{Value}
use Rattle.smc_tbl.specs.declared.fault.TblFault.{TblFault}
use Rattle.smc_tbl.specs.TableText.{FieldsGive}
use Rattle.smc_tbl.proofs.FieldLaws.{behind}
use Rattle.smc_tbl.proofs.grammar.read_columns.Given as goal

-- the rest is text, and what it gives in the other columns decides what the line gives
abbrev pub invariant-loop-place : goal.invariant-loop-place
invariant-loop-place l = record {
  text : IsText l.rest;
  decides : (reading : Result (List Value) TblFault) → FieldsGive (value_kinds (drop l.place l.columns)) l.rest reading
      → FieldsGive (value_kinds l.columns) l.line (behind l.values.items reading);
}
