use Rattle.std.proofs.Common.{sym, ◌∙◌}
use Rattle.smc_types.specs.Columns.{value_kinds}
use Rattle.smc_tbl.proofs.PrintLaws.{progress-end, progress-reference, progress-value, value-good}
use Rattle.smc_tbl.proofs.print.print_row.Goals as goal
use Rattle.smc_tbl.proofs.print.print_row.Goals.{then-not-is_reference+in_ok-print_value+in_ok-push, else-not-is_reference}

pub print_value-requires : goal.print_value-requires
print_value-requires c =
    let columns = c.as_slice-columns.result.now in
    value-good (value_kinds columns) c.as_slice-values.result.now columns c.loop-column.column-index c.loop-column.place c.loop-column.line.items c.column-item.result
    c.loop-column-test.true c.column-item.is c.loop-column.invariant (sym c.is_reference.ensures ∙ c.if-not-is_reference.true) c.index-values-place.result c.index-values-place.is

pub loop-column-preserved : goal.loop-column-preserved
loop-column-preserved c =
    let columns = c.as_slice-columns.result.now in
    elim c.if-not-is_reference.branch [
      | then-not-is_reference+in_ok-print_value+in_ok-push w ↦
          rw (w.line-is, w.place-is, w.in_ok-push.ensures.items)
          (progress-value (value_kinds columns) c.as_slice-values.result.now columns c.loop-column.column-index c.loop-column.place c.loop-column.line.items c.column-item.result
          c.loop-column-test.true c.column-item.is c.loop-column.invariant (sym c.is_reference.ensures ∙ w.if-not-is_reference.true) w.index-values-place.result w.index-values-place.is
          w.print_value.new.line.items w.in_ok-print_value.ensures)
      | else-not-is_reference w ↦
          rw (w.line-is, w.place-is)
          (progress-reference (value_kinds columns) c.as_slice-values.result.now columns c.loop-column.column-index c.loop-column.place c.loop-column.line.items c.column-item.result
          c.loop-column-test.true c.column-item.is c.loop-column.invariant (sym c.is_reference.ensures ∙ w.if-not-is_reference.false))
    ]

pub returns : goal.returns
returns c =
    let columns = c.as_slice-columns.result.now in
    rw (← c.as_slice-columns.ensures.columns, ← c.as_slice-values.ensures)
    (progress-end (value_kinds columns) c.as_slice-values.result.now columns c.loop-column.column-index c.loop-column.place c.loop-column.line.items c.loop-column-test.false c.loop-column.invariant)
