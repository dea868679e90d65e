-- Each turn of the loop is a step of `Read`.
use Rattle.std.proofs.Common.{sym, ◌∙◌}
use Rattle.smc_types.proofs.RowLaws.{read_reference, read_value}
use Rattle.smc_types.proofs.decoding.decode.Goals as goal
use Rattle.smc_types.proofs.decoding.decode.Goals.{then-not-is_reference+in_ok-read_value+in_ok-push, else-not-is_reference}

pub loop-column-preserved : goal.loop-column-preserved
loop-column-preserved c =
    elim c.if-not-is_reference.branch [
      | then-not-is_reference+in_ok-read_value+in_ok-push w ↦
          rw (w.values-is, w.in_ok-push.ensures.items, w.in_ok-read_value.ensures, c.split_at-in-loop-column.ensures.front, c.split_at.ensures.back, c.width-width.ensures)
          (read_value c.as_slice-columns.result.now c.args.words.now c.loop-column.column-index c.loop-column.at c.loop-column.values.items c.column-item.result
          c.loop-column.invariant c.loop-column-test.true c.column-item.is (sym c.is_reference.ensures ∙ w.if-not-is_reference.true))
      | else-not-is_reference w ↦
          rw (w.values-is, c.width-width.ensures)
          (read_reference c.as_slice-columns.result.now c.args.words.now c.loop-column.column-index c.loop-column.at c.loop-column.values.items c.column-item.result
          c.loop-column.invariant c.loop-column-test.true c.column-item.is (sym c.is_reference.ensures ∙ w.if-not-is_reference.false))
    ]
