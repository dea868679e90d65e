-- Each turn of the loop is a step of `Progress`, and at its end each text was met.
use Rattle.std.proofs.Common.{sym, ◌∙◌}
use Rattle.smc_types.proofs.RecordLaws.{progress_reference, progress_value, progress_texts}
use Rattle.smc_types.proofs.encoding.push_record.Goals as goal
use Rattle.smc_types.proofs.encoding.push_record.Goals.{then-is_reference+in_ok-push, else-is_reference+in_ok-push_value}

pub loop-column-preserved : goal.loop-column-preserved
loop-column-preserved c =
    elim c.if-is_reference.branch [
      | then-is_reference+in_ok-push w ↦
          rw (w.words-is, w.value-is, w.reference-is, w.in_ok-push.ensures.done)
          (progress_reference c.args.columns.now c.args.values.now c.args.refs.now c.args.words.now.items c.loop-column.column-index c.loop-column.value c.loop-column.reference c.loop-column.words.items c.column-item.result
          c.loop-column.invariant c.loop-column-test.true c.column-item.is (sym c.is_reference.ensures ∙ w.if-is_reference.true))
      | else-is_reference+in_ok-push_value w ↦
          rw (w.words-is, w.value-is, w.reference-is, w.in_ok-push_value.ensures.done)
          (progress_value c.args.columns.now c.args.values.now c.args.refs.now c.args.words.now.items c.loop-column.column-index c.loop-column.value c.loop-column.reference c.loop-column.words.items c.column-item.result w.index-values-value.result
          c.loop-column.invariant c.loop-column-test.true c.column-item.is (sym c.is_reference.ensures ∙ w.if-is_reference.false)
          w.index-values-value.is w.in_ok-push_value.ensures.good w.in_ok-push_value.ensures.text)
    ]

pub returns-clause-texts : goal.returns-clause-texts
returns-clause-texts c =
    progress_texts c.args.columns.now c.args.values.now c.args.refs.now c.args.words.now.items c.loop-column.column-index c.loop-column.value c.loop-column.reference c.loop-column.words.items
    c.loop-column.invariant c.loop-column-test.false
