use Rattle.std.proofs.Common.{sym, ◌∙◌, arith}
use Rattle.std.proofs.lemmas.Bool.{false≢true}
use Rattle.smc_types.specs.Columns.{value_kinds}
use Rattle.smc_tbl.proofs.KindLaws.{divided-field, divided-none, divided-reference}
use Rattle.smc_tbl.proofs.grammar.is_divided.Goals as goal
use Rattle.smc_tbl.proofs.grammar.is_divided.Goals.{then-not-is_reference+in-Some, else-not-is_reference}

pub returns-in_default : goal.returns-in_default
returns-in_default c = (
  λ none. absurd (false≢true none),
  λ divided. absurd (divided-none (value_kinds c.args.columns.now) c.args.line.now c.args.columns.now c.loop-column.column-index c.column-item.result (omega arith) c.column-item.is
      c.loop-column.rest.now c.loop-column.invariant (sym c.is_reference.ensures ∙ c.if-not-is_reference.true) c.in_default.ensures.uncut divided),
)

pub loop-column-preserved : goal.loop-column-preserved
loop-column-preserved c =
    let at = c.loop-column.column-index in
    let columns = c.args.columns.now in
    elim c.if-not-is_reference.branch [
      | then-not-is_reference+in-Some w ↦
          rw w.rest-is
          (divided-field (value_kinds columns) c.args.line.now columns at c.column-item.result (omega arith) c.column-item.is c.loop-column.rest.now c.loop-column.invariant
          (sym c.is_reference.ensures ∙ w.if-not-is_reference.true) w.in-Some.field-0-0.now w.in-Some.later.now w.in-Some.ensures.cut w.in-Some.ensures.front)
      | else-not-is_reference w ↦
          rw w.rest-is
          (divided-reference (value_kinds columns) c.args.line.now columns at c.column-item.result (omega arith) c.column-item.is c.loop-column.rest.now c.loop-column.invariant
          (sym c.is_reference.ensures ∙ w.if-not-is_reference.false))
    ]
