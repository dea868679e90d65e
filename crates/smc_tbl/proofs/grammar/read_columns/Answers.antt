use Rattle.std.proofs.Common.{◌≡◌, ◌<◌, length, sym, ◌∙◌, arith}
use Rattle.std.proofs.lemmas.Bool.Decides.{nat_tests}
use Rattle.smc_types.specs.Columns.{value_kinds}
use Rattle.smc_tbl.specs.declared.bytes.TheConstants.{BAR}
use Rattle.smc_tbl.proofs.KindLaws.{decides-fault, decides-more, decides-reference, decides-row, decides-value}
use Rattle.smc_tbl.proofs.TextLaws.{rest-text}
use Rattle.smc_tbl.proofs.grammar.read_columns.Goals as goal
use Rattle.smc_tbl.proofs.grammar.read_columns.Goals.{then-not-is_reference+in-Ok+in_ok-push, else-not-is_reference}

pub returns-in-Err : goal.returns-in-Err
returns-in-Err c =
    let columns = c.as_slice-columns.result.now in
    let given = rw c.split_at.ensures.back at c.in-Err.ensures.fault in
    rw (← c.as_slice-columns.ensures.columns)
    (decides-fault (value_kinds columns) c.args.line.now columns c.loop-place.place c.index-columns-place.result c.loop-place-test.true c.index-columns-place.is
    c.loop-place.rest.now c.loop-place.values.items c.loop-place.invariant.decides (sym c.is_reference.ensures ∙ c.if-not-is_reference.true) c.in-Err.fault given)

pub loop-place-preserved : goal.loop-place-preserved
loop-place-preserved c =
    let columns = c.as_slice-columns.result.now in
    let column = c.index-columns-place.result in
    elim c.if-not-is_reference.branch [
      | then-not-is_reference+in-Ok+in_ok-push w ↦
          let takes = w.in-Ok.ensures.read in
          rw (w.values-is, w.rest-is, w.in_ok-push.ensures.items)
          (record {
            text = rest-text c.loop-place.rest.now takes.field w.in-Ok.read.1.now BAR takes.cut c.loop-place.invariant.text;
            decides =
                decides-value (value_kinds columns) c.args.line.now columns c.loop-place.place column c.loop-place-test.true c.index-columns-place.is c.loop-place.rest.now
                c.loop-place.values.items c.loop-place.invariant.decides (sym c.is_reference.ensures ∙ w.if-not-is_reference.true) w.in-Ok.read.0 w.in-Ok.read.1.now takes;
          })
      | else-not-is_reference w ↦
          rw (w.values-is, w.rest-is)
          (record {
            text = c.loop-place.invariant.text;
            decides =
                decides-reference (value_kinds columns) c.args.line.now columns c.loop-place.place column c.loop-place-test.true c.index-columns-place.is c.loop-place.rest.now
                c.loop-place.values.items c.loop-place.invariant.decides (sym c.is_reference.ensures ∙ w.if-not-is_reference.false);
          })
    ]

pub returns-then-not-is_empty : goal.returns-then-not-is_empty
returns-then-not-is_empty c =
    let columns = c.as_slice-columns.result.now in
    let some : 0 < length c.loop-place.rest.now = grind (arith, nat_tests) in
    rw (← c.as_slice-columns.ensures.columns)
    (decides-more (value_kinds columns) c.args.line.now columns c.loop-place.place c.loop-place-test.false c.loop-place.rest.now c.loop-place.values.items c.loop-place.invariant.decides some)

pub returns : goal.returns
returns c =
    let columns = c.as_slice-columns.result.now in
    let none : length c.loop-place.rest.now ≡ 0 = grind (arith, nat_tests) in
    rw (← c.as_slice-columns.ensures.columns, c.of.ensures)
    (decides-row (value_kinds columns) c.args.line.now columns c.loop-place.place c.loop-place-test.false c.loop-place.rest.now c.loop-place.values.items c.loop-place.invariant.decides none)
