use Rattle.std.proofs.Common.{sym}
use Rattle.smc_script.specs.Says.{EditSays, column_before}
use Rattle.smc_script.proofs.SaysLaws.{no-cut, no-head, two-answered}
use Rattle.smc_script.proofs.query.say_column.Goals as goal

pub returns-in_default : goal.returns-in_default
returns-in_default c = no-cut (column_before c.args.table) (λ table column _. EditSays table column) c.args.text.now c.in_default.ensures.none

pub returns-in_default-column_before : goal.returns-in_default-column_before
returns-in_default-column_before c =
    no-head (column_before c.args.table) (λ table column _. EditSays table column) c.args.text.now c.in-Some.cut.first.now c.in-Some.cut.second.now c.in-Some.cut.text.now c.in-Some.ensures.some
    (sym c.in_default-column_before.ensures)

pub returns : goal.returns
returns c =
    two-answered (column_before c.args.table) (λ table column _. EditSays table column) c.args.text.now c.in-Some.cut.first.now c.in-Some.cut.second.now c.in-Some.cut.text.now c.in-Some-column_before.table c.say_edit.result
    c.in-Some.ensures.some (sym c.in-Some-column_before.ensures) c.say_edit.ensures
