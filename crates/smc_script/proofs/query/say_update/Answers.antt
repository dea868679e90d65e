use Rattle.std.proofs.Common.{codes, sym}
use Rattle.smc_script.specs.Says.{ColumnSays, table_before}
use Rattle.smc_script.proofs.SaysLaws.{no-cut, no-head, two-answered}
use Rattle.smc_script.proofs.query.say_update.Goals as goal

pub returns-in_default : goal.returns-in_default
returns-in_default c = no-cut (table_before c.args.catalog.now (codes "set")) (λ table _ _. ColumnSays table) c.args.text.now c.in_default.ensures.none

pub returns-in_default-table_before : goal.returns-in_default-table_before
returns-in_default-table_before c =
    no-head (table_before c.args.catalog.now (codes "set")) (λ table _ _. ColumnSays table) c.args.text.now c.in-Some.cut.first.now c.in-Some.cut.second.now c.in-Some.cut.text.now c.in-Some.ensures.some
    (sym c.in_default-table_before.ensures)

pub returns : goal.returns
returns c =
    two-answered (table_before c.args.catalog.now (codes "set")) (λ table _ _. ColumnSays table) c.args.text.now c.in-Some.cut.first.now c.in-Some.cut.second.now c.in-Some.cut.text.now c.in-Some-table_before.table c.say_column.result
    c.in-Some.ensures.some (sym c.in-Some-table_before.ensures) c.say_column.ensures
