use Rattle.std.proofs.Common.{sym}
use Rattle.smc_script.specs.Says.{RowSays, table_added}
use Rattle.smc_script.proofs.SaysLaws.{no-cut, no-head, two-answered}
use Rattle.smc_script.proofs.row.say_add.Goals as goal

pub returns-in_default : goal.returns-in_default
returns-in_default c = no-cut (table_added c.args.catalog.now) (λ table _ name. RowSays c.args.catalog.now table name) c.args.text.now c.in_default.ensures.none

pub returns-in_default-table_added : goal.returns-in_default-table_added
returns-in_default-table_added c =
    no-head (table_added c.args.catalog.now) (λ table _ name. RowSays c.args.catalog.now table name) c.args.text.now c.in-Some.cut.first.now c.in-Some.cut.second.now c.in-Some.cut.text.now c.in-Some.ensures.some
    (sym c.in_default-table_added.ensures)

pub returns : goal.returns
returns c =
    two-answered (table_added c.args.catalog.now) (λ table _ name. RowSays c.args.catalog.now table name) c.args.text.now c.in-Some.cut.first.now c.in-Some.cut.second.now c.in-Some.cut.text.now c.in-Some-table_added.table c.say_row.result
    c.in-Some.ensures.some (sym c.in-Some-table_added.ensures) c.say_row.ensures
