use Rattle.std.proofs.Common.{◌-◌, ◌∙◌}
use Rattle.smc_run.proofs.Endings.{TallyEnds-written}
use Rattle.smc_run.proofs.FirstColumn.{table-counts}
use Rattle.smc_run.proofs.RowWorld.{row_count, row_total, row_field}
use Rattle.smc_run.proofs.tally.tally.Goals as goal

pub read_table-requires : goal.read_table-requires
read_table-requires g c = table-counts (c.args.table - 1) c.schema.result.now (rw c.in-Ok.ensures at c.schema.ensures.schema)

pub total-requires : goal.total-requires
total-requires g c = let (rows, table, added) = c.in-Ok-read_table.ensures.rows in row_field rows c.in-Ok-read_table.model added

pub returns-in-Ok-read_table-clause-ends : goal.returns-in-Ok-read_table-clause-ends
returns-in-Ok-read_table-clause-ends g c =
    let (rows, table, added) = c.in-Ok-read_table.ensures.rows in
    let count = c.count.ensures ∙ row_count rows c.in-Ok-read_table.model added in
    let total = c.total.ensures ∙ row_total rows c.in-Ok-read_table.model added in
    let schema = rw c.in-Ok.ensures at c.schema.ensures.schema in
    rw schema
    (TallyEnds-written c.schema.result.now c.write_report.result (g.I.Source.left c.args.input.now) (g.O.Sink.held c.args.out.now) (g.O.Sink.held c.write_report.new.out) rows table
    (rw (← count, ← total) c.write_report.ensures.ends))
