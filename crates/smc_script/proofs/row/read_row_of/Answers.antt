use Rattle.std.proofs.Common.{sym, ◌∙◌}
use Rattle.smc_script.proofs.RowLaws.{fault-row}
use Rattle.smc_script.proofs.row.read_row_of.Goals as goal

pub returns : goal.returns
returns c =
    fault-row c.one_reading.ensures c.args.catalog.now c.args.table c.args.text.now c.in-Some.schema.now c.in-Err.fault (sym c.in-Some.ensures)
    (rw c.as_bytes.ensures.value at c.in-Err.ensures.gives) (sym c.is_memory.ensures ∙ c.if-is_memory.false)
