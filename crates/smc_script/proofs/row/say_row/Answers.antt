use Rattle.smc_script.proofs.RowLaws.{no-row}
use Rattle.smc_script.proofs.row.say_row.Goals as goal

pub returns-in-Ok-None : goal.returns-in-Ok-None
returns-in-Ok-None c =
    no-row c.args.catalog.now c.args.table c.args.name.now c.args.text.now (rw c.in-Ok-None.field-0-is at c.in-Ok-None.ensures)
