use Rattle.smc_script.proofs.SaysLaws.{no-edit}
use Rattle.smc_script.proofs.query.say_edit.Goals as goal

pub returns-in-Ok-None : goal.returns-in-Ok-None
returns-in-Ok-None c = no-edit c.args.table c.args.column.now c.args.text.now (rw c.in-Ok-None.field-0-is at c.in-Ok-None.ensures)
