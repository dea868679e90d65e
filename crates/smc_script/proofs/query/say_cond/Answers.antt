use Rattle.smc_script.proofs.SaysLaws.{no-cond}
use Rattle.smc_script.proofs.query.say_cond.Goals as goal

pub returns-in-Ok-None : goal.returns-in-Ok-None
returns-in-Ok-None c = no-cond c.args.table c.args.text.now (rw c.in-Ok-None.field-0-is at c.in-Ok-None.ensures)
