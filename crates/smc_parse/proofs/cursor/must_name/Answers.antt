use Rattle.smc_parse.proofs.PartLaws.{name-leads, name-stops}
use Rattle.smc_parse.proofs.cursor.must_name.Goals as goal

pub returns-in_ok-copied-in-Some : goal.returns-in_ok-copied-in-Some
returns-in_ok-copied-in-Some c = rw c.in_ok-copied-in-Some.ensures (name-leads c.args.tokens.now c.args.at c.in-Some.text.now c.in-Some.ensures)

pub returns-in-None : goal.returns-in-None
returns-in-None c = name-stops c.args.tokens.now c.args.at c.requires c.in-None.ensures
