use Rattle.smc_parse.proofs.PartLaws.{whole-leads, whole-stops}
use Rattle.smc_parse.proofs.cursor.must_whole.Goals as goal

pub returns-in-Some : goal.returns-in-Some
returns-in-Some c = whole-leads c.args.tokens.now c.args.at c.in-Some.count c.in-Some.ensures

pub returns-in-None : goal.returns-in-None
returns-in-None c = whole-stops c.args.tokens.now c.args.at c.requires c.in-None.ensures
