use Rattle.smc_parse.proofs.TextLaws.{more-stops, ends-built}
use Rattle.smc_parse.proofs.read.must_end.Goals as goal

pub returns-in-Some : goal.returns-in-Some
returns-in-Some c = more-stops c.args.tokens.now c.args.at c.in-Some.field-0.now c.requires c.in-Some.ensures

pub returns-in-None : goal.returns-in-None
returns-in-None c = ends-built c.args.tokens.now c.args.at c.in-None.ensures
