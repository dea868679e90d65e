use Rattle.std.proofs.Common.{sym}
use Rattle.smc_tokens.specs.declared.token.Token.TheVariants.{Sign as OfSign}
use Rattle.smc_parse.proofs.LeadLaws.{must-leads, must-stops}
use Rattle.smc_parse.proofs.cursor.must_sign.Goals as goal

pub returns-then-is_sign : goal.returns-then-is_sign
returns-then-is_sign c = must-leads c.args.tokens.now c.args.at (OfSign c.args.sign) (sym c.if-is_sign.ensures)

pub returns-else-is_sign : goal.returns-else-is_sign
returns-else-is_sign c = must-stops c.args.tokens.now c.args.at (OfSign c.args.sign) c.requires (sym c.if-is_sign.ensures)
