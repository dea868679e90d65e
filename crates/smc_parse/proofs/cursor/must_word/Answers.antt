use Rattle.std.proofs.Common.{sym}
use Rattle.smc_tokens.specs.declared.token.Token.TheVariants.{Word as OfWord}
use Rattle.smc_parse.proofs.LeadLaws.{must-leads, must-stops}
use Rattle.smc_parse.proofs.cursor.must_word.Goals as goal

pub returns-then-is_word : goal.returns-then-is_word
returns-then-is_word c = must-leads c.args.tokens.now c.args.at (OfWord c.args.word) (sym c.if-is_word.ensures)

pub returns-else-is_word : goal.returns-else-is_word
returns-else-is_word c = must-stops c.args.tokens.now c.args.at (OfWord c.args.word) c.requires (sym c.if-is_word.ensures)
