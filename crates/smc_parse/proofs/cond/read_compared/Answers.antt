use Rattle.std.proofs.Common.{sym}
use Rattle.smc_query.specs.Trees.{expr_tree}
use Rattle.smc_parse.proofs.CondLaws.{compared-stops}
use Rattle.smc_parse.proofs.cond.read_compared.Goals as goal

pub returns-in-None : goal.returns-in-None
returns-in-None c = compared-stops c.args.tokens.now c.args.at c.args.depth (expr_tree c.args.left) c.requires (sym c.if-is_word.ensures) c.in-None.ensures
