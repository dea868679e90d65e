use Rattle.smc_query.specs.Trees.{a_cond, cond_text, cond_tree}
use Rattle.smc_parse.proofs.PlaceLaws.{spelled-or-fault}
use Rattle.smc_parse.proofs.read.read_cond.Goals as goal

pub returns-clause-spells : goal.returns-clause-spells
returns-clause-spells c = spelled-or-fault cond_text (λ cond. a_cond (cond_tree cond)) c.args.tokens.now c.build_cond.result c.build_cond.ensures
