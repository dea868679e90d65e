use Rattle.smc_query.specs.Trees.{a_query, query_text, query_tree}
use Rattle.smc_parse.proofs.PlaceLaws.{spelled-or-fault}
use Rattle.smc_parse.proofs.read.read_query.Goals as goal

pub returns-clause-spells : goal.returns-clause-spells
returns-clause-spells c = spelled-or-fault query_text (λ query. a_query (query_tree query)) c.args.tokens.now c.build_query.result c.build_query.ensures
