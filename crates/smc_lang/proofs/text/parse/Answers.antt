use Rattle.smc_query.specs.Trees.{a_query, query_text, query_tree}
use Rattle.smc_lang.proofs.PlaceLaws.{settled-done, settled-fault}
use Rattle.smc_lang.proofs.text.parse.Goals as goal

pub returns-clause-done : goal.returns-clause-done
returns-clause-done c = settled-done query_text (λ query. a_query (query_tree query)) c.args.text.now c.in_ok-list.list c.read_query.result c.settled.result c.settled.ensures c.in_ok-list.ensures.done (rw c.placed.ensures at c.read_query.ensures.spells)

pub returns-clause-fault : goal.returns-clause-fault
returns-clause-fault c = settled-fault query_text (λ query. a_query (query_tree query)) c.args.text.now c.in_ok-list.list c.read_query.result c.settled.result c.settled.ensures c.in_ok-list.ensures.done (rw c.placed.ensures at c.read_query.ensures.spells)
