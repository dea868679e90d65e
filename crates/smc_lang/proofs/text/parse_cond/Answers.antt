use Rattle.smc_query.specs.Trees.{a_cond, cond_text, cond_tree}
use Rattle.smc_lang.proofs.PlaceLaws.{settled-done, settled-fault}
use Rattle.smc_lang.proofs.text.parse_cond.Goals as goal

pub returns-clause-done : goal.returns-clause-done
returns-clause-done c = settled-done cond_text (λ cond. a_cond (cond_tree cond)) c.args.text.now c.in_ok-list.list c.read_cond.result c.settled.result c.settled.ensures c.in_ok-list.ensures.done (rw c.placed.ensures at c.read_cond.ensures.spells)

pub returns-clause-fault : goal.returns-clause-fault
returns-clause-fault c = settled-fault cond_text (λ cond. a_cond (cond_tree cond)) c.args.text.now c.in_ok-list.list c.read_cond.result c.settled.result c.settled.ensures c.in_ok-list.ensures.done (rw c.placed.ensures at c.read_cond.ensures.spells)
