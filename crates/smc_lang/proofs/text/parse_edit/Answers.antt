use Rattle.smc_query.specs.Trees.{an_edit, edit_text, expr_tree, filter_tree}
use Rattle.smc_lang.proofs.PlaceLaws.{settled-done, settled-fault}
use Rattle.smc_lang.proofs.text.parse_edit.Goals as goal

pub returns-clause-done : goal.returns-clause-done
returns-clause-done c = settled-done edit_text (λ edit. an_edit (expr_tree edit.0) (filter_tree edit.1)) c.args.text.now c.in_ok-list.list c.read_edit.result c.settled.result c.settled.ensures c.in_ok-list.ensures.done (rw c.placed.ensures at c.read_edit.ensures.spells)

pub returns-clause-fault : goal.returns-clause-fault
returns-clause-fault c = settled-fault edit_text (λ edit. an_edit (expr_tree edit.0) (filter_tree edit.1)) c.args.text.now c.in_ok-list.list c.read_edit.result c.settled.result c.settled.ensures c.in_ok-list.ensures.done (rw c.placed.ensures at c.read_edit.ensures.spells)
