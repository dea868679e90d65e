use Rattle.smc_query.specs.Trees.{an_edit, edit_text, expr_tree, filter_tree}
use Rattle.smc_parse.proofs.PlaceLaws.{spelled-or-fault}
use Rattle.smc_parse.proofs.read.read_edit.Goals as goal

pub returns-clause-spells : goal.returns-clause-spells
returns-clause-spells c = spelled-or-fault edit_text (λ edit. an_edit (expr_tree edit.0) (filter_tree edit.1)) c.args.tokens.now c.build_edit.result c.build_edit.ensures
