use Rattle.std.proofs.Common.{List, sym, ap, ◌∙◌}
use Rattle.std.proofs.lemmas.List.Folds.{list_all-map}
use Rattle.std.specs.List.{list_all}
use Rattle.smc_query.specs.Trees.{call_tree, item_tree}
use Rattle.smc_query.specs.declared.query.Item.{Item}
use Rattle.smc_script.specs.Faults.{knows_call}
use Rattle.smc_script.proofs.folds.knows_folds.Goals as goal

pub returns : goal.returns
returns c =
    c.knows_items.ensures
    ∙ ap (λ (items : List Item). list_all (λ item. knows_call c.args.folds.now c.args.dropped.now (call_tree item.call)) items) c.as_slice.ensures
    ∙ sym (list_all-map (λ item. knows_call c.args.folds.now c.args.dropped.now item.call) item_tree c.args.query.now.items)
