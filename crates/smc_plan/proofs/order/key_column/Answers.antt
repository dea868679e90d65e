use Rattle.std.proofs.Common.{Some, None, sym, ◌∙◌}
use Rattle.smc_query.specs.Trees.{path_tree}
use Rattle.smc_plan.proofs.OrderLaws.{key-by, key-label}
use Rattle.smc_plan.proofs.order.key_column.Goals as goal

pub returns-in-Some : goal.returns-in-Some
returns-in-Some c = key-by c.args.by.now c.args.items.now (path_tree c.args.path.now) c.in-Some.place c.in-Some.ensures

pub returns-in-Some-label_place : goal.returns-in-Some-label_place
returns-in-Some-label_place c =
    key-label c.args.by.now c.args.items.now (path_tree c.args.path.now) (Some c.in-Some-label_place.place) (sym c.in_default.is ∙ c.by_place.ensures)
    (sym c.in-Some-label_place.is ∙ c.label_place.ensures.place)

pub returns-in-None : goal.returns-in-None
returns-in-None c =
    key-label c.args.by.now c.args.items.now (path_tree c.args.path.now) None (sym c.in_default.is ∙ c.by_place.ensures)
    (sym c.in-None.is ∙ c.label_place.ensures.place)
