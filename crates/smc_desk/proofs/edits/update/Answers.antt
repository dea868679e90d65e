use Rattle.std.proofs.Common.{option_copied, ap, ◌∙◌}
use Rattle.smc_shape.specs.Layout.{Layout, width_of}
use Rattle.smc_query.specs.Trees.{expr_tree, filter_tree}
use Rattle.smc_plan.specs.Edits.{edit_tree}
use Rattle.smc_desk.proofs.EditLaws.{records-wide}
use Rattle.smc_desk.proofs.edits.update.Goals as goal

pub update_rows-pass-requires-clause-records : goal.update_rows-pass-requires-clause-records
update_rows-pass-requires-clause-records c =
    let place = c.args.place in
    let is = rw (c.requires.tables, c.table_name-table.ensures, c.as_str.ensures) at c.in-Ok.ensures.done in
    ap (λ (k : Layout). width_of k place.coll) c.requires.here.1
    ∙ records-wide c.args.region.now.about.shape place c.args.column.now (expr_tree c.args.value.now) (filter_tree (option_copied c.args.filter)) (edit_tree c.in-Ok.plan) c.requires.table is
