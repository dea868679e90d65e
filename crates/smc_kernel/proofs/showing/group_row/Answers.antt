use Rattle.std.proofs.Common.{refl, sym, ap, ◌∙◌}
use Rattle.smc_plan.specs.Planned.{output_trees}
use Rattle.smc_kernel.proofs.PrintLaws.{row-shows}
use Rattle.smc_kernel.proofs.TotalLaws.{totals-same}
use Rattle.smc_kernel.proofs.showing.group_row.Goals as goal

pub returns : goal.returns
returns c = λ kinds rows counted all.
    let plan = c.args.plan.now in
    let here = totals-same plan.leaves c.leaves.result.now (output_trees plan.items) (output_trees c.as_slice.result.now) c.args.totals.now c.args.totals.now rows rows
    (sym c.leaves.ensures) (ap output_trees (sym c.as_slice.ensures)) refl refl all in
    let shows = c.in_ok-push_columns.ensures.shown kinds rows counted here in
    c.of.ensures ∙ shows
    ∙ row-shows kinds _ plan.leaves (output_trees c.as_slice.result.now) (output_trees plan.items) rows c.new-columns.result.items c.new-columns.ensures.items c.leaves.ensures
    (ap output_trees c.as_slice.ensures)
