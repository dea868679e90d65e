use Rattle.std.proofs.Common.{◌≡◌, ◌∷◌, ◌++◌, [], List, Option, ap, refl, sym, ◌∙◌, map, rules}
use Rattle.smc_plan.specs.Outputs.{OutputTree, output_tree}
use Rattle.smc_plan.specs.Planned.{output_trees}
use Rattle.smc_plan.specs.declared.output.Output.{Output}
use Rattle.smc_meaning.specs.Cells.{column_seen}
use Rattle.smc_meaning.specs.Groups.{shown}
use Rattle.smc_kernel.specs.declared.total.Total.{Total}
use Rattle.smc_kernel.proofs.PrintLaws.{columns-more, on-ok}
use Rattle.smc_kernel.proofs.TotalLaws.{totals-same}
use Rattle.smc_kernel.proofs.showing.+push_columns.Goals as goal

pub returns-in_ok-push_column-in-Some-Some-clause-shown :
    goal.returns-in_ok-push_column-in-Some-Some-clause-shown
returns-in_ok-push_column-in-Some-Some-clause-shown t c = λ kinds rows counted all.
    let items_are : c.args.items.now ≡ c.in-Some-Some.item.now ∷ c.in-Some-Some.more_items.now = search rules in
    let totals_are : c.args.totals.now ≡ c.in-Some-Some.total.now ∷ c.in-Some-Some.more_totals.now = search rules in
    let both = totals-same c.args.leaves.now c.args.leaves.now (output_trees c.args.items.now) (output_trees (c.in-Some-Some.item.now ∷ c.in-Some-Some.more_items.now))
    c.args.totals.now (c.in-Some-Some.total.now ∷ c.in-Some-Some.more_totals.now) rows rows refl (ap output_trees items_are) totals_are refl all in
    let one = c.in_ok-push_column-in-Some-Some.ensures.shown kinds rows counted both.0 in
    on-ok
    (map column_seen c.push_columns.new.columns.items ≡ map column_seen c.push_column.new.columns.items ++ map (λ item. shown kinds c.args.leaves.now item rows) (output_trees c.in-Some-Some.more_items.now))
    (map column_seen c.push_columns.new.columns.items ≡ map column_seen c.args.columns.now.items ++ map (λ item. shown kinds c.args.leaves.now item rows) (output_trees c.args.items.now))
    c.push_columns.result
    (λ rest. columns-more (λ item. shown kinds c.args.leaves.now item rows) (map column_seen c.args.columns.now.items) (map column_seen c.push_column.new.columns.items)
    (map column_seen c.push_columns.new.columns.items) (output_tree c.in-Some-Some.item.now) (output_trees c.in-Some-Some.more_items.now) one rest
    ∙ ap (λ (items : List Output). map column_seen c.args.columns.now.items ++ map (λ item. shown kinds c.args.leaves.now item rows) (output_trees items)) (sym items_are))
    (c.push_columns.ensures.shown kinds rows counted both.1)
