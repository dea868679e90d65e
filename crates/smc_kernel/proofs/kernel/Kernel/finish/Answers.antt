use Rattle.std.proofs.Common.{◌≡◌, map, ap, refl, sym, ◌∙◌}
use Rattle.smc_plan.specs.Planned.{output_trees, plan_tree}
use Rattle.smc_meaning.specs.Answers.{columns_of}
use Rattle.smc_meaning.specs.Groups.{groups}
use Rattle.smc_meaning.specs.Kept.{kept_rows}
use Rattle.smc_meaning.specs.Orders.{ordered}
use Rattle.smc_kernel.proofs.AnswerLaws.{one-group}
use Rattle.smc_kernel.proofs.TotalLaws.{totals-same}
use Rattle.smc_kernel.proofs.kernel.Kernel.finish.Goals as goal

pub returns : goal.returns
returns c = λ rows kinds so.
    let plan = c.args.plan.now in
    let tree = plan_tree plan in
    let all = output_trees plan.items in
    let here = totals-same plan.leaves plan.leaves all all c.args.self.now.totals.items c.deref.result.now (kept_rows tree rows) (kept_rows tree rows) refl refl (sym c.deref.ensures.value) refl so.totals in
    let groups_are : c.push.new.self.items ≡ map (columns_of tree kinds) (groups tree (kept_rows tree rows)) =
    one-group tree kinds (kept_rows tree rows) c.new-rows.result.items c.push.new.self.items c.in_ok-group_row.field-0 c.requires.one c.new-rows.ensures.items c.in_ok-push.ensures.items
    (c.in_ok-group_row.ensures kinds (kept_rows tree rows) so.kept here) in
    c.ordered.ensures ∙ ap (λ sort. ordered sort plan.first c.push.new.self.items) c.as_slice.ensures ∙ ap (ordered tree.sort tree.first) groups_are
