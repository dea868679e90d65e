use Rattle.std.proofs.Common.{◌≡◌, length, map, ap, ◌∙◌, arith}
use Rattle.smc_plan.specs.Planned.{plan_tree}
use Rattle.smc_meaning.specs.Answers.{columns_of}
use Rattle.smc_meaning.specs.Groups.{rows_like, same_key}
use Rattle.smc_meaning.specs.Rows.{RowList}
use Rattle.smc_meaning.proofs.AnswerLaws.{group-more, length-filter-le}
use Rattle.smc_meaning.proofs.answering.rows_by.Goals as goal

pub group_row-requires-clause-count : goal.group_row-requires-clause-count
group_row-requires-clause-count g c =
    let rows = c.args.rows.now.rows in
    let same : length c.in_ok-group.group.rows ≡ length (rows_like (plan_tree c.args.plan.now) c.get.result.now rows) = ap (λ (g : RowList). length g.rows) c.in_ok-group.ensures in
    omega (arith, same, length-filter-le (same_key (plan_tree c.args.plan.now) c.get.result.now) rows, c.requires.count)

pub loop-place-preserved : goal.loop-place-preserved
loop-place-preserved g c =
    let kinds = (map (λ b. (goal.Fold-dyn g (b.fold.vtable, b.fold.value)).kind b.fold.value) c.args.bench.now.boxes.items) in
    let same = c.loop-place.invariant.kept in
    let made = c.in_ok-group_row.ensures.row
    ∙ ap (λ (group : RowList). columns_of (plan_tree c.args.plan.now) (map (λ b. (goal.Fold-dyn g (b.fold.vtable, b.fold.value)).kind b.fold.value) c.loop-place.bench.boxes.items) group.rows) c.in_ok-group.ensures
    ∙ ap (λ boxes. columns_of (plan_tree c.args.plan.now) boxes (rows_like (plan_tree c.args.plan.now) c.get.result.now c.args.rows.now.rows)) same in
    record {
      rows = group-more (columns_of (plan_tree c.args.plan.now) kinds) (λ first. rows_like (plan_tree c.args.plan.now) first c.args.rows.now.rows) c.args.firsts.now.rows c.loop-place.place c.get.result.now
          c.loop-place.all.items c.push.new.self.items c.in_ok-group_row.field-0 c.get.ensures.row c.loop-place.invariant.rows made c.in_ok-push.ensures.items;
      kept = c.in_ok-group_row.ensures.kept ∙ same;
    }
