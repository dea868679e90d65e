use Rattle.std.proofs.Common.{sym, ◌∙◌}
use Rattle.smc_plan.specs.Planned.{plan_tree}
use Rattle.smc_meaning.specs.Kept.{is_kept}
use Rattle.smc_meaning.proofs.GroupLaws.{chosen_more, chosen_none}
use Rattle.smc_meaning.proofs.group.kept_rows.Goals as goal
use Rattle.smc_meaning.proofs.group.kept_rows.Goals.{then-kept+in_ok-push, else-kept}

pub loop-place-preserved : goal.loop-place-preserved
loop-place-preserved c = elim c.if-kept.branch [
  | then-kept+in_ok-push w ↦
      rw w.all-is
      (chosen_more (is_kept (plan_tree c.args.plan.now)) c.args.rows.now c.loop-place.all w.push.new.self c.loop-place.place c.get-row.result.now
      c.loop-place.invariant c.get-row.ensures.row (sym c.kept.ensures ∙ w.if-kept.true) w.in_ok-push.ensures.put)
  | else-kept w ↦
      rw w.all-is
      (chosen_none (is_kept (plan_tree c.args.plan.now)) c.args.rows.now c.loop-place.all c.loop-place.place c.get-row.result.now
      c.loop-place.invariant c.get-row.ensures.row (sym c.kept.ensures ∙ w.if-kept.false))
]
