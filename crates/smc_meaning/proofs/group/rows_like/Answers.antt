use Rattle.std.proofs.Common.{sym, ◌∙◌}
use Rattle.smc_plan.specs.Planned.{plan_tree}
use Rattle.smc_meaning.specs.Groups.{same_key}
use Rattle.smc_meaning.proofs.GroupLaws.{chosen_more, chosen_none}
use Rattle.smc_meaning.proofs.group.rows_like.Goals as goal
use Rattle.smc_meaning.proofs.group.rows_like.Goals.{then-same_key+in_ok-push, else-same_key}

pub loop-place-preserved : goal.loop-place-preserved
loop-place-preserved c = elim c.if-same_key.branch [
  | then-same_key+in_ok-push w ↦
      rw w.group-is
      (chosen_more (same_key (plan_tree c.args.plan.now) c.args.first.now) c.args.rows.now c.loop-place.group w.push.new.self c.loop-place.place c.get-row.result.now
      c.loop-place.invariant c.get-row.ensures.row (sym c.same_key.ensures ∙ w.if-same_key.true) w.in_ok-push.ensures.put)
  | else-same_key w ↦
      rw w.group-is
      (chosen_none (same_key (plan_tree c.args.plan.now) c.args.first.now) c.args.rows.now c.loop-place.group c.loop-place.place c.get-row.result.now
      c.loop-place.invariant c.get-row.ensures.row (sym c.same_key.ensures ∙ w.if-same_key.false))
]
