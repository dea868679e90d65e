use Rattle.std.proofs.Common.{sym, ◌∙◌}
use Rattle.smc_plan.specs.Planned.{plan_tree}
use Rattle.smc_meaning.proofs.GroupLaws.{first_more, first_none}
use Rattle.smc_meaning.proofs.group.first_rows.Goals as goal
use Rattle.smc_meaning.proofs.group.first_rows.Goals.{then-not-has_key+in_ok-push, else-not-has_key}

pub loop-place-preserved : goal.loop-place-preserved
loop-place-preserved c = elim c.if-not-has_key.branch [
  | then-not-has_key+in_ok-push w ↦
      rw w.firsts-is
      (first_more (plan_tree c.args.plan.now) c.args.rows.now c.loop-place.firsts w.push.new.self c.loop-place.place c.get-row.result.now
      c.loop-place.invariant c.get-row.ensures.row (sym c.has_key.ensures ∙ w.if-not-has_key.true) w.in_ok-push.ensures.put)
  | else-not-has_key w ↦
      rw w.firsts-is
      (first_none (plan_tree c.args.plan.now) c.args.rows.now c.loop-place.firsts c.loop-place.place c.get-row.result.now
      c.loop-place.invariant c.get-row.ensures.row (sym c.has_key.ensures ∙ w.if-not-has_key.false))
]
