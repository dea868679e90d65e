use Rattle.std.proofs.Common.{List, ℕ, Bool, sym, ◌∙◌}
use Rattle.smc_plan.specs.Planned.{plan_tree}
use Rattle.smc_meaning.specs.Groups.{same_key}
use Rattle.smc_meaning.proofs.GroupLaws.{any-next, any-there}
use Rattle.smc_meaning.proofs.group.has_key.Goals as goal

pub returns-then-same_key : goal.returns-then-same_key
returns-then-same_key c =
    let p : List ℕ → Bool = λ other. same_key (plan_tree c.args.plan.now) other c.args.row.now in
    sym (any-there p c.args.rows.now.rows c.args.count c.loop-place.place c.get.result.now c.loop-place-test.true c.get.ensures.row (sym c.same_key.ensures ∙ c.if-same_key.true))

pub loop-place-preserved : goal.loop-place-preserved
loop-place-preserved c =
    let p : List ℕ → Bool = λ other. same_key (plan_tree c.args.plan.now) other c.args.row.now in
    any-next p c.args.rows.now.rows c.loop-place.place c.get.result.now c.loop-place.invariant c.get.ensures.row (sym c.same_key.ensures ∙ c.if-same_key.false)
