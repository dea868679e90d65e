use Rattle.std.proofs.Common.{◌≡◌, ap, ◌∙◌}
use Rattle.smc_plan.specs.Planned.{plan_tree}
use Rattle.smc_plan.specs.declared.plan.Plan.{Plan}
use Rattle.smc_meaning.specs.Answers.{Columns, answer_of}
use Rattle.smc_meaning.specs.Printed.{answer_text}
use Rattle.std.specs.Prelude.{List}
use Rattle.smc_exec.specs.Pushed.{Pushed}
use Rattle.smc_exec.proofs.PushedLaws.{all-pushed}
use Rattle.smc_exec.proofs.pushing.Pushing.text.Goals as goal

pub returns : goal.returns
returns c rows kinds has =
    let made = c.self.inside in
    let taken = all-pushed made.plan.now made.kernel made.batch c.push.new.self rows c.self.view_is c.in_ok-push.ensures.room (c.in_ok-push.ensures.taken rows has) in
    let same : made.plan.now ≡ c.args.self.now.plan = ap (λ (p : Pushed). p.plan) c.self.view_is ∙ c.push.ensures.plan in
    let answer : c.in_ok-answer.answer ≡ answer_of (plan_tree c.args.self.now.plan) kinds rows =
    c.in_ok-answer.ensures rows kinds taken ∙ ap (λ (plan : Plan). answer_of (plan_tree plan) kinds rows) same in
    c.in_ok-text.ensures ∙ ap (λ (columns : List Columns). answer_text columns) answer
