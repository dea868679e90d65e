use Rattle.std.proofs.Common.{◌≡◌, ℕ, List, subst, ◌∙◌}
use Rattle.std.specs.Prelude.{IfOk}
use Rattle.smc_plan.specs.Planned.{plan_tree}
use Rattle.smc_plan.specs.declared.plan.Plan.{Plan}
use Rattle.smc_meaning.specs.Answers.{answer_of}
use Rattle.smc_meaning.specs.Printed.{answer_text}
use Rattle.smc_exec.specs.Pushed.{HasPushed}
use Rattle.smc_exec.proofs.PushedLaws.{rows-pushed}
use Rattle.smc_exec.proofs.pushing.answer_over.Goals as goal

pub returns-in-Ok-clause-done : goal.returns-in-Ok-clause-done
returns-in-Ok-clause-done c kinds =
    let plan = c.args.plan.now in
    let old = c.args.pass in
    let new = c.scan_rows-pass.result.0 in
    let pushed = c.scan_rows-pass.new.rows in
    let is_for : pushed.plan ≡ plan = c.scan_rows-pass.ensures.about ∙ c.requires.plan in
    let does = rw (c.in-Ok.is, c.leaves.ensures) at c.scan_rows-pass.ensures.done in
    rows-pushed old new old.shape c.args.coll plan kinds c.args.pushing.now pushed (λ text. text.items) c.text.result c.requires.none does
    (subst (λ (p : Plan). (rows : List (List ℕ)) → HasPushed pushed rows → IfOk c.text.result (λ text. text.items ≡ answer_text (answer_of (plan_tree p) kinds rows))) is_for
    (λ rows has. c.text.ensures rows kinds has))
