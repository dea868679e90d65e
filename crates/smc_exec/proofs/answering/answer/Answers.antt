use Rattle.std.proofs.Common.{◌≡◌, map}
use Rattle.std.proofs.lemmas.Result.{IfOk-weaker}
use Rattle.smc_does.specs.Does.{DoesSome}
use Rattle.smc_objects.specs.Alone.{InSection}
use Rattle.smc_plan.specs.Planned.{plan_tree}
use Rattle.smc_meaning.specs.Answers.{answer_of}
use Rattle.smc_meaning.specs.Printed.{answer_text}
use Rattle.smc_exec.specs.Queries.{AnswersRows}
use Rattle.smc_exec.proofs.QueryLaws.{kept-answered}
use Rattle.smc_exec.proofs.answering.answer.Goals as goal

pub push_rows-requires-clause-fits : goal.push_rows-requires-clause-fits
push_rows-requires-clause-fits g c = (c.queries_can_run.ensures (plan_tree c.args.plan.now) c.requires.planned).fits

pub push_rows-requires-clause-sound : goal.push_rows-requires-clause-sound
push_rows-requires-clause-sound g c = (c.queries_can_run.ensures (plan_tree c.args.plan.now) c.requires.planned).typed

pub answer_text-requires-clause-sound : goal.answer_text-requires-clause-sound
answer_text-requires-clause-sound g c = (c.queries_can_run.ensures (plan_tree c.args.plan.now) c.requires.planned).typed

pub returns-in-Ok-clause-done : goal.returns-in-Ok-clause-done
returns-in-Ok-clause-done g c =
    let plan = plan_tree c.args.plan.now in
    let kinds = (map (λ b. (goal.Fold-dyn g (b.fold.vtable, b.fold.value)).kind b.fold.value) c.args.bench.now.boxes.items) in
    let old = c.args.pass in
    let new = c.kept_rows-pass.result.0 in
    let rows = c.in-Ok.rows.rows in
    let does = rw c.in-Ok.is at c.kept_rows-pass.ensures.done in
    IfOk-weaker c.answer_text.result (λ text. text.items ≡ answer_text (answer_of plan kinds rows))
    (λ text. DoesSome old new (InSection (AnswersRows old.shape c.args.coll plan kinds text.items)))
    (λ text is. kept-answered old new old.shape c.args.coll plan kinds rows text.items does is) c.answer_text.ensures.text
