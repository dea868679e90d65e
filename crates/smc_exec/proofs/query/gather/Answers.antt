use Rattle.std.proofs.Common.{◌≡◌, sym, subst, ap, ◌∙◌}
use Rattle.std.proofs.lemmas.Result.{IfOk-weaker}
use Rattle.smc_does.specs.Does.{DoesSome}
use Rattle.smc_objects.specs.Alone.{InSection}
use Rattle.smc_plan.specs.Planned.{plan_tree}
use Rattle.smc_plan.specs.declared.plan.Plan.{Plan}
use Rattle.smc_meaning.specs.Kept.{kept_rows}
use Rattle.smc_meaning.specs.Rows.{RowList}
use Rattle.smc_exec.specs.Gathered.{HasGathered}
use Rattle.smc_exec.specs.Queries.{KeepsRows}
use Rattle.smc_exec.proofs.QueryLaws.{rows-kept}
use Rattle.smc_exec.proofs.query.gather.Goals as goal

pub returns-in-Ok-clause-done : goal.returns-in-Ok-clause-done
returns-in-Ok-clause-done c =
    let plan = c.args.plan.now in
    let old = c.args.pass in
    let new = c.scan_rows-pass.result.0 in
    let gathered = c.scan_rows-pass.new.rows in
    let is_for : gathered.plan ≡ plan = c.scan_rows-pass.ensures.about ∙ c.requires.plan in
    let does = rw (c.in-Ok.is, c.leaves.ensures) at c.scan_rows-pass.ensures.done in
    let keeps : DoesSome old new (InSection (KeepsRows old.shape c.args.coll (plan_tree plan) gathered.kept.rows)) =
    rows-kept old new old.shape c.args.coll (plan_tree plan) (HasGathered c.args.gathering) (HasGathered gathered) gathered.kept.rows c.requires.none
    (λ rows has. has ∙ ap (λ (p : Plan). kept_rows (plan_tree p) rows) is_for) does in
    IfOk-weaker c.into_rows.result (λ rows. rows ≡ gathered.kept) (λ rows. DoesSome old new (InSection (KeepsRows old.shape c.args.coll (plan_tree plan) rows.rows)))
    (λ rows is. subst (λ (k : RowList). DoesSome old new (InSection (KeepsRows old.shape c.args.coll (plan_tree plan) k.rows))) (sym is) keeps) c.into_rows.ensures.rows
