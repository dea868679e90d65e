-- Rows that went into a kernel, a batch at a time.
use Rattle.std.proofs.Common.{◌≡◌, ℕ, List, [], ◌++◌, refl, sym, subst, ap, ◌∙◌}
use Rattle.std.specs.Prelude.{IfOk, Result}
use Rattle.std.proofs.lemmas.List.{append-nil}
use Rattle.std.proofs.lemmas.Result.{IfOk-weaker}
use Rattle.smc_shape.specs.Layout.{Layout}
use Rattle.smc_folds.specs.Kinds.{Kind}
use Rattle.smc_plan.specs.Planned.{plan_tree}
use Rattle.smc_plan.specs.declared.plan.Plan.{Plan}
use Rattle.smc_region.specs.Callers.{Caller}
use Rattle.smc_does.specs.Does.{DoesSome}
use Rattle.smc_objects.specs.Alone.{InSection}
use Rattle.smc_meaning.specs.Answers.{answer_of}
use Rattle.smc_meaning.specs.Printed.{answer_text}
use Rattle.smc_meaning.specs.Rows.{RowList}
use Rattle.smc_kernel.specs.Taken.{HasTaken}
use Rattle.smc_kernel.specs.declared.kernel.Kernel.{Kernel}
use Rattle.smc_visits.specs.Visits.{TakesRows, rows_in}
use Rattle.smc_exec.specs.Pushed.{HasPushed, Pushed}
use Rattle.smc_exec.specs.Queries.{AnswersRows, ReadsRows}
use Rattle.smc_exec.proofs.QueryLaws.{rows-answered}

-- where the batch is empty, all rows are in the kernel
pub all-pushed : (plan : Plan) (kernel : Kernel) (batch : RowList) (seen : Pushed) (rows : List (List ℕ))
    → (let p : Pushed = record { plan = plan; kernel = kernel; batch = batch } in p) ≡ seen → seen.batch.rows ≡ [] → HasPushed seen rows → HasTaken (plan_tree plan) rows kernel
all-pushed plan kernel batch seen rows is empty has =
    let had : HasPushed (record { plan = plan; kernel = kernel; batch = batch }) rows = subst (λ (p : Pushed). HasPushed p rows) (sym is) has in
    let none : batch.rows ≡ [] = ap (λ (p : Pushed). p.batch.rows) is ∙ empty in
    let same : rows ≡ had.before = had.rows_are ∙ (ap (λ (k : List (List ℕ)). had.before ++ k) none ∙ append-nil had.before) in
    subst (λ (k : List (List ℕ)). HasTaken (plan_tree plan) k kernel) (sym same) had.taken

-- the text of the answer over all rows that were taken is that over the rows that were read
pub rows-pushed : {V E : Type 0} (old new : Caller) (shape : Layout) (coll : ℕ) (plan : Plan) (kinds : List Kind) (had has : Pushed) (bytes : V → List ℕ) (text : Result V E) → HasPushed had []
    → DoesSome old new (InSection (TakesRows shape coll plan.leaves (HasPushed had) (HasPushed has)))
    → ((rows : List (List ℕ)) → HasPushed has rows → IfOk text (λ made. bytes made ≡ answer_text (answer_of (plan_tree plan) kinds rows)))
    → IfOk text (λ made. DoesSome old new (InSection (AnswersRows shape coll (plan_tree plan) kinds (bytes made))))
rows-pushed old new shape coll plan kinds had has bytes text none does answers =
    let section = does.2 in
    let takes = section.holds in
    let rows = rows_in takes.visits in
    let reads : ReadsRows shape coll plan.leaves rows section.inner = record { visits = takes.visits; scans = takes.scans; rows_are = refl } in
    IfOk-weaker text (λ made. bytes made ≡ answer_text (answer_of (plan_tree plan) kinds rows))
    (λ made. DoesSome old new (InSection (AnswersRows shape coll (plan_tree plan) kinds (bytes made))))
    (λ made is. rows-answered old new shape coll (plan_tree plan) kinds rows (bytes made)
    (does.0, does.1, record { epoch = section.epoch; inner = section.inner; holds = reads; made = section.made }) is)
    (answers rows (takes.taken [] none))
