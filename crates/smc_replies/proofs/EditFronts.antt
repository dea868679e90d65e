-- The calls of a delete and of an update are read off from the front of a trace.
use Rattle.std.proofs.Common.{◌≡◌, ℕ, Option, List, ◌++◌, sym, subst, ap, ◌∙◌}
use Rattle.smc_shape.specs.Layout.{Layout}
use Rattle.smc_trace.specs.Named.{leaves}
use Rattle.smc_trace.specs.Trace.{CallEnd}
use Rattle.smc_query.specs.Trees.{CondTree, ExprTree, Word}
use Rattle.smc_plan.specs.Edits.{PlannedEdit}
use Rattle.smc_plan.specs.Planned.{Planned}
use Rattle.smc_visits.specs.declared.edits.Edits.{Edits}
use Rattle.smc_visits.proofs.FrontLaws.{later-calls}
use Rattle.smc_visits.proofs.EditFronts.{edits-front}
use Rattle.smc_exec.specs.Deletes.{DeletesRows, deletes}
use Rattle.smc_exec.specs.Updates.{UpdatesRows, updates}
use Rattle.smc_exec.specs.declared.update.Updated.{Updated}
use Rattle.smc_replies.specs.Edits.{DeletesWhere, UpdatesWhere, delete_plan, deleted_line, update_plan, updated_line}
use Rattle.smc_replies.proofs.Replied.{IsOneReply, one-plan}
use Rattle.smc_replies.proofs.ObjectFronts.{inner-front}

pub deletes-one : (shape : Layout) (table : Word) (coll : ℕ) (filter : CondTree) (first other rest behind : List CallEnd) (text said : List ℕ) → DeletesWhere shape table coll filter first text
    → DeletesWhere shape table coll filter other said → first ++ rest ≡ other ++ behind → IsOneReply rest behind text said
deletes-one shape table coll filter first other rest behind text said one two same =
    let plan = one-plan (delete_plan table filter) one.plan two.plan one.planned two.planned in
    let mine = subst (λ (p : Planned). DeletesRows shape coll p one.removed one.deletes.inner) plan one.deletes.holds in
    let yours = two.deletes.holds in
    let read = edits-front shape two.plan.leaves (deletes two.plan) coll mine.edits yours.edits one.deletes.inner two.deletes.inner (leaves ++ rest) (leaves ++ behind) mine.rows yours.rows
    (inner-front first other rest behind one.deletes two.deletes same) in
    let removed = mine.count ∙ ap (λ (e : Edits). e.removed) read.0 ∙ sym yours.count in
    (later-calls _ _ _ _ read.1, one.reply ∙ ap deleted_line removed ∙ sym two.reply)

same-updated : (one other : Updated) → one.written ≡ other.written → one.skipped ≡ other.skipped → one ≡ other
same-updated one other written skipped =
    ap (λ (k : ℕ). let x : Updated = record { written = k; skipped = one.skipped } in x) written
    ∙ ap (λ (k : ℕ). let x : Updated = record { written = other.written; skipped = k } in x) skipped

pub updates-one : (shape : Layout) (table : Word) (coll : ℕ) (column : Word) (value : ExprTree) (filter : Option CondTree) (first other rest behind : List CallEnd) (text said : List ℕ)
    → UpdatesWhere shape table coll column value filter first text → UpdatesWhere shape table coll column value filter other said → first ++ rest ≡ other ++ behind
    → IsOneReply rest behind text said
updates-one shape table coll column value filter first other rest behind text said one two same =
    let plan = one-plan (update_plan table column value filter) one.plan two.plan one.planned two.planned in
    let mine = subst (λ (p : PlannedEdit). UpdatesRows shape coll p one.updated one.updates.inner) plan one.updates.holds in
    let yours = two.updates.holds in
    let read = edits-front shape two.plan.leaves (updates two.plan) coll mine.edits yours.edits one.updates.inner two.updates.inner (leaves ++ rest) (leaves ++ behind) mine.rows yours.rows
    (inner-front first other rest behind one.updates two.updates same) in
    let written = mine.written ∙ ap (λ (e : Edits). e.written) read.0 ∙ sym yours.written in
    let skipped = mine.skipped ∙ ap (λ (e : Edits). e.skipped) read.0 ∙ sym yours.skipped in
    (later-calls _ _ _ _ read.1, one.reply ∙ ap updated_line (same-updated one.updated two.updated written skipped) ∙ sym two.reply)
