-- The calls of a query are read off from the front of a trace.
use Rattle.std.proofs.Common.{◌≡◌, ℕ, List, ◌++◌, sym, subst, ap, ◌∙◌}
use Rattle.smc_shape.specs.Layout.{Layout}
use Rattle.smc_trace.specs.Named.{leaves}
use Rattle.smc_trace.specs.Trace.{CallEnd}
use Rattle.smc_folds.specs.Kinds.{Kind}
use Rattle.smc_query.specs.Trees.{QueryTree, Word}
use Rattle.smc_plan.specs.Planned.{Planned}
use Rattle.smc_visits.proofs.FrontLaws.{later-calls}
use Rattle.smc_visits.proofs.ReadFronts.{scans-front}
use Rattle.smc_meaning.specs.Answers.{answer_of}
use Rattle.smc_meaning.specs.Printed.{answer_text}
use Rattle.smc_exec.specs.Queries.{AnswersRows}
use Rattle.smc_replies.specs.Queries.{AnswersQuery, query_plan}
use Rattle.smc_replies.proofs.Replied.{IsOneReply, one-plan}
use Rattle.smc_replies.proofs.ObjectFronts.{inner-front}

pub answers-one : (shape : Layout) (folds : List Word) (coll : ℕ) (tree : QueryTree) (kinds : List Kind) (first other rest behind : List CallEnd) (text said : List ℕ) → AnswersQuery shape folds coll tree kinds first text
    → AnswersQuery shape folds coll tree kinds other said → first ++ rest ≡ other ++ behind → IsOneReply rest behind text said
answers-one shape folds coll tree kinds first other rest behind text said one two same =
    let plan = one-plan (query_plan folds tree) one.plan two.plan one.planned two.planned in
    let mine = subst (λ (p : Planned). AnswersRows shape coll p kinds text one.answers.inner) plan one.answers.holds in
    let yours = two.answers.holds in
    let read = scans-front shape two.plan.leaves coll mine.reads.visits yours.reads.visits one.answers.inner two.answers.inner (leaves ++ rest) (leaves ++ behind) mine.reads.scans yours.reads.scans
    (inner-front first other rest behind one.answers two.answers same) in
    let rows = mine.reads.rows_are ∙ read.0 ∙ sym yours.reads.rows_are in
    (later-calls _ _ _ _ read.1, mine.text_is ∙ ap (λ (r : List (List ℕ)). answer_text (answer_of two.plan kinds r)) rows ∙ sym yours.text_is)
