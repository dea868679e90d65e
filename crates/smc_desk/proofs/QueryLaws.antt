-- What a query does, told from the calls that it is made of.
use Rattle.std.proofs.Common.{◌≡◌, ℕ, List, Result, Ok, Err, IfOk, subst}
use Rattle.smc_shape.specs.Layout.{Layout}
use Rattle.smc_region.specs.Callers.{Caller}
use Rattle.smc_does.specs.Does.{DoesSome}
use Rattle.smc_objects.specs.Alone.{InSection}
use Rattle.smc_folds.specs.Kinds.{Kind}
use Rattle.smc_query.specs.Trees.{QueryTree, Word}
use Rattle.smc_plan.specs.Planned.{Planned}
use Rattle.smc_exec.specs.Queries.{AnswersRows}
use Rattle.smc_replies.specs.Queries.{AnswersQuery, query_plan}

pub answers-done : {E : Type 0} (shape now : Layout) (folds : List Word) (coll : ℕ) (tree : QueryTree) (plan : Planned) (kinds : List Kind) (old new : Caller) (reply : Result (List ℕ) E) → now ≡ shape
    → query_plan folds tree ≡ Ok plan → IfOk reply (λ text. DoesSome old new (InSection (AnswersRows now coll plan kinds text)))
    → IfOk reply (λ text. DoesSome old new (λ calls. AnswersQuery shape folds coll tree kinds calls text))
answers-done shape now folds coll tree plan kinds old new (Ok text) same is done =
    (done.0, done.1, record { plan = plan; planned = is; answers = subst (λ (k : Layout). InSection (AnswersRows k coll plan kinds text) done.0) same done.2 })
answers-done shape now folds coll tree plan kinds old new (Err fault) same is done = tt
