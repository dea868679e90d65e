use Rattle.std.proofs.Common.{◌≡◌, Ok}
use Rattle.std.proofs.lemmas.Result.{IfOk-weaker}
use Rattle.smc_query.specs.Trees.{query_tree}
use Rattle.smc_plan.specs.Kinds.{IsPlan}
use Rattle.smc_plan.specs.Planned.{plan_tree, planned}
use Rattle.smc_meaning.proofs.tests.the_plan.Goals as goal

pub returns : goal.returns
returns c =
    IfOk-weaker c.plan_query.result (λ plan. planned c.in_ok-catalog.catalog _ (query_tree c.args.query.now) ≡ Ok (plan_tree plan)) (λ plan. IsPlan plan.leaves (plan_tree plan))
    (λ plan is. c.parts_are_typed.ensures.of_queries c.in_ok-catalog.catalog _ (query_tree c.args.query.now) (plan_tree plan) is) c.plan_query.ensures.done
