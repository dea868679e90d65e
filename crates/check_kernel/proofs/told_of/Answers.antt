use Rattle.std.proofs.Common.{[]}
use Rattle.smc_query.specs.Trees.{query_tree}
use Rattle.smc_plan.specs.Planned.{plan_tree}
use Rattle.check_kernel.proofs.told_of.Goals as goal

pub answer_over-requires-clause-sound : goal.answer_over-requires-clause-sound
answer_over-requires-clause-sound c =
    c.parts_are_typed.ensures.of_queries c.args.catalog.now [] (query_tree c.in_ok-query.query) (plan_tree c.in_ok-plan.plan) c.in_ok-plan.ensures.done

pub slow-requires-clause-sound : goal.slow-requires-clause-sound
slow-requires-clause-sound c =
    c.parts_are_typed.ensures.of_queries c.args.catalog.now [] (query_tree c.in_ok-query.query) (plan_tree c.in_ok-plan.plan) c.in_ok-plan.ensures.done
