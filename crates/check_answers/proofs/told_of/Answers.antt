use Rattle.std.proofs.Common.{◌∷◌, []}
use Rattle.std.specs.Prelude.{codes}
use Rattle.smc_query.specs.Trees.{query_tree}
use Rattle.smc_plan.specs.Planned.{plan_tree}
use Rattle.check_answers.proofs.told_of.Goals as goal

pub slow-requires-clause-sound : goal.slow-requires-clause-sound
slow-requires-clause-sound g c =
    c.parts_are_typed.ensures.of_queries c.args.catalog.now (codes "distinct" ∷ codes "median" ∷ codes "range" ∷ codes "lone" ∷ []) (query_tree c.in_ok-query.query) (plan_tree c.in_ok-plan.plan) c.in_ok-plan.ensures.done
