use Rattle.smc_plan.specs.Planned.{plan_tree}
use Rattle.smc_exec.proofs.delete.delete_rows.Goals as goal

pub delete_typed-requires-clause-fits : goal.delete_typed-requires-clause-fits
delete_typed-requires-clause-fits c = (c.queries_can_run.ensures (plan_tree c.args.plan.now) c.requires.planned).fits

pub delete_typed-requires-clause-typed : goal.delete_typed-requires-clause-typed
delete_typed-requires-clause-typed c = (c.queries_can_run.ensures (plan_tree c.args.plan.now) c.requires.planned).typed.filter
