use Rattle.smc_plan.specs.Planned.{plan_tree}
use Rattle.smc_exec.proofs.query.kept_rows.Goals as goal

pub gather-requires-clause-fits : goal.gather-requires-clause-fits
gather-requires-clause-fits c = (c.queries_can_run.ensures (plan_tree c.args.plan.now) c.requires.planned).fits

pub new-requires : goal.new-requires
new-requires c = record { typed = (c.queries_can_run.ensures (plan_tree c.args.plan.now) c.requires.planned).typed.filter }
