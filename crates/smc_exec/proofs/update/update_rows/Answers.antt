use Rattle.smc_plan.specs.Edits.{edit_tree}
use Rattle.smc_exec.proofs.update.update_rows.Goals as goal

pub update_typed-pass-requires-clause-field : goal.update_typed-pass-requires-clause-field
update_typed-pass-requires-clause-field c = rw c.requires.records (c.edits_can_run.ensures (edit_tree c.args.plan.now) c.requires.planned).field

pub update_typed-pass-requires-clause-fits : goal.update_typed-pass-requires-clause-fits
update_typed-pass-requires-clause-fits c = (c.edits_can_run.ensures (edit_tree c.args.plan.now) c.requires.planned).fits

pub update_typed-pass-requires-clause-typed : goal.update_typed-pass-requires-clause-typed
update_typed-pass-requires-clause-typed c = (c.edits_can_run.ensures (edit_tree c.args.plan.now) c.requires.planned).typed
