use Rattle.std.proofs.Common.{None}
use Rattle.smc_core.specs.declared.done.Done.TheVariants as done
use Rattle.smc_compact.proofs.RoundLaws.{keeps-by, owns-by, scans-by, stays-by, tells-by}
use Rattle.smc_compact.proofs.cancelling.cancel.Goals as goal

pub returns-clause-done : goal.returns-clause-done
returns-clause-done c = tells-by c.args.s.now c.cancel_by_steps.new.s None done.Cancelled c.cancel_by_steps.ensures.cancelled

pub returns-clause-none : goal.returns-clause-none
returns-clause-none c = owns-by c.args.s.now c.cancel_by_steps.new.s None done.Cancelled c.cancel_by_steps.ensures.cancelled

pub returns-clause-stays : goal.returns-clause-stays
returns-clause-stays c = stays-by c.args.s.now c.cancel_by_steps.new.s None done.Cancelled c.cancel_by_steps.ensures.cancelled

pub returns-clause-scans : goal.returns-clause-scans
returns-clause-scans c = scans-by c.args.s.now c.cancel_by_steps.new.s None done.Cancelled c.cancel_by_steps.ensures.cancelled

pub returns-clause-keeps : goal.returns-clause-keeps
returns-clause-keeps c = keeps-by c.args.s.now c.cancel_by_steps.new.s None done.Cancelled c.cancel_by_steps.ensures.cancelled
