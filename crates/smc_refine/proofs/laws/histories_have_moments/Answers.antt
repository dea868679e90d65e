use Rattle.smc_refine.proofs.GoingOn.{histories_have_events, histories_have_moments}
use Rattle.smc_refine.proofs.laws.histories_have_moments.Goals as goal

pub returns-clause-steps : goal.returns-clause-steps
returns-clause-steps c = histories_have_moments

pub returns-clause-events : goal.returns-clause-events
returns-clause-events c = histories_have_events
