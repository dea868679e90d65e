use Rattle.smc_replies.proofs.WorkerFronts.{worker-one}
use Rattle.smc_replies.proofs.laws.a_worker_is_one.Goals as goal

pub returns : goal.returns
returns c = worker-one c.a_day_has_one_text.ensures
