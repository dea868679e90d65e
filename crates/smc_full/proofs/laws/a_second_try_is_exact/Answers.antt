use Rattle.smc_full.proofs.Tries.{second_is_exact}
use Rattle.smc_full.proofs.laws.a_second_try_is_exact.Goals as goal

pub returns : goal.returns
returns c shape opening world pass coll m first second tried = second_is_exact shape opening world pass coll m first second tried
