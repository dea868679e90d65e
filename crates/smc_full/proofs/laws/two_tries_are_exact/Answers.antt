use Rattle.smc_full.proofs.Tries.{both_are_exact}
use Rattle.smc_full.proofs.laws.two_tries_are_exact.Goals as goal

pub returns : goal.returns
returns c shape opening world pass coll m first second tried = both_are_exact shape opening world pass coll m first second tried
