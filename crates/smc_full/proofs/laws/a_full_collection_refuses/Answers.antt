use Rattle.smc_full.proofs.Tries.{full_refuses_both}
use Rattle.smc_full.proofs.laws.a_full_collection_refuses.Goals as goal

pub returns : goal.returns
returns c shape opening world pass coll m first second tried = full_refuses_both shape opening world pass coll m first second tried
