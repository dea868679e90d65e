use Rattle.smc_calls.proofs.Along.{stretch-made}
use Rattle.smc_calls.proofs.laws.a_stretch_is_made.Goals as goal

pub returns : goal.returns
returns c = stretch-made
