use Rattle.smc_calls.proofs.Along.{calls-made}
use Rattle.smc_calls.proofs.laws.calls_are_made.Goals as goal

pub returns : goal.returns
returns c = calls-made
