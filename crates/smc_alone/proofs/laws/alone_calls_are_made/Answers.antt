use Rattle.smc_alone.proofs.AloneMakes.{alone-calls_made}
use Rattle.smc_alone.proofs.laws.alone_calls_are_made.Goals as goal

pub returns : goal.returns
returns c = alone-calls_made
