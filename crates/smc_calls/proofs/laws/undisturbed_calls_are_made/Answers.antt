use Rattle.smc_calls.proofs.Undisturbed.{calls-make}
use Rattle.smc_calls.proofs.laws.undisturbed_calls_are_made.Goals as goal

pub returns : goal.returns
returns c = calls-make
