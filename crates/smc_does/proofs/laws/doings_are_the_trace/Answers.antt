use Rattle.smc_does.proofs.DoesLaws.{does-all}
use Rattle.smc_does.proofs.laws.doings_are_the_trace.Goals as goal

pub returns : goal.returns
returns c = does-all
