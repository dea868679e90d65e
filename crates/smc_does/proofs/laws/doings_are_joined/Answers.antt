use Rattle.smc_does.proofs.DoesLaws.{does-then}
use Rattle.smc_does.proofs.laws.doings_are_joined.Goals as goal

pub returns : goal.returns
returns c first middle last calls later one two = does-then one two
