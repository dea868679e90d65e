use Rattle.smc_does.proofs.DoesLaws.{stays-then}
use Rattle.smc_does.proofs.laws.goings_on_are_joined.Goals as goal

pub returns : goal.returns
returns c first middle last one two = stays-then one two
