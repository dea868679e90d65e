use Rattle.smc_model.proofs.ExampleLaws.{no_ring}
use Rattle.smc_model.proofs.laws.told_events.Goals as goal

pub returns-clause-ring : goal.returns-clause-ring
returns-clause-ring c = no_ring
