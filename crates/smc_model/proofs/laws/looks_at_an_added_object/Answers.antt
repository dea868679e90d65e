use Rattle.smc_model.proofs.ExampleLaws.{misses_then_finds, finds_then_misses}
use Rattle.smc_model.proofs.laws.looks_at_an_added_object.Goals as goal

pub returns-clause-lawful : goal.returns-clause-lawful
returns-clause-lawful c = misses_then_finds

pub returns-clause-unlawful : goal.returns-clause-unlawful
returns-clause-unlawful c = finds_then_misses
