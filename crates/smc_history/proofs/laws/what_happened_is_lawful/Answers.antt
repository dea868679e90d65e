use Rattle.smc_history.proofs.Happening.{happening}
use Rattle.smc_history.proofs.laws.what_happened_is_lawful.Goals as goal

pub returns : goal.returns
returns c = happening c.histories_are_lawful.ensures c.homes_are_objects.ensures c.blocks_are_enough.ensures c.histories_have_chronicles.ensures
