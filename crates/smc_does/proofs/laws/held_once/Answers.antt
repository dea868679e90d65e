use Rattle.smc_does.proofs.HeldLaws.{held-once}
use Rattle.smc_does.proofs.laws.held_once.Goals as goal

pub returns : goal.returns
returns c = held-once
