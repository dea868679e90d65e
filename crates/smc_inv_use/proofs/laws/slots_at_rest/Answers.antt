use Rattle.smc_inv_use.specs.Laws.{SlotsAtRest}
use Rattle.smc_inv_use.proofs.RestLaws.{slot_at_rest}
use Rattle.smc_inv_use.proofs.Used.{always_used}
use Rattle.smc_inv_use.proofs.laws.slots_at_rest.Goals as goal

pub returns : goal.returns
returns c = always_used SlotsAtRest slot_at_rest
