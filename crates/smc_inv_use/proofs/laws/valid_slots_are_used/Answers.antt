use Rattle.smc_inv_use.specs.Laws.{ValidIsUsed}
use Rattle.smc_inv_use.proofs.Used.{always_used}
use Rattle.smc_inv_use.proofs.laws.valid_slots_are_used.Goals as goal

pub returns : goal.returns
returns c = always_used ValidIsUsed (λ opening shape s k. k.uses.u_slot)
