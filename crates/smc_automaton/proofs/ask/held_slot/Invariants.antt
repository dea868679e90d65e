use Rattle.std.proofs.Common.{◌≡◌}
use Rattle.smc_core.specs.Offer.{held_slot}
use Rattle.smc_automaton.proofs.ask.held_slot.Given as goal

-- those that were passed are other objects
abbrev pub invariant-loop-pair : goal.invariant-loop-pair
invariant-loop-pair l = held_slot l.held l.number ≡ held_slot l.pair-iterator l.number
