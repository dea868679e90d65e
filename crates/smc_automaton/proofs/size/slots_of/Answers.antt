use Rattle.std.proofs.Common.{◌<◌, subst, sym}
use Rattle.smc_words.specs.declared.layout.TheConstants.{ENTRIES}
use Rattle.smc_automaton.proofs.size.slots_of.Goals as goal

pub returns-then-has_coll-clause-few : goal.returns-then-has_coll-clause-few
returns-then-has_coll-clause-few c = subst (λ slots. slots < ENTRIES) (sym c.slots.ensures.slots) c.slots.ensures.few
