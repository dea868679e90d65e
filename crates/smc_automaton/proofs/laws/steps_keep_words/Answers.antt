use Rattle.smc_automaton.proofs.WordLaws.{offered-words}
use Rattle.smc_automaton.proofs.laws.steps_keep_words.Goals as goal

pub returns : goal.returns
returns c = λ shape pass stand choice offered valid known fits offers. offered-words shape pass stand valid known choice offered fits offers
