use Rattle.smc_automaton.proofs.StandLaws.{offered-fits}
use Rattle.smc_automaton.proofs.laws.steps_keep_stands.Goals as goal

pub returns : goal.returns
returns c = λ shape pass stand choice told offered seen valid fits offers shown. offered-fits shape pass stand valid choice told offered seen fits offers shown
