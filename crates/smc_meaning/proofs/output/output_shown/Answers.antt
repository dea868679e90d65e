use Rattle.smc_meaning.proofs.output.output_shown.Goals as goal

pub returns-in-Fold-clause-shown : goal.returns-in-Fold-clause-shown
returns-in-Fold-clause-shown g c = rw c.in-Fold.is (rw c.as_str.ensures at c.fold_shown.ensures.shown)
