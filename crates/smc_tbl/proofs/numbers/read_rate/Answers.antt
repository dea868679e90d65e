use Rattle.smc_tbl.proofs.numbers.read_rate.Goals as goal

pub returns-in_err-read_hundredths-clause-none : goal.returns-in_err-read_hundredths-clause-none
returns-in_err-read_hundredths-clause-none c = rw c.from_residual.ensures (λ rate spells. c.in_err-read_hundredths.ensures.none spells.units spells.number_is)
