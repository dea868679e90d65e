use Rattle.smc_visits.proofs.RowLaws.{rows-whole}
use Rattle.smc_visits.proofs.laws.rows_are_whole.Goals as goal

pub returns : goal.returns
returns c = rows-whole
