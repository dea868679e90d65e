use Rattle.smc_meaning.proofs.RowOrder.{row_exact, row_total}
use Rattle.smc_meaning.proofs.laws.rows_are_ordered.Goals as goal

pub returns-clause-total : goal.returns-clause-total
returns-clause-total c = row_total

pub returns-clause-apart : goal.returns-clause-apart
returns-clause-apart c = row_exact
