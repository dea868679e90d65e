use Rattle.smc_row.proofs.OpenLaws.{opened_row-opens}
use Rattle.smc_row.proofs.open.opened_row.Goals as goal

pub returns-clause-opened : goal.returns-clause-opened
returns-clause-opened c = rw c.in_ok-row.ensures.row (opened_row-opens c.args.shape.now c.args.opening c.in_ok-row.ensures.valid)
