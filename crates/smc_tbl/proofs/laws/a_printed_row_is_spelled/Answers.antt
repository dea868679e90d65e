use Rattle.smc_tbl.proofs.RoundTrip.{spelled-again}
use Rattle.smc_tbl.proofs.laws.a_printed_row_is_spelled.Goals as goal

pub returns : goal.returns
returns c = spelled-again
