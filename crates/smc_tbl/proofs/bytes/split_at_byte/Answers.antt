use Rattle.smc_tbl.proofs.Cuts.{cut-at, Lacks-from_All}
use Rattle.smc_tbl.proofs.bytes.split_at_byte.Goals as goal

pub returns-in_err-at-clause-uncut : goal.returns-in_err-at-clause-uncut
returns-in_err-at-clause-uncut c = rw c.from_residual.ensures (Lacks-from_All c.args.byte _ c.in_err-at.ensures.nowhere)

pub returns-clause-cut : goal.returns-clause-cut
returns-clause-cut c =
    let found = c.in_ok-at.ensures in
    rw (c.split_at.ensures.front, c.split_at-2.ensures.back) (cut-at c.args.byte _ _ found.within found.here)

pub returns-clause-front : goal.returns-clause-front
returns-clause-front c = rw c.split_at.ensures.front (Lacks-from_All c.args.byte _ c.in_ok-at.ensures.first)
