use Rattle.std.proofs.Common.{length}
use Rattle.smc_tbl.proofs.words.+push_fields.Given as goal

-- the columns that are left
abbrev pub decreases-push_fields : goal.decreases-push_fields
decreases-push_fields l = length l.columns.now
