use Rattle.std.proofs.Common.{◌≡◌}
use Rattle.check_kernel.proofs.rows_of.Given as goal

abbrev pub invariant-loop : goal.invariant-loop
invariant-loop l = l.rows.width ≡ l.words
