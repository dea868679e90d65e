use Rattle.std.proofs.Common.{◌≡◌}
use Rattle.check_answers.proofs.rows_of.Given as goal

abbrev pub invariant-loop-place : goal.invariant-loop-place
invariant-loop-place l = l.rows.width ≡ l.words
