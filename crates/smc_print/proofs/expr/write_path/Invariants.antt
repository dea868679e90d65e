use Rattle.std.proofs.Common.{take}
use Rattle.smc_print.specs.TokenText.{Writes}
use Rattle.smc_print.specs.Printed.{path_tokens}
use Rattle.smc_print.proofs.expr.write_path.Given as goal

abbrev pub invariant-loop-place : goal.invariant-loop-place
invariant-loop-place l = Writes l.fn.text l.text (path_tokens (take l.place l.names))
