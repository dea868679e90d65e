use Rattle.std.proofs.Common.{append_assoc, rules}
use Rattle.smc_meaning.proofs.DigitLaws.{last_digits-none, last_digits-some}
use Rattle.smc_meaning.proofs.cell.+print_digits.Goals as goal

pub returns-in_ok-push : goal.returns-in_ok-push
returns-in_ok-push t c = rw (last_digits-some c.args.count c.args.number c.if-count-gt0.true) (search (rules, append_assoc))

pub returns-else-count-gt0 : goal.returns-else-count-gt0
returns-else-count-gt0 t c = rw (last_digits-none c.args.count c.args.number c.if-count-gt0.false) (search rules)
