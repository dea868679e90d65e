use Rattle.std.proofs.Common.{arith}
use Rattle.std.proofs.lemmas.Map.Text.{text_keys}
use Rattle.smc_schedule.proofs.names.Names.give.Goals as goal

pub returns-clause-done : goal.returns-clause-done
returns-clause-done c = record { here = grind (arith, text_keys); others = λ other differs. grind (arith, text_keys) }
