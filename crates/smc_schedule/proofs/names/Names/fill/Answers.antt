use Rattle.std.proofs.Common.{arith}
use Rattle.std.proofs.lemmas.Map.Text.{text_keys}
use Rattle.smc_schedule.proofs.names.Names.fill.Goals as goal

pub returns-in-Some-clause-done : goal.returns-in-Some-clause-done
returns-in-Some-clause-done c = record { here = grind (arith, text_keys); others = λ other differs. grind (arith, text_keys) }
