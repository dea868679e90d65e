use Rattle.std.proofs.Common.{false, codes}
use Rattle.std.proofs.lemmas.Str.Pattern.{ends_text}
use Rattle.smc_schedule.proofs.line.read_words.Goals as goal

pub returns-in-None : goal.returns-in-None
returns-in-None c = rw (← ends_text false (codes " !") c.args.text.now c.in-None.ensures.cases, ← c.of-in-None.ensures) c.read_stepping.ensures
