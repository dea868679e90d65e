use Rattle.smc_schedule.proofs.GrammarLaws.{line-spelled}
use Rattle.smc_schedule.proofs.laws.spelled_is_read.Goals as goal

pub returns : goal.returns
returns c = line-spelled
