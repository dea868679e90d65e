use Rattle.smc_schedule.proofs.GrammarLaws.{line-read}
use Rattle.smc_schedule.proofs.laws.read_is_spelled.Goals as goal

pub returns : goal.returns
returns c = line-read
