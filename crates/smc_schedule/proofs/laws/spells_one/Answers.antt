use Rattle.smc_schedule.proofs.GrammarLaws.{line-one}
use Rattle.smc_schedule.proofs.laws.spells_one.Goals as goal

pub returns : goal.returns
returns c = line-one
