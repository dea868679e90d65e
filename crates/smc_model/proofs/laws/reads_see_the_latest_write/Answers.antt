use Rattle.smc_model.proofs.LatestLaws.{latest_write, word_as_added}
use Rattle.smc_model.proofs.laws.reads_see_the_latest_write.Goals as goal

pub returns-clause-written : goal.returns-clause-written
returns-clause-written c = latest_write

pub returns-clause-added : goal.returns-clause-added
returns-clause-added c = word_as_added
