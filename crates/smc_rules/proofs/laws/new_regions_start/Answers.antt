use Rattle.smc_rules.proofs.HistoryLaws.{new_starts}
use Rattle.smc_rules.proofs.laws.new_regions_start.Goals as goal

pub returns : goal.returns
returns c = new_starts
