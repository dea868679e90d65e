use Rattle.smc_census.specs.Laws.{WalksCountAll}
use Rattle.smc_census.proofs.Always.{always_fits, walks_count}
use Rattle.smc_census.proofs.laws.walks_count_all.Goals as goal

pub returns : goal.returns
returns c = always_fits WalksCountAll walks_count
