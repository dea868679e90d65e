use Rattle.smc_model.proofs.LatestLaws.{gone_for_good, removed_once}
use Rattle.smc_model.proofs.laws.removals_are_for_good.Goals as goal

pub returns-clause-looks : goal.returns-clause-looks
returns-clause-looks c = gone_for_good

pub returns-clause-once : goal.returns-clause-once
returns-clause-once c = removed_once
