use Rattle.smc_packing.proofs.Packs.{surveys-tell, surveys-tell-packed}
use Rattle.smc_packing.proofs.laws.a_survey_tells.Goals as goal

pub returns-clause-always : goal.returns-clause-always
returns-clause-always c = surveys-tell

pub returns-clause-packed : goal.returns-clause-packed
returns-clause-packed c = surveys-tell-packed
