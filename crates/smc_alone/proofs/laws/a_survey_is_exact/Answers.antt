use Rattle.smc_alone.proofs.Drives.{survey-exact, survey-packed}
use Rattle.smc_alone.proofs.laws.a_survey_is_exact.Goals as goal

pub returns-clause-always : goal.returns-clause-always
returns-clause-always c = survey-exact c.a_survey_tells.ensures.always

pub returns-clause-packed : goal.returns-clause-packed
returns-clause-packed c = survey-packed c.a_survey_tells.ensures.packed
