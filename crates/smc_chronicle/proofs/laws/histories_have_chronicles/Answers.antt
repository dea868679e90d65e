use Rattle.smc_chronicle.proofs.Chronicles.{chronicles}
use Rattle.smc_chronicle.proofs.laws.histories_have_chronicles.Goals as goal

pub returns : goal.returns
returns c = chronicles c.calls_are_made.ensures c.a_refusal_is_exact.ensures c.a_survey_is_exact.ensures.always c.a_survey_is_exact.ensures.packed c.alone_is_calm.ensures c.epochs_are_counted.ensures
