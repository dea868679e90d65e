use Rattle.smc_refine.proofs.AloneLaws.{answers-undisturbed}
use Rattle.smc_refine.proofs.laws.an_answer_alone_is_undisturbed.Goals as goal

pub returns : goal.returns
returns c = answers-undisturbed
