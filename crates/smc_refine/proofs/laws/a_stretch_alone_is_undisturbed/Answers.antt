use Rattle.smc_refine.proofs.AloneLaws.{stretches-undisturbed}
use Rattle.smc_refine.proofs.laws.a_stretch_alone_is_undisturbed.Goals as goal

pub returns : goal.returns
returns c = stretches-undisturbed
