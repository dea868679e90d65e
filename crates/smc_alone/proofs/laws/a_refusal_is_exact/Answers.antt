use Rattle.smc_alone.proofs.Refusals.{refusal-full}
use Rattle.smc_alone.proofs.laws.a_refusal_is_exact.Goals as goal

pub returns : goal.returns
returns c = refusal-full
