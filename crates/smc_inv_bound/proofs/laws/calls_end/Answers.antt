use Rattle.smc_inv_bound.proofs.StepLaws.{step-falls}
use Rattle.smc_inv_bound.proofs.laws.calls_end.Goals as goal

pub returns : goal.returns
returns c shape m next pass valid step = step-falls shape valid m next pass step
