use Rattle.smc_aside.proofs.AsideLaws.{others-aside}
use Rattle.smc_aside.proofs.laws.others_stay_aside.Goals as goal

pub returns : goal.returns
returns c shape pass m last steps aside calm leads = others-aside shape pass m last steps aside calm leads
