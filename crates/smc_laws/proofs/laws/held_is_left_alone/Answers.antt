use Rattle.smc_laws.specs.Laws.{LeavesAlone}
use Rattle.smc_laws.proofs.Always.{always}
use Rattle.smc_laws.proofs.PlaceLaws.{leaves_alone}
use Rattle.smc_laws.proofs.laws.held_is_left_alone.Goals as goal

pub returns : goal.returns
returns c = always LeavesAlone leaves_alone
