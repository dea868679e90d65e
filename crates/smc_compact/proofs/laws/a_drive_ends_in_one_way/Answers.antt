use Rattle.smc_compact.proofs.OneLaws.{drives-one}
use Rattle.smc_compact.proofs.laws.a_drive_ends_in_one_way.Goals as goal

pub returns : goal.returns
returns _ = drives-one
