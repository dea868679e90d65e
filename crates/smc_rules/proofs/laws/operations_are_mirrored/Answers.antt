use Rattle.smc_rules.proofs.MirrorLaws.{mirrored}
use Rattle.smc_rules.proofs.laws.operations_are_mirrored.Goals as goal

pub returns : goal.returns
returns c = mirrored
