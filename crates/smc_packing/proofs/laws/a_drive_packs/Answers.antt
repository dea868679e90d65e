use Rattle.smc_packing.proofs.Packs.{drives-pack}
use Rattle.smc_packing.proofs.laws.a_drive_packs.Goals as goal

pub returns : goal.returns
returns c = drives-pack
