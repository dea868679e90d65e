use Rattle.smc_packing.proofs.WorkedDrives.{one_block-packs, two_blocks-pack}
use Rattle.smc_packing.proofs.laws.worked_drives.Goals as goal

pub returns-clause-moves : goal.returns-clause-moves
returns-clause-moves c = two_blocks-pack c.steps_are_computed.ensures c.schedules_are_reached.ensures

pub returns-clause-nothing : goal.returns-clause-nothing
returns-clause-nothing c = one_block-packs c.steps_are_computed.ensures c.schedules_are_reached.ensures
