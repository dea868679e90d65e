use Rattle.smc_full.proofs.WorkedTries.{with_room-tried, without_room-tried}
use Rattle.smc_full.proofs.laws.worked_tries.Goals as goal

pub returns-clause-room : goal.returns-clause-room
returns-clause-room c = with_room-tried c.steps_are_computed.ensures c.schedules_are_reached.ensures

pub returns-clause-full : goal.returns-clause-full
returns-clause-full c = without_room-tried c.steps_are_computed.ensures c.schedules_are_reached.ensures
