use Rattle.smc_core.proofs.WorkedSchedules.{no_target_left-last, nothing-0, busy-0, busy-1, busy-slots, early_by_one-0}
use Rattle.smc_core.proofs.laws.worked_rounds.Goals as goal

pub returns-clause-nothing_0 : goal.returns-clause-nothing_0
returns-clause-nothing_0 c = nothing-0

pub returns-clause-busy_0 : goal.returns-clause-busy_0
returns-clause-busy_0 c = busy-0

pub returns-clause-busy_1 : goal.returns-clause-busy_1
returns-clause-busy_1 c = busy-1

pub returns-clause-busy_slots : goal.returns-clause-busy_slots
returns-clause-busy_slots c = busy-slots

pub returns-clause-early_by_one_0 : goal.returns-clause-early_by_one_0
returns-clause-early_by_one_0 c = early_by_one-0

pub returns-clause-no_target_left_last : goal.returns-clause-no_target_left_last
returns-clause-no_target_left_last c = no_target_left-last
