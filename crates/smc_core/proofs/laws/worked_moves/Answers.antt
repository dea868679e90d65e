use Rattle.smc_core.proofs.WorkedSchedules.{abandoned-0, abandoned-1, helped-0, helped-1, late_helper-0, late_helper-1, late_helper-2, removed_meanwhile-0, removed_meanwhile-1, source_waits-0}
use Rattle.smc_core.proofs.laws.worked_moves.Goals as goal

pub returns-clause-abandoned_0 : goal.returns-clause-abandoned_0
returns-clause-abandoned_0 c = abandoned-0

pub returns-clause-abandoned_1 : goal.returns-clause-abandoned_1
returns-clause-abandoned_1 c = abandoned-1

pub returns-clause-helped_0 : goal.returns-clause-helped_0
returns-clause-helped_0 c = helped-0

pub returns-clause-helped_1 : goal.returns-clause-helped_1
returns-clause-helped_1 c = helped-1

pub returns-clause-late_helper_0 : goal.returns-clause-late_helper_0
returns-clause-late_helper_0 c = late_helper-0

pub returns-clause-late_helper_1 : goal.returns-clause-late_helper_1
returns-clause-late_helper_1 c = late_helper-1

pub returns-clause-late_helper_2 : goal.returns-clause-late_helper_2
returns-clause-late_helper_2 c = late_helper-2

pub returns-clause-removed_meanwhile_0 : goal.returns-clause-removed_meanwhile_0
returns-clause-removed_meanwhile_0 c = removed_meanwhile-0

pub returns-clause-removed_meanwhile_1 : goal.returns-clause-removed_meanwhile_1
returns-clause-removed_meanwhile_1 c = removed_meanwhile-1

pub returns-clause-source_waits_0 : goal.returns-clause-source_waits_0
returns-clause-source_waits_0 c = source_waits-0
