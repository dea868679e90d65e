use Rattle.smc_core.proofs.WorkedSchedules.{announces_twice-0, announces_twice-1, advance_waits-0, advance_waits-1, overtaken-0, overtaken-1, last_epoch-0, notes-0, notes-1, learnt_twice-refused, learns_its_own-refused}
use Rattle.smc_core.proofs.laws.worked_sections.Goals as goal

pub returns-clause-announces_twice_0 : goal.returns-clause-announces_twice_0
returns-clause-announces_twice_0 c = announces_twice-0

pub returns-clause-announces_twice_1 : goal.returns-clause-announces_twice_1
returns-clause-announces_twice_1 c = announces_twice-1

pub returns-clause-advance_waits_0 : goal.returns-clause-advance_waits_0
returns-clause-advance_waits_0 c = advance_waits-0

pub returns-clause-advance_waits_1 : goal.returns-clause-advance_waits_1
returns-clause-advance_waits_1 c = advance_waits-1

pub returns-clause-overtaken_0 : goal.returns-clause-overtaken_0
returns-clause-overtaken_0 c = overtaken-0

pub returns-clause-overtaken_1 : goal.returns-clause-overtaken_1
returns-clause-overtaken_1 c = overtaken-1

pub returns-clause-last_epoch_0 : goal.returns-clause-last_epoch_0
returns-clause-last_epoch_0 c = last_epoch-0

pub returns-clause-notes_0 : goal.returns-clause-notes_0
returns-clause-notes_0 c = notes-0

pub returns-clause-notes_1 : goal.returns-clause-notes_1
returns-clause-notes_1 c = notes-1

pub returns-clause-learnt_twice_refused : goal.returns-clause-learnt_twice_refused
returns-clause-learnt_twice_refused c = learnt_twice-refused

pub returns-clause-learns_its_own_refused : goal.returns-clause-learns_its_own_refused
returns-clause-learns_its_own_refused c = learns_its_own-refused
