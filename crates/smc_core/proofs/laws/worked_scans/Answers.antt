use Rattle.smc_core.proofs.WorkedSchedules.{visited_once-0, visited_once-1, later_add-0, later_add-1, scan_of_before-refused}
use Rattle.smc_core.proofs.laws.worked_scans.Goals as goal

pub returns-clause-visited_once_0 : goal.returns-clause-visited_once_0
returns-clause-visited_once_0 c = visited_once-0

pub returns-clause-visited_once_1 : goal.returns-clause-visited_once_1
returns-clause-visited_once_1 c = visited_once-1

pub returns-clause-later_add_0 : goal.returns-clause-later_add_0
returns-clause-later_add_0 c = later_add-0

pub returns-clause-later_add_1 : goal.returns-clause-later_add_1
returns-clause-later_add_1 c = later_add-1

pub returns-clause-scan_of_before_refused : goal.returns-clause-scan_of_before_refused
returns-clause-scan_of_before_refused c = scan_of_before-refused
