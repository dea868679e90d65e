use Rattle.smc_alone.proofs.WorkedAlone.{drives_and_surveys-alone, drives_and_surveys-are}
use Rattle.smc_alone.proofs.laws.a_worked_drive_alone.Goals as goal

pub returns-clause-alone : goal.returns-clause-alone
returns-clause-alone c = drives_and_surveys-alone

pub returns-clause-kinds : goal.returns-clause-kinds
returns-clause-kinds c = drives_and_surveys-are
