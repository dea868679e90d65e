use Rattle.smc_refine.proofs.WorkedLaws.{works_between-alone, enters_too_soon-not, told_too_soon-not, keeps_its_round-not, cancels_its_round-alone}
use Rattle.smc_refine.proofs.laws.worked_schedules_alone.Goals as goal

pub returns-clause-works_between : goal.returns-clause-works_between
returns-clause-works_between c = works_between-alone

pub returns-clause-enters_too_soon : goal.returns-clause-enters_too_soon
returns-clause-enters_too_soon c = enters_too_soon-not

pub returns-clause-told_too_soon : goal.returns-clause-told_too_soon
returns-clause-told_too_soon c = told_too_soon-not

pub returns-clause-keeps_its_round : goal.returns-clause-keeps_its_round
returns-clause-keeps_its_round c = keeps_its_round-not

pub returns-clause-cancels_its_round : goal.returns-clause-cancels_its_round
returns-clause-cancels_its_round c = cancels_its_round-alone
