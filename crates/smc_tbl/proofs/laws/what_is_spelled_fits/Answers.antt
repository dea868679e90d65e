use Rattle.smc_tbl.proofs.AloneLaws.{alone-good, row-texts}
use Rattle.smc_tbl.proofs.FitLaws.{row-fits}
use Rattle.smc_tbl.proofs.laws.what_is_spelled_fits.Goals as goal

pub returns-clause-row : goal.returns-clause-row
returns-clause-row c = row-fits c.a_text_says_a_day_in_range.ensures

pub returns-clause-texts : goal.returns-clause-texts
returns-clause-texts c = row-texts

pub returns-clause-value : goal.returns-clause-value
returns-clause-value c = alone-good c.a_text_says_a_day_in_range.ensures
