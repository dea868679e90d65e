use Rattle.smc_tbl.proofs.AloneLaws.{alone-one, alone-some}
use Rattle.smc_tbl.proofs.laws.one_field.Goals as goal

pub returns-clause-one : goal.returns-clause-one
returns-clause-one c = alone-one c.a_text_says_one_day.ensures

pub returns-clause-some : goal.returns-clause-some
returns-clause-some c = alone-some
