use Rattle.smc_tbl.proofs.Existence.{gives_one}
use Rattle.smc_tbl.proofs.laws.one_reading.Goals as goal

pub returns : goal.returns
returns c = gives_one c.a_text_says_one_day.ensures
