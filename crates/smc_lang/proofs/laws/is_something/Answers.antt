use Rattle.smc_lang.proofs.SomeLaws.{is-something}
use Rattle.smc_lang.proofs.laws.is_something.Goals as goal

pub returns : goal.returns
returns c = is-something c.some_list.ensures c.spelled_or_stopped.ensures
