use Rattle.smc_script.proofs.said.read_behind.Goals as goal

pub returns-in-Query : goal.returns-in-Query
returns-in-Query c = rw c.in-Query.is c.say_query.ensures
