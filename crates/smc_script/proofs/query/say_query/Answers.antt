use Rattle.std.proofs.Common.{Option, sym, subst}
use Rattle.smc_script.specs.Says.{IsReadAs, QuerySays}
use Rattle.smc_script.specs.declared.said.Said.{Said}
use Rattle.smc_script.proofs.SaysLaws.{query-said}
use Rattle.smc_script.proofs.query.say_query.Goals as goal

pub returns : goal.returns
returns c = subst (λ (o : Option Said). IsReadAs (QuerySays c.args.text.now) o) (sym c.query_said.ensures) (query-said c.args.text.now c.in-Ok.found c.in-Ok.ensures)
