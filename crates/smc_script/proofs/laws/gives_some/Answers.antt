use Rattle.smc_script.proofs.SomeLaws.{gives-some}
use Rattle.smc_script.proofs.laws.gives_some.Goals as goal

pub returns : goal.returns
returns c = gives-some (record { one = c.one_thing.ensures; some = c.is_something.ensures; row = c.one_reading.ensures; field = c.one_field.ensures.some })
