use Rattle.smc_script.proofs.OneLaws.{gives-one}
use Rattle.smc_script.proofs.laws.gives_one.Goals as goal

pub returns : goal.returns
returns c = gives-one (record { thing = c.one_thing.ensures; row = c.one_reading.ensures; field = c.one_field.ensures.one })
