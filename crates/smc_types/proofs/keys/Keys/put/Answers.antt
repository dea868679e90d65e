-- What the map says of its new entries is a put.
use Rattle.smc_types.specs.Keys.{Puts}
use Rattle.smc_types.proofs.KeyLaws.{numbers_stay}
use Rattle.smc_types.proofs.keys.Keys.put.Goals as goal

-- the entries of the map before and after
puts : (c : goal.In_ok-insert) → Puts c.self.inside.numbers.entries c.insert.new.self.entries c.args.table c.args.key c.args.number
puts c other_table other_key = c.in_ok-insert.ensures.updates.0 (other_table, other_key)

pub invariant_of-self-2 : goal.invariant_of-self-2
invariant_of-self-2 c =
    numbers_stay c.self.inside.numbers.entries c.insert.new.self.entries c.args.table c.args.key c.args.number (puts c) c.requires c.self.invariant

pub returns-clause-done : goal.returns-clause-done
returns-clause-done c = rw (← c.self.view_is) (puts c)
