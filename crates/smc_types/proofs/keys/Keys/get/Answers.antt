use Rattle.smc_types.proofs.keys.Keys.get.Goals as goal

pub returns-clause-fits : goal.returns-clause-fits
returns-clause-fits c = rw (c.copied.ensures, c.get.ensures.value) (c.self.invariant c.args.table c.args.key)
