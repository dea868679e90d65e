use Rattle.smc_shape.proofs.PlaceLaws.{coll-small}
use Rattle.smc_shape.proofs.laws.collections_are_small.Goals as goal

pub returns-clause-slots : goal.returns-clause-slots
returns-clause-slots c shape coll valid = (coll-small shape coll valid).0

pub returns-clause-entries : goal.returns-clause-entries
returns-clause-entries c shape coll valid = (coll-small shape coll valid).1
