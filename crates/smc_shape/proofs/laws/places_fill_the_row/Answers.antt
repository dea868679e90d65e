use Rattle.smc_shape.proofs.RowLaws.{at-onto}
use Rattle.smc_shape.proofs.laws.places_fill_the_row.Goals as goal

pub returns : goal.returns
returns c shape valid index = at-onto shape index valid
