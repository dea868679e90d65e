use Rattle.smc_shape.proofs.PlaceLaws.{at-lt}
use Rattle.smc_shape.proofs.laws.places_lie_within.Goals as goal

pub returns : goal.returns
returns c shape valid p = at-lt shape p valid
