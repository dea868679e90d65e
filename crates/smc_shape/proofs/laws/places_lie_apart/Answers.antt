use Rattle.smc_shape.proofs.PlaceLaws.{at-apart}
use Rattle.smc_shape.proofs.laws.places_lie_apart.Goals as goal

pub returns : goal.returns
returns c shape valid p q = at-apart shape p q valid
