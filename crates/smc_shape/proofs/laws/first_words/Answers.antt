use Rattle.std.proofs.Common.{refl}
use Rattle.smc_shape.specs.declared.place.Place.TheVariants.{Epoch, Round}
use Rattle.smc_shape.specs.Places.{at}
use Rattle.smc_shape.proofs.PlaceLaws.{at-apart}
use Rattle.smc_shape.proofs.laws.first_words.Goals as goal

pub returns-clause-epoch : goal.returns-clause-epoch
unfolding at
returns-clause-epoch c shape valid = (refl, λ p r here. at-apart shape p Epoch valid r tt here)

pub returns-clause-round : goal.returns-clause-round
unfolding at
returns-clause-round c shape valid = (refl, λ p r here. at-apart shape p Round valid r tt here)
