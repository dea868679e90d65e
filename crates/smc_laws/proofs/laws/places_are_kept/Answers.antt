use Rattle.smc_laws.specs.Laws.{KeepsPlaces}
use Rattle.smc_laws.proofs.Always.{always}
use Rattle.smc_laws.proofs.PlaceLaws.{keeps_places}
use Rattle.smc_laws.proofs.laws.places_are_kept.Goals as goal

pub returns : goal.returns
returns c = always KeepsPlaces keeps_places
