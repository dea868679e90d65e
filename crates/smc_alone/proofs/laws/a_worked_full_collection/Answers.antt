use Rattle.smc_alone.proofs.WorkedAlone.{fills_and_tries-alone, tried-ripens}
use Rattle.smc_alone.proofs.laws.a_worked_full_collection.Goals as goal

pub returns-clause-alone : goal.returns-clause-alone
returns-clause-alone c = fills_and_tries-alone

pub returns-clause-ripe : goal.returns-clause-ripe
returns-clause-ripe c = tried-ripens
