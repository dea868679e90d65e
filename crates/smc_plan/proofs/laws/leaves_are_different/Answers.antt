use Rattle.smc_plan.proofs.GrowLaws.{edits-differ, queries-differ}
use Rattle.smc_plan.proofs.laws.leaves_are_different.Goals as goal

pub returns : goal.returns
returns c = record { of_queries = queries-differ; of_edits = edits-differ }
