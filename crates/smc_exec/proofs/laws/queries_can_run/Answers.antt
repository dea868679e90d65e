use Rattle.smc_exec.proofs.PlacedLaws.{query-fits}
use Rattle.smc_exec.proofs.laws.queries_can_run.Goals as goal

pub returns : goal.returns
returns c plan of = record {
  fits = query-fits plan of;
  typed = c.parts_are_typed.ensures.of_queries of.catalog of.folds of.query plan of.is;
}
