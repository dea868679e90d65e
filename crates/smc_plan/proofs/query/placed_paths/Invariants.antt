use Rattle.smc_query.specs.Trees.{path_tree}
use Rattle.smc_plan.specs.Planned.{placed_path}
use Rattle.smc_plan.proofs.EachLaws.{IsAt}
use Rattle.smc_plan.proofs.query.placed_paths.Given as goal

abbrev pub invariant-loop-path : goal.invariant-loop-path
invariant-loop-path l = IsAt (placed_path l.catalog l.table) path_tree l.paths l.initial.leaves l.path-index l.places.items l.leaves
