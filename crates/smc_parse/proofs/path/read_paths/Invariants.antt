use Rattle.std.proofs.Common.{◌-◌, length, map}
use Rattle.smc_query.specs.Trees.{path_tree}
use Rattle.smc_query.specs.Machine.{paths}
use Rattle.smc_parse.specs.Reading.{Leads}
use Rattle.smc_parse.specs.Parts.{path_list}
use Rattle.smc_parse.proofs.path.read_paths.Given as goal

abbrev pub invariant-loop-alloc : goal.invariant-loop-alloc
invariant-loop-alloc l = Leads path_list (paths (map path_tree l.paths.items)) l.tokens l.at l.end

abbrev pub decreases-loop-alloc : goal.decreases-loop-alloc
decreases-loop-alloc l = length l.tokens - l.end
