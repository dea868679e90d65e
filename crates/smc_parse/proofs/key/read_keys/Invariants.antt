use Rattle.std.proofs.Common.{◌-◌, length, map}
use Rattle.smc_query.specs.Trees.{key_tree}
use Rattle.smc_query.specs.Machine.{keys}
use Rattle.smc_parse.specs.Reading.{Leads}
use Rattle.smc_parse.specs.Parts.{key_list}
use Rattle.smc_parse.proofs.key.read_keys.Given as goal

abbrev pub invariant-loop-alloc : goal.invariant-loop-alloc
invariant-loop-alloc l = Leads key_list (keys (map key_tree l.keys.items)) l.tokens l.at l.end

abbrev pub decreases-loop-alloc : goal.decreases-loop-alloc
decreases-loop-alloc l = length l.tokens - l.end
