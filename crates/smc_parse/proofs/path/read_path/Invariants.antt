use Rattle.std.proofs.Common.{length, ◌-◌}
use Rattle.smc_query.specs.Machine.{path, names}
use Rattle.smc_parse.specs.Reading.{Leads}
use Rattle.smc_parse.proofs.path.read_path.Given as goal

abbrev pub invariant-loop-alloc : goal.invariant-loop-alloc
invariant-loop-alloc l = Leads path (names l.names.items) l.tokens l.at l.end

abbrev pub decreases-loop-alloc : goal.decreases-loop-alloc
decreases-loop-alloc l = length l.tokens - l.end
