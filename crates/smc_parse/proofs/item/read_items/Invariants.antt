use Rattle.std.proofs.Common.{◌-◌, length, map}
use Rattle.smc_query.specs.Trees.{item_tree}
use Rattle.smc_query.specs.Machine.{items}
use Rattle.smc_parse.specs.Reading.{Leads}
use Rattle.smc_parse.specs.Parts.{item_list}
use Rattle.smc_parse.proofs.item.read_items.Given as goal

abbrev pub invariant-loop-alloc : goal.invariant-loop-alloc
invariant-loop-alloc l = Leads (item_list l.depth) (items l.depth (map item_tree l.items.items)) l.tokens l.at l.end

abbrev pub decreases-loop-alloc : goal.decreases-loop-alloc
decreases-loop-alloc l = length l.tokens - l.end
