use Rattle.std.proofs.Common.{rules}
use Rattle.smc_meaning.proofs.RowOrder.{number_order}
use Rattle.smc_meaning.proofs.order.compare_numbers.Goals as goal

pub returns : goal.returns
returns c = rw (← number_order c.args.one.units c.args.other.units c.args.one.scale c.args.other.scale) (search rules)
