use Rattle.smc_machine.proofs.RowLaws.{IsRow-opened}
use Rattle.smc_machine.proofs.row.Row.open.Goals as goal

pub invariant_of-result : goal.invariant_of-result
invariant_of-result c = IsRow-opened _ _ _ c.in_ok-numbers.ensures.valid c.requires c.in_ok-numbers.ensures.opened
