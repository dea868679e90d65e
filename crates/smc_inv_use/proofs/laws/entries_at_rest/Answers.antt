use Rattle.smc_inv_use.specs.Laws.{EntriesAtRest}
use Rattle.smc_inv_use.proofs.RestLaws.{entry_at_rest}
use Rattle.smc_inv_use.proofs.Used.{always_used}
use Rattle.smc_inv_use.proofs.laws.entries_at_rest.Goals as goal

pub returns : goal.returns
returns c = always_used EntriesAtRest entry_at_rest
