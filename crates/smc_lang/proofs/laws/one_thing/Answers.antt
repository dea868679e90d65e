use Rattle.smc_lang.proofs.ThingLaws.{one-thing}
use Rattle.smc_lang.proofs.laws.one_thing.Goals as goal

pub returns : goal.returns
returns c = one-thing c.one_list.ensures c.one_tree.ensures c.fronts_begin.ensures
