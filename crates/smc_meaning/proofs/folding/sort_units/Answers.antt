use Rattle.std.proofs.lemmas.Cmp.{int_cmp_total}
use Rattle.std.proofs.lemmas.List.Sorted.{All-permutation}
use Rattle.std.proofs.lemmas.Map.Lookups.{exact_signed}
use Rattle.std.specs.Ordering.{int_cmp}
use Rattle.smc_folds.specs.Takings.{IsNumber}
use Rattle.smc_meaning.proofs.SortLaws.{ascends-from_sort, sorted_is_one}
use Rattle.smc_meaning.proofs.folding.sort_units.Goals as goal

pub returns-clause-sorted : goal.returns-clause-sorted
returns-clause-sorted c =
    sorted_is_one int_cmp int_cmp_total exact_signed c.args.units.now.items c.sort_unstable.new.self.items c.sort_unstable.ensures.permutation
    (ascends-from_sort int_cmp int_cmp_total exact_signed c.sort_unstable.new.self.items c.sort_unstable.ensures.sorted)

pub returns-clause-small : goal.returns-clause-small
returns-clause-small c =
    All-permutation IsNumber c.args.units.now.items c.sort_unstable.new.self.items c.sort_unstable.ensures.permutation c.requires.small
