use Rattle.smc_meaning.proofs.RowOrder.{row_exact, row_total}
use Rattle.smc_meaning.proofs.SortLaws.{ascends-from_sort, permutation-sorted, rises-sorted, sorted-permutation, sorted_is_one}
use Rattle.smc_meaning.specs.Orders.{row_order}
use Rattle.smc_meaning.proofs.laws.sorted_is_one.Goals as goal

pub returns-clause-same : goal.returns-clause-same
returns-clause-same c = λ keys rows. permutation-sorted (row_order keys) (row_total keys) (row_exact keys) rows

pub returns-clause-rises : goal.returns-clause-rises
returns-clause-rises c = λ keys rows. rises-sorted (row_order keys) (row_total keys) (row_exact keys) rows

pub returns-clause-alone : goal.returns-clause-alone
returns-clause-alone c = λ keys rows others same rises.
    sorted_is_one (row_order keys) (row_total keys) (row_exact keys) rows others same (ascends-from_sort (row_order keys) (row_total keys) (row_exact keys) others rises)

pub returns-clause-bag : goal.returns-clause-bag
returns-clause-bag c = λ keys rows others same. sorted-permutation (row_order keys) (row_total keys) (row_exact keys) rows others same
