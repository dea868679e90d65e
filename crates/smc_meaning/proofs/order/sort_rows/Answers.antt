use Rattle.std.proofs.Common.{◌∙◌, ap, rules}
use Rattle.std.proofs.lemmas.List.{take_at}
use Rattle.std.proofs.lemmas.Fn.{always_returns_same}
use Rattle.std.proofs.lemmas.List.Sorted.{ranks_by}
use Rattle.std.specs.Ordering.{is_lt}
use Rattle.smc_meaning.specs.Orders.{row_order}
use Rattle.smc_meaning.specs.Sorting.{sorted}
use Rattle.smc_meaning.proofs.RowOrder.{row_exact, row_total}
use Rattle.smc_meaning.proofs.SortLaws.{ascends-from_sort, sorted_is_one}
use Rattle.smc_meaning.proofs.order.sort_rows.Goals as goal

pub returns : goal.returns
returns c =
    let order = row_order c.args.keys.now in
    let total = row_total c.args.keys.now in
    let exact = row_exact c.args.keys.now in
    let rises = c.sort_unstable_by.ensures.sorted (λ x y. is_lt (order x y)) (ranks_by total (λ x. x)) (always_returns_same _ _ _ (λ a r q k. (ap is_lt (search rules), search rules))) in
    take_at _ _ _ (c.sort_unstable_by.ensures.len ∙ c.as_mut_slice.ensures.len)
    ∙ sorted_is_one order total exact _ _ c.sort_unstable_by.ensures.permutation (ascends-from_sort order total exact _ rises)
    ∙ ap (sorted order) c.as_mut_slice.ensures.value
