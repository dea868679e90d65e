-- The order of numbers is total, and numbers that compare alike are one.
use Rattle.std.proofs.Common.{ℕ, ap}
use Rattle.std.specs.Cmp.{IsTotalOrder, nat_cmp_total}
use Rattle.std.specs.Ordering.{nat_cmp}
use Rattle.std.proofs.lemmas.Cmp.{on_total, then_total}
use Rattle.std.proofs.lemmas.Map.Lookups.{CmpEqualImpliesEq, exact_pairs, exact_unsigned}
use Rattle.smc_words.specs.Number.{number_cmp}

-- the order is total
pub numbers_total : IsTotalOrder number_cmp
numbers_total =
    then_total (on_total (λ n. n.incarnation) nat_cmp_total) (then_total (on_total (λ n. n.entry) nat_cmp_total) (on_total (λ n. n.coll) nat_cmp_total))

-- numbers that compare alike are one
pub exact_numbers : CmpEqualImpliesEq number_cmp
exact_numbers a b h =
    ap (λ (p : ℕ × (ℕ × ℕ)). record { incarnation = p.0; entry = p.1.0; coll = p.1.1 })
    (exact_pairs nat_cmp _ exact_unsigned (exact_pairs nat_cmp nat_cmp exact_unsigned exact_unsigned)
    (a.incarnation, (a.entry, a.coll)) (b.incarnation, (b.entry, b.coll)) h)
