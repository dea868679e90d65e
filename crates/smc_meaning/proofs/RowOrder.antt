-- The order of rows is total, and rows that it does not tell apart are one.
use Rattle.std.proofs.Common.{◌≡◌, ℕ, ◌-◌, max, ℤ, pos, Bool, true, false, if◌then◌else◌, List, [], ◌∷◌, Option, None, Some, slice_get, refl, ap, ◌∙◌, subst, arith}
use Rattle.std.proofs.Math.IntN.{*ℤ-one}
use Rattle.std.specs.Cmp.{IsTotalOrder}
use Rattle.std.specs.Cmp.Derive.{point_total}
use Rattle.std.specs.Cmp.Lexicographic.{options_total, slice_cmp}
use Rattle.std.specs.Ordering.{int_cmp, nat_cmp, on, ordering_then, then_cmp}
use Rattle.std.specs.declared.cmp.Ordering.{Ordering}
use Rattle.std.specs.declared.cmp.Ordering.TheVariants.{Equal, Greater, Less}
use Rattle.std.proofs.lemmas.Cmp.{back_total, int_cmp_total, lists_total, nat_cmp_total, nat_list_cmp_total, on_total, then_total}
use Rattle.std.proofs.lemmas.Map.Lookups.{CmpEqualImpliesEq, exact_bytes, exact_signed, exact_unsigned}
use Rattle.smc_plan.specs.declared.plan.OrderKey.{OrderKey}
use Rattle.smc_meaning.specs.Orders.{cell_order, column_order, key_order, keys_order, order_at, row_order, sort_of}
use Rattle.smc_meaning.specs.Values.{Cell, number, day, text, units_at}

-- ---- answers of a comparison

-- one comparison and then another tell nothing apart where neither does
pub record AreBothEqual (one other : Ordering) : Type 0 where
  pub first : one ≡ Equal
  pub further : other ≡ Equal

pub both_equal : (one other : Ordering) → ordering_then one other ≡ Equal → AreBothEqual one other
both_equal Less other is = cc
both_equal Equal other is = record { first = refl; further = is }
both_equal Greater other is = cc

then_equal : (one : Ordering) → ordering_then one Equal ≡ one
then_equal Less = refl
then_equal Equal = refl
then_equal Greater = refl

-- ---- values

-- numbers of one scale compare by their units
same_units : (larger : ℕ) (units : ℤ) (scale : ℕ) → larger ≡ scale → units_at larger units scale ≡ units
unfolding lib.IntN.one
same_units larger units scale same =
    let none : larger - scale ≡ 0 = omega (arith, same) in
    rw none (*ℤ-one units)

pub number_order : (one other : ℤ) (s t : ℕ) → ordering_then (nat_cmp s t) (int_cmp one other) ≡ cell_order (number one s) (number other t)
number_order one other s t = by (nat_cmp s t) refl
  where
    by : (scales : Ordering) → nat_cmp s t ≡ scales
        → ordering_then scales (int_cmp one other) ≡ ordering_then scales (int_cmp (units_at (max s t) one s) (units_at (max s t) other t))
    by Less is = refl
    by Equal is =
        let same : s ≡ t = exact_unsigned s t is in
        let left : units_at (max s t) one s ≡ one = same_units (max s t) one s (omega (arith, same)) in
        let right : units_at (max s t) other t ≡ other = same_units (max s t) other t (omega (arith, same)) in
        rw (left, right) refl
    by Greater is = refl

scale_in : Cell → ℕ
scale_in (number units scale) = scale
scale_in (day days) = 0
scale_in (text bytes) = 0

units_in : Cell → ℤ
units_in (number units scale) = units
units_in (day days) = days
units_in (text bytes) = pos 0

bytes_in : Cell → List ℕ
bytes_in (number units scale) = []
bytes_in (day days) = []
bytes_in (text bytes) = bytes

-- one part of a value after another
abbrev by_parts : Cell → Cell → Ordering
by_parts = then_cmp (on sort_of nat_cmp) (then_cmp (on scale_in nat_cmp) (then_cmp (on units_in int_cmp) (on bytes_in (slice_cmp nat_cmp))))

parts_total : IsTotalOrder by_parts
parts_total =
    then_total (on_total sort_of nat_cmp_total)
    (then_total (on_total scale_in nat_cmp_total) (then_total (on_total units_in int_cmp_total) (on_total bytes_in nat_list_cmp_total)))

by_parts-is : (one other : Cell) → by_parts one other ≡ cell_order one other
unfolding scale_in units_in bytes_in
by_parts-is (number one s) (number other t) = ap (λ rest. ordering_then (nat_cmp s t) rest) (then_equal (int_cmp one other)) ∙ number_order one other s t
by_parts-is (day one) (day other) = then_equal (int_cmp one other)
by_parts-is (text one) (text other) = refl
by_parts-is (number one s) (day other) = refl
by_parts-is (number one s) (text other) = refl
by_parts-is (day one) (number other t) = refl
by_parts-is (day one) (text other) = refl
by_parts-is (text one) (number other t) = refl
by_parts-is (text one) (day other) = refl

pub cell_total : IsTotalOrder cell_order
cell_total = subst IsTotalOrder (λ i one other. by_parts-is one other i) parts_total

same_number : (one other : ℤ) (s t : ℕ) → one ≡ other → s ≡ t → number one s ≡ number other t
same_number one other s t units scales = ap (λ u. number u s) units ∙ ap (λ k. number other k) scales

pub cell_exact : CmpEqualImpliesEq cell_order
cell_exact (number one s) (number other t) is =
    let both = both_equal (nat_cmp s t) (int_cmp one other) (number_order one other s t ∙ is) in
    same_number one other s t (exact_signed one other both.further) (exact_unsigned s t both.first)
cell_exact (day one) (day other) is = ap day (exact_signed one other is)
cell_exact (text one) (text other) is = ap text (exact_bytes one other is)
cell_exact (number one s) (day other) is = cc
cell_exact (number one s) (text other) is = cc
cell_exact (day one) (number other t) is = cc
cell_exact (day one) (text other) is = cc
cell_exact (text one) (number other t) is = cc
cell_exact (text one) (day other) is = cc

-- ---- columns

pub column_total : IsTotalOrder column_order
column_total = options_total cell_total

pub column_exact : CmpEqualImpliesEq column_order
column_exact None None is = refl
column_exact None (Some other) is = cc
column_exact (Some one) None is = cc
column_exact (Some one) (Some other) is = ap Some (cell_exact one other is)

-- lists whose elements are told apart are told apart
lists_exact : {X : Type 0} (order : X → X → Ordering) → CmpEqualImpliesEq order → CmpEqualImpliesEq (slice_cmp order)
lists_exact order exact [] [] is = refl
lists_exact order exact [] (y ∷ ys) is = cc
lists_exact order exact (x ∷ xs) [] is = cc
lists_exact order exact (x ∷ xs) (y ∷ ys) is =
    let both = both_equal (order x y) (slice_cmp order xs ys) is in
    ap (λ first. first ∷ xs) (exact x y both.first) ∙ ap (λ rest. y ∷ rest) (lists_exact order exact xs ys both.further)

-- ---- rows

at_total : (place : ℕ) → IsTotalOrder (order_at place)
at_total place = on_total (λ (row : List (Option Cell)). slice_get row place) (options_total column_total)

key_total : (key : OrderKey) → IsTotalOrder (key_order key)
key_total key = by key.desc
  where
    by : (desc : Bool) → IsTotalOrder (λ one other. if desc then order_at key.column other one else order_at key.column one other)
    by true = back_total (at_total key.column)
    by false = at_total key.column

keys_total : (keys : List OrderKey) → IsTotalOrder (keys_order keys)
keys_total [] = point_total
keys_total (key ∷ keys) = then_total (key_total key) (keys_total keys)

-- the order of rows is total
pub row_total : (keys : List OrderKey) → IsTotalOrder (row_order keys)
row_total keys = then_total (keys_total keys) (lists_total column_total)

-- rows that it does not tell apart are one
pub row_exact : (keys : List OrderKey) → CmpEqualImpliesEq (row_order keys)
row_exact keys one other is =
    let both = both_equal (keys_order keys one other) (slice_cmp column_order one other) is in
    lists_exact column_order column_exact one other both.further
