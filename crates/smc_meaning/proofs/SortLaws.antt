-- A list in order is one, whatever order its elements came in.
use Rattle.std.proofs.Common.{◌≡◌, ℕ, zero, suc, add-one, ◌+◌, ◌<◌, ◌≤◌, true, false, if◌then◌else◌, List, [], ◌∷◌, get_or, length, sum_by, refl, sym, ap, ◌∙◌, arith}
use Rattle.std.specs.Bool.{⊤}
use Rattle.std.specs.Cmp.{IsTotalOrder, alike_right, tied_itself, upto}
use Rattle.std.specs.List.Sorted.{IsPermutation, IsSortedBy}
use Rattle.std.specs.Ordering.{is_eq, is_gt, is_le, is_lt, ordering_reverse}
use Rattle.std.specs.declared.cmp.Ordering.{Ordering}
use Rattle.std.specs.declared.cmp.Ordering.TheVariants.{Equal, Greater, Less}
use Rattle.std.proofs.lemmas.Bool.{cond_both}
use Rattle.std.proofs.lemmas.List.Sorted.{IsPermutation-cons, IsPermutation-middle, IsPermutation-refl, IsPermutation-trans, ranks_by, sorted_far, sum_by-IsPermutation}
use Rattle.std.proofs.lemmas.List.Sums.{sum_by-cons}
use Rattle.std.proofs.lemmas.Map.Lookups.{CmpEqualImpliesEq}
use Rattle.smc_meaning.specs.Sorting.{placed, sorted}

gt-reverse : (r : Ordering) → is_gt (ordering_reverse r) ≡ is_lt r
gt-reverse Less = refl
gt-reverse Equal = refl
gt-reverse Greater = refl

reversed_less : (r : Ordering) → is_gt r ≡ true → ordering_reverse r ≡ Less
reversed_less Less is = cc
reversed_less Equal is = cc
reversed_less Greater is = refl

-- a test of an answer is the other one turned
gt_from_le : (r : Ordering) → is_le r ≡ true → is_gt r ≡ false
gt_from_le Less is = refl
gt_from_le Equal is = refl
gt_from_le Greater is = cc

gt_from_not_le : (r : Ordering) → is_le r ≡ false → is_gt r ≡ true
gt_from_not_le Less is = cc
gt_from_not_le Equal is = cc
gt_from_not_le Greater is = refl

module _ {X : Type 0} (order : X → X → Ordering) (total : IsTotalOrder order) (exact : CmpEqualImpliesEq order) where
  -- it comes behind none of a list
  abbrev IsLeast : X → List X → Type 0
  IsLeast x [] = ⊤
  IsLeast x (y ∷ ys) = (is_gt (order x y) ≡ false) × IsLeast x ys

  -- each comes behind none of those that follow it
  abbrev pub Ascends : List X → Type 0
  Ascends [] = ⊤
  Ascends (x ∷ xs) = IsLeast x xs × Ascends xs

  -- how often it stands in a list
  abbrev once : X → X → ℕ
  once x y = if is_eq (order x y) then 1 else 0

  abbrev count : X → List X → ℕ
  count x xs = sum_by (once x) xs

  count-cons : (z x : X) (xs : List X) → count z (x ∷ xs) ≡ once z x + count z xs
  count-cons z x xs = sum_by-cons (once z) x xs

  -- ---- a sorted list ascends

  least-placed : (z x : X) (xs : List X) → is_gt (order z x) ≡ false → IsLeast z xs → IsLeast z (placed order x xs)
  least-placed z x [] first least = (first, tt)
  least-placed z x (y ∷ ys) first least =
      cond_both (is_le (order x y)) (x ∷ y ∷ ys) (y ∷ placed order x ys) (IsLeast z) (λ before. (first, least)) (λ behind. (least.0, least-placed z x ys first least.1))

  least-below : (x y : X) (ys : List X) → is_gt (order x y) ≡ false → IsLeast y ys → IsLeast x ys
  least-below x y [] below least = tt
  least-below x y (z ∷ zs) below least = (upto total x y z below least.0, least-below x y zs below least.1)

  ascends-placed : (x : X) (xs : List X) → Ascends xs → Ascends (placed order x xs)
  ascends-placed x [] ascends = (tt, tt)
  ascends-placed x (y ∷ ys) ascends =
      cond_both (is_le (order x y)) (x ∷ y ∷ ys) (y ∷ placed order x ys) Ascends
      (λ before. ((gt_from_le (order x y) before, least-below x y ys (gt_from_le (order x y) before) ascends.0), ascends))
      (λ behind. (
        least-placed y x ys (ap is_gt (total.antisymm y x ∙ reversed_less (order x y) (gt_from_not_le (order x y) behind))) ascends.0,
        ascends-placed x ys ascends.1,
      ))

  pub ascends-sorted : (xs : List X) → Ascends (sorted order xs)
  ascends-sorted [] = tt
  ascends-sorted (x ∷ xs) = ascends-placed x (sorted order xs) (ascends-sorted xs)

  -- ---- and has the elements of the list

  count-placed : (z x : X) (xs : List X) → count z (placed order x xs) ≡ once z x + count z xs
  count-placed z x [] = count-cons z x []
  count-placed z x (y ∷ ys) =
      let further = count-placed z x ys in
      cond_both (is_le (order x y)) (x ∷ y ∷ ys) (y ∷ placed order x ys) (λ (list : List X). count z list ≡ once z x + count z (y ∷ ys))
      (λ before. count-cons z x (y ∷ ys)) (λ behind. omega (arith, further, count-cons z y (placed order x ys), count-cons z y ys))

  count-sorted : (z : X) (xs : List X) → count z (sorted order xs) ≡ count z xs
  count-sorted z [] = refl
  count-sorted z (x ∷ xs) = count-placed z x (sorted order xs) ∙ ap (λ further. once z x + further) (count-sorted z xs) ∙ sym (count-cons z x xs)

  -- ---- lists that ascend and have the same elements are one

  once-itself : (x : X) → once x x ≡ 1
  once-itself x = ap (λ r. if is_eq r then 1 else 0) (tied_itself total x)

  not_equal : (x y z : X) (r : Ordering) → order y z ≡ r → order x y ≡ Less → is_gt r ≡ false → order x z ≡ Less
  not_equal x y z Less is less upto = total.trans x y z less is
  not_equal x y z Equal is less upto = sym (alike_right total y z x is) ∙ less
  not_equal x y z Greater is less upto = cc

  -- what comes before the least is not there
  count-none : (x y : X) (ys : List X) → order x y ≡ Less → IsLeast y ys → count x ys ≡ 0
  count-none x y [] less least = refl
  count-none x y (z ∷ zs) less least =
      let apart : once x z ≡ 0 = ap (λ r. if is_eq r then 1 else 0) (not_equal x y z (order y z) refl less least.0) in
      let further = count-none x y zs less least.1 in
      omega (arith, apart, further, count-cons x z zs)

  -- the first of two such lists is no earlier than the other's
  not_less : (x y : X) (xs ys : List X) → order x y ≡ Less → IsLeast y ys → count x (x ∷ xs) ≡ count x (y ∷ ys) → ⊥
  not_less x y xs ys less least same =
      let here = once-itself x in
      let apart : once x y ≡ 0 = ap (λ r. if is_eq r then 1 else 0) less in
      let further = count-none x y ys less least in
      omega (arith, here, apart, further, same, count-cons x x xs, count-cons x y ys)

  heads : (x y : X) (xs ys : List X) (r : Ordering) → order x y ≡ r → IsLeast x xs → IsLeast y ys → ((z : X) → count z (x ∷ xs) ≡ count z (y ∷ ys)) → x ≡ y
  heads x y xs ys Less is least other same = absurd (not_less x y xs ys is other (same x))
  heads x y xs ys Equal is least other same = exact x y is
  heads x y xs ys Greater is least other same = absurd (not_less y x ys xs (total.antisymm y x ∙ ap ordering_reverse is) least (sym (same y)))

  one_list : (xs ys : List X) → Ascends xs → Ascends ys → ((z : X) → count z xs ≡ count z ys) → xs ≡ ys
  one_list [] [] ascends other same = refl
  one_list [] (y ∷ ys) ascends other same = let here = once-itself y in let there = same y in absurd (omega (arith, here, there, count-cons y y ys))
  one_list (x ∷ xs) [] ascends other same = let here = once-itself x in let there = same x in absurd (omega (arith, here, there, count-cons x x xs))
  one_list (x ∷ xs) (y ∷ ys) ascends other same =
      let head = heads x y xs ys (order x y) refl ascends.0 other.0 same in
      let tail = one_list xs ys ascends.1 other.1 (λ z. left z head) in
      ap (λ first. first ∷ xs) head ∙ ap (λ rest. y ∷ rest) tail
    where
      left : (z : X) → x ≡ y → count z xs ≡ count z ys
      left z head =
          let whole = same z in
          let first : once z x ≡ once z y = ap (once z) head in
          omega (arith, whole, first, count-cons z x xs, count-cons z y ys)

  -- a list with the same elements that ascends is the sorted one
  pub sorted_is_one : (xs ys : List X) → IsPermutation xs ys → Ascends ys → ys ≡ sorted order xs
  sorted_is_one xs ys same ascends =
      one_list ys (sorted order xs) ascends (ascends-sorted xs) (λ z. sum_by-IsPermutation (once z) xs ys same ∙ sym (count-sorted z xs))

  -- ---- what a sort says of its list

  least_from : (x : X) (xs : List X) → ((j : ℕ) (d : X) → j < length xs → is_lt (order (get_or xs j d) x) ≡ false) → IsLeast x xs
  least_from x [] each = tt
  least_from x (y ∷ ys) each =
      (ap is_gt (total.antisymm x y) ∙ gt-reverse (order y x) ∙ each 0 y (omega arith), least_from x ys (λ j d within. each (suc j) d (omega (arith, within))))

  ascends_from : (xs : List X) → ((i j : ℕ) (d : X) → i ≤ j → j < length xs → is_lt (order (get_or xs j d) (get_or xs i d)) ≡ false) → Ascends xs
  ascends_from [] each = tt
  ascends_from (x ∷ xs) each = (
    least_from x xs (λ j d within. each 0 (suc j) d (omega arith) (omega (arith, within))),
    ascends_from xs (λ i j d upto within. each (suc i) (suc j) d (omega (arith, upto)) (omega (arith, within))),
  )

  pub ascends-from_sort : (xs : List X) → IsSortedBy (λ x y. is_lt (order x y)) xs → Ascends xs
  ascends-from_sort xs is = ascends_from xs (sorted_far (λ x y. is_lt (order x y)) (ranks_by total (λ x. x)) xs is)

  -- ---- a sorted list is a sort of the list

  permutation-placed : (x : X) (xs : List X) → IsPermutation (x ∷ xs) (placed order x xs)
  permutation-placed x [] = IsPermutation-refl (x ∷ [])
  permutation-placed x (y ∷ ys) =
      cond_both (is_le (order x y)) (x ∷ y ∷ ys) (y ∷ placed order x ys) (λ (list : List X). IsPermutation (x ∷ y ∷ ys) list)
      (λ before. IsPermutation-refl (x ∷ y ∷ ys))
      (λ behind.
      IsPermutation-trans (x ∷ y ∷ ys) (y ∷ x ∷ ys) (y ∷ placed order x ys) (IsPermutation-middle (x ∷ []) y ys)
      (IsPermutation-cons y (x ∷ ys) (placed order x ys) (permutation-placed x ys)))

  pub permutation-sorted : (xs : List X) → IsPermutation xs (sorted order xs)
  permutation-sorted [] = IsPermutation-refl []
  permutation-sorted (x ∷ xs) =
      IsPermutation-trans (x ∷ xs) (x ∷ sorted order xs) (placed order x (sorted order xs)) (IsPermutation-cons x xs (sorted order xs) (permutation-sorted xs))
      (permutation-placed x (sorted order xs))

  rises_at : (xs : List X) → Ascends xs → (k : ℕ) (d : X) → suc k < length xs → is_lt (order (get_or xs (suc k) d) (get_or xs k d)) ≡ false
  rises_at [] ascends k d within = absurd (omega (arith, within))
  rises_at (x ∷ []) ascends k d within = absurd (omega (arith, within))
  rises_at (x ∷ y ∷ ys) ascends zero d within = sym (gt-reverse (order y x)) ∙ sym (ap is_gt (total.antisymm x y)) ∙ ascends.0.0
  rises_at (x ∷ y ∷ ys) ascends (suc k) d within = rises_at (y ∷ ys) ascends.1 k d (omega (arith, within))

  pub rises-sorted : (xs : List X) → IsSortedBy (λ x y. is_lt (order x y)) (sorted order xs)
  rises-sorted xs k d low within = rw add-one (rises_at (sorted order xs) (ascends-sorted xs) k d (omega (arith, within)))

  -- two orders of the same elements are sorted to one list
  pub sorted-permutation : (xs ys : List X) → IsPermutation xs ys → sorted order ys ≡ sorted order xs
  sorted-permutation xs ys same = sorted_is_one xs (sorted order ys) (IsPermutation-trans xs ys (sorted order ys) same (permutation-sorted ys)) (ascends-sorted ys)
