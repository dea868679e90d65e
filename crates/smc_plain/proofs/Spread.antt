-- What is made of the elements of a list, each by itself, changes only its order with that of the list.
use Rattle.std.proofs.Common.{List, [], ◌∷◌, ◌++◌, subst}
use Rattle.std.specs.Prelude.{IsPermutation, flat_map}
use Rattle.std.specs.Cmp.{IsTotalOrder}
use Rattle.std.specs.Ordering.{is_le}
use Rattle.std.specs.declared.cmp.Ordering.{Ordering}
use Rattle.std.proofs.lemmas.Bool.{cond_both}
use Rattle.std.proofs.lemmas.List.Sorted.{IsPermutation-append_right, IsPermutation-cons, IsPermutation-middle, IsPermutation-refl, IsPermutation-sym, IsPermutation-trans}
use Rattle.std.proofs.lemmas.Map.Lookups.{CmpEqualImpliesEq}
use Rattle.smc_meaning.specs.Sorting.{placed, sorted}
use Rattle.smc_meaning.proofs.SortLaws.{sorted-permutation}

exchange : {Y : Type 0} (us vs ws : List Y) → IsPermutation (us ++ (vs ++ ws)) (vs ++ (us ++ ws))
exchange [] vs ws = IsPermutation-refl (vs ++ ws)
exchange (u ∷ us) vs ws = IsPermutation-trans (u ∷ (us ++ (vs ++ ws))) (u ∷ (vs ++ (us ++ ws))) (vs ++ u ∷ (us ++ ws))
    (IsPermutation-cons u (us ++ (vs ++ ws)) (vs ++ (us ++ ws)) (exchange us vs ws))
    (IsPermutation-sym (vs ++ u ∷ (us ++ ws)) (u ∷ (vs ++ (us ++ ws))) (IsPermutation-middle vs u (us ++ ws)))

module _ {X Y : Type 0} (order : X → X → Ordering) (total : IsTotalOrder order) (exact : CmpEqualImpliesEq order) (f : X → List Y) where
  spread-placed : (x : X) (xs : List X) → IsPermutation (f x ++ flat_map f xs) (flat_map f (placed order x xs))
  spread-placed x [] = IsPermutation-refl (flat_map f (x ∷ []))
  spread-placed x (y ∷ ys) =
      cond_both (is_le (order x y)) (x ∷ y ∷ ys) (y ∷ placed order x ys) (λ (list : List X). IsPermutation (f x ++ (f y ++ flat_map f ys)) (flat_map f list))
      (λ before. IsPermutation-refl (f x ++ (f y ++ flat_map f ys)))
      (λ behind. IsPermutation-trans (f x ++ (f y ++ flat_map f ys)) (f y ++ (f x ++ flat_map f ys)) (f y ++ flat_map f (placed order x ys))
      (exchange (f x) (f y) (flat_map f ys))
      (IsPermutation-append_right (f y) (f x ++ flat_map f ys) (flat_map f (placed order x ys)) (spread-placed x ys)))

  spread-sorted : (xs : List X) → IsPermutation (flat_map f xs) (flat_map f (sorted order xs))
  spread-sorted [] = IsPermutation-refl []
  spread-sorted (x ∷ xs) = IsPermutation-trans (f x ++ flat_map f xs) (f x ++ flat_map f (sorted order xs)) (flat_map f (placed order x (sorted order xs)))
      (IsPermutation-append_right (f x) (flat_map f xs) (flat_map f (sorted order xs)) (spread-sorted xs)) (spread-placed x (sorted order xs))

  pub spread-same : (xs ys : List X) → IsPermutation xs ys → IsPermutation (flat_map f xs) (flat_map f ys)
  spread-same xs ys same = IsPermutation-trans (flat_map f xs) (flat_map f (sorted order xs)) (flat_map f ys) (spread-sorted xs)
      (subst (λ (zs : List X). IsPermutation (flat_map f zs) (flat_map f ys)) (sorted-permutation order total exact xs ys same)
      (IsPermutation-sym (flat_map f ys) (flat_map f (sorted order ys)) (spread-sorted ys)))
