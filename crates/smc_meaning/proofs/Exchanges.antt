-- What does not change where two neighbours change places does not change with the order of a list.
use Rattle.std.proofs.Common.{◌≡◌, Bool, true, false, if◌then◌else◌, List, [], ◌∷◌, ◌++◌, filter, refl, sym, ap, ◌∙◌, append_assoc}
use Rattle.std.specs.Cmp.{IsTotalOrder}
use Rattle.std.specs.List.Sorted.{IsPermutation}
use Rattle.std.specs.Ordering.{is_le}
use Rattle.std.specs.declared.cmp.Ordering.{Ordering}
use Rattle.std.proofs.lemmas.Bool.{cond_both}
use Rattle.std.proofs.lemmas.List.Elements.{filter-append}
use Rattle.std.proofs.lemmas.List.Sorted.{IsPermutation-append_right, IsPermutation-middle}
use Rattle.std.proofs.lemmas.Map.Lookups.{CmpEqualImpliesEq}
use Rattle.smc_meaning.specs.Sorting.{placed, sorted}
use Rattle.smc_meaning.proofs.SortLaws.{sorted-permutation}

-- two neighbours may change places
abbrev pub Turns : {X A : Type 0} → (List X → A) → Type 0
Turns {X} {A} of = (front : List X) (x y : X) (back : List X) → of (front ++ x ∷ y ∷ back) ≡ of (front ++ y ∷ x ∷ back)

pub turned : {X : Type 0} (front : List X) (x y : X) (back : List X) → IsPermutation (front ++ x ∷ y ∷ back) (front ++ y ∷ x ∷ back)
turned front x y back = IsPermutation-append_right front (x ∷ y ∷ back) (y ∷ x ∷ back) (IsPermutation-middle (x ∷ []) y back)

module _ {X A : Type 0} (order : X → X → Ordering) (total : IsTotalOrder order) (exact : CmpEqualImpliesEq order) (of : List X → A) (turns : Turns of) where
  -- one more finds its place from neighbour to neighbour
  placing : (front : List X) (x : X) (xs : List X) → of (front ++ x ∷ xs) ≡ of (front ++ placed order x xs)
  placing front x [] = refl
  placing front x (y ∷ ys) =
      cond_both (is_le (order x y)) (x ∷ y ∷ ys) (y ∷ placed order x ys) (λ (list : List X). of (front ++ x ∷ y ∷ ys) ≡ of (front ++ list))
      (λ before. refl)
      (λ behind.
      turns front x y ys
      ∙ ap of (sym (append_assoc front (y ∷ []) (x ∷ ys)))
      ∙ placing (front ++ y ∷ []) x ys
      ∙ ap of (append_assoc front (y ∷ []) (placed order x ys)))

  sorting : (front xs : List X) → of (front ++ xs) ≡ of (front ++ sorted order xs)
  sorting front [] = refl
  sorting front (x ∷ xs) =
      ap of (sym (append_assoc front (x ∷ []) xs))
      ∙ sorting (front ++ x ∷ []) xs
      ∙ ap of (append_assoc front (x ∷ []) (sorted order xs))
      ∙ placing front x (sorted order xs)

  -- so the order of the list does not matter
  pub bag-same : (xs ys : List X) → IsPermutation xs ys → of ys ≡ of xs
  bag-same xs ys same = sorting [] ys ∙ ap of (sorted-permutation order total exact xs ys same) ∙ sym (sorting [] xs)

-- ---- chosen elements

module _ {X A : Type 0} (p : X → Bool) (of : List X → A) (turns : Turns of) where
  chosen-two : (one other : Bool) (front : List X) (x y : X) (back : List X)
      → of (front ++ (if one then x ∷ (if other then y ∷ back else back) else (if other then y ∷ back else back)))
      ≡ of (front ++ (if other then y ∷ (if one then x ∷ back else back) else (if one then x ∷ back else back)))
  chosen-two true true front x y back = turns front x y back
  chosen-two true false front x y back = refl
  chosen-two false true front x y back = refl
  chosen-two false false front x y back = refl

  pub chosen-turns : Turns (λ xs. of (filter p xs))
  chosen-turns front x y back =
      ap of (filter-append p front (x ∷ y ∷ back))
      ∙ chosen-two (p x) (p y) (filter p front) x y (filter p back)
      ∙ ap of (sym (filter-append p front (y ∷ x ∷ back)))
