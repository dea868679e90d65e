-- Lists without repetition that have the same elements.
use Rattle.std.proofs.Common.{◌≡◌, ⊎_elim, ◌⊎◌, inl, inr, List, [], ◌∷◌, ◌++◌, refl, sym, subst, ap, arith}
use Rattle.std.specs.Prelude.{⊤, Contains, IsPermutation}
use Rattle.std.proofs.lemmas.List.Elements.{Contains-append_left, Contains-append_right, Contains-append_cases, Contains-push, Contains-push_cases}
use Rattle.std.proofs.lemmas.List.Sorted.{IsPermutation-cons, IsPermutation-middle, IsPermutation-refl, IsPermutation-sym, IsPermutation-trans}

module _ {X : Type 0} where
  -- an element of a list
  abbrev pub In : List X → X → Type 0
  In [] x = ⊥
  In (y ∷ ys) x = (y ≡ x) ⊎ In ys x

  -- no element stands twice
  abbrev pub AreApart : List X → Type 0
  AreApart [] = ⊤
  AreApart (x ∷ xs) = (In xs x → ⊥) × AreApart xs

  pub in-left : (us vs : List X) (x : X) → In us x → In (us ++ vs) x
  in-left [] vs x h = absurd h
  in-left (u ∷ us) vs x (inl is) = inl is
  in-left (u ∷ us) vs x (inr h) = inr (in-left us vs x h)

  pub in-right : (us vs : List X) (x : X) → In vs x → In (us ++ vs) x
  in-right [] vs x h = h
  in-right (u ∷ us) vs x h = inr (in-right us vs x h)

  pub in-cases : (us vs : List X) (x : X) → In (us ++ vs) x → In us x ⊎ In vs x
  in-cases [] vs x h = inr h
  in-cases (u ∷ us) vs x (inl is) = inl (inl is)
  in-cases (u ∷ us) vs x (inr h) = ⊎_elim (λ l. inl (inr l)) (λ r. inr r) (in-cases us vs x h)

  -- an element cuts its list
  abbrev pub IsCut : List X → X → Type 0
  IsCut ys x = (us : List X) × (vs : List X) × (ys ≡ us ++ x ∷ vs)

  pub cut-at : (ys : List X) (x : X) → In ys x → IsCut ys x
  cut-at [] x h = absurd h
  cut-at (y ∷ ys) x (inl is) = ([], ys, ap (λ (z : X). z ∷ ys) is)
  cut-at (y ∷ ys) x (inr h) = let c = cut-at ys x h in (y ∷ c.0, c.1, ap (λ (zs : List X). y ∷ zs) c.2)

  -- an element more in the middle
  more : (us vs : List X) (x z : X) → In (us ++ vs) z → In (us ++ x ∷ vs) z
  more us vs x z h = ⊎_elim (λ l. in-left us (x ∷ vs) z l) (λ r. in-right us (x ∷ vs) z (inr r)) (in-cases us vs z h)

  less : (us vs : List X) (x z : X) → In (us ++ x ∷ vs) z → (x ≡ z) ⊎ In (us ++ vs) z
  less us vs x z h = elim (in-cases us (x ∷ vs) z h) [
    | inl l ↦ inr (in-left us vs z l)
    | inr (inl is) ↦ inl is
    | inr (inr r) ↦ inr (in-right us vs z r)
  ]

  -- without the one in the middle
  apart-less : (us vs : List X) (x : X) → AreApart (us ++ x ∷ vs) → (In (us ++ vs) x → ⊥) × AreApart (us ++ vs)
  apart-less [] vs x h = h
  apart-less (u ∷ us) vs x h =
      let later = apart-less us vs x h.1 in (
        λ (i : In (u ∷ (us ++ vs)) x). ⊎_elim (λ is. h.0 (subst (λ (z : X). In (us ++ x ∷ vs) z) (sym is) (in-right us (x ∷ vs) x (inl refl)))) (λ r. later.0 r) i,
        (λ (i : In (us ++ vs) u). h.0 (more us vs x u i), later.1),
      )

  pub same-elements : (xs ys : List X) → AreApart xs → AreApart ys → ((z : X) → In xs z → In ys z) → ((z : X) → In ys z → In xs z) → IsPermutation xs ys
  same-elements [] [] a b to back = IsPermutation-refl []
  same-elements [] (y ∷ ys) a b to back = absurd (back y (inl refl))
  same-elements (x ∷ xs) ys a b to back =
      let c = cut-at ys x (to x (inl refl)) in
      let left = c.0 ++ c.1 in
      let apart = apart-less c.0 c.1 x (subst AreApart c.2 b) in
      let shorter = same-elements xs left a.1 apart.1
      (λ (z : X) (h : In xs z). ⊎_elim (λ is. absurd (a.0 (subst (λ (q : X). In xs q) (sym is) h))) (λ r. r) (less c.0 c.1 x z (subst (λ (zs : List X). In zs z) c.2 (to z (inr h)))))
      (λ (z : X) (h : In left z). ⊎_elim (λ is. absurd (apart.0 (subst (λ (q : X). In left q) (sym is) h))) (λ r. r) (back z (subst (λ (zs : List X). In zs z) (sym c.2) (more c.0 c.1 x z h)))) in
      subst (IsPermutation (x ∷ xs)) (sym c.2)
      (IsPermutation-trans _ _ _ (IsPermutation-cons x xs left shorter) (IsPermutation-sym _ _ (IsPermutation-middle c.0 x c.1)))

  -- by place and by recursion

  pub nothing-in : (x : X) → Contains [] x → ⊥
  nothing-in x h = let far = h.1 in absurd (omega arith)

  pub from-place : (xs : List X) (x : X) → Contains xs x → In xs x
  from-place [] x h = nothing-in x h
  from-place (y ∷ ys) x h = ⊎_elim
      (λ front. ⊎_elim (λ none. absurd (nothing-in x none)) (λ is. inl is) (Contains-push_cases [] y x front))
      (λ later. inr (from-place ys x later))
      (Contains-append_cases (y ∷ []) ys x h)

  pub to-place : (xs : List X) (x : X) → In xs x → Contains xs x
  to-place [] x h = absurd h
  to-place (y ∷ ys) x (inl is) = subst (λ (z : X). Contains (y ∷ ys) z) is (Contains-append_left (y ∷ []) ys y (Contains-push [] y))
  to-place (y ∷ ys) x (inr h) = Contains-append_right (y ∷ []) ys x (to-place ys x h)
