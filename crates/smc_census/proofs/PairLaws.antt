-- Numbers with a property are as many as the values of a map that pass a test, where each of these has one number of its own.
use Rattle.std.proofs.Common.{◌≡◌, ◌≢◌, ℕ, suc, ◌+◌, ◌<◌, ◌≤◌, ◌==◌, ◌&&◌, not, Bool, true, false, cond, T, Option, Some, None, List, [], ◌∷◌, map, filter, length, refl, sym, ap, ◌∙◌, subst, arith}
use Rattle.std.proofs.lemmas.Bool.Decides.{nat_tests}
use Rattle.std.specs.Cmp.{IsTotalOrder, tied_itself}
use Rattle.std.specs.FinMap.{FinMap, get, values, entries, entries_sorted, get-entries}
use Rattle.std.specs.FinMap.Entries.{find, below_all, is_sorted}
use Rattle.std.specs.Ordering.{eq_by_cmp, is_lt, is_eq}
use Rattle.std.specs.declared.cmp.Ordering.{Ordering}
use Rattle.std.specs.declared.cmp.Ordering.TheVariants.{Less, Equal, Greater}
use Rattle.std.proofs.lemmas.Map.Lookups.{CmpEqualImpliesEq}
use Rattle.smc_census.specs.Counts.{count_below}
use Rattle.smc_census.proofs.CountLaws.{by_test, count_below-within, count_below-one_more}

first : (a b : Bool) → T (a && b) → T a
first true b t = tt
first false b t = absurd t

second : (a b : Bool) → T (a && b) → T b
second true b t = t
second false b t = absurd t

not_tied : (r : Ordering) → T (is_lt r) → is_eq r ≡ false
not_tied Less t = refl
not_tied Equal t = absurd t
not_tied Greater t = absurd t

tied : (r : Ordering) → is_eq r ≡ true → r ≡ Equal
tied Equal t = refl
tied Less t = absurd (cc)
tied Greater t = absurd (cc)

-- the property, of all numbers but this one
apart_from : ℕ → (ℕ → Bool) → ℕ → Bool
apart_from one P n = P n && not (n == one)

apart-here : (one : ℕ) (P : ℕ → Bool) → apart_from one P one ≡ false
unfolding apart_from
apart-here one P = go (P one) (one == one) (grind (arith, nat_tests))
  where
    go : (a b : Bool) → b ≡ true → (a && not b) ≡ false
    go true true is = refl
    go false b is = refl
    go true false is = absurd (cc)

apart-other : (one : ℕ) (P : ℕ → Bool) (n : ℕ) → n ≢ one → apart_from one P n ≡ P n
unfolding apart_from
apart-other one P n apart = go (P n) (n == one) (grind (arith, nat_tests))
  where
    go : (a b : Bool) → b ≡ false → (a && not b) ≡ a
    go true false is = refl
    go false b is = refl
    go true true is = absurd (cc)

apart-has : (one : ℕ) (P : ℕ → Bool) (n : ℕ) → apart_from one P n ≡ true → (P n ≡ true) × (n ≢ one)
unfolding apart_from
apart-has one P n is = go (P n) (n == one) refl is
  where
    go : (a b : Bool) → (n == one) ≡ b → (a && not b) ≡ true → (a ≡ true) × (n ≢ one)
    go true false same is = (refl, grind (arith, nat_tests, same))
    go true true same is = absurd (cc)
    go false b same is = absurd (cc)

some-same : {A : Type 0} (x y : A) → Some x ≡ Some y → x ≡ y
some-same x y is = cc

some-none : {A : Type 0} (x : A) (o : Option A) → o ≡ None → o ≡ Some x → ⊥
some-none x None n is = cc
some-none x (Some y) n is = cc

-- each value that is found and passes has a number below n that has the property, no two have one, and no other number has it
pub record IsNumbering {K X : Type 0} (Q : X → Bool) (number : K → ℕ) (look : K → Option X) (P : ℕ → Bool) (n : ℕ) : Type 0 where
  pub within : (q : K) (v : X) → look q ≡ Some v → Q v ≡ true → number q < n
  pub has : (q : K) (v : X) → look q ≡ Some v → Q v ≡ true → P (number q) ≡ true
  pub one : (q r : K) (v w : X) → look q ≡ Some v → Q v ≡ true → look r ≡ Some w → Q w ≡ true → number q ≡ number r → q ≡ r
  pub all : (k : ℕ) → k < n → P k ≡ true → (q : K) × (v : X) × (look q ≡ Some v) × (Q v ≡ true) × (number q ≡ k)

module _ {K X : Type 0} (R : K → K → Ordering) (o : IsTotalOrder R) (exact : CmpEqualImpliesEq R) (Q : X → Bool) (number : K → ℕ) where
  -- the pairs of the list are numbered
  abbrev Numbered : (ℕ → Bool) → ℕ → List (K × X) → Type 0
  Numbered P n es = IsNumbering Q number (λ (q : K). find R q es) P n

  -- a key below all others is not among them
  find-below : (q : K) (es : List (K × X)) → T (below_all R q es) → find R q es ≡ None
  find-below q [] below = refl
  find-below q (e ∷ es) below =
      ap (λ b. cond b (Some e.1) (find R q es)) (not_tied (R q e.0) (first (is_lt (R q e.0)) (below_all R q es) below))
      ∙ find-below q es (second (is_lt (R q e.0)) (below_all R q es) below)

  -- the first pair and those behind it
  module _ (e : K × X) (es : List (K × X)) (sorted : T (is_sorted R (e ∷ es))) where
    first-absent : find R e.0 es ≡ None
    first-absent = find-below e.0 es (first (below_all R e.0 es) (is_sorted R es) sorted)

    tied-same : (q : K) → eq_by_cmp R q e.0 ≡ true → q ≡ e.0
    tied-same q t = exact q e.0 (tied (R q e.0) t)

    apart : (q : K) (v : X) → find R q es ≡ Some v → q ≢ e.0
    apart q v there same = some-none v (find R e.0 es) first-absent (ap (λ k. find R k es) (sym same) ∙ there)

    found-later : (q : K) (v : X) → find R q es ≡ Some v → find R q (e ∷ es) ≡ Some v
    found-later q v there = by_test (eq_by_cmp R q e.0) (λ t. absurd (apart q v there (tied-same q t))) (λ t. ap (λ b. cond b (Some e.1) (find R q es)) t ∙ there)

    found-first : find R e.0 (e ∷ es) ≡ Some e.1
    found-first = ap (λ r. cond (is_eq r) (Some e.1) (find R e.0 es)) (tied_itself o e.0)

    -- a pair that is found is the first one, or behind it
    by_place : {G : Type 0} (q : K) (v : X) → find R q (e ∷ es) ≡ Some v → (q ≡ e.0 → e.1 ≡ v → G) → (find R q es ≡ Some v → G) → G
    by_place q v there here later = by_test (eq_by_cmp R q e.0)
        (λ t. here (tied-same q t) (some-same e.1 v (sym (ap (λ b. cond b (Some e.1) (find R q es)) t) ∙ there)))
        (λ t. later (sym (ap (λ b. cond b (Some e.1) (find R q es)) t) ∙ there))

    -- the first value does not pass
    without-first : (P : ℕ → Bool) (n : ℕ) → Q e.1 ≡ false → Numbered P n (e ∷ es) → Numbered P n es
    without-first P n fails c = record {
      within = λ q v there passes. c.within q v (found-later q v there) passes;
      has = λ q v there passes. c.has q v (found-later q v there) passes;
      one = λ q r v w there passes there' passes' same. c.one q r v w (found-later q v there) passes (found-later r w there') passes' same;
      all = λ k lt is.
          let (q, v, there, passes, at) = c.all k lt is in
          by_place q v there (λ first same. let p : Q e.1 ≡ true = ap Q same ∙ passes in absurd (cc)) (λ later. (q, v, later, passes, at));
    }

    -- it passes: the others are numbered by the numbers but its own
    behind-first : (P : ℕ → Bool) (n : ℕ) → Q e.1 ≡ true → Numbered P n (e ∷ es) → Numbered (apart_from (number e.0) P) n es
    behind-first P n first c = record {
      within = λ q v there passes. c.within q v (found-later q v there) passes;
      has = λ q v there passes. apart-other (number e.0) P (number q)
          (λ same. apart q v there (c.one q e.0 v e.1 (found-later q v there) passes found-first first same)) ∙ c.has q v (found-later q v there) passes;
      one = λ q r v w there passes there' passes' same. c.one q r v w (found-later q v there) passes (found-later r w there') passes' same;
      all = λ k lt is.
          let both : (P k ≡ true) × (k ≢ number e.0) = apart-has (number e.0) P k is in
          let (q, v, there, passes, at) = c.all k lt both.0 in
          by_place q v there (λ here same. absurd (both.1 (sym at ∙ ap number here))) (λ later. (q, v, later, passes, at));
    }

  -- so they are as many
  numbered : (P : ℕ → Bool) (n : ℕ) (es : List (K × X)) → T (is_sorted R es) → Numbered P n es
      → count_below P n ≡ length (filter Q (map (λ e. e.1) es))
  numbered P n [] sorted c =
      let none : count_below P n ≤ 0 = count_below-within P n 0 (λ k lt is. let (q, v, there, passes, at) = c.all k lt is in absurd (cc)) in
      omega (arith, none)
  numbered P n (e ∷ es) sorted c =
      let later : (S : ℕ → Bool) → Numbered S n es → count_below S n ≡ length (filter Q (map (λ (d : K × X). d.1) es)) =
      λ (S : ℕ → Bool) c. numbered S n es (second (below_all R e.0 es) (is_sorted R es) sorted) c in
      by_test (Q e.1)
      (λ passes.
      let there : find R e.0 (e ∷ es) ≡ Some e.1 = found-first e es sorted in
      let one_more : count_below P n ≡ count_below (apart_from (number e.0) P) n + 1 =
      count_below-one_more (apart_from (number e.0) P) P n (number e.0) (c.within e.0 e.1 there passes) (apart-here (number e.0) P) (c.has e.0 e.1 there passes)
      (λ m lt apart. apart-other (number e.0) P m apart) in
      let longer : length (filter Q (map (λ (d : K × X). d.1) (e ∷ es))) ≡ suc (length (filter Q (map (λ (d : K × X). d.1) es))) =
      ap (λ b. length (cond b (e.1 ∷ filter Q (map (λ (d : K × X). d.1) es)) (filter Q (map (λ (d : K × X). d.1) es)))) passes in
      omega (arith, one_more, longer, later (apart_from (number e.0) P) (behind-first e es sorted P n passes c)))
      (λ fails.
      later P (without-first e es sorted P n fails c)
      ∙ sym (ap (λ b. length (cond b (e.1 ∷ filter Q (map (λ (d : K × X). d.1) es)) (filter Q (map (λ (d : K × X). d.1) es)))) fails))

  -- and of a map
  pub values-numbered : (P : ℕ → Bool) (n : ℕ) (m : FinMap R X) → IsNumbering Q number (get m) P n → count_below P n ≡ length (filter Q (values m))
  values-numbered P n m c = numbered P n (entries m) (entries_sorted m) (subst (λ (look : K → Option X). IsNumbering Q number look P n) (λ i q. get-entries m q i) c)
