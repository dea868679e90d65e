-- What a section's scans are after one of them has passed a slot or ended, or another has begun.
use Rattle.std.proofs.Common.{◌≡◌, ◌≢◌, ◌⊎◌, ℕ, ◌<◌, ◌==◌, Bool, true, false, Option, Some, None, List, [], ◌∷◌, ◌++◌, zero, suc, refl, sym, subst, inl, inr, arith}
use Rattle.std.specs.Prelude.{Contains, if◌then◌else◌}
use Rattle.std.proofs.lemmas.Bool.Decides.{nat_tests}
use Rattle.smc_core.specs.declared.local.Scan.{Scan}
use Rattle.smc_core.specs.Scan.{scan_of, passed, ended}
use Rattle.smc_agreement.proofs.CrossLaws.{by_true}
use Rattle.smc_inv_scan.specs.Scans.{IsAt, AreApart}

-- the scan that is found by a number has it
pub scan_of-number : (scans : List Scan) (k : ℕ) (b : Scan) → scan_of scans k ≡ Some b → b.number ≡ k
scan_of-number [] k b is = absurd (cc)
scan_of-number (first ∷ later) k b is = by_true (first.number == k)
    (λ t. let z : Some first ≡ Some b = subst (λ (x : Bool). (if x then Some first else scan_of later k) ≡ Some b) t is in grind (arith, nat_tests, t, z))
    (λ f. scan_of-number later k b (subst (λ (x : Bool). (if x then Some first else scan_of later k) ≡ Some b) f is))

-- the first scan is found, or one of the later
cons_some : (first : Scan) (later : List Scan) (k : ℕ) (b : Scan) → scan_of (first ∷ later) k ≡ Some b
    → ((first.number == k) ≡ true) × (first ≡ b) ⊎ ((first.number == k) ≡ false) × (scan_of later k ≡ Some b)
cons_some first later k b is = by_true (first.number == k)
    (λ t. let z : Some first ≡ Some b = subst (λ (x : Bool). (if x then Some first else scan_of later k) ≡ Some b) t is in inl (t, grind (arith, z)))
    (λ f. inr (f, subst (λ (x : Bool). (if x then Some first else scan_of later k) ≡ Some b) f is))

cons_true : (first : Scan) (later : List Scan) (k : ℕ) → (first.number == k) ≡ true → scan_of (first ∷ later) k ≡ Some first
cons_true first later k t = subst (λ (x : Bool). (if x then Some first else scan_of later k) ≡ Some first) (sym t) refl

cons_false : (first : Scan) (later : List Scan) (k : ℕ) (o : Option Scan) → (first.number == k) ≡ false → scan_of later k ≡ o → scan_of (first ∷ later) k ≡ o
cons_false first later k o f is = subst (λ (x : Bool). (if x then Some first else scan_of later k) ≡ o) (sym f) is

cons_none : (first : Scan) (later : List Scan) (k : ℕ) → scan_of (first ∷ later) k ≡ None → ((first.number == k) ≡ false) × (scan_of later k ≡ None)
cons_none first later k is = by_true (first.number == k)
    (λ t. let z : Some first ≡ None = subst (λ (x : Bool). (if x then Some first else scan_of later k) ≡ None) t is in absurd (cc))
    (λ f. (f, subst (λ (x : Bool). (if x then Some first else scan_of later k) ≡ None) f is))

-- each scan was there before, in the same collection, at the same place or, where it is the one that passed a slot, before it
pub passed-was : (scans : List Scan) (k place j : ℕ) (b : Scan) → scan_of (passed scans k place) j ≡ Some b
    → (old : Scan) × (scan_of scans j ≡ Some old) × (b.coll ≡ old.coll) × ((b.place ≡ old.place) ⊎ ((j ≡ k) × (b.place ≡ place)))
passed-was [] k place j b is = absurd (cc)
passed-was (first ∷ later) k place j b is = by_true (first.number == k)
    (λ t. elim (cons_some (record first { place = place }) later j b (subst (λ (x : Bool). scan_of (if x then record first { place = place } ∷ later else first ∷ passed later k place) j ≡ Some b) t is)) [
      | inl here ↦ (first, cons_true first later j here.0, grind (arith, here.1), inr (grind (arith, nat_tests, t, here.0), grind (arith, here.1)))
      | inr there ↦ (b, cons_false first later j (Some b) there.0 there.1, refl, inl refl)
    ])
    (λ f. elim (cons_some first (passed later k place) j b (subst (λ (x : Bool). scan_of (if x then record first { place = place } ∷ later else first ∷ passed later k place) j ≡ Some b) f is)) [
      | inl here ↦ (first, cons_true first later j here.0, grind (arith, here.1), inl (grind (arith, here.1)))
      | inr there ↦ let (old, was, same, at) = passed-was later k place j b there.1 in (old, cons_false first later j (Some old) there.0 was, same, at)
    ])

-- the one that has passed a slot is at the next
pub passed-at : (scans : List Scan) (k place c t : ℕ) → IsAt c t (scan_of scans k) → IsAt c place (scan_of (passed scans k place) k)
passed-at [] k place c t at = absurd at
passed-at (first ∷ later) k place c t at = by_true (first.number == k)
    (λ y. subst (λ (x : Bool). IsAt c place (scan_of (if x then record first { place = place } ∷ later else first ∷ passed later k place) k)) (sym y)
    (subst (IsAt c place) (sym (cons_true (record first { place = place }) later k y)) ((subst (IsAt c t) (cons_true first later k y) at).0, refl)))
    (λ n. subst (λ (x : Bool). IsAt c place (scan_of (if x then record first { place = place } ∷ later else first ∷ passed later k place) k)) (sym n)
    (subst (IsAt c place) (sym (cons_false first (passed later k place) k (scan_of (passed later k place) k) n refl))
    (passed-at later k place c t (subst (IsAt c t) (cons_false first later k (scan_of later k) n refl) at))))

none_passed : (scans : List Scan) (k place j : ℕ) → scan_of scans j ≡ None → scan_of (passed scans k place) j ≡ None
none_passed scans k place j nothing = go (scan_of (passed scans k place) j) refl
  where
    go : (o : Option Scan) → scan_of (passed scans k place) j ≡ o → scan_of (passed scans k place) j ≡ None
    go None e = e
    go (Some b) e = let (old, was, same, at) = passed-was scans k place j b e in absurd (cc)

pub passed-apart : (scans : List Scan) (k place : ℕ) → AreApart scans → AreApart (passed scans k place)
passed-apart [] k place h = tt
passed-apart (first ∷ later) k place h = by_true (first.number == k)
    (λ t. subst (λ (x : Bool). AreApart (if x then record first { place = place } ∷ later else first ∷ passed later k place)) (sym t) h)
    (λ f. subst (λ (x : Bool). AreApart (if x then record first { place = place } ∷ later else first ∷ passed later k place)) (sym f)
    (none_passed later k place first.number h.0, passed-apart later k place h.1))

-- each scan was there before, in the same collection and at the same place, where one has ended
pub ended-was : (scans : List Scan) (k j : ℕ) (b : Scan) → scan_of (ended scans k) j ≡ Some b
    → (old : Scan) × (scan_of scans j ≡ Some old) × (b.coll ≡ old.coll) × (b.place ≡ old.place)
ended-was [] k j b is = absurd (cc)
ended-was (first ∷ later) k j b is = by_true (first.number == k)
    (λ t. elim (cons_some (record first { ended = true }) later j b (subst (λ (x : Bool). scan_of (if x then record first { ended = true } ∷ later else first ∷ ended later k) j ≡ Some b) t is)) [
      | inl here ↦ (first, cons_true first later j here.0, grind (arith, here.1), grind (arith, here.1))
      | inr there ↦ (b, cons_false first later j (Some b) there.0 there.1, refl, refl)
    ])
    (λ f. elim (cons_some first (ended later k) j b (subst (λ (x : Bool). scan_of (if x then record first { ended = true } ∷ later else first ∷ ended later k) j ≡ Some b) f is)) [
      | inl here ↦ (first, cons_true first later j here.0, grind (arith, here.1), grind (arith, here.1))
      | inr there ↦ let (old, was, same, at) = ended-was later k j b there.1 in (old, cons_false first later j (Some old) there.0 was, same, at)
    ])

none_ended : (scans : List Scan) (k j : ℕ) → scan_of scans j ≡ None → scan_of (ended scans k) j ≡ None
none_ended scans k j nothing = go (scan_of (ended scans k) j) refl
  where
    go : (o : Option Scan) → scan_of (ended scans k) j ≡ o → scan_of (ended scans k) j ≡ None
    go None e = e
    go (Some b) e = let (old, was, same, at) = ended-was scans k j b e in absurd (cc)

pub ended-apart : (scans : List Scan) (k : ℕ) → AreApart scans → AreApart (ended scans k)
ended-apart [] k h = tt
ended-apart (first ∷ later) k h = by_true (first.number == k)
    (λ t. subst (λ (x : Bool). AreApart (if x then record first { ended = true } ∷ later else first ∷ ended later k)) (sym t) h)
    (λ f. subst (λ (x : Bool). AreApart (if x then record first { ended = true } ∷ later else first ∷ ended later k)) (sym f)
    (none_ended later k first.number h.0, ended-apart later k h.1))

-- each scan was there before, or is the one that has begun
pub begun-was : (scans : List Scan) (new : Scan) (k : ℕ) (b : Scan) → scan_of (scans ++ new ∷ []) k ≡ Some b → (scan_of scans k ≡ Some b) ⊎ (new ≡ b)
begun-was [] new k b is = elim (cons_some new [] k b is) [ inl here ↦ inr here.1 | inr there ↦ inl there.1 ]
begun-was (first ∷ later) new k b is = elim (cons_some first (later ++ new ∷ []) k b is) [
  | inl here ↦ inl (subst (λ (x : Scan). scan_of (first ∷ later) k ≡ Some x) here.1 (cons_true first later k here.0))
  | inr there ↦ elim (begun-was later new k b there.1) [ inl old ↦ inl (cons_false first later k (Some b) there.0 old) | inr same ↦ inr same ]
]

none_begun : (scans : List Scan) (new : Scan) (k : ℕ) → scan_of scans k ≡ None → new.number ≢ k → scan_of (scans ++ new ∷ []) k ≡ None
none_begun scans new k nothing ne = go (scan_of (scans ++ new ∷ []) k) refl
  where
    go : (o : Option Scan) → scan_of (scans ++ new ∷ []) k ≡ o → scan_of (scans ++ new ∷ []) k ≡ None
    go None e = e
    go (Some b) e = elim (begun-was scans new k b e) [
      | inl old ↦ absurd (cc)
      | inr same ↦ absurd (ne (subst (λ (x : Scan). x.number ≡ k) (sym same) (scan_of-number (scans ++ new ∷ []) k b e)))
    ]

pub begun-apart : (scans : List Scan) (new : Scan) → AreApart scans → scan_of scans new.number ≡ None → AreApart (scans ++ new ∷ [])
begun-apart [] new h nothing = (refl, tt)
begun-apart (first ∷ later) new h nothing =
    let (other, none) = cons_none first later new.number nothing in
    (none_begun later new first.number h.0 (λ y. grind (arith, nat_tests, other)), begun-apart later new h.1 none)

-- what is in a list of scans is found by its number
pub listed : (scans : List Scan) (b : Scan) → AreApart scans → Contains scans b → scan_of scans b.number ≡ Some b
listed [] b h (k, lt, is) = absurd (grind (arith, lt))
listed (first ∷ later) b h (zero, lt, is) = subst (λ (x : Scan). scan_of (first ∷ later) x.number ≡ Some x) is (cons_true first later first.number (grind (arith, nat_tests)))
listed (first ∷ later) b h (suc k, lt, is) =
    let there : scan_of later b.number ≡ Some b = listed later b h.1 (k, omega (arith, lt), is) in
    by_true (first.number == b.number)
    (λ t. let same : first.number ≡ b.number = grind (arith, nat_tests, t) in absurd (grind (arith, h.0, there, same)))
    (λ f. cons_false first later b.number (Some b) f there)

-- a number above those of all scans finds none
pub no_scan : (scans : List Scan) (n : ℕ) → ((b : Scan) → scan_of scans n ≡ Some b → n < n) → scan_of scans n ≡ None
no_scan scans n above = go (scan_of scans n) refl
  where
    go : (o : Option Scan) → scan_of scans n ≡ o → scan_of scans n ≡ None
    go None e = e
    go (Some b) e = absurd (omega (arith, above b e))
