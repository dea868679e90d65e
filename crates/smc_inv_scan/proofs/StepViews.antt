-- What steps of scans and of look-ups make of the section's scans and of the call.
use Rattle.std.proofs.Common.{◌≡◌, ◌⊎◌, ℕ, ◌+◌, ◌≤◌, ◌==◌, ◌||◌, Bool, true, false, not, Option, Some, None, List, refl, sym, ap, subst, inl, inr, arith}
use Rattle.std.specs.Prelude.{nat_lt, if◌then◌else◌}
use Rattle.std.proofs.lemmas.Bool.Decides.{nat_tests}
use Rattle.smc_words.specs.declared.number.Number.{Number}
use Rattle.smc_shape.specs.Layout.{Layout, slots_of}
use Rattle.smc_core.specs.declared.done.Done.TheVariants as done
use Rattle.smc_core.specs.declared.local.Scan.{Scan}
use Rattle.smc_core.specs.declared.phase.Phase.TheVariants as phase
use Rattle.smc_core.specs.declared.phase.objects.Finding.{Finding}
use Rattle.smc_core.specs.declared.phase.objects.Finding.TheVariants.{Absent, Stays, Abandons, Helps}
use Rattle.smc_core.specs.declared.phase.objects.ScanPhase.TheVariants as scan
use Rattle.smc_core.specs.declared.phase.objects.Seeker.{Seeker}
use Rattle.smc_core.specs.declared.phase.objects.Seeker.TheVariants as seeker
use Rattle.smc_core.specs.declared.word.Word.{Word}
use Rattle.smc_core.specs.declared.word.Word.TheVariants as word
use Rattle.smc_core.specs.Change.{next_started}
use Rattle.smc_core.specs.Local.{next_after}
use Rattle.smc_core.specs.Look.{look_change, passes, visits}
use Rattle.smc_core.specs.Scan.{scan_of, passed, ended, is_over, is_scanned, look_scans, scan_scans, scan_change, next_scans, next_change}
use Rattle.smc_core.specs.Step.{goes, ends}
use Rattle.smc_core.specs.Words.{dir_of, back_of}
use Rattle.smc_rules.specs.Calls.{Slot}
use Rattle.smc_agreement.proofs.CrossLaws.{by_true}
use Rattle.smc_inv_scan.specs.Scans.{IsAt, AreApart, seeker_at, seeker_slot, seeker_owner, scan_at, scanned_slot, sought_at, ends_of, IsPassed}
use Rattle.smc_inv_scan.proofs.ListLaws.{scan_of-number, passed-was, passed-at, passed-apart, ended-was, ended-apart}

-- a look-up's finding with which a scan passes the slot
abbrev pub is_decided : Finding → Bool
is_decided Absent = true
is_decided (Stays there) = true
is_decided (Abandons there) = false
is_decided (Helps there copy) = false

-- ---- look-ups

pub looked-was : (who : Seeker) (finding : Finding) (scans : List Scan) (j : ℕ) (b : Scan) → scan_of (look_scans scans who finding) j ≡ Some b
    → (old : Scan) × (scan_of scans j ≡ Some old) × (b.coll ≡ old.coll)
    × ((b.place ≡ old.place) ⊎ ((c t : ℕ) × (who ≡ seeker.Scan j c t) × (b.place ≡ t + 1) × (is_decided finding ≡ true)))
looked-was seeker.Caller finding scans j b is = (b, is, refl, inl refl)
looked-was (seeker.Scan k c t) (Abandons there) scans j b is = (b, is, refl, inl refl)
looked-was (seeker.Scan k c t) (Helps there copy) scans j b is = (b, is, refl, inl refl)
looked-was (seeker.Scan k c t) Absent scans j b is =
    let (old, was, same, at) = passed-was scans k (t + 1) j b is in
    (old, was, same, elim at [ inl y ↦ inl y | inr n ↦ inr (c, t, ap (λ (z : ℕ). seeker.Scan z c t) (sym n.0), n.1, refl) ])
looked-was (seeker.Scan k c t) (Stays there) scans j b is =
    let (old, was, same, at) = passed-was scans k (t + 1) j b is in
    (old, was, same, elim at [ inl y ↦ inl y | inr n ↦ inr (c, t, ap (λ (z : ℕ). seeker.Scan z c t) (sym n.0), n.1, refl) ])

pub looked-apart : (who : Seeker) (finding : Finding) (scans : List Scan) → AreApart scans → AreApart (look_scans scans who finding)
looked-apart seeker.Caller finding scans h = h
looked-apart (seeker.Scan k c t) (Abandons there) scans h = h
looked-apart (seeker.Scan k c t) (Helps there copy) scans h = h
looked-apart (seeker.Scan k c t) Absent scans h = passed-apart scans k (t + 1) h
looked-apart (seeker.Scan k c t) (Stays there) scans h = passed-apart scans k (t + 1) h

-- a scan that passes a slot is at the next, if it is anywhere
passes-at : (shape : Layout) (k c t : ℕ) (scans : List Scan) (k' c' t' : ℕ) → IsAt c t (scan_of scans k) → scan_at (passes shape k c t) ≡ Some (k', (c', t'))
    → IsAt c' t' (scan_of (passed scans k (t + 1)) k')
passes-at shape k c t scans k' c' t' at is = by_true (nat_lt (t + 1) (slots_of shape c))
    (λ y. let z : Some (k, (c, t + 1)) ≡ Some (k', (c', t')) = subst (λ (b : Bool). scan_at (if b then phase.Scan (scan.Directory k c (t + 1)) else phase.Scan (scan.End k)) ≡ Some (k', (c', t'))) y is in
    let here : IsAt c (t + 1) (scan_of (passed scans k (t + 1)) k) = passed-at scans k (t + 1) c t at in
    let ek : k ≡ k' = grind (arith, z) in
    let ec : c ≡ c' = grind (arith, z) in
    let et : t + 1 ≡ t' = grind (arith, z) in
    subst (λ (x : ℕ). IsAt c' t' (scan_of (passed scans k (t + 1)) x)) ek (subst (λ (x : ℕ). IsAt c' x (scan_of (passed scans k (t + 1)) k)) et (subst (λ (x : ℕ). IsAt x (t + 1) (scan_of (passed scans k (t + 1)) k)) ec here)))
    (λ n. let z : None ≡ Some (k', (c', t')) = subst (λ (b : Bool). scan_at (if b then phase.Scan (scan.Directory k c (t + 1)) else phase.Scan (scan.End k)) ≡ Some (k', (c', t'))) n is in absurd (cc))

passes-slot : (shape : Layout) (k c t : ℕ) → scanned_slot (passes shape k c t) ≡ None
passes-slot shape k c t = by_true (nat_lt (t + 1) (slots_of shape c))
    (λ y. subst (λ (b : Bool). scanned_slot (if b then phase.Scan (scan.Directory k c (t + 1)) else phase.Scan (scan.End k)) ≡ None) (sym y) refl)
    (λ n. subst (λ (b : Bool). scanned_slot (if b then phase.Scan (scan.Directory k c (t + 1)) else phase.Scan (scan.End k)) ≡ None) (sym n) refl)

passes-owner : (shape : Layout) (k c t : ℕ) → sought_at (passes shape k c t) ≡ None
passes-owner shape k c t = by_true (nat_lt (t + 1) (slots_of shape c))
    (λ y. subst (λ (b : Bool). sought_at (if b then phase.Scan (scan.Directory k c (t + 1)) else phase.Scan (scan.End k)) ≡ None) (sym y) refl)
    (λ n. subst (λ (b : Bool). sought_at (if b then phase.Scan (scan.Directory k c (t + 1)) else phase.Scan (scan.End k)) ≡ None) (sym n) refl)

at_over : (shape : Layout) (c t : ℕ) (o : Option Scan) → IsAt c t o → slots_of shape c ≤ t → IsPassed shape o
at_over shape c t None at le = absurd at
at_over shape c t (Some b) at le = subst (λ (x : ℕ). slots_of shape x ≤ b.place) (sym at.0) (subst (λ (x : ℕ). slots_of shape c ≤ x) (sym at.1) le)

-- one that passes the last slot is about to end
passes-over : (shape : Layout) (k c t : ℕ) (scans : List Scan) (k' : ℕ) → IsAt c t (scan_of scans k) → ends_of (passes shape k c t) ≡ Some k'
    → IsPassed shape (scan_of (passed scans k (t + 1)) k')
passes-over shape k c t scans k' at is = by_true (nat_lt (t + 1) (slots_of shape c))
    (λ y. let z : None ≡ Some k' = subst (λ (b : Bool). ends_of (if b then phase.Scan (scan.Directory k c (t + 1)) else phase.Scan (scan.End k)) ≡ Some k') y is in absurd (cc))
    (λ n. let z : Some k ≡ Some k' = subst (λ (b : Bool). ends_of (if b then phase.Scan (scan.Directory k c (t + 1)) else phase.Scan (scan.End k)) ≡ Some k') n is in
    let ek : k ≡ k' = grind (arith, z) in
    subst (λ (x : ℕ). IsPassed shape (scan_of (passed scans k (t + 1)) x)) ek
    (at_over shape c (t + 1) (scan_of (passed scans k (t + 1)) k) (passed-at scans k (t + 1) c t at) (grind (arith, nat_tests, n))))

pub looked-over : (shape : Layout) (who : Seeker) (n : Number) (finding : Finding) (scans : List Scan) (k' : ℕ)
    → ((k c t : ℕ) → seeker_at who ≡ Some (k, (c, t)) → IsAt c t (scan_of scans k))
    → ends_of (look_change shape who n finding).phase ≡ Some k' → IsPassed shape (scan_of (look_scans scans who finding) k')
looked-over shape seeker.Caller n Absent scans k' h is = absurd (cc)
looked-over shape seeker.Caller n (Stays there) scans k' h is = absurd (cc)
looked-over shape seeker.Caller n (Abandons there) scans k' h is = absurd (cc)
looked-over shape seeker.Caller n (Helps there copy) scans k' h is = absurd (cc)
looked-over shape (seeker.Scan k c t) n Absent scans k' h is = passes-over shape k c t scans k' (h k c t refl) is
looked-over shape (seeker.Scan k c t) n (Stays there) scans k' h is = by_true (there == t)
    (λ y. let z : None ≡ Some k' = subst (λ (b : Bool). ends_of (if b then visits k n there else goes (passes shape k c t)).phase ≡ Some k') y is in absurd (cc))
    (λ f. passes-over shape k c t scans k' (h k c t refl) (subst (λ (b : Bool). ends_of (if b then visits k n there else goes (passes shape k c t)).phase ≡ Some k') f is))
looked-over shape (seeker.Scan k c t) n (Abandons there) scans k' h is = absurd (cc)
looked-over shape (seeker.Scan k c t) n (Helps there copy) scans k' h is = absurd (cc)

pub looked-at : (shape : Layout) (who : Seeker) (n : Number) (finding : Finding) (scans : List Scan) (k' c' t' : ℕ)
    → ((k c t : ℕ) → seeker_at who ≡ Some (k, (c, t)) → IsAt c t (scan_of scans k))
    → scan_at (look_change shape who n finding).phase ≡ Some (k', (c', t')) → IsAt c' t' (scan_of (look_scans scans who finding) k')
looked-at shape seeker.Caller n Absent scans k' c' t' h is = absurd (cc)
looked-at shape seeker.Caller n (Stays there) scans k' c' t' h is = absurd (cc)
looked-at shape seeker.Caller n (Abandons there) scans k' c' t' h is = absurd (cc)
looked-at shape seeker.Caller n (Helps there copy) scans k' c' t' h is = absurd (cc)
looked-at shape (seeker.Scan k c t) n Absent scans k' c' t' h is = passes-at shape k c t scans k' c' t' (h k c t refl) is
looked-at shape (seeker.Scan k c t) n (Stays there) scans k' c' t' h is = by_true (there == t)
    (λ y. let z : None ≡ Some (k', (c', t')) = subst (λ (b : Bool). scan_at (if b then visits k n there else goes (passes shape k c t)).phase ≡ Some (k', (c', t'))) y is in absurd (cc))
    (λ f. passes-at shape k c t scans k' c' t' (h k c t refl) (subst (λ (b : Bool). scan_at (if b then visits k n there else goes (passes shape k c t)).phase ≡ Some (k', (c', t'))) f is))
looked-at shape (seeker.Scan k c t) n (Abandons there) scans k' c' t' h is = h k' c' t' is
looked-at shape (seeker.Scan k c t) n (Helps there copy) scans k' c' t' h is = h k' c' t' is

-- a look-up that goes on is at the slot where it was
pub looked-slot : (shape : Layout) (who : Seeker) (n : Number) (finding : Finding) (z : Slot)
    → scanned_slot (look_change shape who n finding).phase ≡ Some z → seeker_slot who ≡ Some z
looked-slot shape seeker.Caller n Absent z is = absurd (cc)
looked-slot shape seeker.Caller n (Stays there) z is = absurd (cc)
looked-slot shape seeker.Caller n (Abandons there) z is = absurd (cc)
looked-slot shape seeker.Caller n (Helps there copy) z is = absurd (cc)
looked-slot shape (seeker.Scan k c t) n Absent z is = let nothing = passes-slot shape k c t in absurd (cc)
looked-slot shape (seeker.Scan k c t) n (Stays there) z is = by_true (there == t)
    (λ y. let w : None ≡ Some z = subst (λ (b : Bool). scanned_slot (if b then visits k n there else goes (passes shape k c t)).phase ≡ Some z) y is in absurd (cc))
    (λ f. let w : scanned_slot (passes shape k c t) ≡ Some z = subst (λ (b : Bool). scanned_slot (if b then visits k n there else goes (passes shape k c t)).phase ≡ Some z) f is in
    let nothing = passes-slot shape k c t in absurd (cc))
looked-slot shape (seeker.Scan k c t) n (Abandons there) z is = is
looked-slot shape (seeker.Scan k c t) n (Helps there copy) z is = is

-- and of the object that it was of
pub looked-owner : (shape : Layout) (who : Seeker) (n : Number) (finding : Finding) (z : Slot) (n' : Number)
    → sought_at (look_change shape who n finding).phase ≡ Some (z, n') → seeker_owner who n ≡ Some (z, n')
looked-owner shape seeker.Caller n Absent z n' is = absurd (cc)
looked-owner shape seeker.Caller n (Stays there) z n' is = absurd (cc)
looked-owner shape seeker.Caller n (Abandons there) z n' is = absurd (cc)
looked-owner shape seeker.Caller n (Helps there copy) z n' is = absurd (cc)
looked-owner shape (seeker.Scan k c t) n Absent z n' is = let nothing = passes-owner shape k c t in absurd (cc)
looked-owner shape (seeker.Scan k c t) n (Stays there) z n' is = by_true (there == t)
    (λ y. let w : None ≡ Some (z, n') = subst (λ (b : Bool). sought_at (if b then visits k n there else goes (passes shape k c t)).phase ≡ Some (z, n')) y is in absurd (cc))
    (λ f. let w : sought_at (passes shape k c t) ≡ Some (z, n') = subst (λ (b : Bool). sought_at (if b then visits k n there else goes (passes shape k c t)).phase ≡ Some (z, n')) f is in
    let nothing = passes-owner shape k c t in absurd (cc))
looked-owner shape (seeker.Scan k c t) n (Abandons there) z n' is = is
looked-owner shape (seeker.Scan k c t) n (Helps there copy) z n' is = is

-- ---- the directory word of a scan's slot

pub seen_dir-was : (scans : List Scan) (k c t : ℕ) (w : Word) (j : ℕ) (b : Scan) → scan_of (scan_scans scans (scan.Directory k c t) w) j ≡ Some b
    → (old : Scan) × (scan_of scans j ≡ Some old) × (b.coll ≡ old.coll) × ((b.place ≡ old.place) ⊎ ((j ≡ k) × (b.place ≡ t + 1) × (is_scanned (dir_of w) ≡ false)))
seen_dir-was scans k c t w j b is = by_true (is_scanned (dir_of w))
    (λ y. (b, subst (λ (x : Bool). scan_of (if x then scans else passed scans k (t + 1)) j ≡ Some b) y is, refl, inl refl))
    (λ f. let (old, was, same, at) = passed-was scans k (t + 1) j b (subst (λ (x : Bool). scan_of (if x then scans else passed scans k (t + 1)) j ≡ Some b) f is) in
    (old, was, same, elim at [ inl y ↦ inl y | inr n ↦ inr (n.0, n.1, f) ]))

pub seen_dir-apart : (scans : List Scan) (k c t : ℕ) (w : Word) → AreApart scans → AreApart (scan_scans scans (scan.Directory k c t) w)
seen_dir-apart scans k c t w h = by_true (is_scanned (dir_of w))
    (λ y. subst (λ (x : Bool). AreApart (if x then scans else passed scans k (t + 1))) (sym y) h)
    (λ f. subst (λ (x : Bool). AreApart (if x then scans else passed scans k (t + 1))) (sym f) (passed-apart scans k (t + 1) h))

pub seen_dir-at : (shape : Layout) (scans : List Scan) (k c t : ℕ) (w : Word) (k' c' t' : ℕ) → IsAt c t (scan_of scans k)
    → scan_at (scan_change shape (scan.Directory k c t) w).phase ≡ Some (k', (c', t')) → IsAt c' t' (scan_of (scan_scans scans (scan.Directory k c t) w) k')
seen_dir-at shape scans k c t w k' c' t' at is = by_true (is_scanned (dir_of w))
    (λ y. let z : Some (k, (c, t)) ≡ Some (k', (c', t')) = subst (λ (x : Bool). scan_at (if x then goes (phase.Scan (scan.Back k c t)) else goes (passes shape k c t)).phase ≡ Some (k', (c', t'))) y is in
    subst (λ (x : Bool). IsAt c' t' (scan_of (if x then scans else passed scans k (t + 1)) k')) (sym y) (same z))
    (λ f. subst (λ (x : Bool). IsAt c' t' (scan_of (if x then scans else passed scans k (t + 1)) k')) (sym f)
    (passes-at shape k c t scans k' c' t' at (subst (λ (x : Bool). scan_at (if x then goes (phase.Scan (scan.Back k c t)) else goes (passes shape k c t)).phase ≡ Some (k', (c', t'))) f is)))
  where
    same : ◌≡◌ {A = Option (ℕ × Slot)} (Some (k, (c, t))) (Some (k', (c', t'))) → IsAt c' t' (scan_of scans k')
    same z =
        let ek : k ≡ k' = grind (arith, z) in
        let ec : c ≡ c' = grind (arith, z) in
        let et : t ≡ t' = grind (arith, z) in
        subst (λ (x : ℕ). IsAt c' t' (scan_of scans x)) ek (subst (λ (x : ℕ). IsAt c' x (scan_of scans k)) et (subst (λ (x : ℕ). IsAt x t (scan_of scans k)) ec at))

pub seen_dir-over : (shape : Layout) (scans : List Scan) (k c t : ℕ) (w : Word) (k' : ℕ) → IsAt c t (scan_of scans k)
    → ends_of (scan_change shape (scan.Directory k c t) w).phase ≡ Some k' → IsPassed shape (scan_of (scan_scans scans (scan.Directory k c t) w) k')
seen_dir-over shape scans k c t w k' at is = by_true (is_scanned (dir_of w))
    (λ y. let z : None ≡ Some k' = subst (λ (x : Bool). ends_of (if x then goes (phase.Scan (scan.Back k c t)) else goes (passes shape k c t)).phase ≡ Some k') y is in absurd (cc))
    (λ f. subst (λ (x : Bool). IsPassed shape (scan_of (if x then scans else passed scans k (t + 1)) k')) (sym f)
    (passes-over shape k c t scans k' at (subst (λ (x : Bool). ends_of (if x then goes (phase.Scan (scan.Back k c t)) else goes (passes shape k c t)).phase ≡ Some k') f is)))

pub seen_dir-slot : (shape : Layout) (k c t : ℕ) (w : Word) (c' t' : ℕ) → scanned_slot (scan_change shape (scan.Directory k c t) w).phase ≡ Some (c', t')
    → (c ≡ c') × (t ≡ t') × (is_scanned (dir_of w) ≡ true)
seen_dir-slot shape k c t w c' t' is = by_true (is_scanned (dir_of w))
    (λ y. let z : Some (c, t) ≡ Some (c', t') = subst (λ (x : Bool). scanned_slot (if x then goes (phase.Scan (scan.Back k c t)) else goes (passes shape k c t)).phase ≡ Some (c', t')) y is in (grind (arith, z), grind (arith, z), y))
    (λ f. let z : scanned_slot (passes shape k c t) ≡ Some (c', t') = subst (λ (x : Bool). scanned_slot (if x then goes (phase.Scan (scan.Back k c t)) else goes (passes shape k c t)).phase ≡ Some (c', t')) f is in
    let nothing = passes-slot shape k c t in absurd (cc))

pub seen_dir-owner : (shape : Layout) (k c t : ℕ) (w : Word) → sought_at (scan_change shape (scan.Directory k c t) w).phase ≡ None
seen_dir-owner shape k c t w = by_true (is_scanned (dir_of w))
    (λ y. subst (λ (x : Bool). sought_at (if x then goes (phase.Scan (scan.Back k c t)) else goes (passes shape k c t)).phase ≡ None) (sym y) refl)
    (λ f. subst (λ (x : Bool). sought_at (if x then goes (phase.Scan (scan.Back k c t)) else goes (passes shape k c t)).phase ≡ None) (sym f) (passes-owner shape k c t))

-- ---- its owner

pub seen_back-was : (scans : List Scan) (k c t : ℕ) (w : Word) (j : ℕ) (b : Scan) → scan_of (scan_scans scans (scan.Back k c t) w) j ≡ Some b
    → (old : Scan) × (scan_of scans j ≡ Some old) × (b.coll ≡ old.coll) × ((b.place ≡ old.place) ⊎ ((j ≡ k) × (b.place ≡ t + 1) × (back_of w ≡ None)))
seen_back-was scans k c t w j b is = go w is
  where
    left : (w : Word) → back_of w ≡ None → scan_of (passed scans k (t + 1)) j ≡ Some b
        → (old : Scan) × (scan_of scans j ≡ Some old) × (b.coll ≡ old.coll) × ((b.place ≡ old.place) ⊎ ((j ≡ k) × (b.place ≡ t + 1) × (back_of w ≡ None)))
    left w nothing is = let (old, was, same, at) = passed-was scans k (t + 1) j b is in (old, was, same, elim at [ inl y ↦ inl y | inr n ↦ inr (n.0, n.1, nothing) ])

    go : (w : Word) → scan_of (scan_scans scans (scan.Back k c t) w) j ≡ Some b
        → (old : Scan) × (scan_of scans j ≡ Some old) × (b.coll ≡ old.coll) × ((b.place ≡ old.place) ⊎ ((j ≡ k) × (b.place ≡ t + 1) × (back_of w ≡ None)))
    go (word.Back (Some n)) is = (b, is, refl, inl refl)
    go (word.Back None) is = left (word.Back None) refl is
    go (word.Plain n) is = left (word.Plain n) refl is
    go (word.Round n) is = left (word.Round n) refl is
    go (word.Entry n) is = left (word.Entry n) refl is
    go (word.Directory n) is = left (word.Directory n) refl is
    go (word.Forward n) is = left (word.Forward n) refl is

pub seen_back-apart : (scans : List Scan) (k c t : ℕ) (w : Word) → AreApart scans → AreApart (scan_scans scans (scan.Back k c t) w)
seen_back-apart scans k c t (word.Back (Some n)) h = h
seen_back-apart scans k c t (word.Back None) h = passed-apart scans k (t + 1) h
seen_back-apart scans k c t (word.Plain n) h = passed-apart scans k (t + 1) h
seen_back-apart scans k c t (word.Round n) h = passed-apart scans k (t + 1) h
seen_back-apart scans k c t (word.Entry n) h = passed-apart scans k (t + 1) h
seen_back-apart scans k c t (word.Directory n) h = passed-apart scans k (t + 1) h
seen_back-apart scans k c t (word.Forward n) h = passed-apart scans k (t + 1) h

pub seen_back-at : (shape : Layout) (scans : List Scan) (k c t : ℕ) (w : Word) (k' c' t' : ℕ) → IsAt c t (scan_of scans k)
    → scan_at (scan_change shape (scan.Back k c t) w).phase ≡ Some (k', (c', t')) → IsAt c' t' (scan_of (scan_scans scans (scan.Back k c t) w) k')
seen_back-at shape scans k c t (word.Back (Some n)) k' c' t' at z =
    let ek : k ≡ k' = grind (arith, z) in
    let ec : c ≡ c' = grind (arith, z) in
    let et : t ≡ t' = grind (arith, z) in
    subst (λ (x : ℕ). IsAt c' t' (scan_of scans x)) ek (subst (λ (x : ℕ). IsAt c' x (scan_of scans k)) et (subst (λ (x : ℕ). IsAt x t (scan_of scans k)) ec at))
seen_back-at shape scans k c t (word.Back None) k' c' t' at is = passes-at shape k c t scans k' c' t' at is
seen_back-at shape scans k c t (word.Plain n) k' c' t' at is = passes-at shape k c t scans k' c' t' at is
seen_back-at shape scans k c t (word.Round n) k' c' t' at is = passes-at shape k c t scans k' c' t' at is
seen_back-at shape scans k c t (word.Entry n) k' c' t' at is = passes-at shape k c t scans k' c' t' at is
seen_back-at shape scans k c t (word.Directory n) k' c' t' at is = passes-at shape k c t scans k' c' t' at is
seen_back-at shape scans k c t (word.Forward n) k' c' t' at is = passes-at shape k c t scans k' c' t' at is

pub seen_back-over : (shape : Layout) (scans : List Scan) (k c t : ℕ) (w : Word) (k' : ℕ) → IsAt c t (scan_of scans k)
    → ends_of (scan_change shape (scan.Back k c t) w).phase ≡ Some k' → IsPassed shape (scan_of (scan_scans scans (scan.Back k c t) w) k')
seen_back-over shape scans k c t (word.Back (Some n)) k' at is = absurd (cc)
seen_back-over shape scans k c t (word.Back None) k' at is = passes-over shape k c t scans k' at is
seen_back-over shape scans k c t (word.Plain n) k' at is = passes-over shape k c t scans k' at is
seen_back-over shape scans k c t (word.Round n) k' at is = passes-over shape k c t scans k' at is
seen_back-over shape scans k c t (word.Entry n) k' at is = passes-over shape k c t scans k' at is
seen_back-over shape scans k c t (word.Directory n) k' at is = passes-over shape k c t scans k' at is
seen_back-over shape scans k c t (word.Forward n) k' at is = passes-over shape k c t scans k' at is

pub seen_back-slot : (shape : Layout) (k c t : ℕ) (w : Word) (z : Slot) → scanned_slot (scan_change shape (scan.Back k c t) w).phase ≡ Some z → Some (c, t) ≡ Some z
seen_back-slot shape k c t (word.Back (Some n)) z is = is
seen_back-slot shape k c t (word.Back None) z is = let nothing = passes-slot shape k c t in absurd (cc)
seen_back-slot shape k c t (word.Plain n) z is = let nothing = passes-slot shape k c t in absurd (cc)
seen_back-slot shape k c t (word.Round n) z is = let nothing = passes-slot shape k c t in absurd (cc)
seen_back-slot shape k c t (word.Entry n) z is = let nothing = passes-slot shape k c t in absurd (cc)
seen_back-slot shape k c t (word.Directory n) z is = let nothing = passes-slot shape k c t in absurd (cc)
seen_back-slot shape k c t (word.Forward n) z is = let nothing = passes-slot shape k c t in absurd (cc)

pub seen_back-owner : (shape : Layout) (k c t : ℕ) (w : Word) (c' t' : ℕ) (n' : Number) → sought_at (scan_change shape (scan.Back k c t) w).phase ≡ Some ((c', t'), n')
    → (c ≡ c') × (t ≡ t') × (back_of w ≡ Some n')
seen_back-owner shape k c t (word.Back (Some n)) c' t' n' is = (grind (arith, is), grind (arith, is), grind (arith, is))
seen_back-owner shape k c t (word.Back None) c' t' n' is = let nothing = passes-owner shape k c t in absurd (cc)
seen_back-owner shape k c t (word.Plain n) c' t' n' is = let nothing = passes-owner shape k c t in absurd (cc)
seen_back-owner shape k c t (word.Round n) c' t' n' is = let nothing = passes-owner shape k c t in absurd (cc)
seen_back-owner shape k c t (word.Entry n) c' t' n' is = let nothing = passes-owner shape k c t in absurd (cc)
seen_back-owner shape k c t (word.Directory n) c' t' n' is = let nothing = passes-owner shape k c t in absurd (cc)
seen_back-owner shape k c t (word.Forward n) c' t' n' is = let nothing = passes-owner shape k c t in absurd (cc)

-- ---- going on with a scan

-- a scan that is not over goes on by its directory word
not_over : (shape : Layout) (b : Scan) → is_over shape b ≡ false → b.ended ≡ false
not_over shape b over = go b.ended refl
  where
    go : (x : Bool) → b.ended ≡ x → b.ended ≡ false
    go false e = e
    go true e = let z : true ≡ false = subst (λ (x : Bool). (x || not (nat_lt b.place (slots_of shape b.coll))) ≡ false) e over in absurd (cc)

pub next_slot-scans : (shape : Layout) (scans : List Scan) (k : ℕ) (b : Scan) (w : Word) → scan_of scans k ≡ Some b → is_over shape b ≡ false
    → next_after shape scans (scan_of scans k) w ≡ scan_scans scans (scan.Directory k b.coll b.place) w
next_slot-scans shape scans k b w is over =
    let start : next_scans shape scans b w ≡ scan_scans scans (scan.Directory b.number b.coll b.place) w =
    subst (λ (x : Bool). (if x then scans else if is_over shape b then scan_scans scans (scan.End b.number) w else scan_scans scans (scan.Directory b.number b.coll b.place) w)
    ≡ scan_scans scans (scan.Directory b.number b.coll b.place) w) (sym (not_over shape b over))
    (subst (λ (x : Bool). (if x then scan_scans scans (scan.End b.number) w else scan_scans scans (scan.Directory b.number b.coll b.place) w)
    ≡ scan_scans scans (scan.Directory b.number b.coll b.place) w) (sym over) refl) in
    subst (λ (o : Option Scan). next_after shape scans o w ≡ scan_scans scans (scan.Directory k b.coll b.place) w) (sym is)
    (subst (λ (n : ℕ). next_scans shape scans b w ≡ scan_scans scans (scan.Directory n b.coll b.place) w) (scan_of-number scans k b is) start)

pub next_slot-change : (shape : Layout) (scans : List Scan) (k : ℕ) (b : Scan) (w : Word) → scan_of scans k ≡ Some b → is_over shape b ≡ false
    → next_started shape (scan_of scans k) w ≡ scan_change shape (scan.Directory k b.coll b.place) w
next_slot-change shape scans k b w is over =
    let start : next_change shape b w ≡ scan_change shape (scan.Directory b.number b.coll b.place) w =
    subst (λ (x : Bool). (if x then ends done.End else if is_over shape b then scan_change shape (scan.End b.number) w else scan_change shape (scan.Directory b.number b.coll b.place) w)
    ≡ scan_change shape (scan.Directory b.number b.coll b.place) w) (sym (not_over shape b over))
    (subst (λ (x : Bool). (if x then scan_change shape (scan.End b.number) w else scan_change shape (scan.Directory b.number b.coll b.place) w)
    ≡ scan_change shape (scan.Directory b.number b.coll b.place) w) (sym over) refl) in
    subst (λ (o : Option Scan). next_started shape o w ≡ scan_change shape (scan.Directory k b.coll b.place) w) (sym is)
    (subst (λ (n : ℕ). next_change shape b w ≡ scan_change shape (scan.Directory n b.coll b.place) w) (scan_of-number scans k b is) start)

-- one that is over ends
pub next_over-scans : (shape : Layout) (scans : List Scan) (k : ℕ) (b : Scan) (w : Word) → scan_of scans k ≡ Some b → is_over shape b ≡ true
    → (next_after shape scans (scan_of scans k) w ≡ scans) ⊎ (next_after shape scans (scan_of scans k) w ≡ ended scans b.number)
next_over-scans shape scans k b w is over = by_true b.ended
    (λ y. inl (subst (λ (o : Option Scan). next_after shape scans o w ≡ scans) (sym is)
    (subst (λ (x : Bool). (if x then scans else if is_over shape b then scan_scans scans (scan.End b.number) w else scan_scans scans (scan.Directory b.number b.coll b.place) w) ≡ scans) (sym y) refl)))
    (λ n. inr (subst (λ (o : Option Scan). next_after shape scans o w ≡ ended scans b.number) (sym is)
    (subst (λ (x : Bool). (if x then scans else if is_over shape b then scan_scans scans (scan.End b.number) w else scan_scans scans (scan.Directory b.number b.coll b.place) w) ≡ ended scans b.number) (sym n)
    (subst (λ (x : Bool). (if x then scan_scans scans (scan.End b.number) w else scan_scans scans (scan.Directory b.number b.coll b.place) w) ≡ ended scans b.number) (sym over) refl))))

pub next_over-was : (shape : Layout) (scans : List Scan) (k : ℕ) (b1 : Scan) (w : Word) (j : ℕ) (b : Scan) → scan_of scans k ≡ Some b1 → is_over shape b1 ≡ true
    → scan_of (next_after shape scans (scan_of scans k) w) j ≡ Some b → (old : Scan) × (scan_of scans j ≡ Some old) × (b.coll ≡ old.coll) × (b.place ≡ old.place)
next_over-was shape scans k b1 w j b at over is = elim (next_over-scans shape scans k b1 w at over) [
  | inl same ↦ (b, subst (λ (l : List Scan). scan_of l j ≡ Some b) same is, refl, refl)
  | inr less ↦ ended-was scans b1.number j b (subst (λ (l : List Scan). scan_of l j ≡ Some b) less is)
]

pub next_over-apart : (shape : Layout) (scans : List Scan) (k : ℕ) (b1 : Scan) (w : Word) → scan_of scans k ≡ Some b1 → is_over shape b1 ≡ true
    → AreApart scans → AreApart (next_after shape scans (scan_of scans k) w)
next_over-apart shape scans k b1 w at over h = elim (next_over-scans shape scans k b1 w at over) [
  | inl same ↦ subst AreApart (sym same) h
  | inr less ↦ subst AreApart (sym less) (ended-apart scans b1.number h)
]

pub next_over-phase : (shape : Layout) (scans : List Scan) (k : ℕ) (b1 : Scan) (w : Word) → scan_of scans k ≡ Some b1 → is_over shape b1 ≡ true
    → (next_started shape (scan_of scans k) w).phase ≡ phase.Idle
next_over-phase shape scans k b w is over = subst (λ (o : Option Scan). (next_started shape o w).phase ≡ phase.Idle) (sym is) (by_true b.ended
    (λ y. subst (λ (x : Bool). (if x then ends done.End else if is_over shape b then scan_change shape (scan.End b.number) w else scan_change shape (scan.Directory b.number b.coll b.place) w).phase ≡ phase.Idle) (sym y) refl)
    (λ n. subst (λ (x : Bool). (if x then ends done.End else if is_over shape b then scan_change shape (scan.End b.number) w else scan_change shape (scan.Directory b.number b.coll b.place) w).phase ≡ phase.Idle) (sym n)
    (subst (λ (x : Bool). (if x then scan_change shape (scan.End b.number) w else scan_change shape (scan.Directory b.number b.coll b.place) w).phase ≡ phase.Idle) (sym over) refl)))
