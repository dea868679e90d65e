-- What an event makes of marks.
use Rattle.std.proofs.Common.{◌≡◌, ◌≢◌, ◌⊎◌, ℕ, ◌==◌, ◌&&◌, Bool, true, false, Option, Some, None, refl, sym, ◌∙◌, ap, subst, inl, inr, arith}
use Rattle.std.specs.Prelude.{if◌then◌else◌}
use Rattle.std.proofs.lemmas.Bool.Decides.{nat_tests}
use Rattle.smc_words.specs.declared.number.Number.{Number}
use Rattle.smc_shape.specs.Layout.{Layout}
use Rattle.smc_model.specs.declared.event.Event.{Event}
use Rattle.smc_model.specs.declared.event.Event.TheVariants as event
use Rattle.smc_model.specs.World.{World}
use Rattle.smc_core.specs.declared.phase.objects.Finding.{Finding}
use Rattle.smc_core.specs.declared.phase.objects.Finding.TheVariants.{Absent, Stays, Abandons, Helps}
use Rattle.smc_core.specs.declared.phase.objects.Seeker.{Seeker}
use Rattle.smc_core.specs.declared.phase.objects.Seeker.TheVariants as seeker
use Rattle.smc_core.specs.Look.{look_change, passes, visits}
use Rattle.smc_core.specs.Step.{goes}
use Rattle.smc_core.specs.Words.{same_number}
use Rattle.smc_rules.specs.Reads.{object}
use Rattle.smc_rules.specs.State as S
use Rattle.smc_agreement.proofs.CrossLaws.{by_eq, by_true}
use Rattle.smc_inv_scan.specs.Marks.{Marks, MarksAgree, marks_told, put_marks}

-- whether the event leaves the marks as they were, as most do
abbrev pub is_unmarking : Option Event → Bool
is_unmarking (Some (event.Begin scan coll)) = false
is_unmarking (Some (event.Visit scan number)) = false
is_unmarking _ = true

pub told-unmarking : (world : World) (m : Marks) (e : Option Event) → is_unmarking e ≡ true → marks_told world m e ≡ m
told-unmarking world m None q = refl
told-unmarking world m (Some (event.Begin scan coll)) q = absurd (cc)
told-unmarking world m (Some (event.Visit scan number)) q = absurd (cc)
told-unmarking world m (Some (event.Add number coll words)) q = refl
told-unmarking world m (Some (event.Write number field value)) q = refl
told-unmarking world m (Some (event.Remove number first)) q = refl
told-unmarking world m (Some (event.Look number here)) q = refl
told-unmarking world m (Some (event.Read number field value)) q = refl
told-unmarking world m (Some (event.End scan)) q = refl
told-unmarking world m (Some event.Enter) q = refl
told-unmarking world m (Some event.Leave) q = refl
told-unmarking world m (Some (event.Told pass length)) q = refl
told-unmarking world m (Some (event.Refused coll full)) q = refl

pub put-mine : (marks : ℕ → Marks) (p i : ℕ) (new : Marks) → i ≡ p → put_marks marks p new i ≡ new
put-mine marks p i new e = let t : (i == p) ≡ true = grind (arith, nat_tests, e) in ap (λ (b : Bool). if b then new else marks i) t

pub put-other : (marks : ℕ → Marks) (p i : ℕ) (new : Marks) → i ≢ p → put_marks marks p new i ≡ marks i
put-other marks p i new ne = let f : (i == p) ≡ false = grind (arith, nat_tests, ne) in ap (λ (b : Bool). if b then new else marks i) f

-- marks that say the same of each pass agree alike
pub same_marks : (shape : Layout) (s : S.State) (m n : ℕ → Marks) → ((i : ℕ) → n i ≡ m i) → MarksAgree shape s m → MarksAgree shape s n
same_marks shape s m n same h = record {
  m_began = λ i k c a e b li is bg. h.m_began i k c a e b li is (subst (λ (x : Marks). x.began k (object a e c) ≡ true) (same i) bg);
  m_given = λ i k c a e b li is vs. h.m_given i k c a e b li is (subst (λ (x : Marks). x.visited k (object a e c) ≡ true) (same i) vs);
  m_coll = λ i k c a e b li is vs. h.m_coll i k c a e b li is (subst (λ (x : Marks). x.visited k (object a e c) ≡ true) (same i) vs);
  m_met = λ i k c a e t b li is of bg at lt. subst (λ (x : Marks). x.visited k (object a e c) ≡ true) (sym (same i))
      (h.m_met i k c a e t b li is of (subst (λ (x : Marks). x.began k (object a e c) ≡ true) (same i) bg) at lt);
  m_once = λ i k c a e t b li is vs at. h.m_once i k c a e t b li is (subst (λ (x : Marks). x.visited k (object a e c) ≡ true) (same i) vs) at;
}

-- what agrees with marks agrees with those after an event that leaves them
pub unmarked : (shape : Layout) (s : S.State) (m : ℕ → Marks) (p : ℕ) (world : World) (e : Option Event) → is_unmarking e ≡ true
    → MarksAgree shape s m → MarksAgree shape s (put_marks m p (marks_told world (m p) e))
unmarked shape s m p world e q h = same_marks shape s m (put_marks m p (marks_told world (m p) e))
    (λ i. by_eq i p (λ y. put-mine m p i (marks_told world (m p) e) y ∙ (told-unmarking world (m p) e q ∙ ap m (sym y))) (λ n. put-other m p i (marks_told world (m p) e) n)) h

-- ---- look-ups

-- a look-up leaves what was present when scans began
pub looked-began : (shape : Layout) (who : Seeker) (n : Number) (finding : Finding) (world : World) (m : Marks)
    → (marks_told world m (look_change shape who n finding).event).began ≡ m.began
looked-began shape seeker.Caller n Absent world m = refl
looked-began shape seeker.Caller n (Stays there) world m = refl
looked-began shape seeker.Caller n (Abandons there) world m = refl
looked-began shape seeker.Caller n (Helps there copy) world m = refl
looked-began shape (seeker.Scan k c t) n Absent world m = refl
looked-began shape (seeker.Scan k c t) n (Stays there) world m = by_true (there == t)
    (λ y. subst (λ (b : Bool). (marks_told world m (if b then visits k n there else goes (passes shape k c t)).event).began ≡ m.began) (sym y) refl)
    (λ f. subst (λ (b : Bool). (marks_told world m (if b then visits k n there else goes (passes shape k c t)).event).began ≡ m.began) (sym f) refl)
looked-began shape (seeker.Scan k c t) n (Abandons there) world m = refl
looked-began shape (seeker.Scan k c t) n (Helps there copy) world m = refl

-- what it visits, it visits at the scan's slot; what was visited before is so after it
abbrev pub Visits : Seeker → Number → Finding → ℕ → Number → Type 0
Visits who n finding k number = (c t : ℕ) × (who ≡ seeker.Scan k c t) × (finding ≡ Stays t) × (number ≡ n)

number_eta : (m n : Number) → same_number m n ≡ true → m ≡ n
number_eta m n t = grind (arith, nat_tests, t)

pub looked-visited : (shape : Layout) (who : Seeker) (n : Number) (finding : Finding) (world : World) (m : Marks) (k : ℕ) (number : Number)
    → (marks_told world m (look_change shape who n finding).event).visited k number ≡ true → (m.visited k number ≡ true) ⊎ Visits who n finding k number
looked-visited shape seeker.Caller n Absent world m k number is = inl is
looked-visited shape seeker.Caller n (Stays there) world m k number is = inl is
looked-visited shape seeker.Caller n (Abandons there) world m k number is = inl is
looked-visited shape seeker.Caller n (Helps there copy) world m k number is = inl is
looked-visited shape (seeker.Scan j c t) n Absent world m k number is = inl is
looked-visited shape (seeker.Scan j c t) n (Abandons there) world m k number is = inl is
looked-visited shape (seeker.Scan j c t) n (Helps there copy) world m k number is = inl is
looked-visited shape (seeker.Scan j c t) n (Stays there) world m k number is = by_true (there == t)
    (λ y. let z : (if k == j && same_number number n then true else m.visited k number) ≡ true =
    subst (λ (b : Bool). (marks_told world m (if b then visits j n there else goes (passes shape j c t)).event).visited k number ≡ true) y is in
    by_true (k == j && same_number number n)
    (λ u. let ek : k ≡ j = grind (arith, nat_tests, u) in
    let et : there ≡ t = grind (arith, nat_tests, y) in
    inr (c, t, ap (λ (x : ℕ). seeker.Scan x c t) (sym ek), ap Stays et, number_eta number n (grind (arith, nat_tests, u))))
    (λ v. inl (subst (λ (b : Bool). (if b then true else m.visited k number) ≡ true) v z)))
    (λ f. inl (subst (λ (b : Bool). (marks_told world m (if b then visits j n there else goes (passes shape j c t)).event).visited k number ≡ true) f is))

pub looked-stays : (shape : Layout) (who : Seeker) (n : Number) (finding : Finding) (world : World) (m : Marks) (k : ℕ) (number : Number)
    → m.visited k number ≡ true → (marks_told world m (look_change shape who n finding).event).visited k number ≡ true
looked-stays shape seeker.Caller n Absent world m k number is = is
looked-stays shape seeker.Caller n (Stays there) world m k number is = is
looked-stays shape seeker.Caller n (Abandons there) world m k number is = is
looked-stays shape seeker.Caller n (Helps there copy) world m k number is = is
looked-stays shape (seeker.Scan j c t) n Absent world m k number is = is
looked-stays shape (seeker.Scan j c t) n (Abandons there) world m k number is = is
looked-stays shape (seeker.Scan j c t) n (Helps there copy) world m k number is = is
looked-stays shape (seeker.Scan j c t) n (Stays there) world m k number is = by_true (there == t)
    (λ y. subst (λ (b : Bool). (marks_told world m (if b then visits j n there else goes (passes shape j c t)).event).visited k number ≡ true) (sym y)
    (by_true (k == j && same_number number n)
    (λ u. subst (λ (b : Bool). (if b then true else m.visited k number) ≡ true) (sym u) refl)
    (λ v. subst (λ (b : Bool). (if b then true else m.visited k number) ≡ true) (sym v) is)))
    (λ f. subst (λ (b : Bool). (marks_told world m (if b then visits j n there else goes (passes shape j c t)).event).visited k number ≡ true) (sym f) is)

pub looked-visits : (shape : Layout) (k c t : ℕ) (n : Number) (world : World) (m : Marks)
    → (marks_told world m (look_change shape (seeker.Scan k c t) n (Stays t)).event).visited k n ≡ true
looked-visits shape k c t n world m =
    let y : (t == t) ≡ true = grind (arith, nat_tests) in
    let u : (k == k && same_number n n) ≡ true = grind (arith, nat_tests) in
    subst (λ (b : Bool). (marks_told world m (if b then visits k n t else goes (passes shape k c t)).event).visited k n ≡ true) (sym y)
    (subst (λ (b : Bool). (if b then true else m.visited k n) ≡ true) (sym u) refl)
