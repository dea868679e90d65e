-- A visit is the first one of an object that is present; a scan that ends has visited what was present all the time.
use Rattle.std.proofs.Common.{◌≡◌, ℕ, ◌<◌, ◌≤◌, ◌==◌, ◌||◌, Bool, true, false, not, Option, Some, None, refl, sym, ◌∙◌, ap, subst, arith}
use Rattle.std.specs.Prelude.{nat_lt, if◌then◌else◌}
use Rattle.std.proofs.lemmas.Bool.Decides.{nat_tests}
use Rattle.smc_words.specs.declared.number.Number.{Number}
use Rattle.smc_shape.specs.Layout.{Layout, slots_of, entries_of}
use Rattle.smc_shape.specs.declared.place.Place.TheVariants as place
use Rattle.smc_model.specs.declared.event.Event.{Event}
use Rattle.smc_model.specs.declared.event.Event.TheVariants as event
use Rattle.smc_model.specs.World.{is_present}
use Rattle.smc_core.specs.declared.done.Done.TheVariants as done
use Rattle.smc_core.specs.declared.local.Scan.{Scan}
use Rattle.smc_core.specs.declared.phase.Phase.{Phase}
use Rattle.smc_core.specs.declared.phase.Phase.TheVariants as phase
use Rattle.smc_core.specs.declared.phase.objects.CopyPhase.TheVariants as copy
use Rattle.smc_core.specs.declared.phase.objects.Finding.{Finding}
use Rattle.smc_core.specs.declared.phase.objects.Finding.TheVariants.{Absent, Stays, Abandons, Helps}
use Rattle.smc_core.specs.declared.phase.objects.LookPhase.{LookPhase}
use Rattle.smc_core.specs.declared.phase.objects.LookPhase.TheVariants as look
use Rattle.smc_core.specs.declared.phase.objects.ScanPhase.TheVariants as scan
use Rattle.smc_core.specs.declared.phase.objects.Seeker.{Seeker}
use Rattle.smc_core.specs.declared.phase.objects.Seeker.TheVariants as seeker
use Rattle.smc_core.specs.declared.word.State.{State}
use Rattle.smc_core.specs.declared.word.State.TheVariants as state
use Rattle.smc_core.specs.declared.word.Word.{Word}
use Rattle.smc_core.specs.declared.word.Word.TheVariants as word
use Rattle.smc_core.specs.Change.{next_started}
use Rattle.smc_core.specs.Look.{find, find_after_abandon, find_after_swing, look_change, look_finding, passes, visits, seeker_of}
use Rattle.smc_core.specs.Scan.{scan_of, is_over, scan_change}
use Rattle.smc_core.specs.Step.{goes, ends}
use Rattle.smc_core.specs.Words.{same_word, state_of, has_object}
use Rattle.smc_rules.specs.Reads.{state_in, object}
use Rattle.smc_rules.specs.State as S
use Rattle.smc_inv_range.specs.Ranges.{InWord}
use Rattle.smc_agreement.specs.Entries.{present_at}
use Rattle.smc_agreement.proofs.Whole.{Shut, moves, ranges}
use Rattle.smc_agreement.proofs.CrossLaws.{by_true}
use Rattle.smc_inv_scan.specs.Scans.{IsAt, IsPassed, seeker_at, seeker_owner, scan_at, sought_at, ends_of}
use Rattle.smc_inv_scan.specs.Marks.{Marks, FitsMarks}
use Rattle.smc_inv_scan.proofs.ListLaws.{scan_of-number}
use Rattle.smc_inv_scan.proofs.MarkSteps.{Known}

-- whether the event is none of those of which marks say something
abbrev pub is_plain : Option Event → Bool
is_plain (Some (event.Visit scan number)) = false
is_plain (Some (event.End scan)) = false
is_plain _ = true

pub plain_fits : (shape : Layout) (s : S.State) (ms : ℕ → Marks) (p : ℕ) (e : Option Event) → is_plain e ≡ true → FitsMarks shape s ms p e
plain_fits shape s ms p None q = tt
plain_fits shape s ms p (Some (event.Visit scan number)) q = absurd (cc)
plain_fits shape s ms p (Some (event.End scan)) q = absurd (cc)
plain_fits shape s ms p (Some (event.Begin scan coll)) q = tt
plain_fits shape s ms p (Some (event.Add number coll words)) q = tt
plain_fits shape s ms p (Some (event.Write number field value)) q = tt
plain_fits shape s ms p (Some (event.Remove number first)) q = tt
plain_fits shape s ms p (Some (event.Look number here)) q = tt
plain_fits shape s ms p (Some (event.Read number field value)) q = tt
plain_fits shape s ms p (Some event.Enter) q = tt
plain_fits shape s ms p (Some event.Leave) q = tt
plain_fits shape s ms p (Some (event.Told pass length)) q = tt
plain_fits shape s ms p (Some (event.Refused coll full)) q = tt

-- a look-up that visits
abbrev pub Visited : S.State → (ℕ → Marks) → ℕ → ℕ → Number → Type 0
Visited s ms p k n = ((ms p).visited k n ≡ false) × (is_present s.world n ≡ true)

pub looked_fits : (shape : Layout) (s : S.State) (ms : ℕ → Marks) (p : ℕ) (who : Seeker) (n : Number) (finding : Finding)
    → ((k c t : ℕ) → who ≡ seeker.Scan k c t → finding ≡ Stays t → Visited s ms p k n) → FitsMarks shape s ms p (look_change shape who n finding).event
looked_fits shape s ms p seeker.Caller n Absent h = tt
looked_fits shape s ms p seeker.Caller n (Stays there) h = tt
looked_fits shape s ms p seeker.Caller n (Abandons there) h = tt
looked_fits shape s ms p seeker.Caller n (Helps there copy) h = tt
looked_fits shape s ms p (seeker.Scan k c t) n Absent h = tt
looked_fits shape s ms p (seeker.Scan k c t) n (Abandons there) h = tt
looked_fits shape s ms p (seeker.Scan k c t) n (Helps there copy) h = tt
looked_fits shape s ms p (seeker.Scan k c t) n (Stays there) h = by_true (there == t)
    (λ y. let et : there ≡ t = grind (arith, nat_tests, y) in
    subst (λ (b : Bool). FitsMarks shape s ms p (if b then visits k n there else goes (passes shape k c t)).event) (sym y) (h k c t refl (ap Stays et)))
    (λ f. subst (λ (b : Bool). FitsMarks shape s ms p (if b then visits k n there else goes (passes shape k c t)).event) (sym f) tt)

placed_scan : (c t : ℕ) (o : Option Scan) → IsAt c t o → (b : Scan) × (o ≡ Some b) × (b.coll ≡ c) × (b.place ≡ t)
placed_scan c t None at = absurd at
placed_scan c t (Some b) at = (b, refl, at.0, at.1)

-- what is found where it stays is present there
found_present : (calm : Bool) (a t : ℕ) (w : State) → find calm a w ≡ Stays t → present_at w ≡ Some (a, t)
found_present calm a t (state.Present b s) f = grind (arith, nat_tests, f)
found_present true a t (state.Frozen b s) f = grind (arith, nat_tests, f)
found_present false a t (state.Frozen b s) f = absurd (grind (arith, nat_tests, f))
found_present true a t (state.Locked b s) f = grind (arith, nat_tests, f)
found_present false a t (state.Locked b s) f = absurd (grind (arith, nat_tests, f))
found_present calm a t (state.Removed b s x y) f = absurd (cc)
found_present calm a t (state.Free b s) f = absurd (cc)
found_present calm a t (state.Claimed b) f = absurd (cc)

after_abandon : (a t : ℕ) (w : State) → find_after_abandon a w ≡ Stays t → present_at w ≡ Some (a, t)
after_abandon a t (state.Present b s) f = grind (arith, nat_tests, f)
after_abandon a t (state.Frozen b s) f = grind (arith, nat_tests, f)
after_abandon a t (state.Locked b s) f = absurd (grind (arith, nat_tests, f))
after_abandon a t (state.Removed b s x y) f = absurd (cc)
after_abandon a t (state.Free b s) f = absurd (cc)
after_abandon a t (state.Claimed b) f = absurd (cc)

after_swing : (a t : ℕ) (w : State) → find_after_swing a w ≡ Stays t → present_at w ≡ Some (a, t)
after_swing a t (state.Present b s) f = grind (arith, nat_tests, f)
after_swing a t (state.Frozen b s) f = grind (arith, nat_tests, f)
after_swing a t (state.Locked b s) f = grind (arith, nat_tests, f)
after_swing a t (state.Removed b s x y) f = absurd (cc)
after_swing a t (state.Free b s) f = absurd (cc)
after_swing a t (state.Claimed b) f = absurd (cc)

present_has : (w : State) (a s : ℕ) → present_at w ≡ Some (a, s) → has_object a w ≡ true
present_has (state.Present b t) a s q = grind (arith, nat_tests, q)
present_has (state.Frozen b t) a s q = grind (arith, nat_tests, q)
present_has (state.Locked b t) a s q = grind (arith, nat_tests, q)
present_has (state.Removed b t f l) a s q = absurd (cc)
present_has (state.Free b t) a s q = absurd (cc)
present_has (state.Claimed b) a s q = absurd (cc)

has_present : (w : State) (a : ℕ) → has_object a w ≡ true → (s : ℕ) × (present_at w ≡ Some (a, s))
has_present (state.Present b t) a q = (t, grind (arith, nat_tests, q))
has_present (state.Frozen b t) a q = (t, grind (arith, nat_tests, q))
has_present (state.Locked b t) a q = (t, grind (arith, nat_tests, q))
has_present (state.Removed b t f l) a q = absurd (cc)
has_present (state.Free b t) a q = absurd (cc)
has_present (state.Claimed b) a q = absurd (cc)

module _ (ms : ℕ → Marks) (sh : Layout) (st : S.State) (h : Shut sh st) (kn : Known ms sh st) (p : ℕ) (in_n : p < sh.passes) where
  -- the slot of a present object is one of its collection
  within : (c a e s : ℕ) → e < entries_of sh c → present_at (state_in st.memory c e) ≡ Some (a, s) → s < slots_of sh c
  within c a e s lt at = go (st.memory (place.Entry c e)) refl ((ranges h).memory (place.Entry c e) lt)
    where
      go : (w : Word) → st.memory (place.Entry c e) ≡ w → InWord sh (place.Entry c e) w → s < slots_of sh c
      go (word.Entry (state.Present b t)) q r = let same : present_at (state.Present b t) ≡ Some (a, s) = subst (λ (x : Word). present_at (state_of x) ≡ Some (a, s)) q at in grind (arith, same, r.1)
      go (word.Entry (state.Frozen b t)) q r = let same : present_at (state.Frozen b t) ≡ Some (a, s) = subst (λ (x : Word). present_at (state_of x) ≡ Some (a, s)) q at in grind (arith, same, r.1)
      go (word.Entry (state.Locked b t)) q r = let same : present_at (state.Locked b t) ≡ Some (a, s) = subst (λ (x : Word). present_at (state_of x) ≡ Some (a, s)) q at in grind (arith, same, r.1)
      go (word.Entry (state.Removed b t f l)) q r = let same : present_at (state.Removed b t f l) ≡ Some (a, s) = subst (λ (x : Word). present_at (state_of x) ≡ Some (a, s)) q at in absurd (cc)
      go (word.Entry (state.Free b t)) q r = let same : present_at (state.Free b t) ≡ Some (a, s) = subst (λ (x : Word). present_at (state_of x) ≡ Some (a, s)) q at in absurd (cc)
      go (word.Entry (state.Claimed b)) q r = let same : present_at (state.Claimed b) ≡ Some (a, s) = subst (λ (x : Word). present_at (state_of x) ≡ Some (a, s)) q at in absurd (cc)
      go (word.Plain n) q r = absurd r
      go (word.Round n) q r = absurd r
      go (word.Back n) q r = absurd r
      go (word.Directory n) q r = absurd r
      go (word.Forward n) q r = absurd r

  -- a scan that is over has visited all that it should
  ends_all : (k : ℕ) (b : Scan) (a e : ℕ) → slots_of sh b.coll ≤ b.place → scan_of (st.stands p).scans k ≡ Some b → e < entries_of sh b.coll → (ms p).began k (object a e b.coll) ≡ true
      → is_present st.world (object a e b.coll) ≡ true → (ms p).visited k (object a e b.coll) ≡ true
  ends_all k b a e over at lt bg here =
      let (s, is) = has_present (state_in st.memory b.coll e) a (sym (kn.here b.coll a e) ∙ here) in
      kn.marks.m_met p k b.coll a e s b in_n at refl bg is (omega (arith, over, within b.coll a e s lt is))

  pub end_fits : (k : ℕ) → (st.stands p).phase ≡ phase.Scan (scan.End k) → FitsMarks sh st ms p (Some (event.End k))
  end_fits k at b a e is lt bg here =
      let over : IsPassed sh (Some b) = subst (IsPassed sh) is (kn.scans.s_over p k in_n (subst (λ (x : Phase). ends_of x ≡ Some k) (sym at) refl)) in
      ends_all k b a e over is lt bg here

  pub next_fits : (k : ℕ) (b : Scan) (w : Word) → scan_of (st.stands p).scans k ≡ Some b → is_over sh b ≡ true → FitsMarks sh st ms p (next_started sh (scan_of (st.stands p).scans k) w).event
  next_fits k b w is over = subst (λ (o : Option Scan). FitsMarks sh st ms p (next_started sh o w).event) (sym is) (by_true b.ended
      (λ y. subst (λ (x : Bool). FitsMarks sh st ms p (if x then ends done.End else if is_over sh b then scan_change sh (scan.End b.number) w else scan_change sh (scan.Directory b.number b.coll b.place) w).event) (sym y) tt)
      (λ n. subst (λ (x : Bool). FitsMarks sh st ms p (if x then ends done.End else if is_over sh b then scan_change sh (scan.End b.number) w else scan_change sh (scan.Directory b.number b.coll b.place) w).event) (sym n)
      (subst (λ (x : Bool). FitsMarks sh st ms p (if x then scan_change sh (scan.End b.number) w else scan_change sh (scan.Directory b.number b.coll b.place) w).event) (sym over)
      (λ b0 a e at lt bg here.
      let same : Some b0 ≡ Some b = sym at ∙ subst (λ (j : ℕ). scan_of (st.stands p).scans j ≡ Some b) (sym (scan_of-number (st.stands p).scans k b is)) is in
      let eb : b0 ≡ b = grind (arith, same) in
      let tests : (false || not (nat_lt b.place (slots_of sh b.coll))) ≡ true = subst (λ (x : Bool). (x || not (nat_lt b.place (slots_of sh b.coll))) ≡ true) n over in
      let full : slots_of sh b.coll ≤ b.place = grind (arith, nat_tests, tests) in
      ends_all b.number b0 a e (subst (λ (x : Scan). slots_of sh x.coll ≤ x.place) (sym eb) full) at lt bg here))))

  -- an object that a scan finds at its place was not visited
  fresh_visit : (k c t a e : ℕ) (next : LookPhase) → (st.stands p).phase ≡ phase.Look next → seeker_of next ≡ seeker.Scan k c t → present_at (state_in st.memory c e) ≡ Some (a, t)
      → Visited st ms p k (object a e c)
  fresh_visit k c t a e next at who is =
      let (b, found, of, place) = placed_scan c t (scan_of (st.stands p).scans k) (kn.scans.s_place p k c t in_n (subst (λ (x : Phase). scan_at x ≡ Some (k, (c, t))) (sym at) (ap seeker_at who))) in (
        by_true ((ms p).visited k (object a e c)) (λ y. absurd (omega (arith, place, kn.marks.m_once p k c a e t b in_n found y is))) (λ n. n),
        kn.here c a e ∙ present_has (state_in st.memory c e) a t is,
      )

  pub load_fits : (x : ℕ) (calm : Bool) (who : Seeker) (c a e : ℕ) → (st.stands p).phase ≡ phase.Look (look.Load who (object a e c))
      → FitsMarks sh st ms p (look_change sh who (object a e c) (look_finding sh calm (look.Load who (object a e c)) (st.memory (place.Entry c e)))).event
  load_fits x calm who c a e at = looked_fits sh st ms p who (object a e c) (look_finding sh calm (look.Load who (object a e c)) (st.memory (place.Entry c e)))
      (λ k d t w f.
      let hm : c ≡ d = kn.scans.s_home p d t a e c in_n (subst (λ (y : Phase). sought_at y ≡ Some ((d, t), object a e c)) (sym at) (subst (λ (y : Seeker). seeker_owner y (object a e c) ≡ Some ((d, t), object a e c)) (sym w) refl)) in
      fresh_visit k c t a e (look.Load who (object a e c)) at (subst (λ (y : ℕ). who ≡ seeker.Scan k y t) (sym hm) w) (found_present calm a t (state_in st.memory c e) f))

  pub abandon_fits : (x : ℕ) (calm : Bool) (who : Seeker) (c a e q : ℕ) → (st.stands p).phase ≡ phase.Look (look.Abandon who (object a e c) q)
      → FitsMarks sh st ms p (look_change sh who (object a e c) (look_finding sh calm (look.Abandon who (object a e c) q) (st.memory (place.Entry c e)))).event
  abandon_fits x calm who c a e q at = looked_fits sh st ms p who (object a e c) (look_finding sh calm (look.Abandon who (object a e c) q) (st.memory (place.Entry c e)))
      (λ k d t w f.
      let hm : c ≡ d = kn.scans.s_home p d t a e c in_n (subst (λ (y : Phase). sought_at y ≡ Some ((d, t), object a e c)) (sym at) (subst (λ (y : Seeker). seeker_owner y (object a e c) ≡ Some ((d, t), object a e c)) (sym w) refl)) in
      fresh_visit k c t a e (look.Abandon who (object a e c) q) at (subst (λ (y : ℕ). who ≡ seeker.Scan k y t) (sym hm) w) (present_so t f))
    where
      present_so : (t : ℕ) → look_finding sh calm (look.Abandon who (object a e c) q) (st.memory (place.Entry c e)) ≡ Stays t → present_at (state_in st.memory c e) ≡ Some (a, t)
      present_so t f = by_true (same_word (st.memory (place.Entry c e)) (word.Entry (state.Frozen a q)))
          (λ y. let g : Stays q ≡ Stays t = subst (λ (b : Bool). (if b then Stays q else find_after_abandon a (state_in st.memory c e)) ≡ Stays t) y f in grind (arith, nat_tests, y, g))
          (λ n. after_abandon a t (state_in st.memory c e) (subst (λ (b : Bool). (if b then Stays q else find_after_abandon a (state_in st.memory c e)) ≡ Stays t) n f))

  -- a swing that is made visits an object in its target, which the scan has not passed
  fresh_swing : (k c t a e q : ℕ) (next : LookPhase) → (st.stands p).phase ≡ phase.Look next → seeker_of next ≡ seeker.Scan k c t → state_in st.memory c e ≡ state.Locked a q
      → Visited st ms p k (object a e c)
  fresh_swing k c t a e q next at who is =
      let (b, found, of, place) = placed_scan c t (scan_of (st.stands p).scans k) (kn.scans.s_place p k c t in_n (subst (λ (x : Phase). scan_at x ≡ Some (k, (c, t))) (sym at) (ap seeker_at who))) in
      let low = kn.scans.s_locked p k c a e q b in_n is found of in
      let aim = (moves h).locked c a e q is in (
        by_true ((ms p).visited k (object a e c)) (λ y. absurd (omega (arith, low, aim.3, kn.marks.m_once p k c a e q b in_n found y (grind (arith, is))))) (λ n. n),
        kn.here c a e ∙ present_has (state_in st.memory c e) a q (grind (arith, is)),
      )

  pub swing_fits : (x : ℕ) (calm : Bool) (who : Seeker) (c a e q t : ℕ) → (st.stands p).phase ≡ phase.Look (look.Help who (object a e c) q (copy.Swing t))
      → FitsMarks sh st ms p (look_change sh who (object a e c) (look_finding sh calm (look.Help who (object a e c) q (copy.Swing t)) (st.memory (place.Entry c e)))).event
  swing_fits x calm who c a e q t at = looked_fits sh st ms p who (object a e c) (look_finding sh calm (look.Help who (object a e c) q (copy.Swing t)) (st.memory (place.Entry c e)))
      (λ k d u w f.
      let hm : c ≡ d = kn.scans.s_home p d u a e c in_n (subst (λ (y : Phase). sought_at y ≡ Some ((d, u), object a e c)) (sym at) (subst (λ (y : Seeker). seeker_owner y (object a e c) ≡ Some ((d, u), object a e c)) (sym w) refl)) in
      let mine : who ≡ seeker.Scan k c u = subst (λ (y : ℕ). who ≡ seeker.Scan k y u) (sym hm) w in
      by_true (same_word (st.memory (place.Entry c e)) (word.Entry (state.Locked a q)))
      (λ y. fresh_swing k c u a e q (look.Help who (object a e c) q (copy.Swing t)) at mine (grind (arith, nat_tests, y)))
      (λ n. fresh_visit k c u a e (look.Help who (object a e c) q (copy.Swing t)) at mine
      (after_swing a u (state_in st.memory c e) (subst (λ (b : Bool). (if b then Stays t else find_after_swing a (state_in st.memory c e)) ≡ Stays u) n f))))
