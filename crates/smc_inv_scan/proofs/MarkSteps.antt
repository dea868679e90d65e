-- What steps of scans and look-ups have to do with marks.
use Rattle.std.proofs.Common.{◌≡◌, ℕ, ◌+◌, Bool, true, false, Some, None, List, refl, sym, subst, arith}
use Rattle.std.specs.Prelude.{if◌then◌else◌}
use Rattle.std.proofs.lemmas.Bool.Decides.{nat_tests}
use Rattle.smc_words.specs.declared.dir.Dir.{Dir}
use Rattle.smc_words.specs.declared.dir.Dir.TheVariants as dir
use Rattle.smc_words.specs.declared.number.Number.{Number}
use Rattle.smc_shape.specs.Layout.{Layout}
use Rattle.smc_core.specs.declared.call.Choice.{Choice}
use Rattle.smc_core.specs.declared.local.Scan.{Scan}
use Rattle.smc_core.specs.declared.op.Op.{Op}
use Rattle.smc_core.specs.declared.phase.Phase.{Phase}
use Rattle.smc_core.specs.declared.phase.objects.Finding.{Finding}
use Rattle.smc_core.specs.declared.phase.objects.Finding.TheVariants.{Stays}
use Rattle.smc_core.specs.declared.phase.objects.Seeker.{Seeker}
use Rattle.smc_core.specs.declared.phase.objects.Seeker.TheVariants as seeker
use Rattle.smc_core.specs.declared.section.Section.{Section}
use Rattle.smc_core.specs.declared.word.State.{State}
use Rattle.smc_core.specs.declared.word.State.TheVariants as state
use Rattle.smc_core.specs.Change.{change}
use Rattle.smc_core.specs.Look.{find, find_after_abandon, find_after_swing, look_change}
use Rattle.smc_core.specs.Scan.{scan_of, passed, is_scanned, look_scans}
use Rattle.smc_model.specs.World.{World}
use Rattle.smc_rules.specs.Memory.{seen}
use Rattle.smc_rules.specs.Reads.{state_in, dir_in, back_in, object}
use Rattle.smc_rules.specs.State as S
use Rattle.smc_agreement.specs.Entries.{present_at, stands_at, IsPlaced}
use Rattle.smc_agreement.proofs.Whole.{Shut, objects, did}
use Rattle.smc_inv_scan.specs.Scans.{ScansAgree, IsAt}
use Rattle.smc_inv_scan.specs.Marks.{Marks, MarksAgree, IsHere, marks_told, put_marks, FitsMarks}
use Rattle.smc_inv_scan.proofs.ListLaws.{passed-at}
use Rattle.smc_inv_scan.proofs.StepViews.{is_decided}
use Rattle.smc_inv_scan.proofs.MarkViews.{looked-visits}

-- what is known of a state beside what is shut
pub record Known (ms : ℕ → Marks) (shape : Layout) (s : S.State) : Type 0 where
  pub scans : ScansAgree shape s
  pub marks : MarksAgree shape s ms
  pub here : IsHere s

-- the step keeps what marks agree on
abbrev pub KeepsMarks : (ℕ → Marks) → Layout → S.State → ℕ → Choice → Section → Phase → ℕ → Op → Type 0
KeepsMarks ms sh st p choice section call told op = MarksAgree sh (did sh st p choice section call told op)
    (put_marks ms p (marks_told st.world (ms p) (change sh p (st.stands p) section call choice told (seen op st.memory)).event))

-- the event of the step fits the marks
abbrev pub EventFits : (ℕ → Marks) → Layout → S.State → ℕ → Choice → Section → Phase → ℕ → Op → Type 0
EventFits ms sh st p choice section call told op = FitsMarks sh st ms p (change sh p (st.stands p) section call choice told (seen op st.memory)).event

-- a scan that visits an object is behind its slot then
pub visited_place : (who : Seeker) (finding : Finding) (scans : List Scan) (k c t : ℕ) (b : Scan) → who ≡ seeker.Scan k c t → finding ≡ Stays t → IsAt c t (scan_of scans k)
    → scan_of (look_scans scans who finding) k ≡ Some b → (b.coll ≡ c) × (b.place ≡ t + 1)
visited_place who finding scans k c t b w f at is =
    let now : scan_of (passed scans k (t + 1)) k ≡ Some b =
    subst (λ (x : Finding). scan_of (look_scans scans (seeker.Scan k c t) x) k ≡ Some b) f (subst (λ (x : Seeker). scan_of (look_scans scans x finding) k ≡ Some b) w is) in
    subst (IsAt c (t + 1)) now (passed-at scans k (t + 1) c t at)

-- it is marked
pub visit_marks : (shape : Layout) (who : Seeker) (n : Number) (finding : Finding) (world : World) (m : Marks) (k c t : ℕ) → who ≡ seeker.Scan k c t → finding ≡ Stays t
    → (marks_told world m (look_change shape who n finding).event).visited k n ≡ true
visit_marks shape who n finding world m k c t w f =
    subst (λ (x : Seeker). (marks_told world m (look_change shape x n finding).event).visited k n ≡ true) (sym w)
    (subst (λ (x : Finding). (marks_told world m (look_change shape (seeker.Scan k c t) n x).event).visited k n ≡ true) (sym f) (looked-visits shape k c t n world m))

-- a look-up that is decided finds a present object where it is
pub found_at : (calm : Bool) (a t : ℕ) (w : State) → present_at w ≡ Some (a, t) → is_decided (find calm a w) ≡ true → find calm a w ≡ Stays t
found_at calm a t (state.Present b s) at d = grind (arith, nat_tests, at)
found_at true a t (state.Frozen b s) at d = grind (arith, nat_tests, at)
found_at false a t (state.Frozen b s) at d = absurd (grind (arith, nat_tests, at, d))
found_at true a t (state.Locked b s) at d = grind (arith, nat_tests, at)
found_at false a t (state.Locked b s) at d = absurd (grind (arith, nat_tests, at, d))
found_at calm a t (state.Removed b s f l) at d = absurd (cc)
found_at calm a t (state.Free b s) at d = absurd (cc)
found_at calm a t (state.Claimed b) at d = absurd (cc)

pub abandoned_at : (done : Bool) (a q t : ℕ) (w : State) → present_at (if done then state.Present a q else w) ≡ Some (a, t)
    → is_decided (if done then Stays q else find_after_abandon a w) ≡ true → (if done then Stays q else find_after_abandon a w) ≡ Stays t
abandoned_at true a q t w at d = grind (arith, nat_tests, at)
abandoned_at false a q t (state.Present b s) at d = grind (arith, nat_tests, at)
abandoned_at false a q t (state.Frozen b s) at d = grind (arith, nat_tests, at)
abandoned_at false a q t (state.Locked b s) at d = absurd (grind (arith, nat_tests, at, d))
abandoned_at false a q t (state.Removed b s f l) at d = absurd (cc)
abandoned_at false a q t (state.Free b s) at d = absurd (cc)
abandoned_at false a q t (state.Claimed b) at d = absurd (cc)

pub swung_at : (done : Bool) (a target t : ℕ) (w : State) → present_at (if done then state.Present a target else w) ≡ Some (a, t)
    → is_decided (if done then Stays target else find_after_swing a w) ≡ true → (if done then Stays target else find_after_swing a w) ≡ Stays t
swung_at true a q t w at d = grind (arith, nat_tests, at)
swung_at false a q t (state.Present b s) at d = grind (arith, nat_tests, at)
swung_at false a q t (state.Frozen b s) at d = grind (arith, nat_tests, at)
swung_at false a q t (state.Locked b s) at d = grind (arith, nat_tests, at)
swung_at false a q t (state.Removed b s f l) at d = absurd (cc)
swung_at false a q t (state.Free b s) at d = absurd (cc)
swung_at false a q t (state.Claimed b) at d = absurd (cc)

present_stands : (w : State) (a s : ℕ) → present_at w ≡ Some (a, s) → stands_at w ≡ Some (a, s)
present_stands (state.Present b t) a s q = q
present_stands (state.Frozen b t) a s q = q
present_stands (state.Locked b t) a s q = q
present_stands (state.Removed b t f l) a s q = absurd (cc)
present_stands (state.Free b t) a s q = absurd (cc)
present_stands (state.Claimed b) a s q = absurd (cc)

placed_scanned : (d : Dir) → IsPlaced d → is_scanned d ≡ true
placed_scanned dir.Valid h = refl
placed_scanned dir.Incoming h = refl
placed_scanned dir.Free h = absurd h
placed_scanned dir.Claimed h = absurd h
placed_scanned (dir.Limbo t) h = absurd h

module _ (sh : Layout) (st : S.State) (h : Shut sh st) where
  -- the slot of a present object is in use, and names it
  pub unscanned : (c a e s : ℕ) → present_at (state_in st.memory c e) ≡ Some (a, s) → is_scanned (dir_in st.memory c s) ≡ false → ⊥
  unscanned c a e s at f = let t : is_scanned (dir_in st.memory c s) ≡ true = placed_scanned (dir_in st.memory c s) ((objects h).placed c a e s at) in absurd (cc)

  named : (c a e s : ℕ) → present_at (state_in st.memory c e) ≡ Some (a, s) → back_in st.memory c s ≡ Some (object a e c)
  named c a e s at = (objects h).standing c a e s (present_stands (state_in st.memory c e) a s at)

  pub unnamed : (c a e s : ℕ) → present_at (state_in st.memory c e) ≡ Some (a, s) → back_in st.memory c s ≡ None → ⊥
  unnamed c a e s at n = let is = named c a e s at in absurd (cc)

  -- no two present objects are in one slot
  pub same_owner : (c a e s d t b f k : ℕ) → present_at (state_in st.memory c e) ≡ Some (a, s) → s ≡ t → c ≡ d → back_in st.memory d t ≡ Some (object b f k) → object a e c ≡ object b f k
  same_owner c a e s d t b f k at es ec is =
      let mine : back_in st.memory d t ≡ Some (object a e c) = subst (λ (x : ℕ). back_in st.memory x t ≡ Some (object a e c)) ec (subst (λ (x : ℕ). back_in st.memory c x ≡ Some (object a e c)) es (named c a e s at)) in
      grind (arith, mine, is)
