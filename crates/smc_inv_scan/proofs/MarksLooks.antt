-- Steps keep the marks of scans: looks. Written by tools/marks.py.
use Rattle.std.proofs.Common.{◌≡◌, ℕ, ◌<◌, Bool, true, false, Some, refl, sym, subst, inl, inr, arith}
use Rattle.std.proofs.lemmas.Bool.Decides.{nat_tests}
use Rattle.smc_shape.specs.Layout.{Layout}
use Rattle.smc_shape.specs.declared.place.Place.TheVariants as place
use Rattle.smc_core.specs.declared.call.Call.TheVariants as call
use Rattle.smc_core.specs.declared.call.Choice.TheVariants.{Start, Go}
use Rattle.smc_core.specs.declared.op.Op.TheVariants.{Load, Exchange}
use Rattle.smc_core.specs.declared.phase.Phase.{Phase}
use Rattle.smc_core.specs.declared.phase.Phase.TheVariants as phase
use Rattle.smc_core.specs.declared.phase.objects.LookPhase.TheVariants as look
use Rattle.smc_core.specs.declared.phase.objects.Seeker.{Seeker}
use Rattle.smc_core.specs.declared.section.Section.TheVariants.{Inside}
use Rattle.smc_core.specs.declared.word.State.TheVariants as state
use Rattle.smc_core.specs.declared.word.Word.TheVariants as word
use Rattle.smc_core.specs.Row.{has_place}
use Rattle.smc_core.specs.Scan.{scan_of}
use Rattle.smc_core.specs.Look.{look_change}
use Rattle.smc_core.specs.Words.{same_word}
use Rattle.smc_core.specs.declared.local.Stand.{Stand}
use Rattle.smc_rules.specs.Reads.{state_in, object}
use Rattle.smc_rules.specs.State as S
use Rattle.smc_rules.specs.State.{put_stand}
use Rattle.smc_rules.proofs.CarryLaws.{put_stand-same}
use Rattle.smc_agreement.proofs.Whole.{Shut, did}
use Rattle.smc_agreement.proofs.CrossLaws.{by_eq}
use Rattle.std.proofs.Common.{◌∙◌}
use Rattle.smc_core.specs.Look.{look_finding}
use Rattle.smc_inv_scan.specs.Scans.{ScansAgree, scan_at, sought_at}
use Rattle.smc_inv_scan.proofs.StepViews.{looked-was}
use Rattle.smc_inv_scan.proofs.PlaceLaws.{look_place, look_back}
use Rattle.smc_core.specs.Change.{change}
use Rattle.smc_rules.specs.Memory.{seen}
use Rattle.smc_agreement.specs.Entries.{present_at}
use Rattle.smc_inv_scan.specs.Marks.{Marks, MarksAgree, IsHere, marks_told}
use Rattle.smc_inv_scan.proofs.MarkViews.{unmarked, put-mine, put-other, looked-began, looked-visited, looked-stays}
use Rattle.smc_inv_scan.proofs.MarkSteps.{KeepsMarks, visited_place, found_at, abandoned_at, same_owner}
use Rattle.std.proofs.Common.{ap}
use Rattle.std.specs.Prelude.{if◌then◌else◌}
use Rattle.smc_words.specs.declared.number.Number.{Number}
use Rattle.smc_core.specs.declared.phase.objects.Finding.{Finding}
use Rattle.smc_core.specs.declared.phase.objects.Finding.TheVariants.{Stays}
use Rattle.smc_inv_scan.specs.Scans.{seeker_at, seeker_owner}
use Rattle.smc_inv_scan.proofs.StepViews.{is_decided}
use Rattle.smc_inv_scan.proofs.MarkSteps.{visit_marks}

-- kind LookUp
pub starts_look : (ms : ℕ → Marks) (sh : Layout) (st : S.State) (p : ℕ) (x : ℕ) (calm : Bool) (c : ℕ) (a : ℕ) (e : ℕ) (told : ℕ) → p < sh.passes → (st.stands p).section ≡ Inside x calm → (st.stands p).phase ≡ phase.Idle → has_place sh (place.Entry c e) ≡ true → Shut sh st → ScansAgree sh st → MarksAgree sh st ms → IsHere st
    → KeepsMarks ms sh st p (Start (call.Look (object a e c))) (Inside x calm) phase.Idle told (Load (place.Entry c e))
starts_look ms sh st p x calm c a e told in_n at_sec at_call pre1 h r mk hr = unmarked sh (did sh st p (Start (call.Look (object a e c))) (Inside x calm) phase.Idle told (Load (place.Entry c e))) ms p st.world (change sh p (st.stands p) (Inside x calm) phase.Idle (Start (call.Look (object a e c))) told (seen (Load (place.Entry c e)) st.memory)).event (grind (arith, nat_tests)) (record {
  m_began = λ i k' c' a' e' b' li is bg. grind (arith, nat_tests, mk.m_began i k' c' a' e' b' li);
  m_given = λ i k' c' a' e' b' li is vs. grind (arith, nat_tests, mk.m_given i k' c' a' e' b' li);
  m_coll = λ i k' c' a' e' b' li is vs. grind (arith, nat_tests, mk.m_coll i k' c' a' e' b' li);
  m_met = λ i k' c' a' e' s' b' li is of bg pr lt. grind (arith, nat_tests, mk.m_met i k' c' a' e' s' b' li);
  m_once = λ i k' c' a' e' s' b' li is vs pr. grind (arith, nat_tests, mk.m_once i k' c' a' e' s' b' li);
})

-- kind LoadSection
pub look_out : (ms : ℕ → Marks) (sh : Layout) (st : S.State) (p : ℕ) (x : ℕ) (calm : Bool) (c : ℕ) (a : ℕ) (e : ℕ) (told : ℕ) → p < sh.passes → (st.stands p).section ≡ Inside x calm → (st.stands p).phase ≡ phase.Idle → has_place sh (place.Entry c e) ≡ false → Shut sh st → ScansAgree sh st → MarksAgree sh st ms → IsHere st
    → KeepsMarks ms sh st p (Start (call.Look (object a e c))) (Inside x calm) phase.Idle told (Load (place.Section p))
look_out ms sh st p x calm c a e told in_n at_sec at_call pre1 h r mk hr = unmarked sh (did sh st p (Start (call.Look (object a e c))) (Inside x calm) phase.Idle told (Load (place.Section p))) ms p st.world (change sh p (st.stands p) (Inside x calm) phase.Idle (Start (call.Look (object a e c))) told (seen (Load (place.Section p)) st.memory)).event (grind (arith, nat_tests)) (record {
  m_began = λ i k' c' a' e' b' li is bg. grind (arith, nat_tests, mk.m_began i k' c' a' e' b' li);
  m_given = λ i k' c' a' e' b' li is vs. grind (arith, nat_tests, mk.m_given i k' c' a' e' b' li);
  m_coll = λ i k' c' a' e' b' li is vs. grind (arith, nat_tests, mk.m_coll i k' c' a' e' b' li);
  m_met = λ i k' c' a' e' s' b' li is of bg pr lt. grind (arith, nat_tests, mk.m_met i k' c' a' e' s' b' li);
  m_once = λ i k' c' a' e' s' b' li is vs pr. grind (arith, nat_tests, mk.m_once i k' c' a' e' s' b' li);
})

-- kind LookUp
pub look_load : (ms : ℕ → Marks) (sh : Layout) (st : S.State) (p : ℕ) (x : ℕ) (calm : Bool) (who : Seeker) (c : ℕ) (a : ℕ) (e : ℕ) (told : ℕ) → p < sh.passes → (st.stands p).section ≡ Inside x calm → (st.stands p).phase ≡ phase.Look (look.Load who (object a e c)) → Shut sh st → ScansAgree sh st → MarksAgree sh st ms → IsHere st
    → KeepsMarks ms sh st p Go (Inside x calm) (phase.Look (look.Load who (object a e c))) told (Load (place.Entry c e))
look_load ms sh st p x calm who c a e told in_n at_sec at_call h r mk hr = record {
  m_began = λ i k' c' a' e' b' li is bg. by_eq i p (λ eq. let now = subst (λ (l : Stand). scan_of l.scans k' ≡ Some b') (put_stand-same st.stands p i _ eq) is in let (old, was, same, at) = looked-was who (look_finding sh calm (look.Load who (object a e c)) (st.memory (place.Entry c e))) (st.stands p).scans k' b' now in let bg0 : (ms p).began k' (object a' e' c') ≡ true = subst (λ (y : ℕ → Number → Bool). y k' (object a' e' c') ≡ true) (looked-began sh who (object a e c) (look_finding sh calm (look.Load who (object a e c)) (st.memory (place.Entry c e))) st.world (ms p)) (subst (λ (x : Marks). x.began k' (object a' e' c') ≡ true) (put-mine ms p i (marks_told st.world (ms p) (look_change sh who (object a e c) (look_finding sh calm (look.Load who (object a e c)) (st.memory (place.Entry c e)))).event) eq) bg) in let given = mk.m_began p k' c' a' e' old in_n was bg0 in grind (arith, nat_tests, given)) (λ ne. grind (arith, nat_tests, mk.m_began i k' c' a' e' b' li, put-other ms p i (marks_told st.world (ms p) (look_change sh who (object a e c) (look_finding sh calm (look.Load who (object a e c)) (st.memory (place.Entry c e)))).event) ne));
  m_given = λ i k' c' a' e' b' li is vs. by_eq i p (λ eq. let now = subst (λ (l : Stand). scan_of l.scans k' ≡ Some b') (put_stand-same st.stands p i _ eq) is in let (old, was, same, at) = looked-was who (look_finding sh calm (look.Load who (object a e c)) (st.memory (place.Entry c e))) (st.stands p).scans k' b' now in let vs0 = looked-visited sh who (object a e c) (look_finding sh calm (look.Load who (object a e c)) (st.memory (place.Entry c e))) st.world (ms p) k' (object a' e' c') (subst (λ (x : Marks). x.visited k' (object a' e' c') ≡ true) (put-mine ms p i (marks_told st.world (ms p) (look_change sh who (object a e c) (look_finding sh calm (look.Load who (object a e c)) (st.memory (place.Entry c e)))).event) eq) vs) in elim vs0 [ inl before ↦ (let given = mk.m_given p k' c' a' e' old in_n was before in grind (arith, nat_tests, given)) | inr fresh_one ↦ (let (c1, t1, who1, stays, same_n) = fresh_one in grind (arith, nat_tests, same_n, stays)) ]) (λ ne. grind (arith, nat_tests, mk.m_given i k' c' a' e' b' li, put-other ms p i (marks_told st.world (ms p) (look_change sh who (object a e c) (look_finding sh calm (look.Load who (object a e c)) (st.memory (place.Entry c e)))).event) ne));
  m_coll = λ i k' c' a' e' b' li is vs. by_eq i p (λ eq. let now = subst (λ (l : Stand). scan_of l.scans k' ≡ Some b') (put_stand-same st.stands p i _ eq) is in let (old, was, same, at) = looked-was who (look_finding sh calm (look.Load who (object a e c)) (st.memory (place.Entry c e))) (st.stands p).scans k' b' now in let vs0 = looked-visited sh who (object a e c) (look_finding sh calm (look.Load who (object a e c)) (st.memory (place.Entry c e))) st.world (ms p) k' (object a' e' c') (subst (λ (x : Marks). x.visited k' (object a' e' c') ≡ true) (put-mine ms p i (marks_told st.world (ms p) (look_change sh who (object a e c) (look_finding sh calm (look.Load who (object a e c)) (st.memory (place.Entry c e)))).event) eq) vs) in elim vs0 [ inl before ↦ same ∙ mk.m_coll p k' c' a' e' old in_n was before | inr fresh_one ↦ (let (c1, t1, who1, stays, same_n) = fresh_one in let spot = visited_place who (look_finding sh calm (look.Load who (object a e c)) (st.memory (place.Entry c e))) (st.stands p).scans k' c1 t1 b' who1 stays (r.s_place p k' c1 t1 in_n (subst (λ (next : Phase). scan_at next ≡ Some (k', (c1, t1))) (sym at_call) (ap seeker_at who1))) now in let hm : c ≡ c1 = r.s_home p c1 t1 a e c in_n (subst (λ (next : Phase). sought_at next ≡ Some ((c1, t1), object a e c)) (sym at_call) (subst (λ (y : Seeker). seeker_owner y (object a e c) ≡ Some ((c1, t1), object a e c)) (sym who1) refl)) in grind (arith, spot, hm, same_n)) ]) (λ ne. grind (arith, nat_tests, mk.m_coll i k' c' a' e' b' li, put-other ms p i (marks_told st.world (ms p) (look_change sh who (object a e c) (look_finding sh calm (look.Load who (object a e c)) (st.memory (place.Entry c e)))).event) ne));
  m_met = λ i k' c' a' e' s' b' li is of bg pr lt. by_eq i p (λ eq. let now = subst (λ (l : Stand). scan_of l.scans k' ≡ Some b') (put_stand-same st.stands p i _ eq) is in let (old, was, same, at) = looked-was who (look_finding sh calm (look.Load who (object a e c)) (st.memory (place.Entry c e))) (st.stands p).scans k' b' now in let bg0 : (ms p).began k' (object a' e' c') ≡ true = subst (λ (y : ℕ → Number → Bool). y k' (object a' e' c') ≡ true) (looked-began sh who (object a e c) (look_finding sh calm (look.Load who (object a e c)) (st.memory (place.Entry c e))) st.world (ms p)) (subst (λ (x : Marks). x.began k' (object a' e' c') ≡ true) (put-mine ms p i (marks_told st.world (ms p) (look_change sh who (object a e c) (look_finding sh calm (look.Load who (object a e c)) (st.memory (place.Entry c e)))).event) eq) bg) in let early : s' < old.place → (ms p).visited k' (object a' e' c') ≡ true = λ lt0. mk.m_met p k' c' a' e' s' old in_n was (sym same ∙ of) bg0 pr lt0 in subst (λ (x : Marks). x.visited k' (object a' e' c') ≡ true) (sym (put-mine ms p i (marks_told st.world (ms p) (look_change sh who (object a e c) (look_finding sh calm (look.Load who (object a e c)) (st.memory (place.Entry c e)))).event) eq)) (elim at [ inl kept ↦ looked-stays sh who (object a e c) (look_finding sh calm (look.Load who (object a e c)) (st.memory (place.Entry c e))) st.world (ms p) k' (object a' e' c') (early (subst (λ (y : ℕ). s' < y) kept lt)) | inr left ↦ (let (c0, t0, who0, step0, decided) = left in let place_so = look_place sh st h r p k' c0 t0 old (look.Load who (object a e c)) in_n at_call who0 was in by_eq s' t0 (λ sl. let own_back = look_back sh st h r p k' c0 t0 a e c (look.Load who (object a e c)) in_n at_call who0 refl in let cc0 : c' ≡ c0 = (sym (sym same ∙ of) ∙ place_so.0) in let same_n : (object a' e' c') ≡ (object a e c) = same_owner sh st h c' a' e' s' c0 t0 a e c (pr) sl cc0 own_back in let pr0 : present_at (state_in st.memory c e) ≡ Some (a, t0) = grind (arith, nat_tests, pr, same_n, sl) in let stays : (look_finding sh calm (look.Load who (object a e c)) (st.memory (place.Entry c e))) ≡ Stays t0 = found_at calm a t0 (state_in st.memory c e) pr0 decided in subst (λ (y : Number). (marks_told st.world (ms p) (look_change sh who (object a e c) (look_finding sh calm (look.Load who (object a e c)) (st.memory (place.Entry c e)))).event).visited k' y ≡ true) (sym same_n) (visit_marks sh who (object a e c) (look_finding sh calm (look.Load who (object a e c)) (st.memory (place.Entry c e))) st.world (ms p) k' c0 t0 who0 stays)) (λ nt. looked-stays sh who (object a e c) (look_finding sh calm (look.Load who (object a e c)) (st.memory (place.Entry c e))) st.world (ms p) k' (object a' e' c') (early (omega (arith, nt, lt, step0, place_so.1))))) ])) (λ ne. grind (arith, nat_tests, mk.m_met i k' c' a' e' s' b' li, put-other ms p i (marks_told st.world (ms p) (look_change sh who (object a e c) (look_finding sh calm (look.Load who (object a e c)) (st.memory (place.Entry c e)))).event) ne));
  m_once = λ i k' c' a' e' s' b' li is vs pr. by_eq i p (λ eq. let now = subst (λ (l : Stand). scan_of l.scans k' ≡ Some b') (put_stand-same st.stands p i _ eq) is in let (old, was, same, at) = looked-was who (look_finding sh calm (look.Load who (object a e c)) (st.memory (place.Entry c e))) (st.stands p).scans k' b' now in let vs0 = looked-visited sh who (object a e c) (look_finding sh calm (look.Load who (object a e c)) (st.memory (place.Entry c e))) st.world (ms p) k' (object a' e' c') (subst (λ (x : Marks). x.visited k' (object a' e' c') ≡ true) (put-mine ms p i (marks_told st.world (ms p) (look_change sh who (object a e c) (look_finding sh calm (look.Load who (object a e c)) (st.memory (place.Entry c e)))).event) eq) vs) in elim vs0 [ inl before ↦ (let early : s' < old.place = mk.m_once p k' c' a' e' s' old in_n was before pr in elim at [ inl kept ↦ subst (λ (y : ℕ). s' < y) (sym kept) early | inr left ↦ (let (c0, t0, who0, step0, decided) = left in let place_so = look_place sh st h r p k' c0 t0 old (look.Load who (object a e c)) in_n at_call who0 was in omega (arith, early, step0, place_so.1)) ]) | inr fresh_one ↦ (let (c1, t1, who1, stays, same_n) = fresh_one in let spot = visited_place who (look_finding sh calm (look.Load who (object a e c)) (st.memory (place.Entry c e))) (st.stands p).scans k' c1 t1 b' who1 stays (r.s_place p k' c1 t1 in_n (subst (λ (next : Phase). scan_at next ≡ Some (k', (c1, t1))) (sym at_call) (ap seeker_at who1))) now in let pr0 : present_at (state_in st.memory c e) ≡ Some (a, s') = grind (arith, nat_tests, pr, same_n) in let decided : is_decided (look_finding sh calm (look.Load who (object a e c)) (st.memory (place.Entry c e))) ≡ true = subst (λ (y : Finding). is_decided y ≡ true) (sym stays) refl in let stays' : (look_finding sh calm (look.Load who (object a e c)) (st.memory (place.Entry c e))) ≡ Stays s' = found_at calm a s' (state_in st.memory c e) pr0 decided in grind (arith, stays, stays', spot)) ]) (λ ne. grind (arith, nat_tests, mk.m_once i k' c' a' e' s' b' li, put-other ms p i (marks_told st.world (ms p) (look_change sh who (object a e c) (look_finding sh calm (look.Load who (object a e c)) (st.memory (place.Entry c e)))).event) ne));
}

-- kind Unfreeze
pub abandon : (ms : ℕ → Marks) (sh : Layout) (st : S.State) (p : ℕ) (x : ℕ) (calm : Bool) (who : Seeker) (c : ℕ) (a : ℕ) (e : ℕ) (q : ℕ) (told : ℕ) → p < sh.passes → (st.stands p).section ≡ Inside x calm → (st.stands p).phase ≡ phase.Look (look.Abandon who (object a e c) q) → Shut sh st → ScansAgree sh st → MarksAgree sh st ms → IsHere st
    → KeepsMarks ms sh st p Go (Inside x calm) (phase.Look (look.Abandon who (object a e c) q)) told (Exchange (place.Entry c e) (word.Entry (state.Frozen a q)) (word.Entry (state.Present a q)))
abandon ms sh st p x calm who c a e q told in_n at_sec at_call h r mk hr = record {
  m_began = λ i k' c' a' e' b' li is bg. by_eq i p (λ eq. let now = subst (λ (l : Stand). scan_of l.scans k' ≡ Some b') (put_stand-same st.stands p i _ eq) is in let (old, was, same, at) = looked-was who (look_finding sh calm (look.Abandon who (object a e c) q) (st.memory (place.Entry c e))) (st.stands p).scans k' b' now in let bg0 : (ms p).began k' (object a' e' c') ≡ true = subst (λ (y : ℕ → Number → Bool). y k' (object a' e' c') ≡ true) (looked-began sh who (object a e c) (look_finding sh calm (look.Abandon who (object a e c) q) (st.memory (place.Entry c e))) st.world (ms p)) (subst (λ (x : Marks). x.began k' (object a' e' c') ≡ true) (put-mine ms p i (marks_told st.world (ms p) (look_change sh who (object a e c) (look_finding sh calm (look.Abandon who (object a e c) q) (st.memory (place.Entry c e)))).event) eq) bg) in let given = mk.m_began p k' c' a' e' old in_n was bg0 in grind (arith, nat_tests, given)) (λ ne. grind (arith, nat_tests, mk.m_began i k' c' a' e' b' li, put-other ms p i (marks_told st.world (ms p) (look_change sh who (object a e c) (look_finding sh calm (look.Abandon who (object a e c) q) (st.memory (place.Entry c e)))).event) ne));
  m_given = λ i k' c' a' e' b' li is vs. by_eq i p (λ eq. let now = subst (λ (l : Stand). scan_of l.scans k' ≡ Some b') (put_stand-same st.stands p i _ eq) is in let (old, was, same, at) = looked-was who (look_finding sh calm (look.Abandon who (object a e c) q) (st.memory (place.Entry c e))) (st.stands p).scans k' b' now in let vs0 = looked-visited sh who (object a e c) (look_finding sh calm (look.Abandon who (object a e c) q) (st.memory (place.Entry c e))) st.world (ms p) k' (object a' e' c') (subst (λ (x : Marks). x.visited k' (object a' e' c') ≡ true) (put-mine ms p i (marks_told st.world (ms p) (look_change sh who (object a e c) (look_finding sh calm (look.Abandon who (object a e c) q) (st.memory (place.Entry c e)))).event) eq) vs) in elim vs0 [ inl before ↦ (let given = mk.m_given p k' c' a' e' old in_n was before in grind (arith, nat_tests, given)) | inr fresh_one ↦ (let (c1, t1, who1, stays, same_n) = fresh_one in grind (arith, nat_tests, same_n, stays)) ]) (λ ne. grind (arith, nat_tests, mk.m_given i k' c' a' e' b' li, put-other ms p i (marks_told st.world (ms p) (look_change sh who (object a e c) (look_finding sh calm (look.Abandon who (object a e c) q) (st.memory (place.Entry c e)))).event) ne));
  m_coll = λ i k' c' a' e' b' li is vs. by_eq i p (λ eq. let now = subst (λ (l : Stand). scan_of l.scans k' ≡ Some b') (put_stand-same st.stands p i _ eq) is in let (old, was, same, at) = looked-was who (look_finding sh calm (look.Abandon who (object a e c) q) (st.memory (place.Entry c e))) (st.stands p).scans k' b' now in let vs0 = looked-visited sh who (object a e c) (look_finding sh calm (look.Abandon who (object a e c) q) (st.memory (place.Entry c e))) st.world (ms p) k' (object a' e' c') (subst (λ (x : Marks). x.visited k' (object a' e' c') ≡ true) (put-mine ms p i (marks_told st.world (ms p) (look_change sh who (object a e c) (look_finding sh calm (look.Abandon who (object a e c) q) (st.memory (place.Entry c e)))).event) eq) vs) in elim vs0 [ inl before ↦ same ∙ mk.m_coll p k' c' a' e' old in_n was before | inr fresh_one ↦ (let (c1, t1, who1, stays, same_n) = fresh_one in let spot = visited_place who (look_finding sh calm (look.Abandon who (object a e c) q) (st.memory (place.Entry c e))) (st.stands p).scans k' c1 t1 b' who1 stays (r.s_place p k' c1 t1 in_n (subst (λ (next : Phase). scan_at next ≡ Some (k', (c1, t1))) (sym at_call) (ap seeker_at who1))) now in let hm : c ≡ c1 = r.s_home p c1 t1 a e c in_n (subst (λ (next : Phase). sought_at next ≡ Some ((c1, t1), object a e c)) (sym at_call) (subst (λ (y : Seeker). seeker_owner y (object a e c) ≡ Some ((c1, t1), object a e c)) (sym who1) refl)) in grind (arith, spot, hm, same_n)) ]) (λ ne. grind (arith, nat_tests, mk.m_coll i k' c' a' e' b' li, put-other ms p i (marks_told st.world (ms p) (look_change sh who (object a e c) (look_finding sh calm (look.Abandon who (object a e c) q) (st.memory (place.Entry c e)))).event) ne));
  m_met = λ i k' c' a' e' s' b' li is of bg pr lt. by_eq i p (λ eq. let now = subst (λ (l : Stand). scan_of l.scans k' ≡ Some b') (put_stand-same st.stands p i _ eq) is in let (old, was, same, at) = looked-was who (look_finding sh calm (look.Abandon who (object a e c) q) (st.memory (place.Entry c e))) (st.stands p).scans k' b' now in let bg0 : (ms p).began k' (object a' e' c') ≡ true = subst (λ (y : ℕ → Number → Bool). y k' (object a' e' c') ≡ true) (looked-began sh who (object a e c) (look_finding sh calm (look.Abandon who (object a e c) q) (st.memory (place.Entry c e))) st.world (ms p)) (subst (λ (x : Marks). x.began k' (object a' e' c') ≡ true) (put-mine ms p i (marks_told st.world (ms p) (look_change sh who (object a e c) (look_finding sh calm (look.Abandon who (object a e c) q) (st.memory (place.Entry c e)))).event) eq) bg) in let early : s' < old.place → (ms p).visited k' (object a' e' c') ≡ true = λ lt0. mk.m_met p k' c' a' e' s' old in_n was (sym same ∙ of) bg0 (grind (arith, nat_tests, pr)) lt0 in subst (λ (x : Marks). x.visited k' (object a' e' c') ≡ true) (sym (put-mine ms p i (marks_told st.world (ms p) (look_change sh who (object a e c) (look_finding sh calm (look.Abandon who (object a e c) q) (st.memory (place.Entry c e)))).event) eq)) (elim at [ inl kept ↦ looked-stays sh who (object a e c) (look_finding sh calm (look.Abandon who (object a e c) q) (st.memory (place.Entry c e))) st.world (ms p) k' (object a' e' c') (early (subst (λ (y : ℕ). s' < y) kept lt)) | inr left ↦ (let (c0, t0, who0, step0, decided) = left in let place_so = look_place sh st h r p k' c0 t0 old (look.Abandon who (object a e c) q) in_n at_call who0 was in by_eq s' t0 (λ sl. let own_back = look_back sh st h r p k' c0 t0 a e c (look.Abandon who (object a e c) q) in_n at_call who0 refl in let cc0 : c' ≡ c0 = (sym (sym same ∙ of) ∙ place_so.0) in let same_n : (object a' e' c') ≡ (object a e c) = same_owner sh st h c' a' e' s' c0 t0 a e c (grind (arith, nat_tests, pr)) sl cc0 own_back in let pr0 : present_at (if same_word (st.memory (place.Entry c e)) (word.Entry (state.Frozen a q)) then state.Present a q else state_in st.memory c e) ≡ Some (a, t0) = grind (arith, nat_tests, pr, same_n, sl) in let stays : (look_finding sh calm (look.Abandon who (object a e c) q) (st.memory (place.Entry c e))) ≡ Stays t0 = abandoned_at (same_word (st.memory (place.Entry c e)) (word.Entry (state.Frozen a q))) a q t0 (state_in st.memory c e) pr0 decided in subst (λ (y : Number). (marks_told st.world (ms p) (look_change sh who (object a e c) (look_finding sh calm (look.Abandon who (object a e c) q) (st.memory (place.Entry c e)))).event).visited k' y ≡ true) (sym same_n) (visit_marks sh who (object a e c) (look_finding sh calm (look.Abandon who (object a e c) q) (st.memory (place.Entry c e))) st.world (ms p) k' c0 t0 who0 stays)) (λ nt. looked-stays sh who (object a e c) (look_finding sh calm (look.Abandon who (object a e c) q) (st.memory (place.Entry c e))) st.world (ms p) k' (object a' e' c') (early (omega (arith, nt, lt, step0, place_so.1))))) ])) (λ ne. grind (arith, nat_tests, mk.m_met i k' c' a' e' s' b' li, put-other ms p i (marks_told st.world (ms p) (look_change sh who (object a e c) (look_finding sh calm (look.Abandon who (object a e c) q) (st.memory (place.Entry c e)))).event) ne));
  m_once = λ i k' c' a' e' s' b' li is vs pr. by_eq i p (λ eq. let now = subst (λ (l : Stand). scan_of l.scans k' ≡ Some b') (put_stand-same st.stands p i _ eq) is in let (old, was, same, at) = looked-was who (look_finding sh calm (look.Abandon who (object a e c) q) (st.memory (place.Entry c e))) (st.stands p).scans k' b' now in let vs0 = looked-visited sh who (object a e c) (look_finding sh calm (look.Abandon who (object a e c) q) (st.memory (place.Entry c e))) st.world (ms p) k' (object a' e' c') (subst (λ (x : Marks). x.visited k' (object a' e' c') ≡ true) (put-mine ms p i (marks_told st.world (ms p) (look_change sh who (object a e c) (look_finding sh calm (look.Abandon who (object a e c) q) (st.memory (place.Entry c e)))).event) eq) vs) in elim vs0 [ inl before ↦ (let early : s' < old.place = mk.m_once p k' c' a' e' s' old in_n was before (grind (arith, nat_tests, pr)) in elim at [ inl kept ↦ subst (λ (y : ℕ). s' < y) (sym kept) early | inr left ↦ (let (c0, t0, who0, step0, decided) = left in let place_so = look_place sh st h r p k' c0 t0 old (look.Abandon who (object a e c) q) in_n at_call who0 was in omega (arith, early, step0, place_so.1)) ]) | inr fresh_one ↦ (let (c1, t1, who1, stays, same_n) = fresh_one in let spot = visited_place who (look_finding sh calm (look.Abandon who (object a e c) q) (st.memory (place.Entry c e))) (st.stands p).scans k' c1 t1 b' who1 stays (r.s_place p k' c1 t1 in_n (subst (λ (next : Phase). scan_at next ≡ Some (k', (c1, t1))) (sym at_call) (ap seeker_at who1))) now in let pr0 : present_at (if same_word (st.memory (place.Entry c e)) (word.Entry (state.Frozen a q)) then state.Present a q else state_in st.memory c e) ≡ Some (a, s') = grind (arith, nat_tests, pr, same_n) in let decided : is_decided (look_finding sh calm (look.Abandon who (object a e c) q) (st.memory (place.Entry c e))) ≡ true = subst (λ (y : Finding). is_decided y ≡ true) (sym stays) refl in let stays' : (look_finding sh calm (look.Abandon who (object a e c) q) (st.memory (place.Entry c e))) ≡ Stays s' = abandoned_at (same_word (st.memory (place.Entry c e)) (word.Entry (state.Frozen a q))) a q s' (state_in st.memory c e) pr0 decided in grind (arith, stays, stays', spot)) ]) (λ ne. grind (arith, nat_tests, mk.m_once i k' c' a' e' s' b' li, put-other ms p i (marks_told st.world (ms p) (look_change sh who (object a e c) (look_finding sh calm (look.Abandon who (object a e c) q) (st.memory (place.Entry c e)))).event) ne));
}
