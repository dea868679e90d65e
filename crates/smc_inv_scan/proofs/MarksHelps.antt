-- Steps keep the marks of scans: helps. Written by tools/marks.py.
use Rattle.std.proofs.Common.{◌≡◌, ℕ, ◌<◌, ◌≤◌, ◌==◌, ◌&&◌, Bool, true, Some, refl, sym, subst, inl, inr, arith}
use Rattle.std.proofs.lemmas.Bool.Decides.{nat_tests}
use Rattle.smc_words.specs.declared.layout.TheConstants.{BLANK}
use Rattle.smc_shape.specs.Layout.{Layout}
use Rattle.smc_shape.specs.declared.place.Place.TheVariants as place
use Rattle.smc_core.specs.declared.call.Choice.TheVariants.{Go}
use Rattle.smc_core.specs.declared.op.Op.TheVariants.{Load, Exchange}
use Rattle.smc_core.specs.declared.phase.Phase.{Phase}
use Rattle.smc_core.specs.declared.phase.Phase.TheVariants as phase
use Rattle.smc_core.specs.declared.phase.objects.CopyPhase.TheVariants as copy
use Rattle.smc_core.specs.declared.phase.objects.LookPhase.TheVariants as look
use Rattle.smc_core.specs.declared.phase.objects.Seeker.{Seeker}
use Rattle.smc_core.specs.declared.section.Section.TheVariants.{Inside}
use Rattle.smc_core.specs.declared.word.State.TheVariants as state
use Rattle.smc_core.specs.declared.word.Word.TheVariants as word
use Rattle.smc_core.specs.Scan.{scan_of}
use Rattle.smc_core.specs.Look.{look_change}
use Rattle.smc_core.specs.Words.{same_word}
use Rattle.smc_core.specs.declared.local.Stand.{Stand}
use Rattle.smc_rules.specs.Reads.{state_in, forward_in, object}
use Rattle.smc_rules.specs.State as S
use Rattle.smc_rules.specs.State.{put_stand}
use Rattle.smc_rules.proofs.CarryLaws.{put_stand-same}
use Rattle.smc_agreement.proofs.Whole.{Shut, copies, moves, did}
use Rattle.smc_agreement.proofs.CrossLaws.{by_eq, by_true}
use Rattle.std.proofs.Common.{◌∙◌}
use Rattle.smc_core.specs.Look.{look_finding}
use Rattle.smc_inv_scan.specs.Scans.{ScansAgree, scan_at, sought_at}
use Rattle.smc_inv_scan.proofs.StepViews.{looked-was}
use Rattle.smc_inv_scan.proofs.PlaceLaws.{look_place, look_back}
use Rattle.smc_core.specs.Change.{change}
use Rattle.smc_rules.specs.Memory.{seen}
use Rattle.smc_agreement.specs.Entries.{present_at}
use Rattle.smc_inv_scan.specs.Marks.{Marks, MarksAgree, IsHere, marks_told}
use Rattle.smc_inv_scan.proofs.MarkViews.{unmarked, put-mine, put-other, looked-began, looked-visited, looked-stays}
use Rattle.smc_inv_scan.proofs.MarkSteps.{KeepsMarks, visited_place, swung_at, same_owner}
use Rattle.std.proofs.Common.{ap}
use Rattle.std.specs.Prelude.{if◌then◌else◌}
use Rattle.smc_words.specs.declared.number.Number.{Number}
use Rattle.smc_core.specs.declared.phase.objects.Finding.{Finding}
use Rattle.smc_core.specs.declared.phase.objects.Finding.TheVariants.{Stays}
use Rattle.smc_inv_scan.specs.Scans.{seeker_at, seeker_owner}
use Rattle.smc_inv_scan.proofs.StepViews.{is_decided}
use Rattle.smc_inv_scan.proofs.MarkSteps.{visit_marks}

-- kind LoadForward
pub l_fwd : (ms : ℕ → Marks) (sh : Layout) (st : S.State) (p : ℕ) (x : ℕ) (calm : Bool) (who : Seeker) (c : ℕ) (a : ℕ) (e : ℕ) (q : ℕ) (told : ℕ) → p < sh.passes → (st.stands p).section ≡ Inside x calm → (st.stands p).phase ≡ phase.Look (look.Help who (object a e c) q copy.Target) → Shut sh st → ScansAgree sh st → MarksAgree sh st ms → IsHere st
    → KeepsMarks ms sh st p Go (Inside x calm) (phase.Look (look.Help who (object a e c) q copy.Target)) told (Load (place.Forward c q))
l_fwd ms sh st p x calm who c a e q told in_n at_sec at_call h r mk hr = unmarked sh (did sh st p Go (Inside x calm) (phase.Look (look.Help who (object a e c) q copy.Target)) told (Load (place.Forward c q))) ms p st.world (change sh p (st.stands p) (Inside x calm) (phase.Look (look.Help who (object a e c) q copy.Target)) Go told (seen (Load (place.Forward c q)) st.memory)).event (grind (arith, nat_tests)) (record {
  m_began = λ i k' c' a' e' b' li is bg. by_eq i p (λ eq. let now = subst (λ (l : Stand). scan_of l.scans k' ≡ Some b') (put_stand-same st.stands p i _ eq) is in let (old, was, same, at) = looked-was who (look_finding sh calm (look.Help who (object a e c) q copy.Target) (st.memory (place.Forward c q))) (st.stands p).scans k' b' now in let given = mk.m_began p k' c' a' e' old in_n was (subst (λ (j : ℕ). (ms j).began k' (object a' e' c') ≡ true) eq bg) in grind (arith, nat_tests, given)) (λ ne. grind (arith, nat_tests, mk.m_began i k' c' a' e' b' li));
  m_given = λ i k' c' a' e' b' li is vs. by_eq i p (λ eq. let now = subst (λ (l : Stand). scan_of l.scans k' ≡ Some b') (put_stand-same st.stands p i _ eq) is in let (old, was, same, at) = looked-was who (look_finding sh calm (look.Help who (object a e c) q copy.Target) (st.memory (place.Forward c q))) (st.stands p).scans k' b' now in let given = mk.m_given p k' c' a' e' old in_n was (subst (λ (j : ℕ). (ms j).visited k' (object a' e' c') ≡ true) eq vs) in grind (arith, nat_tests, given)) (λ ne. grind (arith, nat_tests, mk.m_given i k' c' a' e' b' li));
  m_coll = λ i k' c' a' e' b' li is vs. by_eq i p (λ eq. let now = subst (λ (l : Stand). scan_of l.scans k' ≡ Some b') (put_stand-same st.stands p i _ eq) is in let (old, was, same, at) = looked-was who (look_finding sh calm (look.Help who (object a e c) q copy.Target) (st.memory (place.Forward c q))) (st.stands p).scans k' b' now in same ∙ mk.m_coll p k' c' a' e' old in_n was (subst (λ (j : ℕ). (ms j).visited k' (object a' e' c') ≡ true) eq vs)) (λ ne. grind (arith, nat_tests, mk.m_coll i k' c' a' e' b' li));
  m_met = λ i k' c' a' e' s' b' li is of bg pr lt. by_eq i p (λ eq. let now = subst (λ (l : Stand). scan_of l.scans k' ≡ Some b') (put_stand-same st.stands p i _ eq) is in let (old, was, same, at) = looked-was who (look_finding sh calm (look.Help who (object a e c) q copy.Target) (st.memory (place.Forward c q))) (st.stands p).scans k' b' now in subst (λ (j : ℕ). (ms j).visited k' (object a' e' c') ≡ true) (sym eq) (elim at [ inl kept ↦ mk.m_met p k' c' a' e' s' old in_n was (sym same ∙ of) (subst (λ (j : ℕ). (ms j).began k' (object a' e' c') ≡ true) eq bg) pr (subst (λ (z : ℕ). s' < z) kept lt) | inr left ↦ (let (c0, t0, who0, step0, decided) = left in absurd (cc)) ])) (λ ne. grind (arith, nat_tests, mk.m_met i k' c' a' e' s' b' li));
  m_once = λ i k' c' a' e' s' b' li is vs pr. by_eq i p (λ eq. let now = subst (λ (l : Stand). scan_of l.scans k' ≡ Some b') (put_stand-same st.stands p i _ eq) is in let (old, was, same, at) = looked-was who (look_finding sh calm (look.Help who (object a e c) q copy.Target) (st.memory (place.Forward c q))) (st.stands p).scans k' b' now in let before = mk.m_once p k' c' a' e' s' old in_n was (subst (λ (j : ℕ). (ms j).visited k' (object a' e' c') ≡ true) eq vs) pr in elim at [ inl kept ↦ subst (λ (z : ℕ). s' < z) (sym kept) before | inr left ↦ (let (c0, t0, who0, step0, decided) = left in absurd (cc)) ]) (λ ne. grind (arith, nat_tests, mk.m_once i k' c' a' e' s' b' li));
})

-- kind LoadField
pub l_read : (ms : ℕ → Marks) (sh : Layout) (st : S.State) (p : ℕ) (x : ℕ) (calm : Bool) (who : Seeker) (c : ℕ) (a : ℕ) (e : ℕ) (q : ℕ) (t : ℕ) (f : ℕ) (told : ℕ) → p < sh.passes → (st.stands p).section ≡ Inside x calm → (st.stands p).phase ≡ phase.Look (look.Help who (object a e c) q (copy.Load t f)) → Shut sh st → ScansAgree sh st → MarksAgree sh st ms → IsHere st
    → KeepsMarks ms sh st p Go (Inside x calm) (phase.Look (look.Help who (object a e c) q (copy.Load t f))) told (Load (place.Field c q f))
l_read ms sh st p x calm who c a e q t f told in_n at_sec at_call h r mk hr = unmarked sh (did sh st p Go (Inside x calm) (phase.Look (look.Help who (object a e c) q (copy.Load t f))) told (Load (place.Field c q f))) ms p st.world (change sh p (st.stands p) (Inside x calm) (phase.Look (look.Help who (object a e c) q (copy.Load t f))) Go told (seen (Load (place.Field c q f)) st.memory)).event (grind (arith, nat_tests)) (record {
  m_began = λ i k' c' a' e' b' li is bg. by_eq i p (λ eq. let now = subst (λ (l : Stand). scan_of l.scans k' ≡ Some b') (put_stand-same st.stands p i _ eq) is in let (old, was, same, at) = looked-was who (look_finding sh calm (look.Help who (object a e c) q (copy.Load t f)) (st.memory (place.Field c q f))) (st.stands p).scans k' b' now in let given = mk.m_began p k' c' a' e' old in_n was (subst (λ (j : ℕ). (ms j).began k' (object a' e' c') ≡ true) eq bg) in grind (arith, nat_tests, given)) (λ ne. grind (arith, nat_tests, mk.m_began i k' c' a' e' b' li));
  m_given = λ i k' c' a' e' b' li is vs. by_eq i p (λ eq. let now = subst (λ (l : Stand). scan_of l.scans k' ≡ Some b') (put_stand-same st.stands p i _ eq) is in let (old, was, same, at) = looked-was who (look_finding sh calm (look.Help who (object a e c) q (copy.Load t f)) (st.memory (place.Field c q f))) (st.stands p).scans k' b' now in let given = mk.m_given p k' c' a' e' old in_n was (subst (λ (j : ℕ). (ms j).visited k' (object a' e' c') ≡ true) eq vs) in grind (arith, nat_tests, given)) (λ ne. grind (arith, nat_tests, mk.m_given i k' c' a' e' b' li));
  m_coll = λ i k' c' a' e' b' li is vs. by_eq i p (λ eq. let now = subst (λ (l : Stand). scan_of l.scans k' ≡ Some b') (put_stand-same st.stands p i _ eq) is in let (old, was, same, at) = looked-was who (look_finding sh calm (look.Help who (object a e c) q (copy.Load t f)) (st.memory (place.Field c q f))) (st.stands p).scans k' b' now in same ∙ mk.m_coll p k' c' a' e' old in_n was (subst (λ (j : ℕ). (ms j).visited k' (object a' e' c') ≡ true) eq vs)) (λ ne. grind (arith, nat_tests, mk.m_coll i k' c' a' e' b' li));
  m_met = λ i k' c' a' e' s' b' li is of bg pr lt. by_eq i p (λ eq. let now = subst (λ (l : Stand). scan_of l.scans k' ≡ Some b') (put_stand-same st.stands p i _ eq) is in let (old, was, same, at) = looked-was who (look_finding sh calm (look.Help who (object a e c) q (copy.Load t f)) (st.memory (place.Field c q f))) (st.stands p).scans k' b' now in subst (λ (j : ℕ). (ms j).visited k' (object a' e' c') ≡ true) (sym eq) (elim at [ inl kept ↦ mk.m_met p k' c' a' e' s' old in_n was (sym same ∙ of) (subst (λ (j : ℕ). (ms j).began k' (object a' e' c') ≡ true) eq bg) pr (subst (λ (z : ℕ). s' < z) kept lt) | inr left ↦ (let (c0, t0, who0, step0, decided) = left in absurd (cc)) ])) (λ ne. grind (arith, nat_tests, mk.m_met i k' c' a' e' s' b' li));
  m_once = λ i k' c' a' e' s' b' li is vs pr. by_eq i p (λ eq. let now = subst (λ (l : Stand). scan_of l.scans k' ≡ Some b') (put_stand-same st.stands p i _ eq) is in let (old, was, same, at) = looked-was who (look_finding sh calm (look.Help who (object a e c) q (copy.Load t f)) (st.memory (place.Field c q f))) (st.stands p).scans k' b' now in let before = mk.m_once p k' c' a' e' s' old in_n was (subst (λ (j : ℕ). (ms j).visited k' (object a' e' c') ≡ true) eq vs) pr in elim at [ inl kept ↦ subst (λ (z : ℕ). s' < z) (sym kept) before | inr left ↦ (let (c0, t0, who0, step0, decided) = left in absurd (cc)) ]) (λ ne. grind (arith, nat_tests, mk.m_once i k' c' a' e' s' b' li));
})

-- kind CopyField
pub l_put : (ms : ℕ → Marks) (sh : Layout) (st : S.State) (p : ℕ) (x : ℕ) (calm : Bool) (who : Seeker) (c : ℕ) (a : ℕ) (e : ℕ) (q : ℕ) (t : ℕ) (f : ℕ) (w : ℕ) (told : ℕ) → p < sh.passes → (st.stands p).section ≡ Inside x calm → (st.stands p).phase ≡ phase.Look (look.Help who (object a e c) q (copy.Put t f w)) → Shut sh st → ScansAgree sh st → MarksAgree sh st ms → IsHere st
    → KeepsMarks ms sh st p Go (Inside x calm) (phase.Look (look.Help who (object a e c) q (copy.Put t f w))) told (Exchange (place.Field c t f) (word.Plain BLANK) (word.Plain w))
l_put ms sh st p x calm who c a e q t f w told in_n at_sec at_call h r mk hr = unmarked sh (did sh st p Go (Inside x calm) (phase.Look (look.Help who (object a e c) q (copy.Put t f w))) told (Exchange (place.Field c t f) (word.Plain BLANK) (word.Plain w))) ms p st.world (change sh p (st.stands p) (Inside x calm) (phase.Look (look.Help who (object a e c) q (copy.Put t f w))) Go told (seen (Exchange (place.Field c t f) (word.Plain BLANK) (word.Plain w)) st.memory)).event (grind (arith, nat_tests)) (record {
  m_began = λ i k' c' a' e' b' li is bg. by_eq i p (λ eq. let now = subst (λ (l : Stand). scan_of l.scans k' ≡ Some b') (put_stand-same st.stands p i _ eq) is in let (old, was, same, at) = looked-was who (look_finding sh calm (look.Help who (object a e c) q (copy.Put t f w)) (st.memory (place.Field c t f))) (st.stands p).scans k' b' now in let given = mk.m_began p k' c' a' e' old in_n was (subst (λ (j : ℕ). (ms j).began k' (object a' e' c') ≡ true) eq bg) in grind (arith, nat_tests, given)) (λ ne. grind (arith, nat_tests, mk.m_began i k' c' a' e' b' li));
  m_given = λ i k' c' a' e' b' li is vs. by_eq i p (λ eq. let now = subst (λ (l : Stand). scan_of l.scans k' ≡ Some b') (put_stand-same st.stands p i _ eq) is in let (old, was, same, at) = looked-was who (look_finding sh calm (look.Help who (object a e c) q (copy.Put t f w)) (st.memory (place.Field c t f))) (st.stands p).scans k' b' now in let given = mk.m_given p k' c' a' e' old in_n was (subst (λ (j : ℕ). (ms j).visited k' (object a' e' c') ≡ true) eq vs) in grind (arith, nat_tests, given)) (λ ne. grind (arith, nat_tests, mk.m_given i k' c' a' e' b' li));
  m_coll = λ i k' c' a' e' b' li is vs. by_eq i p (λ eq. let now = subst (λ (l : Stand). scan_of l.scans k' ≡ Some b') (put_stand-same st.stands p i _ eq) is in let (old, was, same, at) = looked-was who (look_finding sh calm (look.Help who (object a e c) q (copy.Put t f w)) (st.memory (place.Field c t f))) (st.stands p).scans k' b' now in same ∙ mk.m_coll p k' c' a' e' old in_n was (subst (λ (j : ℕ). (ms j).visited k' (object a' e' c') ≡ true) eq vs)) (λ ne. grind (arith, nat_tests, mk.m_coll i k' c' a' e' b' li));
  m_met = λ i k' c' a' e' s' b' li is of bg pr lt. by_eq i p (λ eq. let now = subst (λ (l : Stand). scan_of l.scans k' ≡ Some b') (put_stand-same st.stands p i _ eq) is in let (old, was, same, at) = looked-was who (look_finding sh calm (look.Help who (object a e c) q (copy.Put t f w)) (st.memory (place.Field c t f))) (st.stands p).scans k' b' now in subst (λ (j : ℕ). (ms j).visited k' (object a' e' c') ≡ true) (sym eq) (elim at [ inl kept ↦ mk.m_met p k' c' a' e' s' old in_n was (sym same ∙ of) (subst (λ (j : ℕ). (ms j).began k' (object a' e' c') ≡ true) eq bg) pr (subst (λ (z : ℕ). s' < z) kept lt) | inr left ↦ (let (c0, t0, who0, step0, decided) = left in absurd (cc)) ])) (λ ne. grind (arith, nat_tests, mk.m_met i k' c' a' e' s' b' li));
  m_once = λ i k' c' a' e' s' b' li is vs pr. by_eq i p (λ eq. let now = subst (λ (l : Stand). scan_of l.scans k' ≡ Some b') (put_stand-same st.stands p i _ eq) is in let (old, was, same, at) = looked-was who (look_finding sh calm (look.Help who (object a e c) q (copy.Put t f w)) (st.memory (place.Field c t f))) (st.stands p).scans k' b' now in let before = mk.m_once p k' c' a' e' s' old in_n was (subst (λ (j : ℕ). (ms j).visited k' (object a' e' c') ≡ true) eq vs) pr in elim at [ inl kept ↦ subst (λ (z : ℕ). s' < z) (sym kept) before | inr left ↦ (let (c0, t0, who0, step0, decided) = left in absurd (cc)) ]) (λ ne. grind (arith, nat_tests, mk.m_once i k' c' a' e' s' b' li));
})

-- kind Swing
pub l_swing : (ms : ℕ → Marks) (sh : Layout) (st : S.State) (p : ℕ) (x : ℕ) (calm : Bool) (who : Seeker) (c : ℕ) (a : ℕ) (e : ℕ) (q : ℕ) (t : ℕ) (told : ℕ) → p < sh.passes → (st.stands p).section ≡ Inside x calm → (st.stands p).phase ≡ phase.Look (look.Help who (object a e c) q (copy.Swing t)) → Shut sh st → ScansAgree sh st → MarksAgree sh st ms → IsHere st
    → KeepsMarks ms sh st p Go (Inside x calm) (phase.Look (look.Help who (object a e c) q (copy.Swing t))) told (Exchange (place.Entry c e) (word.Entry (state.Locked a q)) (word.Entry (state.Present a t)))
l_swing ms sh st p x calm who c a e q t told in_n at_sec at_call h r mk hr = record {
  m_began = λ i k' c' a' e' b' li is bg. by_eq i p (λ eq. let now = subst (λ (l : Stand). scan_of l.scans k' ≡ Some b') (put_stand-same st.stands p i _ eq) is in let (old, was, same, at) = looked-was who (look_finding sh calm (look.Help who (object a e c) q (copy.Swing t)) (st.memory (place.Entry c e))) (st.stands p).scans k' b' now in let bg0 : (ms p).began k' (object a' e' c') ≡ true = subst (λ (y : ℕ → Number → Bool). y k' (object a' e' c') ≡ true) (looked-began sh who (object a e c) (look_finding sh calm (look.Help who (object a e c) q (copy.Swing t)) (st.memory (place.Entry c e))) st.world (ms p)) (subst (λ (x : Marks). x.began k' (object a' e' c') ≡ true) (put-mine ms p i (marks_told st.world (ms p) (look_change sh who (object a e c) (look_finding sh calm (look.Help who (object a e c) q (copy.Swing t)) (st.memory (place.Entry c e)))).event) eq) bg) in let given = mk.m_began p k' c' a' e' old in_n was bg0 in grind (arith, nat_tests, given)) (λ ne. grind (arith, nat_tests, mk.m_began i k' c' a' e' b' li, put-other ms p i (marks_told st.world (ms p) (look_change sh who (object a e c) (look_finding sh calm (look.Help who (object a e c) q (copy.Swing t)) (st.memory (place.Entry c e)))).event) ne));
  m_given = λ i k' c' a' e' b' li is vs. by_eq i p (λ eq. let now = subst (λ (l : Stand). scan_of l.scans k' ≡ Some b') (put_stand-same st.stands p i _ eq) is in let (old, was, same, at) = looked-was who (look_finding sh calm (look.Help who (object a e c) q (copy.Swing t)) (st.memory (place.Entry c e))) (st.stands p).scans k' b' now in let vs0 = looked-visited sh who (object a e c) (look_finding sh calm (look.Help who (object a e c) q (copy.Swing t)) (st.memory (place.Entry c e))) st.world (ms p) k' (object a' e' c') (subst (λ (x : Marks). x.visited k' (object a' e' c') ≡ true) (put-mine ms p i (marks_told st.world (ms p) (look_change sh who (object a e c) (look_finding sh calm (look.Help who (object a e c) q (copy.Swing t)) (st.memory (place.Entry c e)))).event) eq) vs) in elim vs0 [ inl before ↦ (let given = mk.m_given p k' c' a' e' old in_n was before in grind (arith, nat_tests, given)) | inr fresh_one ↦ (let (c1, t1, who1, stays, same_n) = fresh_one in grind (arith, nat_tests, same_n, stays)) ]) (λ ne. grind (arith, nat_tests, mk.m_given i k' c' a' e' b' li, put-other ms p i (marks_told st.world (ms p) (look_change sh who (object a e c) (look_finding sh calm (look.Help who (object a e c) q (copy.Swing t)) (st.memory (place.Entry c e)))).event) ne));
  m_coll = λ i k' c' a' e' b' li is vs. by_eq i p (λ eq. let now = subst (λ (l : Stand). scan_of l.scans k' ≡ Some b') (put_stand-same st.stands p i _ eq) is in let (old, was, same, at) = looked-was who (look_finding sh calm (look.Help who (object a e c) q (copy.Swing t)) (st.memory (place.Entry c e))) (st.stands p).scans k' b' now in let vs0 = looked-visited sh who (object a e c) (look_finding sh calm (look.Help who (object a e c) q (copy.Swing t)) (st.memory (place.Entry c e))) st.world (ms p) k' (object a' e' c') (subst (λ (x : Marks). x.visited k' (object a' e' c') ≡ true) (put-mine ms p i (marks_told st.world (ms p) (look_change sh who (object a e c) (look_finding sh calm (look.Help who (object a e c) q (copy.Swing t)) (st.memory (place.Entry c e)))).event) eq) vs) in elim vs0 [ inl before ↦ same ∙ mk.m_coll p k' c' a' e' old in_n was before | inr fresh_one ↦ (let (c1, t1, who1, stays, same_n) = fresh_one in let spot = visited_place who (look_finding sh calm (look.Help who (object a e c) q (copy.Swing t)) (st.memory (place.Entry c e))) (st.stands p).scans k' c1 t1 b' who1 stays (r.s_place p k' c1 t1 in_n (subst (λ (next : Phase). scan_at next ≡ Some (k', (c1, t1))) (sym at_call) (ap seeker_at who1))) now in let hm : c ≡ c1 = r.s_home p c1 t1 a e c in_n (subst (λ (next : Phase). sought_at next ≡ Some ((c1, t1), object a e c)) (sym at_call) (subst (λ (y : Seeker). seeker_owner y (object a e c) ≡ Some ((c1, t1), object a e c)) (sym who1) refl)) in grind (arith, spot, hm, same_n)) ]) (λ ne. grind (arith, nat_tests, mk.m_coll i k' c' a' e' b' li, put-other ms p i (marks_told st.world (ms p) (look_change sh who (object a e c) (look_finding sh calm (look.Help who (object a e c) q (copy.Swing t)) (st.memory (place.Entry c e)))).event) ne));
  m_met = λ i k' c' a' e' s' b' li is of bg pr lt. by_eq i p (λ eq. let now = subst (λ (l : Stand). scan_of l.scans k' ≡ Some b') (put_stand-same st.stands p i _ eq) is in let (old, was, same, at) = looked-was who (look_finding sh calm (look.Help who (object a e c) q (copy.Swing t)) (st.memory (place.Entry c e))) (st.stands p).scans k' b' now in let bg0 : (ms p).began k' (object a' e' c') ≡ true = subst (λ (y : ℕ → Number → Bool). y k' (object a' e' c') ≡ true) (looked-began sh who (object a e c) (look_finding sh calm (look.Help who (object a e c) q (copy.Swing t)) (st.memory (place.Entry c e))) st.world (ms p)) (subst (λ (x : Marks). x.began k' (object a' e' c') ≡ true) (put-mine ms p i (marks_told st.world (ms p) (look_change sh who (object a e c) (look_finding sh calm (look.Help who (object a e c) q (copy.Swing t)) (st.memory (place.Entry c e)))).event) eq) bg) in let early : s' < old.place → (ms p).visited k' (object a' e' c') ≡ true = λ lt0. by_true (same_word (st.memory (place.Entry c e)) (word.Entry (state.Locked a q)) && (e' == e && c' == c)) (λ sw. let lk : state_in st.memory c e ≡ state.Locked a q = grind (arith, nat_tests, sw) in let low : old.place ≤ forward_in st.memory c q = r.s_locked p k' c a e q old in_n lk was (grind (arith, nat_tests, sw, same, of)) in absurd (grind (arith, nat_tests, lt0, sw, pr, low, (copies h).j_led p c a e q (copy.Swing t) in_n))) (λ ns. mk.m_met p k' c' a' e' s' old in_n was (sym same ∙ of) bg0 (grind (arith, nat_tests, pr, ns)) lt0) in subst (λ (x : Marks). x.visited k' (object a' e' c') ≡ true) (sym (put-mine ms p i (marks_told st.world (ms p) (look_change sh who (object a e c) (look_finding sh calm (look.Help who (object a e c) q (copy.Swing t)) (st.memory (place.Entry c e)))).event) eq)) (elim at [ inl kept ↦ looked-stays sh who (object a e c) (look_finding sh calm (look.Help who (object a e c) q (copy.Swing t)) (st.memory (place.Entry c e))) st.world (ms p) k' (object a' e' c') (early (subst (λ (y : ℕ). s' < y) kept lt)) | inr left ↦ (let (c0, t0, who0, step0, decided) = left in let place_so = look_place sh st h r p k' c0 t0 old (look.Help who (object a e c) q (copy.Swing t)) in_n at_call who0 was in by_eq s' t0 (λ sl. let own_back = look_back sh st h r p k' c0 t0 a e c (look.Help who (object a e c) q (copy.Swing t)) in_n at_call who0 refl in let cc0 : c' ≡ c0 = (sym (sym same ∙ of) ∙ place_so.0) in let same_n : (object a' e' c') ≡ (object a e c) = by_true (same_word (st.memory (place.Entry c e)) (word.Entry (state.Locked a q)) && (e' == e && c' == c)) (λ sw. grind (arith, nat_tests, sw, pr)) (λ ns. same_owner sh st h c' a' e' s' c0 t0 a e c (grind (arith, nat_tests, pr, ns)) sl cc0 own_back) in let pr0 : present_at (if same_word (st.memory (place.Entry c e)) (word.Entry (state.Locked a q)) then state.Present a t else state_in st.memory c e) ≡ Some (a, t0) = grind (arith, nat_tests, pr, same_n, sl) in let stays : (look_finding sh calm (look.Help who (object a e c) q (copy.Swing t)) (st.memory (place.Entry c e))) ≡ Stays t0 = swung_at (same_word (st.memory (place.Entry c e)) (word.Entry (state.Locked a q))) a t t0 (state_in st.memory c e) pr0 decided in subst (λ (y : Number). (marks_told st.world (ms p) (look_change sh who (object a e c) (look_finding sh calm (look.Help who (object a e c) q (copy.Swing t)) (st.memory (place.Entry c e)))).event).visited k' y ≡ true) (sym same_n) (visit_marks sh who (object a e c) (look_finding sh calm (look.Help who (object a e c) q (copy.Swing t)) (st.memory (place.Entry c e))) st.world (ms p) k' c0 t0 who0 stays)) (λ nt. looked-stays sh who (object a e c) (look_finding sh calm (look.Help who (object a e c) q (copy.Swing t)) (st.memory (place.Entry c e))) st.world (ms p) k' (object a' e' c') (early (omega (arith, nt, lt, step0, place_so.1))))) ])) (λ ne. grind (arith, nat_tests, mk.m_met i k' c' a' e' s' b' li, r.s_locked i k' c a e q b' li, (copies h).j_led p c a e q (copy.Swing t) in_n, put-other ms p i (marks_told st.world (ms p) (look_change sh who (object a e c) (look_finding sh calm (look.Help who (object a e c) q (copy.Swing t)) (st.memory (place.Entry c e)))).event) ne));
  m_once = λ i k' c' a' e' s' b' li is vs pr. by_eq i p (λ eq. let now = subst (λ (l : Stand). scan_of l.scans k' ≡ Some b') (put_stand-same st.stands p i _ eq) is in let (old, was, same, at) = looked-was who (look_finding sh calm (look.Help who (object a e c) q (copy.Swing t)) (st.memory (place.Entry c e))) (st.stands p).scans k' b' now in let vs0 = looked-visited sh who (object a e c) (look_finding sh calm (look.Help who (object a e c) q (copy.Swing t)) (st.memory (place.Entry c e))) st.world (ms p) k' (object a' e' c') (subst (λ (x : Marks). x.visited k' (object a' e' c') ≡ true) (put-mine ms p i (marks_told st.world (ms p) (look_change sh who (object a e c) (look_finding sh calm (look.Help who (object a e c) q (copy.Swing t)) (st.memory (place.Entry c e)))).event) eq) vs) in elim vs0 [ inl before ↦ (let early : s' < old.place = by_true (same_word (st.memory (place.Entry c e)) (word.Entry (state.Locked a q)) && (e' == e && c' == c)) (λ sw. let lk : state_in st.memory c e ≡ state.Locked a q = grind (arith, nat_tests, sw) in let as_before : (ms p).visited k' (object a e c) ≡ true = subst (λ (y : Number). (ms p).visited k' y ≡ true) (grind (arith, nat_tests, sw, pr)) before in let high = mk.m_once p k' c a e q old in_n was as_before (grind (arith, lk)) in let low = r.s_locked p k' c a e q old in_n lk was (mk.m_coll p k' c a e old in_n was as_before) in let aim = (moves h).locked c a e q lk in absurd (omega (arith, high, low, aim.3))) (λ ns. mk.m_once p k' c' a' e' s' old in_n was before (grind (arith, nat_tests, pr, ns))) in elim at [ inl kept ↦ subst (λ (y : ℕ). s' < y) (sym kept) early | inr left ↦ (let (c0, t0, who0, step0, decided) = left in let place_so = look_place sh st h r p k' c0 t0 old (look.Help who (object a e c) q (copy.Swing t)) in_n at_call who0 was in omega (arith, early, step0, place_so.1)) ]) | inr fresh_one ↦ (let (c1, t1, who1, stays, same_n) = fresh_one in let spot = visited_place who (look_finding sh calm (look.Help who (object a e c) q (copy.Swing t)) (st.memory (place.Entry c e))) (st.stands p).scans k' c1 t1 b' who1 stays (r.s_place p k' c1 t1 in_n (subst (λ (next : Phase). scan_at next ≡ Some (k', (c1, t1))) (sym at_call) (ap seeker_at who1))) now in let pr0 : present_at (if same_word (st.memory (place.Entry c e)) (word.Entry (state.Locked a q)) then state.Present a t else state_in st.memory c e) ≡ Some (a, s') = grind (arith, nat_tests, pr, same_n) in let decided : is_decided (look_finding sh calm (look.Help who (object a e c) q (copy.Swing t)) (st.memory (place.Entry c e))) ≡ true = subst (λ (y : Finding). is_decided y ≡ true) (sym stays) refl in let stays' : (look_finding sh calm (look.Help who (object a e c) q (copy.Swing t)) (st.memory (place.Entry c e))) ≡ Stays s' = swung_at (same_word (st.memory (place.Entry c e)) (word.Entry (state.Locked a q))) a t s' (state_in st.memory c e) pr0 decided in grind (arith, stays, stays', spot)) ]) (λ ne. grind (arith, nat_tests, mk.m_once i k' c' a' e' s' b' li, r.s_locked i k' c a e q b' li, mk.m_once i k' c a e q b' li, mk.m_coll i k' c a e b' li, (moves h).locked c a e q, (copies h).j_led p c a e q (copy.Swing t) in_n, put-other ms p i (marks_told st.world (ms p) (look_change sh who (object a e c) (look_finding sh calm (look.Help who (object a e c) q (copy.Swing t)) (st.memory (place.Entry c e)))).event) ne));
}
