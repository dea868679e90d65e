-- Steps keep the agreement: scans, looks. Written by tools/laws.py.
use Rattle.std.proofs.Common.{◌≡◌, ℕ, ◌<◌, ◌≤◌, Bool, true, false, Some, refl, sym, subst, inl, inr, arith}
use Rattle.std.proofs.lemmas.Bool.Decides.{nat_tests}
use Rattle.smc_shape.specs.Layout.{Layout}
use Rattle.smc_shape.specs.declared.place.Place.TheVariants as place
use Rattle.smc_core.specs.declared.call.Call.TheVariants as call
use Rattle.smc_core.specs.declared.call.Choice.TheVariants.{Start, Go}
use Rattle.smc_core.specs.declared.op.Op.TheVariants.{Load, Exchange}
use Rattle.smc_core.specs.declared.phase.Phase.{Phase}
use Rattle.smc_core.specs.declared.phase.Phase.TheVariants as phase
use Rattle.smc_core.specs.declared.phase.objects.LookPhase.TheVariants as look
use Rattle.smc_core.specs.declared.phase.objects.Seeker.{Seeker}
use Rattle.smc_core.specs.declared.section.Section.TheVariants.{Inside}
use Rattle.smc_core.specs.declared.word.State.TheVariants as state
use Rattle.smc_core.specs.declared.word.Word.TheVariants as word
use Rattle.smc_core.specs.Row.{has_place}
use Rattle.smc_core.specs.Scan.{scan_of}
use Rattle.smc_core.specs.declared.local.Stand.{Stand}
use Rattle.smc_rules.specs.Reads.{state_in, forward_in, object}
use Rattle.smc_rules.specs.State as S
use Rattle.smc_rules.specs.State.{put_stand}
use Rattle.smc_rules.proofs.CarryLaws.{put_stand-same}
use Rattle.smc_agreement.proofs.Whole.{Shut, calls, moves, did, sections}
use Rattle.smc_agreement.proofs.CrossLaws.{by_eq}
use Rattle.std.proofs.Common.{◌∙◌}
use Rattle.smc_core.specs.Look.{look_finding}
use Rattle.smc_core.specs.Section.{epoch_of}
use Rattle.smc_inv_scan.specs.Scans.{ScansAgree, IsAt, AreApart, IsPassed, scan_at, scanned_slot, sought_at, ends_of}
use Rattle.smc_inv_scan.proofs.StepViews.{looked-was, looked-apart, looked-at, looked-over, looked-slot, looked-owner}
use Rattle.smc_inv_scan.proofs.PlaceLaws.{look_place, look_back, passed_frozen, passed_locked, load_frozen, load_locked}

-- kind LookUp
pub starts_look : (sh : Layout) (st : S.State) (p : ℕ) (x : ℕ) (calm : Bool) (c : ℕ) (a : ℕ) (e : ℕ) (told : ℕ) → p < sh.passes → (st.stands p).section ≡ Inside x calm → (st.stands p).phase ≡ phase.Idle → has_place sh (place.Entry c e) ≡ true → Shut sh st → ScansAgree sh st
    → ScansAgree sh (did sh st p (Start (call.Look (object a e c))) (Inside x calm) phase.Idle told (Load (place.Entry c e)))
starts_look sh st p x calm c a e told in_n at_sec at_call pre1 h r = record {
  s_apart = λ i li. grind (arith, nat_tests, r.s_apart i li, (calls h).calls p in_n, sections sh st h p in_n);
  s_fresh = λ i k' b' li is. grind (arith, nat_tests, r.s_fresh i k' b' li, (calls h).calls p in_n, sections sh st h p in_n);
  s_within = λ i k' b' li is. grind (arith, nat_tests, r.s_within i k' b' li, (calls h).calls p in_n, sections sh st h p in_n);
  s_place = λ i k' c' s' li is. grind (arith, nat_tests, r.s_place i k' c' s' li, (calls h).calls p in_n, sections sh st h p in_n);
  s_over = λ i k' li is. grind (arith, nat_tests, r.s_over i k' li, (calls h).calls p in_n, sections sh st h p in_n);
  s_dir = λ i c' s' li is. grind (arith, nat_tests, r.s_dir i c' s' li, (calls h).calls p in_n, sections sh st h p in_n);
  s_back = λ i c' s' a' e' d' li is. grind (arith, nat_tests, r.s_back i c' s' a' e' d' li, (calls h).calls p in_n, sections sh st h p in_n);
  s_home = λ i c' s' a' e' d' li is. grind (arith, nat_tests, r.s_home i c' s' a' e' d' li, (calls h).calls p in_n, sections sh st h p in_n);
  s_frozen = λ i k' c' a' e' s' b' r' li fz rd is of lt. grind (arith, nat_tests, r.s_frozen i k' c' a' e' s' b' r' li, (calls h).calls p in_n, sections sh st h p in_n);
  s_locked = λ i k' c' a' e' s' b' li lk is of. grind (arith, nat_tests, r.s_locked i k' c' a' e' s' b' li, (calls h).calls p in_n, sections sh st h p in_n);
}

-- kind LoadSection
pub look_out : (sh : Layout) (st : S.State) (p : ℕ) (x : ℕ) (calm : Bool) (c : ℕ) (a : ℕ) (e : ℕ) (told : ℕ) → p < sh.passes → (st.stands p).section ≡ Inside x calm → (st.stands p).phase ≡ phase.Idle → has_place sh (place.Entry c e) ≡ false → Shut sh st → ScansAgree sh st
    → ScansAgree sh (did sh st p (Start (call.Look (object a e c))) (Inside x calm) phase.Idle told (Load (place.Section p)))
look_out sh st p x calm c a e told in_n at_sec at_call pre1 h r = record {
  s_apart = λ i li. grind (arith, nat_tests, r.s_apart i li, (calls h).calls p in_n, sections sh st h p in_n);
  s_fresh = λ i k' b' li is. grind (arith, nat_tests, r.s_fresh i k' b' li, (calls h).calls p in_n, sections sh st h p in_n);
  s_within = λ i k' b' li is. grind (arith, nat_tests, r.s_within i k' b' li, (calls h).calls p in_n, sections sh st h p in_n);
  s_place = λ i k' c' s' li is. grind (arith, nat_tests, r.s_place i k' c' s' li, (calls h).calls p in_n, sections sh st h p in_n);
  s_over = λ i k' li is. grind (arith, nat_tests, r.s_over i k' li, (calls h).calls p in_n, sections sh st h p in_n);
  s_dir = λ i c' s' li is. grind (arith, nat_tests, r.s_dir i c' s' li, (calls h).calls p in_n, sections sh st h p in_n);
  s_back = λ i c' s' a' e' d' li is. grind (arith, nat_tests, r.s_back i c' s' a' e' d' li, (calls h).calls p in_n, sections sh st h p in_n);
  s_home = λ i c' s' a' e' d' li is. grind (arith, nat_tests, r.s_home i c' s' a' e' d' li, (calls h).calls p in_n, sections sh st h p in_n);
  s_frozen = λ i k' c' a' e' s' b' r' li fz rd is of lt. grind (arith, nat_tests, r.s_frozen i k' c' a' e' s' b' r' li, (calls h).calls p in_n, sections sh st h p in_n);
  s_locked = λ i k' c' a' e' s' b' li lk is of. grind (arith, nat_tests, r.s_locked i k' c' a' e' s' b' li, (calls h).calls p in_n, sections sh st h p in_n);
}

-- kind LookUp
pub look_load : (sh : Layout) (st : S.State) (p : ℕ) (x : ℕ) (calm : Bool) (who : Seeker) (c : ℕ) (a : ℕ) (e : ℕ) (told : ℕ) → p < sh.passes → (st.stands p).section ≡ Inside x calm → (st.stands p).phase ≡ phase.Look (look.Load who (object a e c)) → Shut sh st → ScansAgree sh st
    → ScansAgree sh (did sh st p Go (Inside x calm) (phase.Look (look.Load who (object a e c))) told (Load (place.Entry c e)))
look_load sh st p x calm who c a e told in_n at_sec at_call h r = record {
  s_apart = λ i li. by_eq i p (λ eq. subst (λ (l : Stand). AreApart l.scans) (sym (put_stand-same st.stands p i _ eq)) (looked-apart who (look_finding sh calm (look.Load who (object a e c)) (st.memory (place.Entry c e))) (st.stands p).scans (r.s_apart p in_n))) (λ ne. grind (arith, nat_tests, r.s_apart i li));
  s_fresh = λ i k' b' li is. by_eq i p (λ eq. let now = subst (λ (l : Stand). scan_of l.scans k' ≡ Some b') (put_stand-same st.stands p i _ eq) is in let (old, was, same, at) = looked-was who (look_finding sh calm (look.Load who (object a e c)) (st.memory (place.Entry c e))) (st.stands p).scans k' b' now in let below' = r.s_fresh p k' old in_n was in grind (arith, nat_tests, below')) (λ ne. grind (arith, nat_tests, r.s_fresh i k' b' li));
  s_within = λ i k' b' li is. grind (arith, nat_tests, r.s_within i k' b' li, (calls h).calls p in_n, sections sh st h p in_n);
  s_place = λ i k' c' s' li is. by_eq i p (λ eq. let now = subst (λ (l : Stand). scan_at l.phase ≡ Some (k', (c', s'))) (put_stand-same st.stands p i _ eq) is in subst (λ (l : Stand). IsAt c' s' (scan_of l.scans k')) (sym (put_stand-same st.stands p i _ eq)) (looked-at sh who (object a e c) (look_finding sh calm (look.Load who (object a e c)) (st.memory (place.Entry c e))) (st.stands p).scans k' c' s' (λ k1 c1 t1 is1. r.s_place p k1 c1 t1 in_n (subst (λ (next : Phase). scan_at next ≡ Some (k1, (c1, t1))) (sym at_call) is1)) now)) (λ ne. grind (arith, nat_tests, r.s_place i k' c' s' li));
  s_over = λ i k' li is. by_eq i p (λ eq. let now = subst (λ (l : Stand). ends_of l.phase ≡ Some k') (put_stand-same st.stands p i _ eq) is in subst (λ (l : Stand). IsPassed sh (scan_of l.scans k')) (sym (put_stand-same st.stands p i _ eq)) (looked-over sh who (object a e c) (look_finding sh calm (look.Load who (object a e c)) (st.memory (place.Entry c e))) (st.stands p).scans k' (λ k1 c1 t1 is1. r.s_place p k1 c1 t1 in_n (subst (λ (next : Phase). scan_at next ≡ Some (k1, (c1, t1))) (sym at_call) is1)) now)) (λ ne. grind (arith, nat_tests, r.s_over i k' li));
  s_dir = λ i c' s' li is. by_eq i p (λ eq. let now = subst (λ (l : Stand). scanned_slot l.phase ≡ Some (c', s')) (put_stand-same st.stands p i _ eq) is in let seen_so = r.s_dir p c' s' in_n (subst (λ (next : Phase). scanned_slot next ≡ Some (c', s')) (sym at_call) (looked-slot sh who (object a e c) (look_finding sh calm (look.Load who (object a e c)) (st.memory (place.Entry c e))) (c', s') now)) in grind (arith, nat_tests, seen_so)) (λ ne. grind (arith, nat_tests, r.s_dir i c' s' li));
  s_back = λ i c' s' a' e' d' li is. by_eq i p (λ eq. let now = subst (λ (l : Stand). sought_at l.phase ≡ Some ((c', s'), object a' e' d')) (put_stand-same st.stands p i _ eq) is in let named = r.s_back p c' s' a' e' d' in_n (subst (λ (next : Phase). sought_at next ≡ Some ((c', s'), object a' e' d')) (sym at_call) (looked-owner sh who (object a e c) (look_finding sh calm (look.Load who (object a e c)) (st.memory (place.Entry c e))) (c', s') (object a' e' d') now)) in grind (arith, nat_tests, named)) (λ ne. grind (arith, nat_tests, r.s_back i c' s' a' e' d' li));
  s_home = λ i c' s' a' e' d' li is. by_eq i p (λ eq. let now = subst (λ (l : Stand). sought_at l.phase ≡ Some ((c', s'), object a' e' d')) (put_stand-same st.stands p i _ eq) is in let named = r.s_home p c' s' a' e' d' in_n (subst (λ (next : Phase). sought_at next ≡ Some ((c', s'), object a' e' d')) (sym at_call) (looked-owner sh who (object a e c) (look_finding sh calm (look.Load who (object a e c)) (st.memory (place.Entry c e))) (c', s') (object a' e' d') now)) in grind (arith, nat_tests, named)) (λ ne. grind (arith, nat_tests, r.s_home i c' s' a' e' d' li));
  s_frozen = λ i k' c' a' e' s' b' r' li fz rd is of lt. by_eq i p (λ eq. let now = subst (λ (l : Stand). scan_of l.scans k' ≡ Some b') (put_stand-same st.stands p i _ eq) is in let fz0 : state_in st.memory c' e' ≡ state.Frozen a' s' = fz in let (old, was, same, at) = looked-was who (look_finding sh calm (look.Load who (object a e c)) (st.memory (place.Entry c e))) (st.stands p).scans k' b' now in let bound : epoch_of (st.stands p).section ≤ r'.bound = elim at [ inl kept ↦ r.s_frozen p k' c' a' e' s' old r' in_n fz0 rd was (sym same ∙ of) (subst (λ (z : ℕ). forward_in st.memory c' s' < z) kept lt) | inr left ↦ let (c0, t0, who0, step0, decided) = left in let own_back = (look_back sh st h r p k' c0 t0 a e c (look.Load who (object a e c)) in_n at_call who0 refl) in passed_frozen sh st h r p k' c0 t0 c' a' e' s' b'.place old r' in_n fz0 rd was (sym same ∙ of) (look_place sh st h r p k' c0 t0 old (look.Load who (object a e c)) in_n at_call who0 was) step0 lt (λ nm inc hm. load_frozen sh st h r p x c a e s' calm r' in_n at_sec rd (grind (arith, own_back, nm, fz0)) decided) ] in grind (arith, nat_tests, bound)) (λ ne. grind (arith, nat_tests, r.s_frozen i k' c' a' e' s' b' r' li));
  s_locked = λ i k' c' a' e' s' b' li lk is of. by_eq i p (λ eq. let now = subst (λ (l : Stand). scan_of l.scans k' ≡ Some b') (put_stand-same st.stands p i _ eq) is in let lk0 : state_in st.memory c' e' ≡ state.Locked a' s' = lk in let (old, was, same, at) = looked-was who (look_finding sh calm (look.Load who (object a e c)) (st.memory (place.Entry c e))) (st.stands p).scans k' b' now in let bound : b'.place ≤ forward_in st.memory c' s' = elim at [ inl kept ↦ subst (λ (z : ℕ). z ≤ forward_in st.memory c' s') (sym kept) (r.s_locked p k' c' a' e' s' old in_n lk0 was (sym same ∙ of)) | inr left ↦ let (c0, t0, who0, step0, decided) = left in let own_back = (look_back sh st h r p k' c0 t0 a e c (look.Load who (object a e c)) in_n at_call who0 refl) in passed_locked sh st h r p k' c0 t0 c' a' e' s' b'.place old in_n lk0 was (sym same ∙ of) (look_place sh st h r p k' c0 t0 old (look.Load who (object a e c)) in_n at_call who0 was) step0 (λ nm inc hm. load_locked sh st h r p x c a e s' calm in_n at_sec (grind (arith, own_back, nm, lk0)) decided) ] in grind (arith, nat_tests, bound)) (λ ne. grind (arith, nat_tests, r.s_locked i k' c' a' e' s' b' li));
}

-- kind Unfreeze
pub abandon : (sh : Layout) (st : S.State) (p : ℕ) (x : ℕ) (calm : Bool) (who : Seeker) (c : ℕ) (a : ℕ) (e : ℕ) (q : ℕ) (told : ℕ) → p < sh.passes → (st.stands p).section ≡ Inside x calm → (st.stands p).phase ≡ phase.Look (look.Abandon who (object a e c) q) → Shut sh st → ScansAgree sh st
    → ScansAgree sh (did sh st p Go (Inside x calm) (phase.Look (look.Abandon who (object a e c) q)) told (Exchange (place.Entry c e) (word.Entry (state.Frozen a q)) (word.Entry (state.Present a q))))
abandon sh st p x calm who c a e q told in_n at_sec at_call h r = record {
  s_apart = λ i li. by_eq i p (λ eq. subst (λ (l : Stand). AreApart l.scans) (sym (put_stand-same st.stands p i _ eq)) (looked-apart who (look_finding sh calm (look.Abandon who (object a e c) q) (st.memory (place.Entry c e))) (st.stands p).scans (r.s_apart p in_n))) (λ ne. grind (arith, nat_tests, r.s_apart i li));
  s_fresh = λ i k' b' li is. by_eq i p (λ eq. let now = subst (λ (l : Stand). scan_of l.scans k' ≡ Some b') (put_stand-same st.stands p i _ eq) is in let (old, was, same, at) = looked-was who (look_finding sh calm (look.Abandon who (object a e c) q) (st.memory (place.Entry c e))) (st.stands p).scans k' b' now in let below' = r.s_fresh p k' old in_n was in grind (arith, nat_tests, below')) (λ ne. grind (arith, nat_tests, r.s_fresh i k' b' li));
  s_within = λ i k' b' li is. grind (arith, nat_tests, r.s_within i k' b' li, (calls h).calls p in_n, sections sh st h p in_n);
  s_place = λ i k' c' s' li is. by_eq i p (λ eq. let now = subst (λ (l : Stand). scan_at l.phase ≡ Some (k', (c', s'))) (put_stand-same st.stands p i _ eq) is in subst (λ (l : Stand). IsAt c' s' (scan_of l.scans k')) (sym (put_stand-same st.stands p i _ eq)) (looked-at sh who (object a e c) (look_finding sh calm (look.Abandon who (object a e c) q) (st.memory (place.Entry c e))) (st.stands p).scans k' c' s' (λ k1 c1 t1 is1. r.s_place p k1 c1 t1 in_n (subst (λ (next : Phase). scan_at next ≡ Some (k1, (c1, t1))) (sym at_call) is1)) now)) (λ ne. grind (arith, nat_tests, r.s_place i k' c' s' li));
  s_over = λ i k' li is. by_eq i p (λ eq. let now = subst (λ (l : Stand). ends_of l.phase ≡ Some k') (put_stand-same st.stands p i _ eq) is in subst (λ (l : Stand). IsPassed sh (scan_of l.scans k')) (sym (put_stand-same st.stands p i _ eq)) (looked-over sh who (object a e c) (look_finding sh calm (look.Abandon who (object a e c) q) (st.memory (place.Entry c e))) (st.stands p).scans k' (λ k1 c1 t1 is1. r.s_place p k1 c1 t1 in_n (subst (λ (next : Phase). scan_at next ≡ Some (k1, (c1, t1))) (sym at_call) is1)) now)) (λ ne. grind (arith, nat_tests, r.s_over i k' li));
  s_dir = λ i c' s' li is. by_eq i p (λ eq. let now = subst (λ (l : Stand). scanned_slot l.phase ≡ Some (c', s')) (put_stand-same st.stands p i _ eq) is in let seen_so = r.s_dir p c' s' in_n (subst (λ (next : Phase). scanned_slot next ≡ Some (c', s')) (sym at_call) (looked-slot sh who (object a e c) (look_finding sh calm (look.Abandon who (object a e c) q) (st.memory (place.Entry c e))) (c', s') now)) in grind (arith, nat_tests, seen_so)) (λ ne. grind (arith, nat_tests, r.s_dir i c' s' li));
  s_back = λ i c' s' a' e' d' li is. by_eq i p (λ eq. let now = subst (λ (l : Stand). sought_at l.phase ≡ Some ((c', s'), object a' e' d')) (put_stand-same st.stands p i _ eq) is in let named = r.s_back p c' s' a' e' d' in_n (subst (λ (next : Phase). sought_at next ≡ Some ((c', s'), object a' e' d')) (sym at_call) (looked-owner sh who (object a e c) (look_finding sh calm (look.Abandon who (object a e c) q) (st.memory (place.Entry c e))) (c', s') (object a' e' d') now)) in grind (arith, nat_tests, named)) (λ ne. grind (arith, nat_tests, r.s_back i c' s' a' e' d' li));
  s_home = λ i c' s' a' e' d' li is. by_eq i p (λ eq. let now = subst (λ (l : Stand). sought_at l.phase ≡ Some ((c', s'), object a' e' d')) (put_stand-same st.stands p i _ eq) is in let named = r.s_home p c' s' a' e' d' in_n (subst (λ (next : Phase). sought_at next ≡ Some ((c', s'), object a' e' d')) (sym at_call) (looked-owner sh who (object a e c) (look_finding sh calm (look.Abandon who (object a e c) q) (st.memory (place.Entry c e))) (c', s') (object a' e' d') now)) in grind (arith, nat_tests, named)) (λ ne. grind (arith, nat_tests, r.s_home i c' s' a' e' d' li));
  s_frozen = λ i k' c' a' e' s' b' r' li fz rd is of lt. by_eq i p (λ eq. let now = subst (λ (l : Stand). scan_of l.scans k' ≡ Some b') (put_stand-same st.stands p i _ eq) is in let fz0 : state_in st.memory c' e' ≡ state.Frozen a' s' = grind (arith, nat_tests, fz) in let (old, was, same, at) = looked-was who (look_finding sh calm (look.Abandon who (object a e c) q) (st.memory (place.Entry c e))) (st.stands p).scans k' b' now in let bound : epoch_of (st.stands p).section ≤ r'.bound = elim at [ inl kept ↦ r.s_frozen p k' c' a' e' s' old r' in_n fz0 rd was (sym same ∙ of) (subst (λ (z : ℕ). forward_in st.memory c' s' < z) kept lt) | inr left ↦ let (c0, t0, who0, step0, decided) = left in let own_back = (look_back sh st h r p k' c0 t0 a e c (look.Abandon who (object a e c) q) in_n at_call who0 refl) in passed_frozen sh st h r p k' c0 t0 c' a' e' s' b'.place old r' in_n fz0 rd was (sym same ∙ of) (look_place sh st h r p k' c0 t0 old (look.Abandon who (object a e c) q) in_n at_call who0 was) step0 lt (λ nm inc hm. grind (arith, nat_tests, own_back, nm, fz, fz0, at_sec, (moves h).abandon p c a e s' q r' in_n)) ] in grind (arith, nat_tests, bound)) (λ ne. grind (arith, nat_tests, r.s_frozen i k' c' a' e' s' b' r' li));
  s_locked = λ i k' c' a' e' s' b' li lk is of. by_eq i p (λ eq. let now = subst (λ (l : Stand). scan_of l.scans k' ≡ Some b') (put_stand-same st.stands p i _ eq) is in let lk0 : state_in st.memory c' e' ≡ state.Locked a' s' = grind (arith, nat_tests, lk) in let (old, was, same, at) = looked-was who (look_finding sh calm (look.Abandon who (object a e c) q) (st.memory (place.Entry c e))) (st.stands p).scans k' b' now in let bound : b'.place ≤ forward_in st.memory c' s' = elim at [ inl kept ↦ subst (λ (z : ℕ). z ≤ forward_in st.memory c' s') (sym kept) (r.s_locked p k' c' a' e' s' old in_n lk0 was (sym same ∙ of)) | inr left ↦ let (c0, t0, who0, step0, decided) = left in let own_back = (look_back sh st h r p k' c0 t0 a e c (look.Abandon who (object a e c) q) in_n at_call who0 refl) in passed_locked sh st h r p k' c0 t0 c' a' e' s' b'.place old in_n lk0 was (sym same ∙ of) (look_place sh st h r p k' c0 t0 old (look.Abandon who (object a e c) q) in_n at_call who0 was) step0 (λ nm inc hm. grind (arith, nat_tests, own_back, nm, lk, lk0, decided)) ] in grind (arith, nat_tests, bound)) (λ ne. grind (arith, nat_tests, r.s_locked i k' c' a' e' s' b' li));
}
