-- Steps keep the agreement: scans, scans. Written by tools/laws.py.
use Rattle.std.proofs.Common.{◌≡◌, ℕ, ◌<◌, ◌≤◌, Bool, true, false, Some, List, refl, sym, subst, inl, inr, arith}
use Rattle.std.proofs.lemmas.Bool.Decides.{nat_tests}
use Rattle.smc_shape.specs.Layout.{Layout}
use Rattle.smc_shape.specs.declared.place.Place.TheVariants as place
use Rattle.smc_core.specs.declared.call.Call.TheVariants as call
use Rattle.smc_core.specs.declared.call.Choice.TheVariants.{Start, Go}
use Rattle.smc_core.specs.declared.local.Scan.{Scan}
use Rattle.smc_core.specs.declared.op.Op.TheVariants.{Load}
use Rattle.smc_core.specs.declared.phase.Phase.{Phase}
use Rattle.smc_core.specs.declared.phase.Phase.TheVariants as phase
use Rattle.smc_core.specs.declared.phase.moves.Count.{Count}
use Rattle.smc_core.specs.declared.phase.moves.CountPhase.TheVariants as walk
use Rattle.smc_core.specs.declared.phase.objects.ScanPhase.TheVariants as scan
use Rattle.smc_core.specs.declared.section.Section.TheVariants.{Inside}
use Rattle.smc_core.specs.declared.word.State.TheVariants as state
use Rattle.smc_core.specs.Scan.{scan_of, is_over}
use Rattle.smc_core.specs.declared.local.Stand.{Stand}
use Rattle.smc_inv_range.specs.Calls.{InPhase}
use Rattle.smc_rules.specs.Reads.{state_in, forward_in, object}
use Rattle.smc_rules.specs.State as S
use Rattle.smc_rules.specs.State.{put_stand}
use Rattle.smc_rules.proofs.CarryLaws.{put_stand-same}
use Rattle.smc_agreement.proofs.Whole.{Shut, ranges, calls, did, sections}
use Rattle.smc_agreement.proofs.CrossLaws.{by_eq, back_home}
use Rattle.std.proofs.Common.{◌∙◌, [], ◌∷◌, ◌++◌}
use Rattle.smc_core.specs.declared.change.Change.{Change}
use Rattle.smc_core.specs.Scan.{scan_number, new_scan}
use Rattle.smc_core.specs.Section.{epoch_of}
use Rattle.smc_inv_scan.specs.Scans.{ScansAgree, IsAt, AreApart, IsPassed, scan_at, scanned_slot, sought_at, ends_of}
use Rattle.smc_inv_scan.proofs.ListLaws.{scan_of-number, no_scan, ended-was, ended-apart, begun-was, begun-apart}
use Rattle.smc_inv_scan.proofs.StepViews.{seen_dir-was, seen_dir-apart, seen_dir-at, seen_dir-over, seen_dir-slot, seen_dir-owner, seen_back-was, seen_back-apart, seen_back-at, seen_back-over, seen_back-slot, seen_back-owner, next_slot-scans, next_slot-change, next_over-was, next_over-apart, next_over-phase}
use Rattle.smc_inv_scan.proofs.PlaceLaws.{call_place, passed_frozen, passed_locked}

-- kind LoadSection
pub starts_scan : (sh : Layout) (st : S.State) (p : ℕ) (x : ℕ) (calm : Bool) (c : ℕ) (told : ℕ) → p < sh.passes → (st.stands p).section ≡ Inside x calm → (st.stands p).phase ≡ phase.Idle → Shut sh st → ScansAgree sh st
    → ScansAgree sh (did sh st p (Start (call.Scan c)) (Inside x calm) phase.Idle told (Load (place.Section p)))
starts_scan sh st p x calm c told in_n at_sec at_call h r = record {
  s_apart = λ i li. by_eq i p (λ eq. subst (λ (l : Stand). AreApart l.scans) (sym (put_stand-same st.stands p i _ eq)) (begun-apart (st.stands p).scans (new_scan (scan_number p (st.stands p).begun) c) (r.s_apart p in_n) (no_scan (st.stands p).scans (scan_number p (st.stands p).begun) (λ b0 is0. r.s_fresh p (scan_number p (st.stands p).begun) b0 in_n is0)))) (λ ne. grind (arith, nat_tests, r.s_apart i li));
  s_fresh = λ i k' b' li is. by_eq i p (λ eq. let now = subst (λ (l : Stand). scan_of l.scans k' ≡ Some b') (put_stand-same st.stands p i _ eq) is in elim (begun-was (st.stands p).scans (new_scan (scan_number p (st.stands p).begun) c) k' b' now) [ inl was ↦ (let below' = r.s_fresh p k' b' in_n was in grind (arith, nat_tests, below')) | inr new ↦ (let named = scan_of-number ((st.stands p).scans ++ (new_scan (scan_number p (st.stands p).begun) c) ∷ []) k' b' now in grind (arith, nat_tests, named, new)) ]) (λ ne. grind (arith, nat_tests, r.s_fresh i k' b' li));
  s_within = λ i k' b' li is. grind (arith, nat_tests, r.s_within i k' b' li, (calls h).calls p in_n, sections sh st h p in_n);
  s_place = λ i k' c' s' li is. grind (arith, nat_tests, r.s_place i k' c' s' li, (calls h).calls p in_n, sections sh st h p in_n);
  s_over = λ i k' li is. grind (arith, nat_tests, r.s_over i k' li, (calls h).calls p in_n, sections sh st h p in_n);
  s_dir = λ i c' s' li is. grind (arith, nat_tests, r.s_dir i c' s' li, (calls h).calls p in_n, sections sh st h p in_n);
  s_back = λ i c' s' a' e' d' li is. grind (arith, nat_tests, r.s_back i c' s' a' e' d' li, (calls h).calls p in_n, sections sh st h p in_n);
  s_home = λ i c' s' a' e' d' li is. grind (arith, nat_tests, r.s_home i c' s' a' e' d' li, (calls h).calls p in_n, sections sh st h p in_n);
  s_frozen = λ i k' c' a' e' s' b' r' li fz rd is of lt. by_eq i p (λ eq. let now = subst (λ (l : Stand). scan_of l.scans k' ≡ Some b') (put_stand-same st.stands p i _ eq) is in elim (begun-was (st.stands p).scans (new_scan (scan_number p (st.stands p).begun) c) k' b' now) [ inl was ↦ (let bound = r.s_frozen p k' c' a' e' s' b' r' in_n fz rd was of lt in grind (arith, nat_tests, bound)) | inr new ↦ absurd (grind (arith, new, lt)) ]) (λ ne. grind (arith, nat_tests, r.s_frozen i k' c' a' e' s' b' r' li));
  s_locked = λ i k' c' a' e' s' b' li lk is of. by_eq i p (λ eq. let now = subst (λ (l : Stand). scan_of l.scans k' ≡ Some b') (put_stand-same st.stands p i _ eq) is in elim (begun-was (st.stands p).scans (new_scan (scan_number p (st.stands p).begun) c) k' b' now) [ inl was ↦ r.s_locked p k' c' a' e' s' b' in_n lk was of | inr new ↦ grind (arith, new) ]) (λ ne. grind (arith, nat_tests, r.s_locked i k' c' a' e' s' b' li));
}

-- kind LoadSection
pub next_over : (sh : Layout) (st : S.State) (p : ℕ) (x : ℕ) (calm : Bool) (k : ℕ) (b1 : Scan) (told : ℕ) → p < sh.passes → (st.stands p).section ≡ Inside x calm → (st.stands p).phase ≡ phase.Idle → scan_of (st.stands p).scans k ≡ Some b1 → is_over sh b1 ≡ true → Shut sh st → ScansAgree sh st
    → ScansAgree sh (did sh st p (Start (call.Next k)) (Inside x calm) phase.Idle told (Load (place.Section p)))
next_over sh st p x calm k b1 told in_n at_sec at_call pre1 pre2 h r = record {
  s_apart = λ i li. by_eq i p (λ eq. subst (λ (l : Stand). AreApart l.scans) (sym (put_stand-same st.stands p i _ eq)) (next_over-apart sh (st.stands p).scans k b1 (st.memory (place.Section p)) pre1 pre2 (r.s_apart p in_n))) (λ ne. grind (arith, nat_tests, r.s_apart i li));
  s_fresh = λ i k' b' li is. by_eq i p (λ eq. let now = subst (λ (l : Stand). scan_of l.scans k' ≡ Some b') (put_stand-same st.stands p i _ eq) is in let (old, was, same, at) = next_over-was sh (st.stands p).scans k b1 (st.memory (place.Section p)) k' b' pre1 pre2 now in let below' = r.s_fresh p k' old in_n was in grind (arith, nat_tests, below')) (λ ne. grind (arith, nat_tests, r.s_fresh i k' b' li));
  s_within = λ i k' b' li is. grind (arith, nat_tests, r.s_within i k' b' li, (calls h).calls p in_n, sections sh st h p in_n);
  s_place = λ i k' c' s' li is. grind (arith, nat_tests, r.s_place i k' c' s' li, (calls h).calls p in_n, sections sh st h p in_n, next_over-phase sh (st.stands p).scans k b1 (st.memory (place.Section p)) pre1 pre2);
  s_over = λ i k' li is. grind (arith, nat_tests, r.s_over i k' li, (calls h).calls p in_n, sections sh st h p in_n, next_over-phase sh (st.stands p).scans k b1 (st.memory (place.Section p)) pre1 pre2);
  s_dir = λ i c' s' li is. grind (arith, nat_tests, r.s_dir i c' s' li, (calls h).calls p in_n, sections sh st h p in_n, next_over-phase sh (st.stands p).scans k b1 (st.memory (place.Section p)) pre1 pre2);
  s_back = λ i c' s' a' e' d' li is. grind (arith, nat_tests, r.s_back i c' s' a' e' d' li, (calls h).calls p in_n, sections sh st h p in_n, next_over-phase sh (st.stands p).scans k b1 (st.memory (place.Section p)) pre1 pre2);
  s_home = λ i c' s' a' e' d' li is. grind (arith, nat_tests, r.s_home i c' s' a' e' d' li, (calls h).calls p in_n, sections sh st h p in_n, next_over-phase sh (st.stands p).scans k b1 (st.memory (place.Section p)) pre1 pre2);
  s_frozen = λ i k' c' a' e' s' b' r' li fz rd is of lt. by_eq i p (λ eq. let now = subst (λ (l : Stand). scan_of l.scans k' ≡ Some b') (put_stand-same st.stands p i _ eq) is in let (old, was, same, kept) = next_over-was sh (st.stands p).scans k b1 (st.memory (place.Section p)) k' b' pre1 pre2 now in let bound = r.s_frozen p k' c' a' e' s' old r' in_n fz rd was (sym same ∙ of) (subst (λ (z : ℕ). forward_in st.memory c' s' < z) kept lt) in grind (arith, nat_tests, bound)) (λ ne. grind (arith, nat_tests, r.s_frozen i k' c' a' e' s' b' r' li));
  s_locked = λ i k' c' a' e' s' b' li lk is of. by_eq i p (λ eq. let now = subst (λ (l : Stand). scan_of l.scans k' ≡ Some b') (put_stand-same st.stands p i _ eq) is in let (old, was, same, kept) = next_over-was sh (st.stands p).scans k b1 (st.memory (place.Section p)) k' b' pre1 pre2 now in subst (λ (z : ℕ). z ≤ forward_in st.memory c' s') (sym kept) (r.s_locked p k' c' a' e' s' old in_n lk was (sym same ∙ of))) (λ ne. grind (arith, nat_tests, r.s_locked i k' c' a' e' s' b' li));
}

-- kind LoadDirectory
pub next_slot : (sh : Layout) (st : S.State) (p : ℕ) (x : ℕ) (calm : Bool) (k : ℕ) (b1 : Scan) (told : ℕ) → p < sh.passes → (st.stands p).section ≡ Inside x calm → (st.stands p).phase ≡ phase.Idle → scan_of (st.stands p).scans k ≡ Some b1 → is_over sh b1 ≡ false → Shut sh st → ScansAgree sh st
    → ScansAgree sh (did sh st p (Start (call.Next k)) (Inside x calm) phase.Idle told (Load (place.Directory b1.coll b1.place)))
next_slot sh st p x calm k b1 told in_n at_sec at_call pre1 pre2 h r = record {
  s_apart = λ i li. by_eq i p (λ eq. subst (λ (l : Stand). AreApart l.scans) (sym (put_stand-same st.stands p i _ eq)) (subst AreApart (sym (next_slot-scans sh (st.stands p).scans k b1 (st.memory (place.Directory b1.coll b1.place)) pre1 pre2)) (seen_dir-apart (st.stands p).scans k b1.coll b1.place (st.memory (place.Directory b1.coll b1.place)) (r.s_apart p in_n)))) (λ ne. grind (arith, nat_tests, r.s_apart i li));
  s_fresh = λ i k' b' li is. by_eq i p (λ eq. let now = subst (λ (l : Stand). scan_of l.scans k' ≡ Some b') (put_stand-same st.stands p i _ eq) is in let (old, was, same, at) = seen_dir-was (st.stands p).scans k b1.coll b1.place (st.memory (place.Directory b1.coll b1.place)) k' b' (subst (λ (y : List Scan). scan_of y k' ≡ Some b') (next_slot-scans sh (st.stands p).scans k b1 (st.memory (place.Directory b1.coll b1.place)) pre1 pre2) now) in let below' = r.s_fresh p k' old in_n was in grind (arith, nat_tests, below')) (λ ne. grind (arith, nat_tests, r.s_fresh i k' b' li));
  s_within = λ i k' b' li is. grind (arith, nat_tests, r.s_within i k' b' li, (calls h).calls p in_n, sections sh st h p in_n);
  s_place = λ i k' c' s' li is. by_eq i p (λ eq. let now = subst (λ (l : Stand). scan_at l.phase ≡ Some (k', (c', s'))) (put_stand-same st.stands p i _ eq) is in subst (λ (l : Stand). IsAt c' s' (scan_of l.scans k')) (sym (put_stand-same st.stands p i _ eq)) (subst (λ (y : List Scan). IsAt c' s' (scan_of y k')) (sym (next_slot-scans sh (st.stands p).scans k b1 (st.memory (place.Directory b1.coll b1.place)) pre1 pre2)) (seen_dir-at sh (st.stands p).scans k b1.coll b1.place (st.memory (place.Directory b1.coll b1.place)) k' c' s' (subst (IsAt b1.coll b1.place) (sym pre1) (refl, refl)) (subst (λ (y : Change). scan_at y.phase ≡ Some (k', (c', s'))) (next_slot-change sh (st.stands p).scans k b1 (st.memory (place.Directory b1.coll b1.place)) pre1 pre2) now)))) (λ ne. grind (arith, nat_tests, r.s_place i k' c' s' li));
  s_over = λ i k' li is. by_eq i p (λ eq. let now = subst (λ (l : Stand). ends_of l.phase ≡ Some k') (put_stand-same st.stands p i _ eq) is in subst (λ (l : Stand). IsPassed sh (scan_of l.scans k')) (sym (put_stand-same st.stands p i _ eq)) (subst (λ (y : List Scan). IsPassed sh (scan_of y k')) (sym (next_slot-scans sh (st.stands p).scans k b1 (st.memory (place.Directory b1.coll b1.place)) pre1 pre2)) (seen_dir-over sh (st.stands p).scans k b1.coll b1.place (st.memory (place.Directory b1.coll b1.place)) k' (subst (IsAt b1.coll b1.place) (sym pre1) (refl, refl)) (subst (λ (y : Change). ends_of y.phase ≡ Some k') (next_slot-change sh (st.stands p).scans k b1 (st.memory (place.Directory b1.coll b1.place)) pre1 pre2) now)))) (λ ne. grind (arith, nat_tests, r.s_over i k' li));
  s_dir = λ i c' s' li is. by_eq i p (λ eq. let now = subst (λ (l : Stand). scanned_slot l.phase ≡ Some (c', s')) (put_stand-same st.stands p i _ eq) is in let (ec, et, in_use) = seen_dir-slot sh k b1.coll b1.place (st.memory (place.Directory b1.coll b1.place)) c' s' (subst (λ (y : Change). scanned_slot y.phase ≡ Some (c', s')) (next_slot-change sh (st.stands p).scans k b1 (st.memory (place.Directory b1.coll b1.place)) pre1 pre2) now) in grind (arith, nat_tests, ec, et, in_use)) (λ ne. grind (arith, nat_tests, r.s_dir i c' s' li));
  s_back = λ i c' s' a' e' d' li is. by_eq i p (λ eq. let now = subst (λ (l : Stand). sought_at l.phase ≡ Some ((c', s'), object a' e' d')) (put_stand-same st.stands p i _ eq) is in let none_so = seen_dir-owner sh k b1.coll b1.place (st.memory (place.Directory b1.coll b1.place)) in let there = (subst (λ (y : Change). sought_at y.phase ≡ Some ((c', s'), object a' e' d')) (next_slot-change sh (st.stands p).scans k b1 (st.memory (place.Directory b1.coll b1.place)) pre1 pre2) now) in absurd (cc)) (λ ne. grind (arith, nat_tests, r.s_back i c' s' a' e' d' li));
  s_home = λ i c' s' a' e' d' li is. by_eq i p (λ eq. let now = subst (λ (l : Stand). sought_at l.phase ≡ Some ((c', s'), object a' e' d')) (put_stand-same st.stands p i _ eq) is in let none_so = seen_dir-owner sh k b1.coll b1.place (st.memory (place.Directory b1.coll b1.place)) in let there = (subst (λ (y : Change). sought_at y.phase ≡ Some ((c', s'), object a' e' d')) (next_slot-change sh (st.stands p).scans k b1 (st.memory (place.Directory b1.coll b1.place)) pre1 pre2) now) in absurd (cc)) (λ ne. grind (arith, nat_tests, r.s_home i c' s' a' e' d' li));
  s_frozen = λ i k' c' a' e' s' b' r' li fz rd is of lt. by_eq i p (λ eq. let now = subst (λ (l : Stand). scan_of l.scans k' ≡ Some b') (put_stand-same st.stands p i _ eq) is in let fz0 : state_in st.memory c' e' ≡ state.Frozen a' s' = fz in let (old, was, same, at) = seen_dir-was (st.stands p).scans k b1.coll b1.place (st.memory (place.Directory b1.coll b1.place)) k' b' (subst (λ (y : List Scan). scan_of y k' ≡ Some b') (next_slot-scans sh (st.stands p).scans k b1 (st.memory (place.Directory b1.coll b1.place)) pre1 pre2) now) in let bound : epoch_of (st.stands p).section ≤ r'.bound = elim at [ inl kept ↦ r.s_frozen p k' c' a' e' s' old r' in_n fz0 rd was (sym same ∙ of) (subst (λ (z : ℕ). forward_in st.memory c' s' < z) kept lt) | inr left ↦ passed_frozen sh st h r p k' b1.coll b1.place c' a' e' s' b'.place old r' in_n fz0 rd was (sym same ∙ of) (subst (IsAt b1.coll b1.place) (sym pre1 ∙ subst (λ (z : ℕ). scan_of (st.stands p).scans z ≡ Some old) left.0 was) (refl, refl)) left.1 lt (λ nm inc hm. absurd (grind (arith, nat_tests, nm, inc, left.2))) ] in grind (arith, nat_tests, bound)) (λ ne. grind (arith, nat_tests, r.s_frozen i k' c' a' e' s' b' r' li));
  s_locked = λ i k' c' a' e' s' b' li lk is of. by_eq i p (λ eq. let now = subst (λ (l : Stand). scan_of l.scans k' ≡ Some b') (put_stand-same st.stands p i _ eq) is in let lk0 : state_in st.memory c' e' ≡ state.Locked a' s' = lk in let (old, was, same, at) = seen_dir-was (st.stands p).scans k b1.coll b1.place (st.memory (place.Directory b1.coll b1.place)) k' b' (subst (λ (y : List Scan). scan_of y k' ≡ Some b') (next_slot-scans sh (st.stands p).scans k b1 (st.memory (place.Directory b1.coll b1.place)) pre1 pre2) now) in let bound : b'.place ≤ forward_in st.memory c' s' = elim at [ inl kept ↦ subst (λ (z : ℕ). z ≤ forward_in st.memory c' s') (sym kept) (r.s_locked p k' c' a' e' s' old in_n lk0 was (sym same ∙ of)) | inr left ↦ passed_locked sh st h r p k' b1.coll b1.place c' a' e' s' b'.place old in_n lk0 was (sym same ∙ of) (subst (IsAt b1.coll b1.place) (sym pre1 ∙ subst (λ (z : ℕ). scan_of (st.stands p).scans z ≡ Some old) left.0 was) (refl, refl)) left.1 (λ nm inc hm. absurd (grind (arith, nat_tests, nm, inc, left.2))) ] in grind (arith, nat_tests, bound)) (λ ne. grind (arith, nat_tests, r.s_locked i k' c' a' e' s' b' li));
}

-- kind LoadDirectory
pub scan_dir : (sh : Layout) (st : S.State) (p : ℕ) (x : ℕ) (calm : Bool) (k : ℕ) (c : ℕ) (t : ℕ) (told : ℕ) → p < sh.passes → (st.stands p).section ≡ Inside x calm → (st.stands p).phase ≡ phase.Scan (scan.Directory k c t) → Shut sh st → ScansAgree sh st
    → ScansAgree sh (did sh st p Go (Inside x calm) (phase.Scan (scan.Directory k c t)) told (Load (place.Directory c t)))
scan_dir sh st p x calm k c t told in_n at_sec at_call h r = record {
  s_apart = λ i li. by_eq i p (λ eq. subst (λ (l : Stand). AreApart l.scans) (sym (put_stand-same st.stands p i _ eq)) (seen_dir-apart (st.stands p).scans k c t (st.memory (place.Directory c t)) (r.s_apart p in_n))) (λ ne. grind (arith, nat_tests, r.s_apart i li));
  s_fresh = λ i k' b' li is. by_eq i p (λ eq. let now = subst (λ (l : Stand). scan_of l.scans k' ≡ Some b') (put_stand-same st.stands p i _ eq) is in let (old, was, same, at) = seen_dir-was (st.stands p).scans k c t (st.memory (place.Directory c t)) k' b' now in let below' = r.s_fresh p k' old in_n was in grind (arith, nat_tests, below')) (λ ne. grind (arith, nat_tests, r.s_fresh i k' b' li));
  s_within = λ i k' b' li is. grind (arith, nat_tests, r.s_within i k' b' li, (calls h).calls p in_n, sections sh st h p in_n);
  s_place = λ i k' c' s' li is. by_eq i p (λ eq. let now = subst (λ (l : Stand). scan_at l.phase ≡ Some (k', (c', s'))) (put_stand-same st.stands p i _ eq) is in subst (λ (l : Stand). IsAt c' s' (scan_of l.scans k')) (sym (put_stand-same st.stands p i _ eq)) (seen_dir-at sh (st.stands p).scans k c t (st.memory (place.Directory c t)) k' c' s' (r.s_place p k c t in_n (subst (λ (next : Phase). scan_at next ≡ Some (k, (c, t))) (sym at_call) refl)) now)) (λ ne. grind (arith, nat_tests, r.s_place i k' c' s' li));
  s_over = λ i k' li is. by_eq i p (λ eq. let now = subst (λ (l : Stand). ends_of l.phase ≡ Some k') (put_stand-same st.stands p i _ eq) is in subst (λ (l : Stand). IsPassed sh (scan_of l.scans k')) (sym (put_stand-same st.stands p i _ eq)) (seen_dir-over sh (st.stands p).scans k c t (st.memory (place.Directory c t)) k' (r.s_place p k c t in_n (subst (λ (next : Phase). scan_at next ≡ Some (k, (c, t))) (sym at_call) refl)) now)) (λ ne. grind (arith, nat_tests, r.s_over i k' li));
  s_dir = λ i c' s' li is. by_eq i p (λ eq. let now = subst (λ (l : Stand). scanned_slot l.phase ≡ Some (c', s')) (put_stand-same st.stands p i _ eq) is in let (ec, et, in_use) = seen_dir-slot sh k c t (st.memory (place.Directory c t)) c' s' now in grind (arith, nat_tests, ec, et, in_use)) (λ ne. grind (arith, nat_tests, r.s_dir i c' s' li));
  s_back = λ i c' s' a' e' d' li is. by_eq i p (λ eq. let now = subst (λ (l : Stand). sought_at l.phase ≡ Some ((c', s'), object a' e' d')) (put_stand-same st.stands p i _ eq) is in let none_so = seen_dir-owner sh k c t (st.memory (place.Directory c t)) in absurd (cc)) (λ ne. grind (arith, nat_tests, r.s_back i c' s' a' e' d' li));
  s_home = λ i c' s' a' e' d' li is. by_eq i p (λ eq. let now = subst (λ (l : Stand). sought_at l.phase ≡ Some ((c', s'), object a' e' d')) (put_stand-same st.stands p i _ eq) is in let none_so = seen_dir-owner sh k c t (st.memory (place.Directory c t)) in absurd (cc)) (λ ne. grind (arith, nat_tests, r.s_home i c' s' a' e' d' li));
  s_frozen = λ i k' c' a' e' s' b' r' li fz rd is of lt. by_eq i p (λ eq. let now = subst (λ (l : Stand). scan_of l.scans k' ≡ Some b') (put_stand-same st.stands p i _ eq) is in let fz0 : state_in st.memory c' e' ≡ state.Frozen a' s' = fz in let (old, was, same, at) = seen_dir-was (st.stands p).scans k c t (st.memory (place.Directory c t)) k' b' now in let bound : epoch_of (st.stands p).section ≤ r'.bound = elim at [ inl kept ↦ r.s_frozen p k' c' a' e' s' old r' in_n fz0 rd was (sym same ∙ of) (subst (λ (z : ℕ). forward_in st.memory c' s' < z) kept lt) | inr left ↦ passed_frozen sh st h r p k' c t c' a' e' s' b'.place old r' in_n fz0 rd was (sym same ∙ of) (call_place sh st h r p k c t old (phase.Scan (scan.Directory k c t)) in_n at_call refl (subst (λ (z : ℕ). scan_of (st.stands p).scans z ≡ Some old) left.0 was)) left.1 lt (λ nm inc hm. absurd (grind (arith, nat_tests, nm, inc, left.2))) ] in grind (arith, nat_tests, bound)) (λ ne. grind (arith, nat_tests, r.s_frozen i k' c' a' e' s' b' r' li));
  s_locked = λ i k' c' a' e' s' b' li lk is of. by_eq i p (λ eq. let now = subst (λ (l : Stand). scan_of l.scans k' ≡ Some b') (put_stand-same st.stands p i _ eq) is in let lk0 : state_in st.memory c' e' ≡ state.Locked a' s' = lk in let (old, was, same, at) = seen_dir-was (st.stands p).scans k c t (st.memory (place.Directory c t)) k' b' now in let bound : b'.place ≤ forward_in st.memory c' s' = elim at [ inl kept ↦ subst (λ (z : ℕ). z ≤ forward_in st.memory c' s') (sym kept) (r.s_locked p k' c' a' e' s' old in_n lk0 was (sym same ∙ of)) | inr left ↦ passed_locked sh st h r p k' c t c' a' e' s' b'.place old in_n lk0 was (sym same ∙ of) (call_place sh st h r p k c t old (phase.Scan (scan.Directory k c t)) in_n at_call refl (subst (λ (z : ℕ). scan_of (st.stands p).scans z ≡ Some old) left.0 was)) left.1 (λ nm inc hm. absurd (grind (arith, nat_tests, nm, inc, left.2))) ] in grind (arith, nat_tests, bound)) (λ ne. grind (arith, nat_tests, r.s_locked i k' c' a' e' s' b' li));
}

-- kind LoadBack
pub scan_back : (sh : Layout) (st : S.State) (p : ℕ) (x : ℕ) (calm : Bool) (k : ℕ) (c : ℕ) (t : ℕ) (told : ℕ) → p < sh.passes → (st.stands p).section ≡ Inside x calm → (st.stands p).phase ≡ phase.Scan (scan.Back k c t) → Shut sh st → ScansAgree sh st
    → ScansAgree sh (did sh st p Go (Inside x calm) (phase.Scan (scan.Back k c t)) told (Load (place.Back c t)))
scan_back sh st p x calm k c t told in_n at_sec at_call h r = record {
  s_apart = λ i li. by_eq i p (λ eq. subst (λ (l : Stand). AreApart l.scans) (sym (put_stand-same st.stands p i _ eq)) (seen_back-apart (st.stands p).scans k c t (st.memory (place.Back c t)) (r.s_apart p in_n))) (λ ne. grind (arith, nat_tests, r.s_apart i li));
  s_fresh = λ i k' b' li is. by_eq i p (λ eq. let now = subst (λ (l : Stand). scan_of l.scans k' ≡ Some b') (put_stand-same st.stands p i _ eq) is in let (old, was, same, at) = seen_back-was (st.stands p).scans k c t (st.memory (place.Back c t)) k' b' now in let below' = r.s_fresh p k' old in_n was in grind (arith, nat_tests, below')) (λ ne. grind (arith, nat_tests, r.s_fresh i k' b' li));
  s_within = λ i k' b' li is. grind (arith, nat_tests, r.s_within i k' b' li, (calls h).calls p in_n, sections sh st h p in_n);
  s_place = λ i k' c' s' li is. by_eq i p (λ eq. let now = subst (λ (l : Stand). scan_at l.phase ≡ Some (k', (c', s'))) (put_stand-same st.stands p i _ eq) is in subst (λ (l : Stand). IsAt c' s' (scan_of l.scans k')) (sym (put_stand-same st.stands p i _ eq)) (seen_back-at sh (st.stands p).scans k c t (st.memory (place.Back c t)) k' c' s' (r.s_place p k c t in_n (subst (λ (next : Phase). scan_at next ≡ Some (k, (c, t))) (sym at_call) refl)) now)) (λ ne. grind (arith, nat_tests, r.s_place i k' c' s' li));
  s_over = λ i k' li is. by_eq i p (λ eq. let now = subst (λ (l : Stand). ends_of l.phase ≡ Some k') (put_stand-same st.stands p i _ eq) is in subst (λ (l : Stand). IsPassed sh (scan_of l.scans k')) (sym (put_stand-same st.stands p i _ eq)) (seen_back-over sh (st.stands p).scans k c t (st.memory (place.Back c t)) k' (r.s_place p k c t in_n (subst (λ (next : Phase). scan_at next ≡ Some (k, (c, t))) (sym at_call) refl)) now)) (λ ne. grind (arith, nat_tests, r.s_over i k' li));
  s_dir = λ i c' s' li is. by_eq i p (λ eq. let now = subst (λ (l : Stand). scanned_slot l.phase ≡ Some (c', s')) (put_stand-same st.stands p i _ eq) is in let seen_so = r.s_dir p c' s' in_n (subst (λ (next : Phase). scanned_slot next ≡ Some (c', s')) (sym at_call) (seen_back-slot sh k c t (st.memory (place.Back c t)) (c', s') now)) in grind (arith, nat_tests, seen_so)) (λ ne. grind (arith, nat_tests, r.s_dir i c' s' li));
  s_back = λ i c' s' a' e' d' li is. by_eq i p (λ eq. let now = subst (λ (l : Stand). sought_at l.phase ≡ Some ((c', s'), object a' e' d')) (put_stand-same st.stands p i _ eq) is in let (ec, et, named) = seen_back-owner sh k c t (st.memory (place.Back c t)) c' s' (object a' e' d') now in grind (arith, nat_tests, ec, et, named)) (λ ne. grind (arith, nat_tests, r.s_back i c' s' a' e' d' li));
  s_home = λ i c' s' a' e' d' li is. by_eq i p (λ eq. let now = subst (λ (l : Stand). sought_at l.phase ≡ Some ((c', s'), object a' e' d')) (put_stand-same st.stands p i _ eq) is in let (ec, et, named) = seen_back-owner sh k c t (st.memory (place.Back c t)) c' s' (object a' e' d') now in let hm = back_home sh st h c t a' e' d' (subst (InPhase sh (st.stands p).words) at_call ((ranges h).stands p in_n).phase) named in grind (arith, hm, ec)) (λ ne. grind (arith, nat_tests, r.s_home i c' s' a' e' d' li));
  s_frozen = λ i k' c' a' e' s' b' r' li fz rd is of lt. by_eq i p (λ eq. let now = subst (λ (l : Stand). scan_of l.scans k' ≡ Some b') (put_stand-same st.stands p i _ eq) is in let fz0 : state_in st.memory c' e' ≡ state.Frozen a' s' = fz in let (old, was, same, at) = seen_back-was (st.stands p).scans k c t (st.memory (place.Back c t)) k' b' now in let bound : epoch_of (st.stands p).section ≤ r'.bound = elim at [ inl kept ↦ r.s_frozen p k' c' a' e' s' old r' in_n fz0 rd was (sym same ∙ of) (subst (λ (z : ℕ). forward_in st.memory c' s' < z) kept lt) | inr left ↦ passed_frozen sh st h r p k' c t c' a' e' s' b'.place old r' in_n fz0 rd was (sym same ∙ of) (call_place sh st h r p k c t old (phase.Scan (scan.Back k c t)) in_n at_call refl (subst (λ (z : ℕ). scan_of (st.stands p).scans z ≡ Some old) left.0 was)) left.1 lt (λ nm inc hm. absurd (grind (arith, nat_tests, nm, inc, left.2))) ] in grind (arith, nat_tests, bound)) (λ ne. grind (arith, nat_tests, r.s_frozen i k' c' a' e' s' b' r' li));
  s_locked = λ i k' c' a' e' s' b' li lk is of. by_eq i p (λ eq. let now = subst (λ (l : Stand). scan_of l.scans k' ≡ Some b') (put_stand-same st.stands p i _ eq) is in let lk0 : state_in st.memory c' e' ≡ state.Locked a' s' = lk in let (old, was, same, at) = seen_back-was (st.stands p).scans k c t (st.memory (place.Back c t)) k' b' now in let bound : b'.place ≤ forward_in st.memory c' s' = elim at [ inl kept ↦ subst (λ (z : ℕ). z ≤ forward_in st.memory c' s') (sym kept) (r.s_locked p k' c' a' e' s' old in_n lk0 was (sym same ∙ of)) | inr left ↦ passed_locked sh st h r p k' c t c' a' e' s' b'.place old in_n lk0 was (sym same ∙ of) (call_place sh st h r p k c t old (phase.Scan (scan.Back k c t)) in_n at_call refl (subst (λ (z : ℕ). scan_of (st.stands p).scans z ≡ Some old) left.0 was)) left.1 (λ nm inc hm. absurd (grind (arith, nat_tests, nm, inc, left.2))) ] in grind (arith, nat_tests, bound)) (λ ne. grind (arith, nat_tests, r.s_locked i k' c' a' e' s' b' li));
}

-- kind LoadSection
pub scan_end : (sh : Layout) (st : S.State) (p : ℕ) (x : ℕ) (calm : Bool) (k : ℕ) (told : ℕ) → p < sh.passes → (st.stands p).section ≡ Inside x calm → (st.stands p).phase ≡ phase.Scan (scan.End k) → Shut sh st → ScansAgree sh st
    → ScansAgree sh (did sh st p Go (Inside x calm) (phase.Scan (scan.End k)) told (Load (place.Section p)))
scan_end sh st p x calm k told in_n at_sec at_call h r = record {
  s_apart = λ i li. by_eq i p (λ eq. subst (λ (l : Stand). AreApart l.scans) (sym (put_stand-same st.stands p i _ eq)) (ended-apart (st.stands p).scans k (r.s_apart p in_n))) (λ ne. grind (arith, nat_tests, r.s_apart i li));
  s_fresh = λ i k' b' li is. by_eq i p (λ eq. let now = subst (λ (l : Stand). scan_of l.scans k' ≡ Some b') (put_stand-same st.stands p i _ eq) is in let (old, was, same, at) = ended-was (st.stands p).scans k k' b' now in let below' = r.s_fresh p k' old in_n was in grind (arith, nat_tests, below')) (λ ne. grind (arith, nat_tests, r.s_fresh i k' b' li));
  s_within = λ i k' b' li is. grind (arith, nat_tests, r.s_within i k' b' li, (calls h).calls p in_n, sections sh st h p in_n);
  s_place = λ i k' c' s' li is. grind (arith, nat_tests, r.s_place i k' c' s' li, (calls h).calls p in_n, sections sh st h p in_n);
  s_over = λ i k' li is. grind (arith, nat_tests, r.s_over i k' li, (calls h).calls p in_n, sections sh st h p in_n);
  s_dir = λ i c' s' li is. grind (arith, nat_tests, r.s_dir i c' s' li, (calls h).calls p in_n, sections sh st h p in_n);
  s_back = λ i c' s' a' e' d' li is. grind (arith, nat_tests, r.s_back i c' s' a' e' d' li, (calls h).calls p in_n, sections sh st h p in_n);
  s_home = λ i c' s' a' e' d' li is. grind (arith, nat_tests, r.s_home i c' s' a' e' d' li, (calls h).calls p in_n, sections sh st h p in_n);
  s_frozen = λ i k' c' a' e' s' b' r' li fz rd is of lt. by_eq i p (λ eq. let now = subst (λ (l : Stand). scan_of l.scans k' ≡ Some b') (put_stand-same st.stands p i _ eq) is in let (old, was, same, kept) = ended-was (st.stands p).scans k k' b' now in let bound = r.s_frozen p k' c' a' e' s' old r' in_n fz rd was (sym same ∙ of) (subst (λ (z : ℕ). forward_in st.memory c' s' < z) kept lt) in grind (arith, nat_tests, bound)) (λ ne. grind (arith, nat_tests, r.s_frozen i k' c' a' e' s' b' r' li));
  s_locked = λ i k' c' a' e' s' b' li lk is of. by_eq i p (λ eq. let now = subst (λ (l : Stand). scan_of l.scans k' ≡ Some b') (put_stand-same st.stands p i _ eq) is in let (old, was, same, kept) = ended-was (st.stands p).scans k k' b' now in subst (λ (z : ℕ). z ≤ forward_in st.memory c' s') (sym kept) (r.s_locked p k' c' a' e' s' old in_n lk was (sym same ∙ of))) (λ ne. grind (arith, nat_tests, r.s_locked i k' c' a' e' s' b' li));
}

-- kind LoadDirectory
pub survey : (sh : Layout) (st : S.State) (p : ℕ) (x : ℕ) (calm : Bool) (c : ℕ) (told : ℕ) → p < sh.passes → (st.stands p).section ≡ Inside x calm → (st.stands p).phase ≡ phase.Idle → Shut sh st → ScansAgree sh st
    → ScansAgree sh (did sh st p (Start (call.Survey c)) (Inside x calm) phase.Idle told (Load (place.Directory c 0)))
survey sh st p x calm c told in_n at_sec at_call h r = record {
  s_apart = λ i li. grind (arith, nat_tests, r.s_apart i li, (calls h).calls p in_n, sections sh st h p in_n);
  s_fresh = λ i k' b' li is. grind (arith, nat_tests, r.s_fresh i k' b' li, (calls h).calls p in_n, sections sh st h p in_n);
  s_within = λ i k' b' li is. grind (arith, nat_tests, r.s_within i k' b' li, (calls h).calls p in_n, sections sh st h p in_n);
  s_place = λ i k' c' s' li is. grind (arith, nat_tests, r.s_place i k' c' s' li, (calls h).calls p in_n, sections sh st h p in_n);
  s_over = λ i k' li is. grind (arith, nat_tests, r.s_over i k' li, (calls h).calls p in_n, sections sh st h p in_n);
  s_dir = λ i c' s' li is. grind (arith, nat_tests, r.s_dir i c' s' li, (calls h).calls p in_n, sections sh st h p in_n);
  s_back = λ i c' s' a' e' d' li is. grind (arith, nat_tests, r.s_back i c' s' a' e' d' li, (calls h).calls p in_n, sections sh st h p in_n);
  s_home = λ i c' s' a' e' d' li is. grind (arith, nat_tests, r.s_home i c' s' a' e' d' li, (calls h).calls p in_n, sections sh st h p in_n);
  s_frozen = λ i k' c' a' e' s' b' r' li fz rd is of lt. grind (arith, nat_tests, r.s_frozen i k' c' a' e' s' b' r' li, (calls h).calls p in_n, sections sh st h p in_n);
  s_locked = λ i k' c' a' e' s' b' li lk is of. grind (arith, nat_tests, r.s_locked i k' c' a' e' s' b' li, (calls h).calls p in_n, sections sh st h p in_n);
}

-- kind LoadDirectory
pub survey_dir : (sh : Layout) (st : S.State) (p : ℕ) (x : ℕ) (calm : Bool) (c : ℕ) (t : ℕ) (cnt : Count) (told : ℕ) → p < sh.passes → (st.stands p).section ≡ Inside x calm → (st.stands p).phase ≡ phase.Survey (walk.Directory c t cnt) → Shut sh st → ScansAgree sh st
    → ScansAgree sh (did sh st p Go (Inside x calm) (phase.Survey (walk.Directory c t cnt)) told (Load (place.Directory c t)))
survey_dir sh st p x calm c t cnt told in_n at_sec at_call h r = record {
  s_apart = λ i li. grind (arith, nat_tests, r.s_apart i li, (calls h).calls p in_n, sections sh st h p in_n);
  s_fresh = λ i k' b' li is. grind (arith, nat_tests, r.s_fresh i k' b' li, (calls h).calls p in_n, sections sh st h p in_n);
  s_within = λ i k' b' li is. grind (arith, nat_tests, r.s_within i k' b' li, (calls h).calls p in_n, sections sh st h p in_n);
  s_place = λ i k' c' s' li is. grind (arith, nat_tests, r.s_place i k' c' s' li, (calls h).calls p in_n, sections sh st h p in_n);
  s_over = λ i k' li is. grind (arith, nat_tests, r.s_over i k' li, (calls h).calls p in_n, sections sh st h p in_n);
  s_dir = λ i c' s' li is. grind (arith, nat_tests, r.s_dir i c' s' li, (calls h).calls p in_n, sections sh st h p in_n);
  s_back = λ i c' s' a' e' d' li is. grind (arith, nat_tests, r.s_back i c' s' a' e' d' li, (calls h).calls p in_n, sections sh st h p in_n);
  s_home = λ i c' s' a' e' d' li is. grind (arith, nat_tests, r.s_home i c' s' a' e' d' li, (calls h).calls p in_n, sections sh st h p in_n);
  s_frozen = λ i k' c' a' e' s' b' r' li fz rd is of lt. grind (arith, nat_tests, r.s_frozen i k' c' a' e' s' b' r' li, (calls h).calls p in_n, sections sh st h p in_n);
  s_locked = λ i k' c' a' e' s' b' li lk is of. grind (arith, nat_tests, r.s_locked i k' c' a' e' s' b' li, (calls h).calls p in_n, sections sh st h p in_n);
}

-- kind LoadBack
pub survey_back : (sh : Layout) (st : S.State) (p : ℕ) (x : ℕ) (calm : Bool) (c : ℕ) (t : ℕ) (cnt : Count) (told : ℕ) → p < sh.passes → (st.stands p).section ≡ Inside x calm → (st.stands p).phase ≡ phase.Survey (walk.Back c t cnt) → Shut sh st → ScansAgree sh st
    → ScansAgree sh (did sh st p Go (Inside x calm) (phase.Survey (walk.Back c t cnt)) told (Load (place.Back c t)))
survey_back sh st p x calm c t cnt told in_n at_sec at_call h r = record {
  s_apart = λ i li. grind (arith, nat_tests, r.s_apart i li, (calls h).calls p in_n, sections sh st h p in_n);
  s_fresh = λ i k' b' li is. grind (arith, nat_tests, r.s_fresh i k' b' li, (calls h).calls p in_n, sections sh st h p in_n);
  s_within = λ i k' b' li is. grind (arith, nat_tests, r.s_within i k' b' li, (calls h).calls p in_n, sections sh st h p in_n);
  s_place = λ i k' c' s' li is. grind (arith, nat_tests, r.s_place i k' c' s' li, (calls h).calls p in_n, sections sh st h p in_n);
  s_over = λ i k' li is. grind (arith, nat_tests, r.s_over i k' li, (calls h).calls p in_n, sections sh st h p in_n);
  s_dir = λ i c' s' li is. grind (arith, nat_tests, r.s_dir i c' s' li, (calls h).calls p in_n, sections sh st h p in_n);
  s_back = λ i c' s' a' e' d' li is. grind (arith, nat_tests, r.s_back i c' s' a' e' d' li, (calls h).calls p in_n, sections sh st h p in_n);
  s_home = λ i c' s' a' e' d' li is. grind (arith, nat_tests, r.s_home i c' s' a' e' d' li, (calls h).calls p in_n, sections sh st h p in_n);
  s_frozen = λ i k' c' a' e' s' b' r' li fz rd is of lt. grind (arith, nat_tests, r.s_frozen i k' c' a' e' s' b' r' li, (calls h).calls p in_n, sections sh st h p in_n);
  s_locked = λ i k' c' a' e' s' b' li lk is of. grind (arith, nat_tests, r.s_locked i k' c' a' e' s' b' li, (calls h).calls p in_n, sections sh st h p in_n);
}

-- kind LoadEntry
pub survey_entry : (sh : Layout) (st : S.State) (p : ℕ) (x : ℕ) (calm : Bool) (c : ℕ) (t : ℕ) (cnt : Count) (c2 : ℕ) (a : ℕ) (e : ℕ) (told : ℕ) → p < sh.passes → (st.stands p).section ≡ Inside x calm → (st.stands p).phase ≡ phase.Survey (walk.Entry c t cnt (object a e c2)) → Shut sh st → ScansAgree sh st
    → ScansAgree sh (did sh st p Go (Inside x calm) (phase.Survey (walk.Entry c t cnt (object a e c2))) told (Load (place.Entry c2 e)))
survey_entry sh st p x calm c t cnt c2 a e told in_n at_sec at_call h r = record {
  s_apart = λ i li. grind (arith, nat_tests, r.s_apart i li, (calls h).calls p in_n, sections sh st h p in_n);
  s_fresh = λ i k' b' li is. grind (arith, nat_tests, r.s_fresh i k' b' li, (calls h).calls p in_n, sections sh st h p in_n);
  s_within = λ i k' b' li is. grind (arith, nat_tests, r.s_within i k' b' li, (calls h).calls p in_n, sections sh st h p in_n);
  s_place = λ i k' c' s' li is. grind (arith, nat_tests, r.s_place i k' c' s' li, (calls h).calls p in_n, sections sh st h p in_n);
  s_over = λ i k' li is. grind (arith, nat_tests, r.s_over i k' li, (calls h).calls p in_n, sections sh st h p in_n);
  s_dir = λ i c' s' li is. grind (arith, nat_tests, r.s_dir i c' s' li, (calls h).calls p in_n, sections sh st h p in_n);
  s_back = λ i c' s' a' e' d' li is. grind (arith, nat_tests, r.s_back i c' s' a' e' d' li, (calls h).calls p in_n, sections sh st h p in_n);
  s_home = λ i c' s' a' e' d' li is. grind (arith, nat_tests, r.s_home i c' s' a' e' d' li, (calls h).calls p in_n, sections sh st h p in_n);
  s_frozen = λ i k' c' a' e' s' b' r' li fz rd is of lt. grind (arith, nat_tests, r.s_frozen i k' c' a' e' s' b' r' li, (calls h).calls p in_n, sections sh st h p in_n);
  s_locked = λ i k' c' a' e' s' b' li lk is of. grind (arith, nat_tests, r.s_locked i k' c' a' e' s' b' li, (calls h).calls p in_n, sections sh st h p in_n);
}
