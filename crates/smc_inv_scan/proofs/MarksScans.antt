-- Steps keep the marks of scans: scans. Written by tools/marks.py.
use Rattle.std.proofs.Common.{◌≡◌, ℕ, ◌<◌, ◌==◌, Bool, true, false, Some, None, List, refl, sym, subst, inl, inr, arith}
use Rattle.std.proofs.lemmas.Bool.Decides.{nat_tests}
use Rattle.smc_shape.specs.Layout.{Layout}
use Rattle.smc_shape.specs.declared.place.Place.TheVariants as place
use Rattle.smc_core.specs.declared.call.Call.TheVariants as call
use Rattle.smc_core.specs.declared.call.Choice.TheVariants.{Start, Go}
use Rattle.smc_core.specs.declared.local.Scan.{Scan}
use Rattle.smc_core.specs.declared.op.Op.TheVariants.{Load}
use Rattle.smc_core.specs.declared.phase.Phase.TheVariants as phase
use Rattle.smc_core.specs.declared.phase.moves.Count.{Count}
use Rattle.smc_core.specs.declared.phase.moves.CountPhase.TheVariants as walk
use Rattle.smc_core.specs.declared.phase.objects.ScanPhase.TheVariants as scan
use Rattle.smc_core.specs.declared.section.Section.TheVariants.{Inside}
use Rattle.smc_core.specs.Scan.{scan_of, is_over}
use Rattle.smc_core.specs.declared.local.Stand.{Stand}
use Rattle.smc_rules.specs.Reads.{state_in, dir_in, object}
use Rattle.smc_rules.specs.State as S
use Rattle.smc_rules.specs.State.{put_stand}
use Rattle.smc_rules.proofs.CarryLaws.{put_stand-same}
use Rattle.smc_agreement.proofs.Whole.{Shut, did}
use Rattle.smc_agreement.proofs.CrossLaws.{by_eq}
use Rattle.std.proofs.Common.{◌∙◌, [], ◌∷◌, ◌++◌}
use Rattle.smc_core.specs.Scan.{scan_number, new_scan}
use Rattle.smc_inv_scan.specs.Scans.{ScansAgree, IsAt}
use Rattle.smc_inv_scan.proofs.ListLaws.{scan_of-number, ended-was, begun-was}
use Rattle.smc_inv_scan.proofs.StepViews.{seen_dir-was, seen_back-was, next_slot-scans, next_over-was}
use Rattle.smc_inv_scan.proofs.PlaceLaws.{call_place}
use Rattle.smc_core.specs.Change.{change}
use Rattle.smc_core.specs.Scan.{is_scanned}
use Rattle.smc_rules.specs.Memory.{seen}
use Rattle.smc_rules.specs.Reads.{back_in}
use Rattle.smc_model.specs.World.{is_present}
use Rattle.smc_agreement.specs.Entries.{present_at}
use Rattle.smc_inv_scan.specs.Marks.{Marks, MarksAgree, IsHere, marks_told}
use Rattle.smc_inv_scan.proofs.MarkViews.{unmarked, put-mine, put-other}
use Rattle.smc_inv_scan.proofs.MarkSteps.{KeepsMarks, unscanned, unnamed}
use Rattle.std.specs.Prelude.{if◌then◌else◌}
use Rattle.smc_model.specs.declared.event.Event.TheVariants as event

-- kind LoadSection
pub starts_scan : (ms : ℕ → Marks) (sh : Layout) (st : S.State) (p : ℕ) (x : ℕ) (calm : Bool) (c : ℕ) (told : ℕ) → p < sh.passes → (st.stands p).section ≡ Inside x calm → (st.stands p).phase ≡ phase.Idle → Shut sh st → ScansAgree sh st → MarksAgree sh st ms → IsHere st
    → KeepsMarks ms sh st p (Start (call.Scan c)) (Inside x calm) phase.Idle told (Load (place.Section p))
starts_scan ms sh st p x calm c told in_n at_sec at_call h r mk hr = record {
  m_began = λ i k' c' a' e' b' li is bg. by_eq i p (λ eq. let now = subst (λ (l : Stand). scan_of l.scans k' ≡ Some b') (put_stand-same st.stands p i _ eq) is in let bg0 : (if k' == (scan_number p (st.stands p).begun) then is_present st.world (object a' e' c') else (ms p).began k' (object a' e' c')) ≡ true = subst (λ (x : Marks). x.began k' (object a' e' c') ≡ true) (put-mine ms p i (marks_told st.world (ms p) (Some (event.Begin (scan_number p (st.stands p).begun) c))) eq) bg in elim (begun-was (st.stands p).scans (new_scan (scan_number p (st.stands p).begun) c) k' b' now) [ inl was ↦ (let ns : (k' == (scan_number p (st.stands p).begun)) ≡ false = grind (arith, nat_tests, r.s_fresh p k' b' in_n was) in let given = mk.m_began p k' c' a' e' b' in_n was (subst (λ (y : Bool). (if y then is_present st.world (object a' e' c') else (ms p).began k' (object a' e' c')) ≡ true) ns bg0) in grind (arith, nat_tests, given)) | inr new ↦ (let named = scan_of-number ((st.stands p).scans ++ (new_scan (scan_number p (st.stands p).begun) c) ∷ []) k' b' now in let ns : (k' == (scan_number p (st.stands p).begun)) ≡ true = grind (arith, nat_tests, named, new) in let present_so : is_present st.world (object a' e' c') ≡ true = (subst (λ (y : Bool). (if y then is_present st.world (object a' e' c') else (ms p).began k' (object a' e' c')) ≡ true) ns bg0) in grind (arith, nat_tests, present_so, hr c' a' e')) ]) (λ ne. grind (arith, nat_tests, mk.m_began i k' c' a' e' b' li, put-other ms p i (marks_told st.world (ms p) (Some (event.Begin (scan_number p (st.stands p).begun) c))) ne));
  m_given = λ i k' c' a' e' b' li is vs. by_eq i p (λ eq. let now = subst (λ (l : Stand). scan_of l.scans k' ≡ Some b') (put_stand-same st.stands p i _ eq) is in let vs0 : (if k' == (scan_number p (st.stands p).begun) then false else (ms p).visited k' (object a' e' c')) ≡ true = subst (λ (x : Marks). x.visited k' (object a' e' c') ≡ true) (put-mine ms p i (marks_told st.world (ms p) (Some (event.Begin (scan_number p (st.stands p).begun) c))) eq) vs in elim (begun-was (st.stands p).scans (new_scan (scan_number p (st.stands p).begun) c) k' b' now) [ inl was ↦ (let ns : (k' == (scan_number p (st.stands p).begun)) ≡ false = grind (arith, nat_tests, r.s_fresh p k' b' in_n was) in let given = mk.m_given p k' c' a' e' b' in_n was (subst (λ (y : Bool). (if y then false else (ms p).visited k' (object a' e' c')) ≡ true) ns vs0) in grind (arith, nat_tests, given)) | inr new ↦ (let named = scan_of-number ((st.stands p).scans ++ (new_scan (scan_number p (st.stands p).begun) c) ∷ []) k' b' now in let ns : (k' == (scan_number p (st.stands p).begun)) ≡ true = grind (arith, nat_tests, named, new) in let not_so : false ≡ true = subst (λ (y : Bool). (if y then false else (ms p).visited k' (object a' e' c')) ≡ true) ns vs0 in absurd (cc)) ]) (λ ne. grind (arith, nat_tests, mk.m_given i k' c' a' e' b' li, put-other ms p i (marks_told st.world (ms p) (Some (event.Begin (scan_number p (st.stands p).begun) c))) ne));
  m_coll = λ i k' c' a' e' b' li is vs. by_eq i p (λ eq. let now = subst (λ (l : Stand). scan_of l.scans k' ≡ Some b') (put_stand-same st.stands p i _ eq) is in let vs0 : (if k' == (scan_number p (st.stands p).begun) then false else (ms p).visited k' (object a' e' c')) ≡ true = subst (λ (x : Marks). x.visited k' (object a' e' c') ≡ true) (put-mine ms p i (marks_told st.world (ms p) (Some (event.Begin (scan_number p (st.stands p).begun) c))) eq) vs in elim (begun-was (st.stands p).scans (new_scan (scan_number p (st.stands p).begun) c) k' b' now) [ inl was ↦ (let ns : (k' == (scan_number p (st.stands p).begun)) ≡ false = grind (arith, nat_tests, r.s_fresh p k' b' in_n was) in mk.m_coll p k' c' a' e' b' in_n was (subst (λ (y : Bool). (if y then false else (ms p).visited k' (object a' e' c')) ≡ true) ns vs0)) | inr new ↦ (let named = scan_of-number ((st.stands p).scans ++ (new_scan (scan_number p (st.stands p).begun) c) ∷ []) k' b' now in let ns : (k' == (scan_number p (st.stands p).begun)) ≡ true = grind (arith, nat_tests, named, new) in let not_so : false ≡ true = subst (λ (y : Bool). (if y then false else (ms p).visited k' (object a' e' c')) ≡ true) ns vs0 in absurd (cc)) ]) (λ ne. grind (arith, nat_tests, mk.m_coll i k' c' a' e' b' li, put-other ms p i (marks_told st.world (ms p) (Some (event.Begin (scan_number p (st.stands p).begun) c))) ne));
  m_met = λ i k' c' a' e' s' b' li is of bg pr lt. by_eq i p (λ eq. let now = subst (λ (l : Stand). scan_of l.scans k' ≡ Some b') (put_stand-same st.stands p i _ eq) is in let bg0 : (if k' == (scan_number p (st.stands p).begun) then is_present st.world (object a' e' c') else (ms p).began k' (object a' e' c')) ≡ true = subst (λ (x : Marks). x.began k' (object a' e' c') ≡ true) (put-mine ms p i (marks_told st.world (ms p) (Some (event.Begin (scan_number p (st.stands p).begun) c))) eq) bg in elim (begun-was (st.stands p).scans (new_scan (scan_number p (st.stands p).begun) c) k' b' now) [ inl was ↦ (let ns : (k' == (scan_number p (st.stands p).begun)) ≡ false = grind (arith, nat_tests, r.s_fresh p k' b' in_n was) in subst (λ (x : Marks). x.visited k' (object a' e' c') ≡ true) (sym (put-mine ms p i (marks_told st.world (ms p) (Some (event.Begin (scan_number p (st.stands p).begun) c))) eq)) (subst (λ (y : Bool). (if y then false else (ms p).visited k' (object a' e' c')) ≡ true) (sym ns) (mk.m_met p k' c' a' e' s' b' in_n was of (subst (λ (y : Bool). (if y then is_present st.world (object a' e' c') else (ms p).began k' (object a' e' c')) ≡ true) ns bg0) pr lt))) | inr new ↦ (let named = scan_of-number ((st.stands p).scans ++ (new_scan (scan_number p (st.stands p).begun) c) ∷ []) k' b' now in let ns : (k' == (scan_number p (st.stands p).begun)) ≡ true = grind (arith, nat_tests, named, new) in absurd (grind (arith, new, lt))) ]) (λ ne. grind (arith, nat_tests, mk.m_met i k' c' a' e' s' b' li, put-other ms p i (marks_told st.world (ms p) (Some (event.Begin (scan_number p (st.stands p).begun) c))) ne));
  m_once = λ i k' c' a' e' s' b' li is vs pr. by_eq i p (λ eq. let now = subst (λ (l : Stand). scan_of l.scans k' ≡ Some b') (put_stand-same st.stands p i _ eq) is in let vs0 : (if k' == (scan_number p (st.stands p).begun) then false else (ms p).visited k' (object a' e' c')) ≡ true = subst (λ (x : Marks). x.visited k' (object a' e' c') ≡ true) (put-mine ms p i (marks_told st.world (ms p) (Some (event.Begin (scan_number p (st.stands p).begun) c))) eq) vs in elim (begun-was (st.stands p).scans (new_scan (scan_number p (st.stands p).begun) c) k' b' now) [ inl was ↦ (let ns : (k' == (scan_number p (st.stands p).begun)) ≡ false = grind (arith, nat_tests, r.s_fresh p k' b' in_n was) in mk.m_once p k' c' a' e' s' b' in_n was (subst (λ (y : Bool). (if y then false else (ms p).visited k' (object a' e' c')) ≡ true) ns vs0) pr) | inr new ↦ (let named = scan_of-number ((st.stands p).scans ++ (new_scan (scan_number p (st.stands p).begun) c) ∷ []) k' b' now in let ns : (k' == (scan_number p (st.stands p).begun)) ≡ true = grind (arith, nat_tests, named, new) in let not_so : false ≡ true = subst (λ (y : Bool). (if y then false else (ms p).visited k' (object a' e' c')) ≡ true) ns vs0 in absurd (cc)) ]) (λ ne. grind (arith, nat_tests, mk.m_once i k' c' a' e' s' b' li, put-other ms p i (marks_told st.world (ms p) (Some (event.Begin (scan_number p (st.stands p).begun) c))) ne));
}

-- kind LoadSection
pub next_over : (ms : ℕ → Marks) (sh : Layout) (st : S.State) (p : ℕ) (x : ℕ) (calm : Bool) (k : ℕ) (b1 : Scan) (told : ℕ) → p < sh.passes → (st.stands p).section ≡ Inside x calm → (st.stands p).phase ≡ phase.Idle → scan_of (st.stands p).scans k ≡ Some b1 → is_over sh b1 ≡ true → Shut sh st → ScansAgree sh st → MarksAgree sh st ms → IsHere st
    → KeepsMarks ms sh st p (Start (call.Next k)) (Inside x calm) phase.Idle told (Load (place.Section p))
next_over ms sh st p x calm k b1 told in_n at_sec at_call pre1 pre2 h r mk hr = unmarked sh (did sh st p (Start (call.Next k)) (Inside x calm) phase.Idle told (Load (place.Section p))) ms p st.world (change sh p (st.stands p) (Inside x calm) phase.Idle (Start (call.Next k)) told (seen (Load (place.Section p)) st.memory)).event (grind (arith, nat_tests)) (record {
  m_began = λ i k' c' a' e' b' li is bg. by_eq i p (λ eq. let now = subst (λ (l : Stand). scan_of l.scans k' ≡ Some b') (put_stand-same st.stands p i _ eq) is in let (old, was, same, kept) = next_over-was sh (st.stands p).scans k b1 (st.memory (place.Section p)) k' b' pre1 pre2 now in let given = mk.m_began p k' c' a' e' old in_n was (subst (λ (j : ℕ). (ms j).began k' (object a' e' c') ≡ true) eq bg) in grind (arith, nat_tests, given)) (λ ne. grind (arith, nat_tests, mk.m_began i k' c' a' e' b' li));
  m_given = λ i k' c' a' e' b' li is vs. by_eq i p (λ eq. let now = subst (λ (l : Stand). scan_of l.scans k' ≡ Some b') (put_stand-same st.stands p i _ eq) is in let (old, was, same, kept) = next_over-was sh (st.stands p).scans k b1 (st.memory (place.Section p)) k' b' pre1 pre2 now in let given = mk.m_given p k' c' a' e' old in_n was (subst (λ (j : ℕ). (ms j).visited k' (object a' e' c') ≡ true) eq vs) in grind (arith, nat_tests, given)) (λ ne. grind (arith, nat_tests, mk.m_given i k' c' a' e' b' li));
  m_coll = λ i k' c' a' e' b' li is vs. by_eq i p (λ eq. let now = subst (λ (l : Stand). scan_of l.scans k' ≡ Some b') (put_stand-same st.stands p i _ eq) is in let (old, was, same, kept) = next_over-was sh (st.stands p).scans k b1 (st.memory (place.Section p)) k' b' pre1 pre2 now in same ∙ mk.m_coll p k' c' a' e' old in_n was (subst (λ (j : ℕ). (ms j).visited k' (object a' e' c') ≡ true) eq vs)) (λ ne. grind (arith, nat_tests, mk.m_coll i k' c' a' e' b' li));
  m_met = λ i k' c' a' e' s' b' li is of bg pr lt. by_eq i p (λ eq. let now = subst (λ (l : Stand). scan_of l.scans k' ≡ Some b') (put_stand-same st.stands p i _ eq) is in let (old, was, same, kept) = next_over-was sh (st.stands p).scans k b1 (st.memory (place.Section p)) k' b' pre1 pre2 now in subst (λ (j : ℕ). (ms j).visited k' (object a' e' c') ≡ true) (sym eq) (mk.m_met p k' c' a' e' s' old in_n was (sym same ∙ of) (subst (λ (j : ℕ). (ms j).began k' (object a' e' c') ≡ true) eq bg) pr (subst (λ (z : ℕ). s' < z) kept lt))) (λ ne. grind (arith, nat_tests, mk.m_met i k' c' a' e' s' b' li));
  m_once = λ i k' c' a' e' s' b' li is vs pr. by_eq i p (λ eq. let now = subst (λ (l : Stand). scan_of l.scans k' ≡ Some b') (put_stand-same st.stands p i _ eq) is in let (old, was, same, kept) = next_over-was sh (st.stands p).scans k b1 (st.memory (place.Section p)) k' b' pre1 pre2 now in subst (λ (z : ℕ). s' < z) (sym kept) (mk.m_once p k' c' a' e' s' old in_n was (subst (λ (j : ℕ). (ms j).visited k' (object a' e' c') ≡ true) eq vs) pr)) (λ ne. grind (arith, nat_tests, mk.m_once i k' c' a' e' s' b' li));
})

-- kind LoadDirectory
pub next_slot : (ms : ℕ → Marks) (sh : Layout) (st : S.State) (p : ℕ) (x : ℕ) (calm : Bool) (k : ℕ) (b1 : Scan) (told : ℕ) → p < sh.passes → (st.stands p).section ≡ Inside x calm → (st.stands p).phase ≡ phase.Idle → scan_of (st.stands p).scans k ≡ Some b1 → is_over sh b1 ≡ false → Shut sh st → ScansAgree sh st → MarksAgree sh st ms → IsHere st
    → KeepsMarks ms sh st p (Start (call.Next k)) (Inside x calm) phase.Idle told (Load (place.Directory b1.coll b1.place))
next_slot ms sh st p x calm k b1 told in_n at_sec at_call pre1 pre2 h r mk hr = unmarked sh (did sh st p (Start (call.Next k)) (Inside x calm) phase.Idle told (Load (place.Directory b1.coll b1.place))) ms p st.world (change sh p (st.stands p) (Inside x calm) phase.Idle (Start (call.Next k)) told (seen (Load (place.Directory b1.coll b1.place)) st.memory)).event (grind (arith, nat_tests)) (record {
  m_began = λ i k' c' a' e' b' li is bg. by_eq i p (λ eq. let now = subst (λ (l : Stand). scan_of l.scans k' ≡ Some b') (put_stand-same st.stands p i _ eq) is in let (old, was, same, at) = seen_dir-was (st.stands p).scans k b1.coll b1.place (st.memory (place.Directory b1.coll b1.place)) k' b' (subst (λ (y : List Scan). scan_of y k' ≡ Some b') (next_slot-scans sh (st.stands p).scans k b1 (st.memory (place.Directory b1.coll b1.place)) pre1 pre2) now) in let given = mk.m_began p k' c' a' e' old in_n was (subst (λ (j : ℕ). (ms j).began k' (object a' e' c') ≡ true) eq bg) in grind (arith, nat_tests, given)) (λ ne. grind (arith, nat_tests, mk.m_began i k' c' a' e' b' li));
  m_given = λ i k' c' a' e' b' li is vs. by_eq i p (λ eq. let now = subst (λ (l : Stand). scan_of l.scans k' ≡ Some b') (put_stand-same st.stands p i _ eq) is in let (old, was, same, at) = seen_dir-was (st.stands p).scans k b1.coll b1.place (st.memory (place.Directory b1.coll b1.place)) k' b' (subst (λ (y : List Scan). scan_of y k' ≡ Some b') (next_slot-scans sh (st.stands p).scans k b1 (st.memory (place.Directory b1.coll b1.place)) pre1 pre2) now) in let given = mk.m_given p k' c' a' e' old in_n was (subst (λ (j : ℕ). (ms j).visited k' (object a' e' c') ≡ true) eq vs) in grind (arith, nat_tests, given)) (λ ne. grind (arith, nat_tests, mk.m_given i k' c' a' e' b' li));
  m_coll = λ i k' c' a' e' b' li is vs. by_eq i p (λ eq. let now = subst (λ (l : Stand). scan_of l.scans k' ≡ Some b') (put_stand-same st.stands p i _ eq) is in let (old, was, same, at) = seen_dir-was (st.stands p).scans k b1.coll b1.place (st.memory (place.Directory b1.coll b1.place)) k' b' (subst (λ (y : List Scan). scan_of y k' ≡ Some b') (next_slot-scans sh (st.stands p).scans k b1 (st.memory (place.Directory b1.coll b1.place)) pre1 pre2) now) in same ∙ mk.m_coll p k' c' a' e' old in_n was (subst (λ (j : ℕ). (ms j).visited k' (object a' e' c') ≡ true) eq vs)) (λ ne. grind (arith, nat_tests, mk.m_coll i k' c' a' e' b' li));
  m_met = λ i k' c' a' e' s' b' li is of bg pr lt. by_eq i p (λ eq. let now = subst (λ (l : Stand). scan_of l.scans k' ≡ Some b') (put_stand-same st.stands p i _ eq) is in let (old, was, same, at) = seen_dir-was (st.stands p).scans k b1.coll b1.place (st.memory (place.Directory b1.coll b1.place)) k' b' (subst (λ (y : List Scan). scan_of y k' ≡ Some b') (next_slot-scans sh (st.stands p).scans k b1 (st.memory (place.Directory b1.coll b1.place)) pre1 pre2) now) in subst (λ (j : ℕ). (ms j).visited k' (object a' e' c') ≡ true) (sym eq) (elim at [ inl kept ↦ mk.m_met p k' c' a' e' s' old in_n was (sym same ∙ of) (subst (λ (j : ℕ). (ms j).began k' (object a' e' c') ≡ true) eq bg) pr (subst (λ (z : ℕ). s' < z) kept lt) | inr left ↦ (let place_so = subst (IsAt b1.coll b1.place) (sym pre1 ∙ subst (λ (z : ℕ). scan_of (st.stands p).scans z ≡ Some old) left.0 was) (refl, refl) in let step_so = left.1 in by_eq s' b1.place (λ sl. absurd (unscanned sh st h c' a' e' b1.place (subst (λ (z : ℕ). present_at (state_in st.memory c' e') ≡ Some (a', z)) sl pr) (subst (λ (z : ℕ). is_scanned (dir_in st.memory z b1.place) ≡ false) (sym (sym (sym same ∙ of) ∙ place_so.0)) left.2))) (λ ns. mk.m_met p k' c' a' e' s' old in_n was (sym same ∙ of) (subst (λ (j : ℕ). (ms j).began k' (object a' e' c') ≡ true) eq bg) pr (omega (arith, ns, lt, step_so, place_so.1)))) ])) (λ ne. grind (arith, nat_tests, mk.m_met i k' c' a' e' s' b' li));
  m_once = λ i k' c' a' e' s' b' li is vs pr. by_eq i p (λ eq. let now = subst (λ (l : Stand). scan_of l.scans k' ≡ Some b') (put_stand-same st.stands p i _ eq) is in let (old, was, same, at) = seen_dir-was (st.stands p).scans k b1.coll b1.place (st.memory (place.Directory b1.coll b1.place)) k' b' (subst (λ (y : List Scan). scan_of y k' ≡ Some b') (next_slot-scans sh (st.stands p).scans k b1 (st.memory (place.Directory b1.coll b1.place)) pre1 pre2) now) in let before = mk.m_once p k' c' a' e' s' old in_n was (subst (λ (j : ℕ). (ms j).visited k' (object a' e' c') ≡ true) eq vs) pr in elim at [ inl kept ↦ subst (λ (z : ℕ). s' < z) (sym kept) before | inr left ↦ (let place_so = subst (IsAt b1.coll b1.place) (sym pre1 ∙ subst (λ (z : ℕ). scan_of (st.stands p).scans z ≡ Some old) left.0 was) (refl, refl) in let step_so = left.1 in omega (arith, before, step_so, place_so.1)) ]) (λ ne. grind (arith, nat_tests, mk.m_once i k' c' a' e' s' b' li));
})

-- kind LoadDirectory
pub scan_dir : (ms : ℕ → Marks) (sh : Layout) (st : S.State) (p : ℕ) (x : ℕ) (calm : Bool) (k : ℕ) (c : ℕ) (t : ℕ) (told : ℕ) → p < sh.passes → (st.stands p).section ≡ Inside x calm → (st.stands p).phase ≡ phase.Scan (scan.Directory k c t) → Shut sh st → ScansAgree sh st → MarksAgree sh st ms → IsHere st
    → KeepsMarks ms sh st p Go (Inside x calm) (phase.Scan (scan.Directory k c t)) told (Load (place.Directory c t))
scan_dir ms sh st p x calm k c t told in_n at_sec at_call h r mk hr = unmarked sh (did sh st p Go (Inside x calm) (phase.Scan (scan.Directory k c t)) told (Load (place.Directory c t))) ms p st.world (change sh p (st.stands p) (Inside x calm) (phase.Scan (scan.Directory k c t)) Go told (seen (Load (place.Directory c t)) st.memory)).event (grind (arith, nat_tests)) (record {
  m_began = λ i k' c' a' e' b' li is bg. by_eq i p (λ eq. let now = subst (λ (l : Stand). scan_of l.scans k' ≡ Some b') (put_stand-same st.stands p i _ eq) is in let (old, was, same, at) = seen_dir-was (st.stands p).scans k c t (st.memory (place.Directory c t)) k' b' now in let given = mk.m_began p k' c' a' e' old in_n was (subst (λ (j : ℕ). (ms j).began k' (object a' e' c') ≡ true) eq bg) in grind (arith, nat_tests, given)) (λ ne. grind (arith, nat_tests, mk.m_began i k' c' a' e' b' li));
  m_given = λ i k' c' a' e' b' li is vs. by_eq i p (λ eq. let now = subst (λ (l : Stand). scan_of l.scans k' ≡ Some b') (put_stand-same st.stands p i _ eq) is in let (old, was, same, at) = seen_dir-was (st.stands p).scans k c t (st.memory (place.Directory c t)) k' b' now in let given = mk.m_given p k' c' a' e' old in_n was (subst (λ (j : ℕ). (ms j).visited k' (object a' e' c') ≡ true) eq vs) in grind (arith, nat_tests, given)) (λ ne. grind (arith, nat_tests, mk.m_given i k' c' a' e' b' li));
  m_coll = λ i k' c' a' e' b' li is vs. by_eq i p (λ eq. let now = subst (λ (l : Stand). scan_of l.scans k' ≡ Some b') (put_stand-same st.stands p i _ eq) is in let (old, was, same, at) = seen_dir-was (st.stands p).scans k c t (st.memory (place.Directory c t)) k' b' now in same ∙ mk.m_coll p k' c' a' e' old in_n was (subst (λ (j : ℕ). (ms j).visited k' (object a' e' c') ≡ true) eq vs)) (λ ne. grind (arith, nat_tests, mk.m_coll i k' c' a' e' b' li));
  m_met = λ i k' c' a' e' s' b' li is of bg pr lt. by_eq i p (λ eq. let now = subst (λ (l : Stand). scan_of l.scans k' ≡ Some b') (put_stand-same st.stands p i _ eq) is in let (old, was, same, at) = seen_dir-was (st.stands p).scans k c t (st.memory (place.Directory c t)) k' b' now in subst (λ (j : ℕ). (ms j).visited k' (object a' e' c') ≡ true) (sym eq) (elim at [ inl kept ↦ mk.m_met p k' c' a' e' s' old in_n was (sym same ∙ of) (subst (λ (j : ℕ). (ms j).began k' (object a' e' c') ≡ true) eq bg) pr (subst (λ (z : ℕ). s' < z) kept lt) | inr left ↦ (let place_so = call_place sh st h r p k c t old (phase.Scan (scan.Directory k c t)) in_n at_call refl (subst (λ (z : ℕ). scan_of (st.stands p).scans z ≡ Some old) left.0 was) in let step_so = left.1 in by_eq s' t (λ sl. absurd (unscanned sh st h c' a' e' t (subst (λ (z : ℕ). present_at (state_in st.memory c' e') ≡ Some (a', z)) sl pr) (subst (λ (z : ℕ). is_scanned (dir_in st.memory z t) ≡ false) (sym (sym (sym same ∙ of) ∙ place_so.0)) left.2))) (λ ns. mk.m_met p k' c' a' e' s' old in_n was (sym same ∙ of) (subst (λ (j : ℕ). (ms j).began k' (object a' e' c') ≡ true) eq bg) pr (omega (arith, ns, lt, step_so, place_so.1)))) ])) (λ ne. grind (arith, nat_tests, mk.m_met i k' c' a' e' s' b' li));
  m_once = λ i k' c' a' e' s' b' li is vs pr. by_eq i p (λ eq. let now = subst (λ (l : Stand). scan_of l.scans k' ≡ Some b') (put_stand-same st.stands p i _ eq) is in let (old, was, same, at) = seen_dir-was (st.stands p).scans k c t (st.memory (place.Directory c t)) k' b' now in let before = mk.m_once p k' c' a' e' s' old in_n was (subst (λ (j : ℕ). (ms j).visited k' (object a' e' c') ≡ true) eq vs) pr in elim at [ inl kept ↦ subst (λ (z : ℕ). s' < z) (sym kept) before | inr left ↦ (let place_so = call_place sh st h r p k c t old (phase.Scan (scan.Directory k c t)) in_n at_call refl (subst (λ (z : ℕ). scan_of (st.stands p).scans z ≡ Some old) left.0 was) in let step_so = left.1 in omega (arith, before, step_so, place_so.1)) ]) (λ ne. grind (arith, nat_tests, mk.m_once i k' c' a' e' s' b' li));
})

-- kind LoadBack
pub scan_back : (ms : ℕ → Marks) (sh : Layout) (st : S.State) (p : ℕ) (x : ℕ) (calm : Bool) (k : ℕ) (c : ℕ) (t : ℕ) (told : ℕ) → p < sh.passes → (st.stands p).section ≡ Inside x calm → (st.stands p).phase ≡ phase.Scan (scan.Back k c t) → Shut sh st → ScansAgree sh st → MarksAgree sh st ms → IsHere st
    → KeepsMarks ms sh st p Go (Inside x calm) (phase.Scan (scan.Back k c t)) told (Load (place.Back c t))
scan_back ms sh st p x calm k c t told in_n at_sec at_call h r mk hr = unmarked sh (did sh st p Go (Inside x calm) (phase.Scan (scan.Back k c t)) told (Load (place.Back c t))) ms p st.world (change sh p (st.stands p) (Inside x calm) (phase.Scan (scan.Back k c t)) Go told (seen (Load (place.Back c t)) st.memory)).event (grind (arith, nat_tests)) (record {
  m_began = λ i k' c' a' e' b' li is bg. by_eq i p (λ eq. let now = subst (λ (l : Stand). scan_of l.scans k' ≡ Some b') (put_stand-same st.stands p i _ eq) is in let (old, was, same, at) = seen_back-was (st.stands p).scans k c t (st.memory (place.Back c t)) k' b' now in let given = mk.m_began p k' c' a' e' old in_n was (subst (λ (j : ℕ). (ms j).began k' (object a' e' c') ≡ true) eq bg) in grind (arith, nat_tests, given)) (λ ne. grind (arith, nat_tests, mk.m_began i k' c' a' e' b' li));
  m_given = λ i k' c' a' e' b' li is vs. by_eq i p (λ eq. let now = subst (λ (l : Stand). scan_of l.scans k' ≡ Some b') (put_stand-same st.stands p i _ eq) is in let (old, was, same, at) = seen_back-was (st.stands p).scans k c t (st.memory (place.Back c t)) k' b' now in let given = mk.m_given p k' c' a' e' old in_n was (subst (λ (j : ℕ). (ms j).visited k' (object a' e' c') ≡ true) eq vs) in grind (arith, nat_tests, given)) (λ ne. grind (arith, nat_tests, mk.m_given i k' c' a' e' b' li));
  m_coll = λ i k' c' a' e' b' li is vs. by_eq i p (λ eq. let now = subst (λ (l : Stand). scan_of l.scans k' ≡ Some b') (put_stand-same st.stands p i _ eq) is in let (old, was, same, at) = seen_back-was (st.stands p).scans k c t (st.memory (place.Back c t)) k' b' now in same ∙ mk.m_coll p k' c' a' e' old in_n was (subst (λ (j : ℕ). (ms j).visited k' (object a' e' c') ≡ true) eq vs)) (λ ne. grind (arith, nat_tests, mk.m_coll i k' c' a' e' b' li));
  m_met = λ i k' c' a' e' s' b' li is of bg pr lt. by_eq i p (λ eq. let now = subst (λ (l : Stand). scan_of l.scans k' ≡ Some b') (put_stand-same st.stands p i _ eq) is in let (old, was, same, at) = seen_back-was (st.stands p).scans k c t (st.memory (place.Back c t)) k' b' now in subst (λ (j : ℕ). (ms j).visited k' (object a' e' c') ≡ true) (sym eq) (elim at [ inl kept ↦ mk.m_met p k' c' a' e' s' old in_n was (sym same ∙ of) (subst (λ (j : ℕ). (ms j).began k' (object a' e' c') ≡ true) eq bg) pr (subst (λ (z : ℕ). s' < z) kept lt) | inr left ↦ (let place_so = call_place sh st h r p k c t old (phase.Scan (scan.Back k c t)) in_n at_call refl (subst (λ (z : ℕ). scan_of (st.stands p).scans z ≡ Some old) left.0 was) in let step_so = left.1 in by_eq s' t (λ sl. absurd (unnamed sh st h c' a' e' t (subst (λ (z : ℕ). present_at (state_in st.memory c' e') ≡ Some (a', z)) sl pr) (subst (λ (z : ℕ). back_in st.memory z t ≡ None) (sym (sym (sym same ∙ of) ∙ place_so.0)) left.2))) (λ ns. mk.m_met p k' c' a' e' s' old in_n was (sym same ∙ of) (subst (λ (j : ℕ). (ms j).began k' (object a' e' c') ≡ true) eq bg) pr (omega (arith, ns, lt, step_so, place_so.1)))) ])) (λ ne. grind (arith, nat_tests, mk.m_met i k' c' a' e' s' b' li));
  m_once = λ i k' c' a' e' s' b' li is vs pr. by_eq i p (λ eq. let now = subst (λ (l : Stand). scan_of l.scans k' ≡ Some b') (put_stand-same st.stands p i _ eq) is in let (old, was, same, at) = seen_back-was (st.stands p).scans k c t (st.memory (place.Back c t)) k' b' now in let before = mk.m_once p k' c' a' e' s' old in_n was (subst (λ (j : ℕ). (ms j).visited k' (object a' e' c') ≡ true) eq vs) pr in elim at [ inl kept ↦ subst (λ (z : ℕ). s' < z) (sym kept) before | inr left ↦ (let place_so = call_place sh st h r p k c t old (phase.Scan (scan.Back k c t)) in_n at_call refl (subst (λ (z : ℕ). scan_of (st.stands p).scans z ≡ Some old) left.0 was) in let step_so = left.1 in omega (arith, before, step_so, place_so.1)) ]) (λ ne. grind (arith, nat_tests, mk.m_once i k' c' a' e' s' b' li));
})

-- kind LoadSection
pub scan_end : (ms : ℕ → Marks) (sh : Layout) (st : S.State) (p : ℕ) (x : ℕ) (calm : Bool) (k : ℕ) (told : ℕ) → p < sh.passes → (st.stands p).section ≡ Inside x calm → (st.stands p).phase ≡ phase.Scan (scan.End k) → Shut sh st → ScansAgree sh st → MarksAgree sh st ms → IsHere st
    → KeepsMarks ms sh st p Go (Inside x calm) (phase.Scan (scan.End k)) told (Load (place.Section p))
scan_end ms sh st p x calm k told in_n at_sec at_call h r mk hr = unmarked sh (did sh st p Go (Inside x calm) (phase.Scan (scan.End k)) told (Load (place.Section p))) ms p st.world (change sh p (st.stands p) (Inside x calm) (phase.Scan (scan.End k)) Go told (seen (Load (place.Section p)) st.memory)).event (grind (arith, nat_tests)) (record {
  m_began = λ i k' c' a' e' b' li is bg. by_eq i p (λ eq. let now = subst (λ (l : Stand). scan_of l.scans k' ≡ Some b') (put_stand-same st.stands p i _ eq) is in let (old, was, same, kept) = ended-was (st.stands p).scans k k' b' now in let given = mk.m_began p k' c' a' e' old in_n was (subst (λ (j : ℕ). (ms j).began k' (object a' e' c') ≡ true) eq bg) in grind (arith, nat_tests, given)) (λ ne. grind (arith, nat_tests, mk.m_began i k' c' a' e' b' li));
  m_given = λ i k' c' a' e' b' li is vs. by_eq i p (λ eq. let now = subst (λ (l : Stand). scan_of l.scans k' ≡ Some b') (put_stand-same st.stands p i _ eq) is in let (old, was, same, kept) = ended-was (st.stands p).scans k k' b' now in let given = mk.m_given p k' c' a' e' old in_n was (subst (λ (j : ℕ). (ms j).visited k' (object a' e' c') ≡ true) eq vs) in grind (arith, nat_tests, given)) (λ ne. grind (arith, nat_tests, mk.m_given i k' c' a' e' b' li));
  m_coll = λ i k' c' a' e' b' li is vs. by_eq i p (λ eq. let now = subst (λ (l : Stand). scan_of l.scans k' ≡ Some b') (put_stand-same st.stands p i _ eq) is in let (old, was, same, kept) = ended-was (st.stands p).scans k k' b' now in same ∙ mk.m_coll p k' c' a' e' old in_n was (subst (λ (j : ℕ). (ms j).visited k' (object a' e' c') ≡ true) eq vs)) (λ ne. grind (arith, nat_tests, mk.m_coll i k' c' a' e' b' li));
  m_met = λ i k' c' a' e' s' b' li is of bg pr lt. by_eq i p (λ eq. let now = subst (λ (l : Stand). scan_of l.scans k' ≡ Some b') (put_stand-same st.stands p i _ eq) is in let (old, was, same, kept) = ended-was (st.stands p).scans k k' b' now in subst (λ (j : ℕ). (ms j).visited k' (object a' e' c') ≡ true) (sym eq) (mk.m_met p k' c' a' e' s' old in_n was (sym same ∙ of) (subst (λ (j : ℕ). (ms j).began k' (object a' e' c') ≡ true) eq bg) pr (subst (λ (z : ℕ). s' < z) kept lt))) (λ ne. grind (arith, nat_tests, mk.m_met i k' c' a' e' s' b' li));
  m_once = λ i k' c' a' e' s' b' li is vs pr. by_eq i p (λ eq. let now = subst (λ (l : Stand). scan_of l.scans k' ≡ Some b') (put_stand-same st.stands p i _ eq) is in let (old, was, same, kept) = ended-was (st.stands p).scans k k' b' now in subst (λ (z : ℕ). s' < z) (sym kept) (mk.m_once p k' c' a' e' s' old in_n was (subst (λ (j : ℕ). (ms j).visited k' (object a' e' c') ≡ true) eq vs) pr)) (λ ne. grind (arith, nat_tests, mk.m_once i k' c' a' e' s' b' li));
})

-- kind LoadDirectory
pub survey : (ms : ℕ → Marks) (sh : Layout) (st : S.State) (p : ℕ) (x : ℕ) (calm : Bool) (c : ℕ) (told : ℕ) → p < sh.passes → (st.stands p).section ≡ Inside x calm → (st.stands p).phase ≡ phase.Idle → Shut sh st → ScansAgree sh st → MarksAgree sh st ms → IsHere st
    → KeepsMarks ms sh st p (Start (call.Survey c)) (Inside x calm) phase.Idle told (Load (place.Directory c 0))
survey ms sh st p x calm c told in_n at_sec at_call h r mk hr = unmarked sh (did sh st p (Start (call.Survey c)) (Inside x calm) phase.Idle told (Load (place.Directory c 0))) ms p st.world (change sh p (st.stands p) (Inside x calm) phase.Idle (Start (call.Survey c)) told (seen (Load (place.Directory c 0)) st.memory)).event (grind (arith, nat_tests)) (record {
  m_began = λ i k' c' a' e' b' li is bg. grind (arith, nat_tests, mk.m_began i k' c' a' e' b' li);
  m_given = λ i k' c' a' e' b' li is vs. grind (arith, nat_tests, mk.m_given i k' c' a' e' b' li);
  m_coll = λ i k' c' a' e' b' li is vs. grind (arith, nat_tests, mk.m_coll i k' c' a' e' b' li);
  m_met = λ i k' c' a' e' s' b' li is of bg pr lt. grind (arith, nat_tests, mk.m_met i k' c' a' e' s' b' li);
  m_once = λ i k' c' a' e' s' b' li is vs pr. grind (arith, nat_tests, mk.m_once i k' c' a' e' s' b' li);
})

-- kind LoadDirectory
pub survey_dir : (ms : ℕ → Marks) (sh : Layout) (st : S.State) (p : ℕ) (x : ℕ) (calm : Bool) (c : ℕ) (t : ℕ) (cnt : Count) (told : ℕ) → p < sh.passes → (st.stands p).section ≡ Inside x calm → (st.stands p).phase ≡ phase.Survey (walk.Directory c t cnt) → Shut sh st → ScansAgree sh st → MarksAgree sh st ms → IsHere st
    → KeepsMarks ms sh st p Go (Inside x calm) (phase.Survey (walk.Directory c t cnt)) told (Load (place.Directory c t))
survey_dir ms sh st p x calm c t cnt told in_n at_sec at_call h r mk hr = unmarked sh (did sh st p Go (Inside x calm) (phase.Survey (walk.Directory c t cnt)) told (Load (place.Directory c t))) ms p st.world (change sh p (st.stands p) (Inside x calm) (phase.Survey (walk.Directory c t cnt)) Go told (seen (Load (place.Directory c t)) st.memory)).event (grind (arith, nat_tests)) (record {
  m_began = λ i k' c' a' e' b' li is bg. grind (arith, nat_tests, mk.m_began i k' c' a' e' b' li);
  m_given = λ i k' c' a' e' b' li is vs. grind (arith, nat_tests, mk.m_given i k' c' a' e' b' li);
  m_coll = λ i k' c' a' e' b' li is vs. grind (arith, nat_tests, mk.m_coll i k' c' a' e' b' li);
  m_met = λ i k' c' a' e' s' b' li is of bg pr lt. grind (arith, nat_tests, mk.m_met i k' c' a' e' s' b' li);
  m_once = λ i k' c' a' e' s' b' li is vs pr. grind (arith, nat_tests, mk.m_once i k' c' a' e' s' b' li);
})

-- kind LoadBack
pub survey_back : (ms : ℕ → Marks) (sh : Layout) (st : S.State) (p : ℕ) (x : ℕ) (calm : Bool) (c : ℕ) (t : ℕ) (cnt : Count) (told : ℕ) → p < sh.passes → (st.stands p).section ≡ Inside x calm → (st.stands p).phase ≡ phase.Survey (walk.Back c t cnt) → Shut sh st → ScansAgree sh st → MarksAgree sh st ms → IsHere st
    → KeepsMarks ms sh st p Go (Inside x calm) (phase.Survey (walk.Back c t cnt)) told (Load (place.Back c t))
survey_back ms sh st p x calm c t cnt told in_n at_sec at_call h r mk hr = unmarked sh (did sh st p Go (Inside x calm) (phase.Survey (walk.Back c t cnt)) told (Load (place.Back c t))) ms p st.world (change sh p (st.stands p) (Inside x calm) (phase.Survey (walk.Back c t cnt)) Go told (seen (Load (place.Back c t)) st.memory)).event (grind (arith, nat_tests)) (record {
  m_began = λ i k' c' a' e' b' li is bg. grind (arith, nat_tests, mk.m_began i k' c' a' e' b' li);
  m_given = λ i k' c' a' e' b' li is vs. grind (arith, nat_tests, mk.m_given i k' c' a' e' b' li);
  m_coll = λ i k' c' a' e' b' li is vs. grind (arith, nat_tests, mk.m_coll i k' c' a' e' b' li);
  m_met = λ i k' c' a' e' s' b' li is of bg pr lt. grind (arith, nat_tests, mk.m_met i k' c' a' e' s' b' li);
  m_once = λ i k' c' a' e' s' b' li is vs pr. grind (arith, nat_tests, mk.m_once i k' c' a' e' s' b' li);
})

-- kind LoadEntry
pub survey_entry : (ms : ℕ → Marks) (sh : Layout) (st : S.State) (p : ℕ) (x : ℕ) (calm : Bool) (c : ℕ) (t : ℕ) (cnt : Count) (c2 : ℕ) (a : ℕ) (e : ℕ) (told : ℕ) → p < sh.passes → (st.stands p).section ≡ Inside x calm → (st.stands p).phase ≡ phase.Survey (walk.Entry c t cnt (object a e c2)) → Shut sh st → ScansAgree sh st → MarksAgree sh st ms → IsHere st
    → KeepsMarks ms sh st p Go (Inside x calm) (phase.Survey (walk.Entry c t cnt (object a e c2))) told (Load (place.Entry c2 e))
survey_entry ms sh st p x calm c t cnt c2 a e told in_n at_sec at_call h r mk hr = unmarked sh (did sh st p Go (Inside x calm) (phase.Survey (walk.Entry c t cnt (object a e c2))) told (Load (place.Entry c2 e))) ms p st.world (change sh p (st.stands p) (Inside x calm) (phase.Survey (walk.Entry c t cnt (object a e c2))) Go told (seen (Load (place.Entry c2 e)) st.memory)).event (grind (arith, nat_tests)) (record {
  m_began = λ i k' c' a' e' b' li is bg. grind (arith, nat_tests, mk.m_began i k' c' a' e' b' li);
  m_given = λ i k' c' a' e' b' li is vs. grind (arith, nat_tests, mk.m_given i k' c' a' e' b' li);
  m_coll = λ i k' c' a' e' b' li is vs. grind (arith, nat_tests, mk.m_coll i k' c' a' e' b' li);
  m_met = λ i k' c' a' e' s' b' li is of bg pr lt. grind (arith, nat_tests, mk.m_met i k' c' a' e' s' b' li);
  m_once = λ i k' c' a' e' s' b' li is vs pr. grind (arith, nat_tests, mk.m_once i k' c' a' e' s' b' li);
})
