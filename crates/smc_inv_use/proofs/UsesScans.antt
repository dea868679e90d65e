-- Steps keep the agreement: uses, scans. Written by tools/laws.py.
use Rattle.std.proofs.Common.{◌≡◌, ℕ, ◌<◌, Bool, true, false, Some, inl, arith}
use Rattle.std.proofs.lemmas.Bool.Decides.{nat_tests}
use Rattle.smc_shape.specs.Layout.{Layout}
use Rattle.smc_shape.specs.declared.place.Place.TheVariants as place
use Rattle.smc_core.specs.declared.call.Call.TheVariants as call
use Rattle.smc_core.specs.declared.call.Choice.TheVariants.{Start, Go}
use Rattle.smc_core.specs.declared.local.Scan.{Scan}
use Rattle.smc_core.specs.declared.op.Op.TheVariants.{Load}
use Rattle.smc_core.specs.declared.phase.Phase.TheVariants as phase
use Rattle.smc_core.specs.declared.phase.moves.Count.{Count}
use Rattle.smc_core.specs.declared.phase.moves.CountPhase.TheVariants as walk
use Rattle.smc_core.specs.declared.phase.objects.ScanPhase.TheVariants as scan
use Rattle.smc_core.specs.declared.section.Section.TheVariants.{Inside}
use Rattle.smc_core.specs.Scan.{scan_of, is_over}
use Rattle.smc_rules.specs.Reads.{object}
use Rattle.smc_rules.specs.State as S
use Rattle.smc_rules.specs.State.{put_stand}
use Rattle.smc_agreement.proofs.Whole.{Shut, calls, did, moved, sections}
use Rattle.smc_rules.specs.Memory.{apply, seen}
use Rattle.smc_inv_use.specs.Uses.{UsesAgree}
use Rattle.smc_inv_use.proofs.UseLaws.{kept_use}

-- kind LoadSection
pub starts_scan : (sh : Layout) (st : S.State) (p : ℕ) (x : ℕ) (calm : Bool) (c : ℕ) (told : ℕ) → p < sh.passes → (st.stands p).section ≡ Inside x calm → (st.stands p).phase ≡ phase.Idle → Shut sh st → UsesAgree sh st
    → UsesAgree sh (did sh st p (Start (call.Scan c)) (Inside x calm) phase.Idle told (Load (place.Section p)))
starts_scan sh st p x calm c told in_n at_sec at_call h r = record {
  u_slot = λ c' s' is. kept_use sh st.memory (apply (Load (place.Section p)) st.memory) st.stands p (moved sh p (st.stands p) (Inside x calm) phase.Idle (Start (call.Scan c)) told (seen (Load (place.Section p)) st.memory)) phase.Idle c' s' at_call (λ y0. let (a1, e1, y) = y0 in inl (a1, e1, y)) (λ y0. let (a1, e1, y) = y0 in (absurd (cc))) (λ y. (absurd (cc))) (r.u_slot c' s' is);
  u_named = λ i c' s' li is. grind (arith, nat_tests, r.u_named i c' s' li, (calls h).calls p in_n, sections sh st h p in_n);
  u_moves = λ i c' s' t' a' e' li is nm inc. grind (arith, nat_tests, r.u_moves i c' s' t' a' e' li, (calls h).calls p in_n, sections sh st h p in_n);
}

-- kind LoadSection
pub next_over : (sh : Layout) (st : S.State) (p : ℕ) (x : ℕ) (calm : Bool) (k : ℕ) (b1 : Scan) (told : ℕ) → p < sh.passes → (st.stands p).section ≡ Inside x calm → (st.stands p).phase ≡ phase.Idle → scan_of (st.stands p).scans k ≡ Some b1 → is_over sh b1 ≡ true → Shut sh st → UsesAgree sh st
    → UsesAgree sh (did sh st p (Start (call.Next k)) (Inside x calm) phase.Idle told (Load (place.Section p)))
next_over sh st p x calm k b1 told in_n at_sec at_call pre1 pre2 h r = record {
  u_slot = λ c' s' is. kept_use sh st.memory (apply (Load (place.Section p)) st.memory) st.stands p (moved sh p (st.stands p) (Inside x calm) phase.Idle (Start (call.Next k)) told (seen (Load (place.Section p)) st.memory)) phase.Idle c' s' at_call (λ y0. let (a1, e1, y) = y0 in inl (a1, e1, y)) (λ y0. let (a1, e1, y) = y0 in (absurd (cc))) (λ y. (absurd (cc))) (r.u_slot c' s' is);
  u_named = λ i c' s' li is. grind (arith, nat_tests, r.u_named i c' s' li, (calls h).calls p in_n, sections sh st h p in_n);
  u_moves = λ i c' s' t' a' e' li is nm inc. grind (arith, nat_tests, r.u_moves i c' s' t' a' e' li, (calls h).calls p in_n, sections sh st h p in_n);
}

-- kind LoadDirectory
pub next_slot : (sh : Layout) (st : S.State) (p : ℕ) (x : ℕ) (calm : Bool) (k : ℕ) (b1 : Scan) (told : ℕ) → p < sh.passes → (st.stands p).section ≡ Inside x calm → (st.stands p).phase ≡ phase.Idle → scan_of (st.stands p).scans k ≡ Some b1 → is_over sh b1 ≡ false → Shut sh st → UsesAgree sh st
    → UsesAgree sh (did sh st p (Start (call.Next k)) (Inside x calm) phase.Idle told (Load (place.Directory b1.coll b1.place)))
next_slot sh st p x calm k b1 told in_n at_sec at_call pre1 pre2 h r = record {
  u_slot = λ c' s' is. kept_use sh st.memory (apply (Load (place.Directory b1.coll b1.place)) st.memory) st.stands p (moved sh p (st.stands p) (Inside x calm) phase.Idle (Start (call.Next k)) told (seen (Load (place.Directory b1.coll b1.place)) st.memory)) phase.Idle c' s' at_call (λ y0. let (a1, e1, y) = y0 in inl (a1, e1, y)) (λ y0. let (a1, e1, y) = y0 in (absurd (cc))) (λ y. (absurd (cc))) (r.u_slot c' s' is);
  u_named = λ i c' s' li is. grind (arith, nat_tests, r.u_named i c' s' li, (calls h).calls p in_n, sections sh st h p in_n);
  u_moves = λ i c' s' t' a' e' li is nm inc. grind (arith, nat_tests, r.u_moves i c' s' t' a' e' li, (calls h).calls p in_n, sections sh st h p in_n);
}

-- kind LoadDirectory
pub scan_dir : (sh : Layout) (st : S.State) (p : ℕ) (x : ℕ) (calm : Bool) (k : ℕ) (c : ℕ) (t : ℕ) (told : ℕ) → p < sh.passes → (st.stands p).section ≡ Inside x calm → (st.stands p).phase ≡ phase.Scan (scan.Directory k c t) → Shut sh st → UsesAgree sh st
    → UsesAgree sh (did sh st p Go (Inside x calm) (phase.Scan (scan.Directory k c t)) told (Load (place.Directory c t)))
scan_dir sh st p x calm k c t told in_n at_sec at_call h r = record {
  u_slot = λ c' s' is. kept_use sh st.memory (apply (Load (place.Directory c t)) st.memory) st.stands p (moved sh p (st.stands p) (Inside x calm) (phase.Scan (scan.Directory k c t)) Go told (seen (Load (place.Directory c t)) st.memory)) (phase.Scan (scan.Directory k c t)) c' s' at_call (λ y0. let (a1, e1, y) = y0 in inl (a1, e1, y)) (λ y0. let (a1, e1, y) = y0 in (absurd (cc))) (λ y. (absurd (cc))) (r.u_slot c' s' is);
  u_named = λ i c' s' li is. grind (arith, nat_tests, r.u_named i c' s' li, (calls h).calls p in_n, sections sh st h p in_n);
  u_moves = λ i c' s' t' a' e' li is nm inc. grind (arith, nat_tests, r.u_moves i c' s' t' a' e' li, (calls h).calls p in_n, sections sh st h p in_n);
}

-- kind LoadBack
pub scan_back : (sh : Layout) (st : S.State) (p : ℕ) (x : ℕ) (calm : Bool) (k : ℕ) (c : ℕ) (t : ℕ) (told : ℕ) → p < sh.passes → (st.stands p).section ≡ Inside x calm → (st.stands p).phase ≡ phase.Scan (scan.Back k c t) → Shut sh st → UsesAgree sh st
    → UsesAgree sh (did sh st p Go (Inside x calm) (phase.Scan (scan.Back k c t)) told (Load (place.Back c t)))
scan_back sh st p x calm k c t told in_n at_sec at_call h r = record {
  u_slot = λ c' s' is. kept_use sh st.memory (apply (Load (place.Back c t)) st.memory) st.stands p (moved sh p (st.stands p) (Inside x calm) (phase.Scan (scan.Back k c t)) Go told (seen (Load (place.Back c t)) st.memory)) (phase.Scan (scan.Back k c t)) c' s' at_call (λ y0. let (a1, e1, y) = y0 in inl (a1, e1, y)) (λ y0. let (a1, e1, y) = y0 in (absurd (cc))) (λ y. (absurd (cc))) (r.u_slot c' s' is);
  u_named = λ i c' s' li is. grind (arith, nat_tests, r.u_named i c' s' li, (calls h).calls p in_n, sections sh st h p in_n);
  u_moves = λ i c' s' t' a' e' li is nm inc. grind (arith, nat_tests, r.u_moves i c' s' t' a' e' li, (calls h).calls p in_n, sections sh st h p in_n);
}

-- kind LoadSection
pub scan_end : (sh : Layout) (st : S.State) (p : ℕ) (x : ℕ) (calm : Bool) (k : ℕ) (told : ℕ) → p < sh.passes → (st.stands p).section ≡ Inside x calm → (st.stands p).phase ≡ phase.Scan (scan.End k) → Shut sh st → UsesAgree sh st
    → UsesAgree sh (did sh st p Go (Inside x calm) (phase.Scan (scan.End k)) told (Load (place.Section p)))
scan_end sh st p x calm k told in_n at_sec at_call h r = record {
  u_slot = λ c' s' is. kept_use sh st.memory (apply (Load (place.Section p)) st.memory) st.stands p (moved sh p (st.stands p) (Inside x calm) (phase.Scan (scan.End k)) Go told (seen (Load (place.Section p)) st.memory)) (phase.Scan (scan.End k)) c' s' at_call (λ y0. let (a1, e1, y) = y0 in inl (a1, e1, y)) (λ y0. let (a1, e1, y) = y0 in (absurd (cc))) (λ y. (absurd (cc))) (r.u_slot c' s' is);
  u_named = λ i c' s' li is. grind (arith, nat_tests, r.u_named i c' s' li, (calls h).calls p in_n, sections sh st h p in_n);
  u_moves = λ i c' s' t' a' e' li is nm inc. grind (arith, nat_tests, r.u_moves i c' s' t' a' e' li, (calls h).calls p in_n, sections sh st h p in_n);
}

-- kind LoadDirectory
pub survey : (sh : Layout) (st : S.State) (p : ℕ) (x : ℕ) (calm : Bool) (c : ℕ) (told : ℕ) → p < sh.passes → (st.stands p).section ≡ Inside x calm → (st.stands p).phase ≡ phase.Idle → Shut sh st → UsesAgree sh st
    → UsesAgree sh (did sh st p (Start (call.Survey c)) (Inside x calm) phase.Idle told (Load (place.Directory c 0)))
survey sh st p x calm c told in_n at_sec at_call h r = record {
  u_slot = λ c' s' is. kept_use sh st.memory (apply (Load (place.Directory c 0)) st.memory) st.stands p (moved sh p (st.stands p) (Inside x calm) phase.Idle (Start (call.Survey c)) told (seen (Load (place.Directory c 0)) st.memory)) phase.Idle c' s' at_call (λ y0. let (a1, e1, y) = y0 in inl (a1, e1, y)) (λ y0. let (a1, e1, y) = y0 in (absurd (cc))) (λ y. (absurd (cc))) (r.u_slot c' s' is);
  u_named = λ i c' s' li is. grind (arith, nat_tests, r.u_named i c' s' li, (calls h).calls p in_n, sections sh st h p in_n);
  u_moves = λ i c' s' t' a' e' li is nm inc. grind (arith, nat_tests, r.u_moves i c' s' t' a' e' li, (calls h).calls p in_n, sections sh st h p in_n);
}

-- kind LoadDirectory
pub survey_dir : (sh : Layout) (st : S.State) (p : ℕ) (x : ℕ) (calm : Bool) (c : ℕ) (t : ℕ) (cnt : Count) (told : ℕ) → p < sh.passes → (st.stands p).section ≡ Inside x calm → (st.stands p).phase ≡ phase.Survey (walk.Directory c t cnt) → Shut sh st → UsesAgree sh st
    → UsesAgree sh (did sh st p Go (Inside x calm) (phase.Survey (walk.Directory c t cnt)) told (Load (place.Directory c t)))
survey_dir sh st p x calm c t cnt told in_n at_sec at_call h r = record {
  u_slot = λ c' s' is. kept_use sh st.memory (apply (Load (place.Directory c t)) st.memory) st.stands p (moved sh p (st.stands p) (Inside x calm) (phase.Survey (walk.Directory c t cnt)) Go told (seen (Load (place.Directory c t)) st.memory)) (phase.Survey (walk.Directory c t cnt)) c' s' at_call (λ y0. let (a1, e1, y) = y0 in inl (a1, e1, y)) (λ y0. let (a1, e1, y) = y0 in (absurd (cc))) (λ y. (absurd (cc))) (r.u_slot c' s' is);
  u_named = λ i c' s' li is. grind (arith, nat_tests, r.u_named i c' s' li, (calls h).calls p in_n, sections sh st h p in_n);
  u_moves = λ i c' s' t' a' e' li is nm inc. grind (arith, nat_tests, r.u_moves i c' s' t' a' e' li, (calls h).calls p in_n, sections sh st h p in_n);
}

-- kind LoadBack
pub survey_back : (sh : Layout) (st : S.State) (p : ℕ) (x : ℕ) (calm : Bool) (c : ℕ) (t : ℕ) (cnt : Count) (told : ℕ) → p < sh.passes → (st.stands p).section ≡ Inside x calm → (st.stands p).phase ≡ phase.Survey (walk.Back c t cnt) → Shut sh st → UsesAgree sh st
    → UsesAgree sh (did sh st p Go (Inside x calm) (phase.Survey (walk.Back c t cnt)) told (Load (place.Back c t)))
survey_back sh st p x calm c t cnt told in_n at_sec at_call h r = record {
  u_slot = λ c' s' is. kept_use sh st.memory (apply (Load (place.Back c t)) st.memory) st.stands p (moved sh p (st.stands p) (Inside x calm) (phase.Survey (walk.Back c t cnt)) Go told (seen (Load (place.Back c t)) st.memory)) (phase.Survey (walk.Back c t cnt)) c' s' at_call (λ y0. let (a1, e1, y) = y0 in inl (a1, e1, y)) (λ y0. let (a1, e1, y) = y0 in (absurd (cc))) (λ y. (absurd (cc))) (r.u_slot c' s' is);
  u_named = λ i c' s' li is. grind (arith, nat_tests, r.u_named i c' s' li, (calls h).calls p in_n, sections sh st h p in_n);
  u_moves = λ i c' s' t' a' e' li is nm inc. grind (arith, nat_tests, r.u_moves i c' s' t' a' e' li, (calls h).calls p in_n, sections sh st h p in_n);
}

-- kind LoadEntry
pub survey_entry : (sh : Layout) (st : S.State) (p : ℕ) (x : ℕ) (calm : Bool) (c : ℕ) (t : ℕ) (cnt : Count) (c2 : ℕ) (a : ℕ) (e : ℕ) (told : ℕ) → p < sh.passes → (st.stands p).section ≡ Inside x calm → (st.stands p).phase ≡ phase.Survey (walk.Entry c t cnt (object a e c2)) → Shut sh st → UsesAgree sh st
    → UsesAgree sh (did sh st p Go (Inside x calm) (phase.Survey (walk.Entry c t cnt (object a e c2))) told (Load (place.Entry c2 e)))
survey_entry sh st p x calm c t cnt c2 a e told in_n at_sec at_call h r = record {
  u_slot = λ c' s' is. kept_use sh st.memory (apply (Load (place.Entry c2 e)) st.memory) st.stands p (moved sh p (st.stands p) (Inside x calm) (phase.Survey (walk.Entry c t cnt (object a e c2))) Go told (seen (Load (place.Entry c2 e)) st.memory)) (phase.Survey (walk.Entry c t cnt (object a e c2))) c' s' at_call (λ y0. let (a1, e1, y) = y0 in inl (a1, e1, y)) (λ y0. let (a1, e1, y) = y0 in (absurd (cc))) (λ y. (absurd (cc))) (r.u_slot c' s' is);
  u_named = λ i c' s' li is. grind (arith, nat_tests, r.u_named i c' s' li, (calls h).calls p in_n, sections sh st h p in_n);
  u_moves = λ i c' s' t' a' e' li is nm inc. grind (arith, nat_tests, r.u_moves i c' s' t' a' e' li, (calls h).calls p in_n, sections sh st h p in_n);
}
