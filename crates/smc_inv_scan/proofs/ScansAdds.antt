-- Steps keep the agreement: scans, adds. Written by tools/laws.py.
use Rattle.std.proofs.Common.{◌≡◌, ℕ, ◌+◌, ◌<◌, Bool, true, Some, List, slice_index, arith}
use Rattle.std.proofs.lemmas.Bool.Decides.{nat_tests}
use Rattle.smc_words.specs.declared.dir.Dir.{Dir}
use Rattle.smc_words.specs.declared.dir.Dir.TheVariants as dir
use Rattle.smc_shape.specs.Layout.{Layout}
use Rattle.smc_shape.specs.declared.place.Place.TheVariants as place
use Rattle.smc_core.specs.declared.call.Call.TheVariants as call
use Rattle.smc_core.specs.declared.call.Choice.TheVariants.{Start, Go}
use Rattle.smc_core.specs.declared.op.Op.TheVariants.{Load, Store, Exchange}
use Rattle.smc_core.specs.declared.phase.Phase.TheVariants as phase
use Rattle.smc_core.specs.declared.phase.objects.AddPhase.TheVariants as add
use Rattle.smc_core.specs.declared.section.Section.TheVariants.{Inside}
use Rattle.smc_core.specs.declared.word.State.TheVariants as state
use Rattle.smc_core.specs.declared.word.Word.TheVariants as word
use Rattle.smc_core.specs.Add.{takes}
use Rattle.smc_rules.specs.Reads.{object}
use Rattle.smc_rules.specs.State as S
use Rattle.smc_rules.specs.State.{put_stand}
use Rattle.smc_agreement.proofs.Whole.{Shut, calls, did, sections}
use Rattle.smc_inv_scan.specs.Scans.{ScansAgree}
use Rattle.smc_inv_scan.proofs.PlaceLaws.{sought-slot}

-- kind LoadDirectory
pub starts_add : (sh : Layout) (st : S.State) (p : ℕ) (x : ℕ) (calm : Bool) (c : ℕ) (k : ℕ) (ws : List ℕ) (told : ℕ) → p < sh.passes → (st.stands p).section ≡ Inside x calm → (st.stands p).phase ≡ phase.Idle → takes sh c k ws ≡ true → Shut sh st → ScansAgree sh st
    → ScansAgree sh (did sh st p (Start (call.Add c k ws)) (Inside x calm) phase.Idle told (Load (place.Directory c k)))
starts_add sh st p x calm c k ws told in_n at_sec at_call pre1 h r = record {
  s_apart = λ i li. grind (arith, nat_tests, r.s_apart i li, (calls h).calls p in_n, sections sh st h p in_n);
  s_fresh = λ i k' b' li is. grind (arith, nat_tests, r.s_fresh i k' b' li, (calls h).calls p in_n, sections sh st h p in_n);
  s_within = λ i k' b' li is. grind (arith, nat_tests, r.s_within i k' b' li, (calls h).calls p in_n, sections sh st h p in_n);
  s_place = λ i k' c' s' li is. grind (arith, nat_tests, r.s_place i k' c' s' li, (calls h).calls p in_n, sections sh st h p in_n);
  s_over = λ i k' li is. grind (arith, nat_tests, r.s_over i k' li, (calls h).calls p in_n, sections sh st h p in_n);
  s_dir = λ i c' s' li is. grind (arith, nat_tests, r.s_dir i c' s' li, (calls h).calls p in_n, sections sh st h p in_n);
  s_back = λ i c' s' a' e' d' li is. grind (arith, nat_tests, r.s_back i c' s' a' e' d' li, (calls h).calls p in_n, sections sh st h p in_n);
  s_home = λ i c' s' a' e' d' li is. grind (arith, nat_tests, r.s_home i c' s' a' e' d' li, (calls h).calls p in_n, sections sh st h p in_n);
  s_frozen = λ i k' c' a' e' s' b' r' li fz rd is of lt. grind (arith, nat_tests, r.s_frozen i k' c' a' e' s' b' r' li, (calls h).calls p in_n, sections sh st h p in_n);
  s_locked = λ i k' c' a' e' s' b' li lk is of. grind (arith, nat_tests, r.s_locked i k' c' a' e' s' b' li, (calls h).calls p in_n, sections sh st h p in_n);
}

-- kind LoadDirectory
pub find_slot : (sh : Layout) (st : S.State) (p : ℕ) (x : ℕ) (calm : Bool) (c : ℕ) (k : ℕ) (s : ℕ) (t : ℕ) (told : ℕ) → p < sh.passes → (st.stands p).section ≡ Inside x calm → (st.stands p).phase ≡ phase.Add (add.FindSlot c k s t) → Shut sh st → ScansAgree sh st
    → ScansAgree sh (did sh st p Go (Inside x calm) (phase.Add (add.FindSlot c k s t)) told (Load (place.Directory c s)))
find_slot sh st p x calm c k s t told in_n at_sec at_call h r = record {
  s_apart = λ i li. grind (arith, nat_tests, r.s_apart i li, (calls h).calls p in_n, sections sh st h p in_n);
  s_fresh = λ i k' b' li is. grind (arith, nat_tests, r.s_fresh i k' b' li, (calls h).calls p in_n, sections sh st h p in_n);
  s_within = λ i k' b' li is. grind (arith, nat_tests, r.s_within i k' b' li, (calls h).calls p in_n, sections sh st h p in_n);
  s_place = λ i k' c' s' li is. grind (arith, nat_tests, r.s_place i k' c' s' li, (calls h).calls p in_n, sections sh st h p in_n);
  s_over = λ i k' li is. grind (arith, nat_tests, r.s_over i k' li, (calls h).calls p in_n, sections sh st h p in_n);
  s_dir = λ i c' s' li is. grind (arith, nat_tests, r.s_dir i c' s' li, (calls h).calls p in_n, sections sh st h p in_n);
  s_back = λ i c' s' a' e' d' li is. grind (arith, nat_tests, r.s_back i c' s' a' e' d' li, (calls h).calls p in_n, sections sh st h p in_n);
  s_home = λ i c' s' a' e' d' li is. grind (arith, nat_tests, r.s_home i c' s' a' e' d' li, (calls h).calls p in_n, sections sh st h p in_n);
  s_frozen = λ i k' c' a' e' s' b' r' li fz rd is of lt. grind (arith, nat_tests, r.s_frozen i k' c' a' e' s' b' r' li, (calls h).calls p in_n, sections sh st h p in_n);
  s_locked = λ i k' c' a' e' s' b' li lk is of. grind (arith, nat_tests, r.s_locked i k' c' a' e' s' b' li, (calls h).calls p in_n, sections sh st h p in_n);
}

-- kind ClaimSlot
pub claim_slot : (sh : Layout) (st : S.State) (p : ℕ) (x : ℕ) (calm : Bool) (c : ℕ) (k : ℕ) (s : ℕ) (t : ℕ) (d : Dir) (told : ℕ) → p < sh.passes → (st.stands p).section ≡ Inside x calm → (st.stands p).phase ≡ phase.Add (add.ClaimSlot c k s t d) → Shut sh st → ScansAgree sh st
    → ScansAgree sh (did sh st p Go (Inside x calm) (phase.Add (add.ClaimSlot c k s t d)) told (Exchange (place.Directory c s) (word.Directory d) (word.Directory dir.Claimed)))
claim_slot sh st p x calm c k s t d told in_n at_sec at_call h r = record {
  s_apart = λ i li. grind (arith, nat_tests, r.s_apart i li, (calls h).calls p in_n, sections sh st h p in_n);
  s_fresh = λ i k' b' li is. grind (arith, nat_tests, r.s_fresh i k' b' li, (calls h).calls p in_n, sections sh st h p in_n);
  s_within = λ i k' b' li is. grind (arith, nat_tests, r.s_within i k' b' li, (calls h).calls p in_n, sections sh st h p in_n);
  s_place = λ i k' c' s' li is. grind (arith, nat_tests, r.s_place i k' c' s' li, (calls h).calls p in_n, sections sh st h p in_n);
  s_over = λ i k' li is. grind (arith, nat_tests, r.s_over i k' li, (calls h).calls p in_n, sections sh st h p in_n);
  s_dir = λ i c' s' li is. grind (arith, nat_tests, r.s_dir i c' s' li, (calls h).calls p in_n, sections sh st h p in_n, sections sh st h i li, (calls h).calls i li);
  s_back = λ i c' s' a' e' d' li is. grind (arith, nat_tests, r.s_back i c' s' a' e' d' li, (calls h).calls p in_n, sections sh st h p in_n);
  s_home = λ i c' s' a' e' d' li is. grind (arith, nat_tests, r.s_home i c' s' a' e' d' li, (calls h).calls p in_n, sections sh st h p in_n);
  s_frozen = λ i k' c' a' e' s' b' r' li fz rd is of lt. grind (arith, nat_tests, r.s_frozen i k' c' a' e' s' b' r' li, (calls h).calls p in_n, sections sh st h p in_n);
  s_locked = λ i k' c' a' e' s' b' li lk is of. grind (arith, nat_tests, r.s_locked i k' c' a' e' s' b' li, (calls h).calls p in_n, sections sh st h p in_n);
}

-- kind LoadEntry
pub find_entry : (sh : Layout) (st : S.State) (p : ℕ) (x : ℕ) (calm : Bool) (c : ℕ) (s : ℕ) (e : ℕ) (t : ℕ) (told : ℕ) → p < sh.passes → (st.stands p).section ≡ Inside x calm → (st.stands p).phase ≡ phase.Add (add.FindEntry c s e t) → Shut sh st → ScansAgree sh st
    → ScansAgree sh (did sh st p Go (Inside x calm) (phase.Add (add.FindEntry c s e t)) told (Load (place.Entry c e)))
find_entry sh st p x calm c s e t told in_n at_sec at_call h r = record {
  s_apart = λ i li. grind (arith, nat_tests, r.s_apart i li, (calls h).calls p in_n, sections sh st h p in_n);
  s_fresh = λ i k' b' li is. grind (arith, nat_tests, r.s_fresh i k' b' li, (calls h).calls p in_n, sections sh st h p in_n);
  s_within = λ i k' b' li is. grind (arith, nat_tests, r.s_within i k' b' li, (calls h).calls p in_n, sections sh st h p in_n);
  s_place = λ i k' c' s' li is. grind (arith, nat_tests, r.s_place i k' c' s' li, (calls h).calls p in_n, sections sh st h p in_n);
  s_over = λ i k' li is. grind (arith, nat_tests, r.s_over i k' li, (calls h).calls p in_n, sections sh st h p in_n);
  s_dir = λ i c' s' li is. grind (arith, nat_tests, r.s_dir i c' s' li, (calls h).calls p in_n, sections sh st h p in_n);
  s_back = λ i c' s' a' e' d' li is. grind (arith, nat_tests, r.s_back i c' s' a' e' d' li, (calls h).calls p in_n, sections sh st h p in_n);
  s_home = λ i c' s' a' e' d' li is. grind (arith, nat_tests, r.s_home i c' s' a' e' d' li, (calls h).calls p in_n, sections sh st h p in_n);
  s_frozen = λ i k' c' a' e' s' b' r' li fz rd is of lt. grind (arith, nat_tests, r.s_frozen i k' c' a' e' s' b' r' li, (calls h).calls p in_n, sections sh st h p in_n);
  s_locked = λ i k' c' a' e' s' b' li lk is of. grind (arith, nat_tests, r.s_locked i k' c' a' e' s' b' li, (calls h).calls p in_n, sections sh st h p in_n);
}

-- kind ClaimEntry
pub claim_entry : (sh : Layout) (st : S.State) (p : ℕ) (x : ℕ) (calm : Bool) (c : ℕ) (s : ℕ) (e : ℕ) (t : ℕ) (a : ℕ) (z : ℕ) (told : ℕ) → p < sh.passes → (st.stands p).section ≡ Inside x calm → (st.stands p).phase ≡ phase.Add (add.ClaimEntry c s e t a z) → Shut sh st → ScansAgree sh st
    → ScansAgree sh (did sh st p Go (Inside x calm) (phase.Add (add.ClaimEntry c s e t a z)) told (Exchange (place.Entry c e) (word.Entry (state.Free a z)) (word.Entry (state.Claimed (a + 1)))))
claim_entry sh st p x calm c s e t a z told in_n at_sec at_call h r = record {
  s_apart = λ i li. grind (arith, nat_tests, r.s_apart i li, (calls h).calls p in_n, sections sh st h p in_n);
  s_fresh = λ i k' b' li is. grind (arith, nat_tests, r.s_fresh i k' b' li, (calls h).calls p in_n, sections sh st h p in_n);
  s_within = λ i k' b' li is. grind (arith, nat_tests, r.s_within i k' b' li, (calls h).calls p in_n, sections sh st h p in_n);
  s_place = λ i k' c' s' li is. grind (arith, nat_tests, r.s_place i k' c' s' li, (calls h).calls p in_n, sections sh st h p in_n);
  s_over = λ i k' li is. grind (arith, nat_tests, r.s_over i k' li, (calls h).calls p in_n, sections sh st h p in_n);
  s_dir = λ i c' s' li is. grind (arith, nat_tests, r.s_dir i c' s' li, (calls h).calls p in_n, sections sh st h p in_n);
  s_back = λ i c' s' a' e' d' li is. grind (arith, nat_tests, r.s_back i c' s' a' e' d' li, (calls h).calls p in_n, sections sh st h p in_n);
  s_home = λ i c' s' a' e' d' li is. grind (arith, nat_tests, r.s_home i c' s' a' e' d' li, (calls h).calls p in_n, sections sh st h p in_n);
  s_frozen = λ i k' c' a' e' s' b' r' li fz rd is of lt. grind (arith, nat_tests, r.s_frozen i k' c' a' e' s' b' r' li, (calls h).c_slot p c s in_n, (calls h).calls p in_n, sections sh st h p in_n);
  s_locked = λ i k' c' a' e' s' b' li lk is of. grind (arith, nat_tests, r.s_locked i k' c' a' e' s' b' li, (calls h).c_slot p c s in_n, (calls h).calls p in_n, sections sh st h p in_n);
}

-- kind DropSlot
pub drop_slot : (sh : Layout) (st : S.State) (p : ℕ) (x : ℕ) (calm : Bool) (c : ℕ) (s : ℕ) (told : ℕ) → p < sh.passes → (st.stands p).section ≡ Inside x calm → (st.stands p).phase ≡ phase.Add (add.DropSlot c s) → Shut sh st → ScansAgree sh st
    → ScansAgree sh (did sh st p Go (Inside x calm) (phase.Add (add.DropSlot c s)) told (Store (place.Directory c s) (word.Directory dir.Free)))
drop_slot sh st p x calm c s told in_n at_sec at_call h r = record {
  s_apart = λ i li. grind (arith, nat_tests, r.s_apart i li, (calls h).calls p in_n, sections sh st h p in_n);
  s_fresh = λ i k' b' li is. grind (arith, nat_tests, r.s_fresh i k' b' li, (calls h).calls p in_n, sections sh st h p in_n);
  s_within = λ i k' b' li is. grind (arith, nat_tests, r.s_within i k' b' li, (calls h).calls p in_n, sections sh st h p in_n);
  s_place = λ i k' c' s' li is. grind (arith, nat_tests, r.s_place i k' c' s' li, (calls h).calls p in_n, sections sh st h p in_n);
  s_over = λ i k' li is. grind (arith, nat_tests, r.s_over i k' li, (calls h).calls p in_n, sections sh st h p in_n);
  s_dir = λ i c' s' li is. grind (arith, nat_tests, r.s_dir i c' s' li, (calls h).c_slot p c s in_n, (calls h).calls p in_n, sections sh st h p in_n);
  s_back = λ i c' s' a' e' d' li is. grind (arith, nat_tests, r.s_back i c' s' a' e' d' li, (calls h).calls p in_n, sections sh st h p in_n);
  s_home = λ i c' s' a' e' d' li is. grind (arith, nat_tests, r.s_home i c' s' a' e' d' li, (calls h).calls p in_n, sections sh st h p in_n);
  s_frozen = λ i k' c' a' e' s' b' r' li fz rd is of lt. grind (arith, nat_tests, r.s_frozen i k' c' a' e' s' b' r' li, (calls h).calls p in_n, sections sh st h p in_n);
  s_locked = λ i k' c' a' e' s' b' li lk is of. grind (arith, nat_tests, r.s_locked i k' c' a' e' s' b' li, (calls h).calls p in_n, sections sh st h p in_n);
}

-- kind StoreBack
pub store_back : (sh : Layout) (st : S.State) (p : ℕ) (x : ℕ) (calm : Bool) (c : ℕ) (s : ℕ) (a : ℕ) (e : ℕ) (told : ℕ) → p < sh.passes → (st.stands p).section ≡ Inside x calm → (st.stands p).phase ≡ phase.Add (add.StoreBack s (object a e c)) → Shut sh st → ScansAgree sh st
    → ScansAgree sh (did sh st p Go (Inside x calm) (phase.Add (add.StoreBack s (object a e c))) told (Store (place.Back c s) (word.Back (Some (object a e c)))))
store_back sh st p x calm c s a e told in_n at_sec at_call h r = record {
  s_apart = λ i li. grind (arith, nat_tests, r.s_apart i li, (calls h).calls p in_n, sections sh st h p in_n);
  s_fresh = λ i k' b' li is. grind (arith, nat_tests, r.s_fresh i k' b' li, (calls h).calls p in_n, sections sh st h p in_n);
  s_within = λ i k' b' li is. grind (arith, nat_tests, r.s_within i k' b' li, (calls h).calls p in_n, sections sh st h p in_n);
  s_place = λ i k' c' s' li is. grind (arith, nat_tests, r.s_place i k' c' s' li, (calls h).calls p in_n, sections sh st h p in_n);
  s_over = λ i k' li is. grind (arith, nat_tests, r.s_over i k' li, (calls h).calls p in_n, sections sh st h p in_n);
  s_dir = λ i c' s' li is. grind (arith, nat_tests, r.s_dir i c' s' li, (calls h).calls p in_n, sections sh st h p in_n);
  s_back = λ i c' s' a' e' d' li is. grind (arith, nat_tests, r.s_back i c' s' a' e' d' li, (calls h).c_slot p c s in_n, (calls h).c_entry p c a e in_n, (calls h).calls p in_n, sections sh st h p in_n, r.s_dir i c' s' li, sought-slot (st.stands i).phase (c', s') (object a' e' d'));
  s_home = λ i c' s' a' e' d' li is. grind (arith, nat_tests, r.s_home i c' s' a' e' d' li, (calls h).calls p in_n, sections sh st h p in_n);
  s_frozen = λ i k' c' a' e' s' b' r' li fz rd is of lt. grind (arith, nat_tests, r.s_frozen i k' c' a' e' s' b' r' li, (calls h).calls p in_n, sections sh st h p in_n);
  s_locked = λ i k' c' a' e' s' b' li lk is of. grind (arith, nat_tests, r.s_locked i k' c' a' e' s' b' li, (calls h).calls p in_n, sections sh st h p in_n);
}

-- kind StoreField
pub store_field : (sh : Layout) (st : S.State) (p : ℕ) (x : ℕ) (calm : Bool) (c : ℕ) (s : ℕ) (a : ℕ) (e : ℕ) (f : ℕ) (told : ℕ) → p < sh.passes → (st.stands p).section ≡ Inside x calm → (st.stands p).phase ≡ phase.Add (add.StoreField s (object a e c) f) → Shut sh st → ScansAgree sh st
    → ScansAgree sh (did sh st p Go (Inside x calm) (phase.Add (add.StoreField s (object a e c) f)) told (Store (place.Field c s f) (word.Plain (slice_index (st.stands p).words f))))
store_field sh st p x calm c s a e f told in_n at_sec at_call h r = record {
  s_apart = λ i li. grind (arith, nat_tests, r.s_apart i li, (calls h).calls p in_n, sections sh st h p in_n);
  s_fresh = λ i k' b' li is. grind (arith, nat_tests, r.s_fresh i k' b' li, (calls h).calls p in_n, sections sh st h p in_n);
  s_within = λ i k' b' li is. grind (arith, nat_tests, r.s_within i k' b' li, (calls h).calls p in_n, sections sh st h p in_n);
  s_place = λ i k' c' s' li is. grind (arith, nat_tests, r.s_place i k' c' s' li, (calls h).calls p in_n, sections sh st h p in_n);
  s_over = λ i k' li is. grind (arith, nat_tests, r.s_over i k' li, (calls h).calls p in_n, sections sh st h p in_n);
  s_dir = λ i c' s' li is. grind (arith, nat_tests, r.s_dir i c' s' li, (calls h).calls p in_n, sections sh st h p in_n);
  s_back = λ i c' s' a' e' d' li is. grind (arith, nat_tests, r.s_back i c' s' a' e' d' li, (calls h).calls p in_n, sections sh st h p in_n);
  s_home = λ i c' s' a' e' d' li is. grind (arith, nat_tests, r.s_home i c' s' a' e' d' li, (calls h).calls p in_n, sections sh st h p in_n);
  s_frozen = λ i k' c' a' e' s' b' r' li fz rd is of lt. grind (arith, nat_tests, r.s_frozen i k' c' a' e' s' b' r' li, (calls h).calls p in_n, sections sh st h p in_n);
  s_locked = λ i k' c' a' e' s' b' li lk is of. grind (arith, nat_tests, r.s_locked i k' c' a' e' s' b' li, (calls h).calls p in_n, sections sh st h p in_n);
}

-- kind StoreValid
pub store_valid : (sh : Layout) (st : S.State) (p : ℕ) (x : ℕ) (calm : Bool) (c : ℕ) (s : ℕ) (a : ℕ) (e : ℕ) (told : ℕ) → p < sh.passes → (st.stands p).section ≡ Inside x calm → (st.stands p).phase ≡ phase.Add (add.StoreValid s (object a e c)) → Shut sh st → ScansAgree sh st
    → ScansAgree sh (did sh st p Go (Inside x calm) (phase.Add (add.StoreValid s (object a e c))) told (Store (place.Directory c s) (word.Directory dir.Valid)))
store_valid sh st p x calm c s a e told in_n at_sec at_call h r = record {
  s_apart = λ i li. grind (arith, nat_tests, r.s_apart i li, (calls h).calls p in_n, sections sh st h p in_n);
  s_fresh = λ i k' b' li is. grind (arith, nat_tests, r.s_fresh i k' b' li, (calls h).calls p in_n, sections sh st h p in_n);
  s_within = λ i k' b' li is. grind (arith, nat_tests, r.s_within i k' b' li, (calls h).calls p in_n, sections sh st h p in_n);
  s_place = λ i k' c' s' li is. grind (arith, nat_tests, r.s_place i k' c' s' li, (calls h).calls p in_n, sections sh st h p in_n);
  s_over = λ i k' li is. grind (arith, nat_tests, r.s_over i k' li, (calls h).calls p in_n, sections sh st h p in_n);
  s_dir = λ i c' s' li is. grind (arith, nat_tests, r.s_dir i c' s' li, (calls h).c_slot p c s in_n, (calls h).c_entry p c a e in_n, (calls h).c_named p c s a e in_n, (calls h).calls p in_n, sections sh st h p in_n);
  s_back = λ i c' s' a' e' d' li is. grind (arith, nat_tests, r.s_back i c' s' a' e' d' li, (calls h).calls p in_n, sections sh st h p in_n);
  s_home = λ i c' s' a' e' d' li is. grind (arith, nat_tests, r.s_home i c' s' a' e' d' li, (calls h).calls p in_n, sections sh st h p in_n);
  s_frozen = λ i k' c' a' e' s' b' r' li fz rd is of lt. grind (arith, nat_tests, r.s_frozen i k' c' a' e' s' b' r' li, (calls h).calls p in_n, sections sh st h p in_n);
  s_locked = λ i k' c' a' e' s' b' li lk is of. grind (arith, nat_tests, r.s_locked i k' c' a' e' s' b' li, (calls h).calls p in_n, sections sh st h p in_n);
}

-- kind StoreLive
pub store_live : (sh : Layout) (st : S.State) (p : ℕ) (x : ℕ) (calm : Bool) (c : ℕ) (s : ℕ) (a : ℕ) (e : ℕ) (told : ℕ) → p < sh.passes → (st.stands p).section ≡ Inside x calm → (st.stands p).phase ≡ phase.Add (add.StoreLive s (object a e c)) → Shut sh st → ScansAgree sh st
    → ScansAgree sh (did sh st p Go (Inside x calm) (phase.Add (add.StoreLive s (object a e c))) told (Store (place.Entry c e) (word.Entry (state.Present a s))))
store_live sh st p x calm c s a e told in_n at_sec at_call h r = record {
  s_apart = λ i li. grind (arith, nat_tests, r.s_apart i li, (calls h).calls p in_n, sections sh st h p in_n);
  s_fresh = λ i k' b' li is. grind (arith, nat_tests, r.s_fresh i k' b' li, (calls h).calls p in_n, sections sh st h p in_n);
  s_within = λ i k' b' li is. grind (arith, nat_tests, r.s_within i k' b' li, (calls h).calls p in_n, sections sh st h p in_n);
  s_place = λ i k' c' s' li is. grind (arith, nat_tests, r.s_place i k' c' s' li, (calls h).calls p in_n, sections sh st h p in_n);
  s_over = λ i k' li is. grind (arith, nat_tests, r.s_over i k' li, (calls h).calls p in_n, sections sh st h p in_n);
  s_dir = λ i c' s' li is. grind (arith, nat_tests, r.s_dir i c' s' li, (calls h).calls p in_n, sections sh st h p in_n);
  s_back = λ i c' s' a' e' d' li is. grind (arith, nat_tests, r.s_back i c' s' a' e' d' li, (calls h).calls p in_n, sections sh st h p in_n);
  s_home = λ i c' s' a' e' d' li is. grind (arith, nat_tests, r.s_home i c' s' a' e' d' li, (calls h).calls p in_n, sections sh st h p in_n);
  s_frozen = λ i k' c' a' e' s' b' r' li fz rd is of lt. grind (arith, nat_tests, r.s_frozen i k' c' a' e' s' b' r' li, (calls h).c_entry p c a e in_n, (calls h).c_named p c s a e in_n, (calls h).c_lives p c s a e in_n, (calls h).calls p in_n, sections sh st h p in_n);
  s_locked = λ i k' c' a' e' s' b' li lk is of. grind (arith, nat_tests, r.s_locked i k' c' a' e' s' b' li, (calls h).c_entry p c a e in_n, (calls h).c_named p c s a e in_n, (calls h).c_lives p c s a e in_n, (calls h).calls p in_n, sections sh st h p in_n);
}
