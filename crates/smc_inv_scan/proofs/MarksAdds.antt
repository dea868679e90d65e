-- Steps keep the marks of scans: adds. Written by tools/marks.py.
use Rattle.std.proofs.Common.{◌≡◌, ℕ, ◌+◌, ◌<◌, Bool, true, Some, List, slice_index, arith}
use Rattle.std.proofs.lemmas.Bool.Decides.{nat_tests}
use Rattle.smc_words.specs.declared.dir.Dir.{Dir}
use Rattle.smc_words.specs.declared.dir.Dir.TheVariants as dir
use Rattle.smc_shape.specs.Layout.{Layout}
use Rattle.smc_shape.specs.declared.place.Place.TheVariants as place
use Rattle.smc_core.specs.declared.call.Call.TheVariants as call
use Rattle.smc_core.specs.declared.call.Choice.TheVariants.{Start, Go}
use Rattle.smc_core.specs.declared.op.Op.TheVariants.{Load, Store, Exchange}
use Rattle.smc_core.specs.declared.phase.Phase.TheVariants as phase
use Rattle.smc_core.specs.declared.phase.objects.AddPhase.TheVariants as add
use Rattle.smc_core.specs.declared.section.Section.TheVariants.{Inside}
use Rattle.smc_core.specs.declared.word.State.TheVariants as state
use Rattle.smc_core.specs.declared.word.Word.TheVariants as word
use Rattle.smc_core.specs.Add.{takes}
use Rattle.smc_rules.specs.Reads.{object}
use Rattle.smc_rules.specs.State as S
use Rattle.smc_rules.specs.State.{put_stand}
use Rattle.smc_agreement.proofs.Whole.{Shut, calls, did}
use Rattle.smc_inv_scan.specs.Scans.{ScansAgree}
use Rattle.smc_core.specs.Change.{change}
use Rattle.smc_rules.specs.Memory.{seen}
use Rattle.smc_inv_scan.specs.Marks.{Marks, MarksAgree, IsHere}
use Rattle.smc_inv_scan.proofs.MarkViews.{unmarked}
use Rattle.smc_inv_scan.proofs.MarkSteps.{KeepsMarks}

-- kind LoadDirectory
pub starts_add : (ms : ℕ → Marks) (sh : Layout) (st : S.State) (p : ℕ) (x : ℕ) (calm : Bool) (c : ℕ) (k : ℕ) (ws : List ℕ) (told : ℕ) → p < sh.passes → (st.stands p).section ≡ Inside x calm → (st.stands p).phase ≡ phase.Idle → takes sh c k ws ≡ true → Shut sh st → ScansAgree sh st → MarksAgree sh st ms → IsHere st
    → KeepsMarks ms sh st p (Start (call.Add c k ws)) (Inside x calm) phase.Idle told (Load (place.Directory c k))
starts_add ms sh st p x calm c k ws told in_n at_sec at_call pre1 h r mk hr = unmarked sh (did sh st p (Start (call.Add c k ws)) (Inside x calm) phase.Idle told (Load (place.Directory c k))) ms p st.world (change sh p (st.stands p) (Inside x calm) phase.Idle (Start (call.Add c k ws)) told (seen (Load (place.Directory c k)) st.memory)).event (grind (arith, nat_tests)) (record {
  m_began = λ i k' c' a' e' b' li is bg. grind (arith, nat_tests, mk.m_began i k' c' a' e' b' li);
  m_given = λ i k' c' a' e' b' li is vs. grind (arith, nat_tests, mk.m_given i k' c' a' e' b' li);
  m_coll = λ i k' c' a' e' b' li is vs. grind (arith, nat_tests, mk.m_coll i k' c' a' e' b' li);
  m_met = λ i k' c' a' e' s' b' li is of bg pr lt. grind (arith, nat_tests, mk.m_met i k' c' a' e' s' b' li);
  m_once = λ i k' c' a' e' s' b' li is vs pr. grind (arith, nat_tests, mk.m_once i k' c' a' e' s' b' li);
})

-- kind LoadDirectory
pub find_slot : (ms : ℕ → Marks) (sh : Layout) (st : S.State) (p : ℕ) (x : ℕ) (calm : Bool) (c : ℕ) (k : ℕ) (s : ℕ) (t : ℕ) (told : ℕ) → p < sh.passes → (st.stands p).section ≡ Inside x calm → (st.stands p).phase ≡ phase.Add (add.FindSlot c k s t) → Shut sh st → ScansAgree sh st → MarksAgree sh st ms → IsHere st
    → KeepsMarks ms sh st p Go (Inside x calm) (phase.Add (add.FindSlot c k s t)) told (Load (place.Directory c s))
find_slot ms sh st p x calm c k s t told in_n at_sec at_call h r mk hr = unmarked sh (did sh st p Go (Inside x calm) (phase.Add (add.FindSlot c k s t)) told (Load (place.Directory c s))) ms p st.world (change sh p (st.stands p) (Inside x calm) (phase.Add (add.FindSlot c k s t)) Go told (seen (Load (place.Directory c s)) st.memory)).event (grind (arith, nat_tests)) (record {
  m_began = λ i k' c' a' e' b' li is bg. grind (arith, nat_tests, mk.m_began i k' c' a' e' b' li);
  m_given = λ i k' c' a' e' b' li is vs. grind (arith, nat_tests, mk.m_given i k' c' a' e' b' li);
  m_coll = λ i k' c' a' e' b' li is vs. grind (arith, nat_tests, mk.m_coll i k' c' a' e' b' li);
  m_met = λ i k' c' a' e' s' b' li is of bg pr lt. grind (arith, nat_tests, mk.m_met i k' c' a' e' s' b' li);
  m_once = λ i k' c' a' e' s' b' li is vs pr. grind (arith, nat_tests, mk.m_once i k' c' a' e' s' b' li);
})

-- kind ClaimSlot
pub claim_slot : (ms : ℕ → Marks) (sh : Layout) (st : S.State) (p : ℕ) (x : ℕ) (calm : Bool) (c : ℕ) (k : ℕ) (s : ℕ) (t : ℕ) (d : Dir) (told : ℕ) → p < sh.passes → (st.stands p).section ≡ Inside x calm → (st.stands p).phase ≡ phase.Add (add.ClaimSlot c k s t d) → Shut sh st → ScansAgree sh st → MarksAgree sh st ms → IsHere st
    → KeepsMarks ms sh st p Go (Inside x calm) (phase.Add (add.ClaimSlot c k s t d)) told (Exchange (place.Directory c s) (word.Directory d) (word.Directory dir.Claimed))
claim_slot ms sh st p x calm c k s t d told in_n at_sec at_call h r mk hr = unmarked sh (did sh st p Go (Inside x calm) (phase.Add (add.ClaimSlot c k s t d)) told (Exchange (place.Directory c s) (word.Directory d) (word.Directory dir.Claimed))) ms p st.world (change sh p (st.stands p) (Inside x calm) (phase.Add (add.ClaimSlot c k s t d)) Go told (seen (Exchange (place.Directory c s) (word.Directory d) (word.Directory dir.Claimed)) st.memory)).event (grind (arith, nat_tests)) (record {
  m_began = λ i k' c' a' e' b' li is bg. grind (arith, nat_tests, mk.m_began i k' c' a' e' b' li);
  m_given = λ i k' c' a' e' b' li is vs. grind (arith, nat_tests, mk.m_given i k' c' a' e' b' li);
  m_coll = λ i k' c' a' e' b' li is vs. grind (arith, nat_tests, mk.m_coll i k' c' a' e' b' li);
  m_met = λ i k' c' a' e' s' b' li is of bg pr lt. grind (arith, nat_tests, mk.m_met i k' c' a' e' s' b' li);
  m_once = λ i k' c' a' e' s' b' li is vs pr. grind (arith, nat_tests, mk.m_once i k' c' a' e' s' b' li);
})

-- kind LoadEntry
pub find_entry : (ms : ℕ → Marks) (sh : Layout) (st : S.State) (p : ℕ) (x : ℕ) (calm : Bool) (c : ℕ) (s : ℕ) (e : ℕ) (t : ℕ) (told : ℕ) → p < sh.passes → (st.stands p).section ≡ Inside x calm → (st.stands p).phase ≡ phase.Add (add.FindEntry c s e t) → Shut sh st → ScansAgree sh st → MarksAgree sh st ms → IsHere st
    → KeepsMarks ms sh st p Go (Inside x calm) (phase.Add (add.FindEntry c s e t)) told (Load (place.Entry c e))
find_entry ms sh st p x calm c s e t told in_n at_sec at_call h r mk hr = unmarked sh (did sh st p Go (Inside x calm) (phase.Add (add.FindEntry c s e t)) told (Load (place.Entry c e))) ms p st.world (change sh p (st.stands p) (Inside x calm) (phase.Add (add.FindEntry c s e t)) Go told (seen (Load (place.Entry c e)) st.memory)).event (grind (arith, nat_tests)) (record {
  m_began = λ i k' c' a' e' b' li is bg. grind (arith, nat_tests, mk.m_began i k' c' a' e' b' li);
  m_given = λ i k' c' a' e' b' li is vs. grind (arith, nat_tests, mk.m_given i k' c' a' e' b' li);
  m_coll = λ i k' c' a' e' b' li is vs. grind (arith, nat_tests, mk.m_coll i k' c' a' e' b' li);
  m_met = λ i k' c' a' e' s' b' li is of bg pr lt. grind (arith, nat_tests, mk.m_met i k' c' a' e' s' b' li);
  m_once = λ i k' c' a' e' s' b' li is vs pr. grind (arith, nat_tests, mk.m_once i k' c' a' e' s' b' li);
})

-- kind ClaimEntry
pub claim_entry : (ms : ℕ → Marks) (sh : Layout) (st : S.State) (p : ℕ) (x : ℕ) (calm : Bool) (c : ℕ) (s : ℕ) (e : ℕ) (t : ℕ) (a : ℕ) (z : ℕ) (told : ℕ) → p < sh.passes → (st.stands p).section ≡ Inside x calm → (st.stands p).phase ≡ phase.Add (add.ClaimEntry c s e t a z) → Shut sh st → ScansAgree sh st → MarksAgree sh st ms → IsHere st
    → KeepsMarks ms sh st p Go (Inside x calm) (phase.Add (add.ClaimEntry c s e t a z)) told (Exchange (place.Entry c e) (word.Entry (state.Free a z)) (word.Entry (state.Claimed (a + 1))))
claim_entry ms sh st p x calm c s e t a z told in_n at_sec at_call h r mk hr = unmarked sh (did sh st p Go (Inside x calm) (phase.Add (add.ClaimEntry c s e t a z)) told (Exchange (place.Entry c e) (word.Entry (state.Free a z)) (word.Entry (state.Claimed (a + 1))))) ms p st.world (change sh p (st.stands p) (Inside x calm) (phase.Add (add.ClaimEntry c s e t a z)) Go told (seen (Exchange (place.Entry c e) (word.Entry (state.Free a z)) (word.Entry (state.Claimed (a + 1)))) st.memory)).event (grind (arith, nat_tests)) (record {
  m_began = λ i k' c' a' e' b' li is bg. grind (arith, nat_tests, mk.m_began i k' c' a' e' b' li, (calls h).c_slot p c s in_n);
  m_given = λ i k' c' a' e' b' li is vs. grind (arith, nat_tests, mk.m_given i k' c' a' e' b' li, (calls h).c_slot p c s in_n);
  m_coll = λ i k' c' a' e' b' li is vs. grind (arith, nat_tests, mk.m_coll i k' c' a' e' b' li);
  m_met = λ i k' c' a' e' s' b' li is of bg pr lt. grind (arith, nat_tests, mk.m_met i k' c' a' e' s' b' li, (calls h).c_slot p c s in_n);
  m_once = λ i k' c' a' e' s' b' li is vs pr. grind (arith, nat_tests, mk.m_once i k' c' a' e' s' b' li, (calls h).c_slot p c s in_n);
})

-- kind DropSlot
pub drop_slot : (ms : ℕ → Marks) (sh : Layout) (st : S.State) (p : ℕ) (x : ℕ) (calm : Bool) (c : ℕ) (s : ℕ) (told : ℕ) → p < sh.passes → (st.stands p).section ≡ Inside x calm → (st.stands p).phase ≡ phase.Add (add.DropSlot c s) → Shut sh st → ScansAgree sh st → MarksAgree sh st ms → IsHere st
    → KeepsMarks ms sh st p Go (Inside x calm) (phase.Add (add.DropSlot c s)) told (Store (place.Directory c s) (word.Directory dir.Free))
drop_slot ms sh st p x calm c s told in_n at_sec at_call h r mk hr = unmarked sh (did sh st p Go (Inside x calm) (phase.Add (add.DropSlot c s)) told (Store (place.Directory c s) (word.Directory dir.Free))) ms p st.world (change sh p (st.stands p) (Inside x calm) (phase.Add (add.DropSlot c s)) Go told (seen (Store (place.Directory c s) (word.Directory dir.Free)) st.memory)).event (grind (arith, nat_tests)) (record {
  m_began = λ i k' c' a' e' b' li is bg. grind (arith, nat_tests, mk.m_began i k' c' a' e' b' li);
  m_given = λ i k' c' a' e' b' li is vs. grind (arith, nat_tests, mk.m_given i k' c' a' e' b' li);
  m_coll = λ i k' c' a' e' b' li is vs. grind (arith, nat_tests, mk.m_coll i k' c' a' e' b' li);
  m_met = λ i k' c' a' e' s' b' li is of bg pr lt. grind (arith, nat_tests, mk.m_met i k' c' a' e' s' b' li);
  m_once = λ i k' c' a' e' s' b' li is vs pr. grind (arith, nat_tests, mk.m_once i k' c' a' e' s' b' li);
})

-- kind StoreBack
pub store_back : (ms : ℕ → Marks) (sh : Layout) (st : S.State) (p : ℕ) (x : ℕ) (calm : Bool) (c : ℕ) (s : ℕ) (a : ℕ) (e : ℕ) (told : ℕ) → p < sh.passes → (st.stands p).section ≡ Inside x calm → (st.stands p).phase ≡ phase.Add (add.StoreBack s (object a e c)) → Shut sh st → ScansAgree sh st → MarksAgree sh st ms → IsHere st
    → KeepsMarks ms sh st p Go (Inside x calm) (phase.Add (add.StoreBack s (object a e c))) told (Store (place.Back c s) (word.Back (Some (object a e c))))
store_back ms sh st p x calm c s a e told in_n at_sec at_call h r mk hr = unmarked sh (did sh st p Go (Inside x calm) (phase.Add (add.StoreBack s (object a e c))) told (Store (place.Back c s) (word.Back (Some (object a e c))))) ms p st.world (change sh p (st.stands p) (Inside x calm) (phase.Add (add.StoreBack s (object a e c))) Go told (seen (Store (place.Back c s) (word.Back (Some (object a e c)))) st.memory)).event (grind (arith, nat_tests)) (record {
  m_began = λ i k' c' a' e' b' li is bg. grind (arith, nat_tests, mk.m_began i k' c' a' e' b' li);
  m_given = λ i k' c' a' e' b' li is vs. grind (arith, nat_tests, mk.m_given i k' c' a' e' b' li);
  m_coll = λ i k' c' a' e' b' li is vs. grind (arith, nat_tests, mk.m_coll i k' c' a' e' b' li);
  m_met = λ i k' c' a' e' s' b' li is of bg pr lt. grind (arith, nat_tests, mk.m_met i k' c' a' e' s' b' li);
  m_once = λ i k' c' a' e' s' b' li is vs pr. grind (arith, nat_tests, mk.m_once i k' c' a' e' s' b' li);
})

-- kind StoreField
pub store_field : (ms : ℕ → Marks) (sh : Layout) (st : S.State) (p : ℕ) (x : ℕ) (calm : Bool) (c : ℕ) (s : ℕ) (a : ℕ) (e : ℕ) (f : ℕ) (told : ℕ) → p < sh.passes → (st.stands p).section ≡ Inside x calm → (st.stands p).phase ≡ phase.Add (add.StoreField s (object a e c) f) → Shut sh st → ScansAgree sh st → MarksAgree sh st ms → IsHere st
    → KeepsMarks ms sh st p Go (Inside x calm) (phase.Add (add.StoreField s (object a e c) f)) told (Store (place.Field c s f) (word.Plain (slice_index (st.stands p).words f)))
store_field ms sh st p x calm c s a e f told in_n at_sec at_call h r mk hr = unmarked sh (did sh st p Go (Inside x calm) (phase.Add (add.StoreField s (object a e c) f)) told (Store (place.Field c s f) (word.Plain (slice_index (st.stands p).words f)))) ms p st.world (change sh p (st.stands p) (Inside x calm) (phase.Add (add.StoreField s (object a e c) f)) Go told (seen (Store (place.Field c s f) (word.Plain (slice_index (st.stands p).words f))) st.memory)).event (grind (arith, nat_tests)) (record {
  m_began = λ i k' c' a' e' b' li is bg. grind (arith, nat_tests, mk.m_began i k' c' a' e' b' li);
  m_given = λ i k' c' a' e' b' li is vs. grind (arith, nat_tests, mk.m_given i k' c' a' e' b' li);
  m_coll = λ i k' c' a' e' b' li is vs. grind (arith, nat_tests, mk.m_coll i k' c' a' e' b' li);
  m_met = λ i k' c' a' e' s' b' li is of bg pr lt. grind (arith, nat_tests, mk.m_met i k' c' a' e' s' b' li);
  m_once = λ i k' c' a' e' s' b' li is vs pr. grind (arith, nat_tests, mk.m_once i k' c' a' e' s' b' li);
})

-- kind StoreValid
pub store_valid : (ms : ℕ → Marks) (sh : Layout) (st : S.State) (p : ℕ) (x : ℕ) (calm : Bool) (c : ℕ) (s : ℕ) (a : ℕ) (e : ℕ) (told : ℕ) → p < sh.passes → (st.stands p).section ≡ Inside x calm → (st.stands p).phase ≡ phase.Add (add.StoreValid s (object a e c)) → Shut sh st → ScansAgree sh st → MarksAgree sh st ms → IsHere st
    → KeepsMarks ms sh st p Go (Inside x calm) (phase.Add (add.StoreValid s (object a e c))) told (Store (place.Directory c s) (word.Directory dir.Valid))
store_valid ms sh st p x calm c s a e told in_n at_sec at_call h r mk hr = unmarked sh (did sh st p Go (Inside x calm) (phase.Add (add.StoreValid s (object a e c))) told (Store (place.Directory c s) (word.Directory dir.Valid))) ms p st.world (change sh p (st.stands p) (Inside x calm) (phase.Add (add.StoreValid s (object a e c))) Go told (seen (Store (place.Directory c s) (word.Directory dir.Valid)) st.memory)).event (grind (arith, nat_tests)) (record {
  m_began = λ i k' c' a' e' b' li is bg. grind (arith, nat_tests, mk.m_began i k' c' a' e' b' li);
  m_given = λ i k' c' a' e' b' li is vs. grind (arith, nat_tests, mk.m_given i k' c' a' e' b' li);
  m_coll = λ i k' c' a' e' b' li is vs. grind (arith, nat_tests, mk.m_coll i k' c' a' e' b' li);
  m_met = λ i k' c' a' e' s' b' li is of bg pr lt. grind (arith, nat_tests, mk.m_met i k' c' a' e' s' b' li);
  m_once = λ i k' c' a' e' s' b' li is vs pr. grind (arith, nat_tests, mk.m_once i k' c' a' e' s' b' li);
})

-- kind StoreLive
pub store_live : (ms : ℕ → Marks) (sh : Layout) (st : S.State) (p : ℕ) (x : ℕ) (calm : Bool) (c : ℕ) (s : ℕ) (a : ℕ) (e : ℕ) (told : ℕ) → p < sh.passes → (st.stands p).section ≡ Inside x calm → (st.stands p).phase ≡ phase.Add (add.StoreLive s (object a e c)) → Shut sh st → ScansAgree sh st → MarksAgree sh st ms → IsHere st
    → KeepsMarks ms sh st p Go (Inside x calm) (phase.Add (add.StoreLive s (object a e c))) told (Store (place.Entry c e) (word.Entry (state.Present a s)))
store_live ms sh st p x calm c s a e told in_n at_sec at_call h r mk hr = unmarked sh (did sh st p Go (Inside x calm) (phase.Add (add.StoreLive s (object a e c))) told (Store (place.Entry c e) (word.Entry (state.Present a s)))) ms p st.world (change sh p (st.stands p) (Inside x calm) (phase.Add (add.StoreLive s (object a e c))) Go told (seen (Store (place.Entry c e) (word.Entry (state.Present a s))) st.memory)).event (grind (arith, nat_tests)) (record {
  m_began = λ i k' c' a' e' b' li is bg. grind (arith, nat_tests, mk.m_began i k' c' a' e' b' li, (calls h).c_entry p c a e in_n, (calls h).c_named p c s a e in_n, (calls h).c_lives p c s a e in_n);
  m_given = λ i k' c' a' e' b' li is vs. grind (arith, nat_tests, mk.m_given i k' c' a' e' b' li, (calls h).c_entry p c a e in_n, (calls h).c_named p c s a e in_n, (calls h).c_lives p c s a e in_n);
  m_coll = λ i k' c' a' e' b' li is vs. grind (arith, nat_tests, mk.m_coll i k' c' a' e' b' li);
  m_met = λ i k' c' a' e' s' b' li is of bg pr lt. grind (arith, nat_tests, mk.m_met i k' c' a' e' s' b' li, (calls h).c_entry p c a e in_n, (calls h).c_named p c s a e in_n, (calls h).c_lives p c s a e in_n, mk.m_began i k' c' a' e' b' li);
  m_once = λ i k' c' a' e' s' b' li is vs pr. grind (arith, nat_tests, mk.m_once i k' c' a' e' s' b' li, (calls h).c_entry p c a e in_n, (calls h).c_named p c s a e in_n, (calls h).c_lives p c s a e in_n, mk.m_given i k' c' a' e' b' li);
})
