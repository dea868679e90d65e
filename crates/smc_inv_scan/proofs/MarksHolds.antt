-- Steps keep the marks of scans: holds. Written by tools/marks.py.
use Rattle.std.proofs.Common.{◌≡◌, ℕ, ◌+◌, ◌<◌, ◌&&◌, Bool, true, Some, arith}
use Rattle.std.proofs.lemmas.Bool.Decides.{nat_tests}
use Rattle.smc_words.specs.declared.dir.Dir.TheVariants as dir
use Rattle.smc_shape.specs.Layout.{Layout, width_of}
use Rattle.smc_shape.specs.declared.place.Place.TheVariants as place
use Rattle.smc_core.specs.declared.call.Call.TheVariants as call
use Rattle.smc_core.specs.declared.call.Choice.TheVariants.{Start, Go}
use Rattle.smc_core.specs.declared.op.Op.TheVariants.{Load, Store, MarkGone}
use Rattle.smc_core.specs.declared.phase.Phase.TheVariants as phase
use Rattle.smc_core.specs.declared.phase.objects.RemovePhase.TheVariants as remove
use Rattle.smc_core.specs.declared.section.Section.TheVariants.{Inside}
use Rattle.smc_core.specs.declared.word.State.TheVariants as state
use Rattle.smc_core.specs.declared.word.Word.TheVariants as word
use Rattle.std.specs.Prelude.{nat_lt}
use Rattle.smc_core.specs.Add.{is_value}
use Rattle.smc_core.specs.Offer.{held_slot}
use Rattle.smc_rules.specs.Reads.{object}
use Rattle.smc_rules.specs.State as S
use Rattle.smc_rules.specs.State.{put_stand}
use Rattle.smc_agreement.proofs.Whole.{Shut, calls, objects, did}
use Rattle.smc_inv_scan.specs.Scans.{ScansAgree}
use Rattle.smc_core.specs.Change.{change}
use Rattle.smc_rules.specs.Memory.{seen}
use Rattle.smc_inv_scan.specs.Marks.{Marks, MarksAgree, IsHere}
use Rattle.smc_inv_scan.proofs.MarkViews.{unmarked}
use Rattle.smc_inv_scan.proofs.MarkSteps.{KeepsMarks}

-- kind LoadField
pub read : (ms : ℕ → Marks) (sh : Layout) (st : S.State) (p : ℕ) (x : ℕ) (calm : Bool) (c : ℕ) (a : ℕ) (e : ℕ) (q : ℕ) (f : ℕ) (told : ℕ) → p < sh.passes → (st.stands p).section ≡ Inside x calm → (st.stands p).phase ≡ phase.Idle → held_slot (st.stands p).held (object a e c) ≡ Some q → nat_lt f (width_of sh c) ≡ true → Shut sh st → ScansAgree sh st → MarksAgree sh st ms → IsHere st
    → KeepsMarks ms sh st p (Start (call.Read (object a e c) f)) (Inside x calm) phase.Idle told (Load (place.Field c q f))
read ms sh st p x calm c a e q f told in_n at_sec at_call pre1 pre2 h r mk hr = unmarked sh (did sh st p (Start (call.Read (object a e c) f)) (Inside x calm) phase.Idle told (Load (place.Field c q f))) ms p st.world (change sh p (st.stands p) (Inside x calm) phase.Idle (Start (call.Read (object a e c) f)) told (seen (Load (place.Field c q f)) st.memory)).event (grind (arith, nat_tests)) (record {
  m_began = λ i k' c' a' e' b' li is bg. grind (arith, nat_tests, mk.m_began i k' c' a' e' b' li);
  m_given = λ i k' c' a' e' b' li is vs. grind (arith, nat_tests, mk.m_given i k' c' a' e' b' li);
  m_coll = λ i k' c' a' e' b' li is vs. grind (arith, nat_tests, mk.m_coll i k' c' a' e' b' li);
  m_met = λ i k' c' a' e' s' b' li is of bg pr lt. grind (arith, nat_tests, mk.m_met i k' c' a' e' s' b' li);
  m_once = λ i k' c' a' e' s' b' li is vs pr. grind (arith, nat_tests, mk.m_once i k' c' a' e' s' b' li);
})

-- kind WriteField
pub write : (ms : ℕ → Marks) (sh : Layout) (st : S.State) (p : ℕ) (x : ℕ) (calm : Bool) (c : ℕ) (a : ℕ) (e : ℕ) (q : ℕ) (f : ℕ) (w : ℕ) (told : ℕ) → p < sh.passes → (st.stands p).section ≡ Inside x calm → (st.stands p).phase ≡ phase.Idle → held_slot (st.stands p).held (object a e c) ≡ Some q → (nat_lt f (width_of sh c) && is_value w) ≡ true → Shut sh st → ScansAgree sh st → MarksAgree sh st ms → IsHere st
    → KeepsMarks ms sh st p (Start (call.Write (object a e c) f w)) (Inside x calm) phase.Idle told (Store (place.Field c q f) (word.Plain w))
write ms sh st p x calm c a e q f w told in_n at_sec at_call pre1 pre2 h r mk hr = unmarked sh (did sh st p (Start (call.Write (object a e c) f w)) (Inside x calm) phase.Idle told (Store (place.Field c q f) (word.Plain w))) ms p st.world (change sh p (st.stands p) (Inside x calm) phase.Idle (Start (call.Write (object a e c) f w)) told (seen (Store (place.Field c q f) (word.Plain w)) st.memory)).event (grind (arith, nat_tests)) (record {
  m_began = λ i k' c' a' e' b' li is bg. grind (arith, nat_tests, mk.m_began i k' c' a' e' b' li);
  m_given = λ i k' c' a' e' b' li is vs. grind (arith, nat_tests, mk.m_given i k' c' a' e' b' li);
  m_coll = λ i k' c' a' e' b' li is vs. grind (arith, nat_tests, mk.m_coll i k' c' a' e' b' li);
  m_met = λ i k' c' a' e' s' b' li is of bg pr lt. grind (arith, nat_tests, mk.m_met i k' c' a' e' s' b' li);
  m_once = λ i k' c' a' e' s' b' li is vs pr. grind (arith, nat_tests, mk.m_once i k' c' a' e' s' b' li);
})

-- kind MarkGone
pub starts_remove : (ms : ℕ → Marks) (sh : Layout) (st : S.State) (p : ℕ) (x : ℕ) (calm : Bool) (c : ℕ) (a : ℕ) (e : ℕ) (q : ℕ) (told : ℕ) → p < sh.passes → (st.stands p).section ≡ Inside x calm → (st.stands p).phase ≡ phase.Idle → held_slot (st.stands p).held (object a e c) ≡ Some q → Shut sh st → ScansAgree sh st → MarksAgree sh st ms → IsHere st
    → KeepsMarks ms sh st p (Start (call.Remove (object a e c))) (Inside x calm) phase.Idle told (MarkGone c e)
starts_remove ms sh st p x calm c a e q told in_n at_sec at_call pre1 h r mk hr = unmarked sh (did sh st p (Start (call.Remove (object a e c))) (Inside x calm) phase.Idle told (MarkGone c e)) ms p st.world (change sh p (st.stands p) (Inside x calm) phase.Idle (Start (call.Remove (object a e c))) told (seen (MarkGone c e) st.memory)).event (grind (arith, nat_tests)) (record {
  m_began = λ i k' c' a' e' b' li is bg. grind (arith, nat_tests, mk.m_began i k' c' a' e' b' li, (objects h).held p c a e q in_n pre1);
  m_given = λ i k' c' a' e' b' li is vs. grind (arith, nat_tests, mk.m_given i k' c' a' e' b' li, (objects h).held p c a e q in_n pre1);
  m_coll = λ i k' c' a' e' b' li is vs. grind (arith, nat_tests, mk.m_coll i k' c' a' e' b' li);
  m_met = λ i k' c' a' e' s' b' li is of bg pr lt. grind (arith, nat_tests, mk.m_met i k' c' a' e' s' b' li, (objects h).held p c a e q in_n pre1);
  m_once = λ i k' c' a' e' s' b' li is vs pr. grind (arith, nat_tests, mk.m_once i k' c' a' e' s' b' li, (objects h).held p c a e q in_n pre1);
})

-- kind LeaveSlot
pub leave_slot : (ms : ℕ → Marks) (sh : Layout) (st : S.State) (p : ℕ) (x : ℕ) (calm : Bool) (c : ℕ) (a : ℕ) (e : ℕ) (q : ℕ) (told : ℕ) → p < sh.passes → (st.stands p).section ≡ Inside x calm → (st.stands p).phase ≡ phase.Remove (remove.LeaveSlot q (object a e c)) → Shut sh st → ScansAgree sh st → MarksAgree sh st ms → IsHere st
    → KeepsMarks ms sh st p Go (Inside x calm) (phase.Remove (remove.LeaveSlot q (object a e c))) told (Store (place.Directory c q) (word.Directory (dir.Limbo (x + 1))))
leave_slot ms sh st p x calm c a e q told in_n at_sec at_call h r mk hr = unmarked sh (did sh st p Go (Inside x calm) (phase.Remove (remove.LeaveSlot q (object a e c))) told (Store (place.Directory c q) (word.Directory (dir.Limbo (x + 1))))) ms p st.world (change sh p (st.stands p) (Inside x calm) (phase.Remove (remove.LeaveSlot q (object a e c))) Go told (seen (Store (place.Directory c q) (word.Directory (dir.Limbo (x + 1)))) st.memory)).event (grind (arith, nat_tests)) (record {
  m_began = λ i k' c' a' e' b' li is bg. grind (arith, nat_tests, mk.m_began i k' c' a' e' b' li);
  m_given = λ i k' c' a' e' b' li is vs. grind (arith, nat_tests, mk.m_given i k' c' a' e' b' li);
  m_coll = λ i k' c' a' e' b' li is vs. grind (arith, nat_tests, mk.m_coll i k' c' a' e' b' li);
  m_met = λ i k' c' a' e' s' b' li is of bg pr lt. grind (arith, nat_tests, mk.m_met i k' c' a' e' s' b' li);
  m_once = λ i k' c' a' e' s' b' li is vs pr. grind (arith, nat_tests, mk.m_once i k' c' a' e' s' b' li);
})

-- kind FreeEntry
pub free_entry : (ms : ℕ → Marks) (sh : Layout) (st : S.State) (p : ℕ) (x : ℕ) (calm : Bool) (c : ℕ) (a : ℕ) (e : ℕ) (told : ℕ) → p < sh.passes → (st.stands p).section ≡ Inside x calm → (st.stands p).phase ≡ phase.Remove (remove.FreeEntry (object a e c)) → Shut sh st → ScansAgree sh st → MarksAgree sh st ms → IsHere st
    → KeepsMarks ms sh st p Go (Inside x calm) (phase.Remove (remove.FreeEntry (object a e c))) told (Store (place.Entry c e) (word.Entry (state.Free a (x + 1))))
free_entry ms sh st p x calm c a e told in_n at_sec at_call h r mk hr = unmarked sh (did sh st p Go (Inside x calm) (phase.Remove (remove.FreeEntry (object a e c))) told (Store (place.Entry c e) (word.Entry (state.Free a (x + 1))))) ms p st.world (change sh p (st.stands p) (Inside x calm) (phase.Remove (remove.FreeEntry (object a e c))) Go told (seen (Store (place.Entry c e) (word.Entry (state.Free a (x + 1)))) st.memory)).event (grind (arith, nat_tests)) (record {
  m_began = λ i k' c' a' e' b' li is bg. grind (arith, nat_tests, mk.m_began i k' c' a' e' b' li, (calls h).c_removes p c a e in_n);
  m_given = λ i k' c' a' e' b' li is vs. grind (arith, nat_tests, mk.m_given i k' c' a' e' b' li, (calls h).c_removes p c a e in_n);
  m_coll = λ i k' c' a' e' b' li is vs. grind (arith, nat_tests, mk.m_coll i k' c' a' e' b' li);
  m_met = λ i k' c' a' e' s' b' li is of bg pr lt. grind (arith, nat_tests, mk.m_met i k' c' a' e' s' b' li, (calls h).c_removes p c a e in_n);
  m_once = λ i k' c' a' e' s' b' li is vs pr. grind (arith, nat_tests, mk.m_once i k' c' a' e' s' b' li, (calls h).c_removes p c a e in_n);
})
