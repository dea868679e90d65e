-- Steps keep the marks of scans: cancels. Written by tools/marks.py.
use Rattle.std.proofs.Common.{◌≡◌, ℕ, ◌+◌, ◌<◌, Bool, Some, None, arith}
use Rattle.std.proofs.lemmas.Bool.Decides.{nat_tests}
use Rattle.smc_words.specs.declared.dir.Dir.TheVariants as dir
use Rattle.smc_shape.specs.Layout.{Layout}
use Rattle.smc_shape.specs.declared.place.Place.TheVariants as place
use Rattle.smc_core.specs.declared.call.Call.TheVariants as call
use Rattle.smc_core.specs.declared.call.Choice.TheVariants.{Start, Go}
use Rattle.smc_core.specs.declared.op.Op.TheVariants.{Load, Store, Exchange}
use Rattle.smc_core.specs.declared.phase.Phase.TheVariants as phase
use Rattle.smc_core.specs.declared.phase.moves.CancelPhase.TheVariants as cancel
use Rattle.smc_core.specs.declared.section.Section.TheVariants.{Inside}
use Rattle.smc_core.specs.declared.word.State.TheVariants as state
use Rattle.smc_core.specs.declared.word.Word.TheVariants as word
use Rattle.smc_rules.specs.Reads.{object}
use Rattle.smc_rules.specs.State as S
use Rattle.smc_rules.specs.State.{put_stand}
use Rattle.smc_agreement.proofs.Whole.{Shut, calls, did}
use Rattle.smc_inv_scan.specs.Scans.{ScansAgree}
use Rattle.smc_core.specs.Change.{change}
use Rattle.smc_rules.specs.Memory.{seen}
use Rattle.smc_inv_scan.specs.Marks.{Marks, MarksAgree, IsHere}
use Rattle.smc_inv_scan.proofs.MarkViews.{unmarked}
use Rattle.smc_inv_scan.proofs.MarkSteps.{KeepsMarks}

-- kind LoadDirectory
pub starts_cancel : (ms : ℕ → Marks) (sh : Layout) (st : S.State) (p : ℕ) (x : ℕ) (calm : Bool) (b : ℕ) (c : ℕ) (told : ℕ) → p < sh.passes → (st.stands p).section ≡ Inside x calm → (st.stands p).phase ≡ phase.Idle → (st.stands p).round ≡ Some (record { bound = b; coll = c }) → Shut sh st → ScansAgree sh st → MarksAgree sh st ms → IsHere st
    → KeepsMarks ms sh st p (Start call.Cancel) (Inside x calm) phase.Idle told (Load (place.Directory c 0))
starts_cancel ms sh st p x calm b c told in_n at_sec at_call pre1 h r mk hr = unmarked sh (did sh st p (Start call.Cancel) (Inside x calm) phase.Idle told (Load (place.Directory c 0))) ms p st.world (change sh p (st.stands p) (Inside x calm) phase.Idle (Start call.Cancel) told (seen (Load (place.Directory c 0)) st.memory)).event (grind (arith, nat_tests)) (record {
  m_began = λ i k' c' a' e' b' li is bg. grind (arith, nat_tests, mk.m_began i k' c' a' e' b' li);
  m_given = λ i k' c' a' e' b' li is vs. grind (arith, nat_tests, mk.m_given i k' c' a' e' b' li);
  m_coll = λ i k' c' a' e' b' li is vs. grind (arith, nat_tests, mk.m_coll i k' c' a' e' b' li);
  m_met = λ i k' c' a' e' s' b' li is of bg pr lt. grind (arith, nat_tests, mk.m_met i k' c' a' e' s' b' li);
  m_once = λ i k' c' a' e' s' b' li is vs pr. grind (arith, nat_tests, mk.m_once i k' c' a' e' s' b' li);
})

-- kind LoadDirectory
pub cancel_dir : (ms : ℕ → Marks) (sh : Layout) (st : S.State) (p : ℕ) (x : ℕ) (calm : Bool) (c : ℕ) (t : ℕ) (told : ℕ) → p < sh.passes → (st.stands p).section ≡ Inside x calm → (st.stands p).phase ≡ phase.Cancel (cancel.Directory c t) → Shut sh st → ScansAgree sh st → MarksAgree sh st ms → IsHere st
    → KeepsMarks ms sh st p Go (Inside x calm) (phase.Cancel (cancel.Directory c t)) told (Load (place.Directory c t))
cancel_dir ms sh st p x calm c t told in_n at_sec at_call h r mk hr = unmarked sh (did sh st p Go (Inside x calm) (phase.Cancel (cancel.Directory c t)) told (Load (place.Directory c t))) ms p st.world (change sh p (st.stands p) (Inside x calm) (phase.Cancel (cancel.Directory c t)) Go told (seen (Load (place.Directory c t)) st.memory)).event (grind (arith, nat_tests)) (record {
  m_began = λ i k' c' a' e' b' li is bg. grind (arith, nat_tests, mk.m_began i k' c' a' e' b' li);
  m_given = λ i k' c' a' e' b' li is vs. grind (arith, nat_tests, mk.m_given i k' c' a' e' b' li);
  m_coll = λ i k' c' a' e' b' li is vs. grind (arith, nat_tests, mk.m_coll i k' c' a' e' b' li);
  m_met = λ i k' c' a' e' s' b' li is of bg pr lt. grind (arith, nat_tests, mk.m_met i k' c' a' e' s' b' li);
  m_once = λ i k' c' a' e' s' b' li is vs pr. grind (arith, nat_tests, mk.m_once i k' c' a' e' s' b' li);
})

-- kind LoadBack
pub cancel_back : (ms : ℕ → Marks) (sh : Layout) (st : S.State) (p : ℕ) (x : ℕ) (calm : Bool) (c : ℕ) (t : ℕ) (told : ℕ) → p < sh.passes → (st.stands p).section ≡ Inside x calm → (st.stands p).phase ≡ phase.Cancel (cancel.Back c t) → Shut sh st → ScansAgree sh st → MarksAgree sh st ms → IsHere st
    → KeepsMarks ms sh st p Go (Inside x calm) (phase.Cancel (cancel.Back c t)) told (Load (place.Back c t))
cancel_back ms sh st p x calm c t told in_n at_sec at_call h r mk hr = unmarked sh (did sh st p Go (Inside x calm) (phase.Cancel (cancel.Back c t)) told (Load (place.Back c t))) ms p st.world (change sh p (st.stands p) (Inside x calm) (phase.Cancel (cancel.Back c t)) Go told (seen (Load (place.Back c t)) st.memory)).event (grind (arith, nat_tests)) (record {
  m_began = λ i k' c' a' e' b' li is bg. grind (arith, nat_tests, mk.m_began i k' c' a' e' b' li);
  m_given = λ i k' c' a' e' b' li is vs. grind (arith, nat_tests, mk.m_given i k' c' a' e' b' li);
  m_coll = λ i k' c' a' e' b' li is vs. grind (arith, nat_tests, mk.m_coll i k' c' a' e' b' li);
  m_met = λ i k' c' a' e' s' b' li is of bg pr lt. grind (arith, nat_tests, mk.m_met i k' c' a' e' s' b' li);
  m_once = λ i k' c' a' e' s' b' li is vs pr. grind (arith, nat_tests, mk.m_once i k' c' a' e' s' b' li);
})

-- kind LoadEntry
pub cancel_entry : (ms : ℕ → Marks) (sh : Layout) (st : S.State) (p : ℕ) (x : ℕ) (calm : Bool) (c : ℕ) (t : ℕ) (a : ℕ) (e : ℕ) (told : ℕ) → p < sh.passes → (st.stands p).section ≡ Inside x calm → (st.stands p).phase ≡ phase.Cancel (cancel.Entry c t (object a e c)) → Shut sh st → ScansAgree sh st → MarksAgree sh st ms → IsHere st
    → KeepsMarks ms sh st p Go (Inside x calm) (phase.Cancel (cancel.Entry c t (object a e c))) told (Load (place.Entry c e))
cancel_entry ms sh st p x calm c t a e told in_n at_sec at_call h r mk hr = unmarked sh (did sh st p Go (Inside x calm) (phase.Cancel (cancel.Entry c t (object a e c))) told (Load (place.Entry c e))) ms p st.world (change sh p (st.stands p) (Inside x calm) (phase.Cancel (cancel.Entry c t (object a e c))) Go told (seen (Load (place.Entry c e)) st.memory)).event (grind (arith, nat_tests)) (record {
  m_began = λ i k' c' a' e' b' li is bg. grind (arith, nat_tests, mk.m_began i k' c' a' e' b' li);
  m_given = λ i k' c' a' e' b' li is vs. grind (arith, nat_tests, mk.m_given i k' c' a' e' b' li);
  m_coll = λ i k' c' a' e' b' li is vs. grind (arith, nat_tests, mk.m_coll i k' c' a' e' b' li);
  m_met = λ i k' c' a' e' s' b' li is of bg pr lt. grind (arith, nat_tests, mk.m_met i k' c' a' e' s' b' li);
  m_once = λ i k' c' a' e' s' b' li is vs pr. grind (arith, nat_tests, mk.m_once i k' c' a' e' s' b' li);
})

-- kind Unfreeze
pub unfreeze : (ms : ℕ → Marks) (sh : Layout) (st : S.State) (p : ℕ) (x : ℕ) (calm : Bool) (c : ℕ) (t : ℕ) (a : ℕ) (e : ℕ) (q : ℕ) (told : ℕ) → p < sh.passes → (st.stands p).section ≡ Inside x calm → (st.stands p).phase ≡ phase.Cancel (cancel.Unfreeze c t (object a e c) q) → Shut sh st → ScansAgree sh st → MarksAgree sh st ms → IsHere st
    → KeepsMarks ms sh st p Go (Inside x calm) (phase.Cancel (cancel.Unfreeze c t (object a e c) q)) told (Exchange (place.Entry c e) (word.Entry (state.Frozen a q)) (word.Entry (state.Present a q)))
unfreeze ms sh st p x calm c t a e q told in_n at_sec at_call h r mk hr = unmarked sh (did sh st p Go (Inside x calm) (phase.Cancel (cancel.Unfreeze c t (object a e c) q)) told (Exchange (place.Entry c e) (word.Entry (state.Frozen a q)) (word.Entry (state.Present a q)))) ms p st.world (change sh p (st.stands p) (Inside x calm) (phase.Cancel (cancel.Unfreeze c t (object a e c) q)) Go told (seen (Exchange (place.Entry c e) (word.Entry (state.Frozen a q)) (word.Entry (state.Present a q))) st.memory)).event (grind (arith, nat_tests)) (record {
  m_began = λ i k' c' a' e' b' li is bg. grind (arith, nat_tests, mk.m_began i k' c' a' e' b' li, (calls h).c_named p c t a e in_n, (calls h).c_target p c t in_n, (calls h).c_tries p c q a e in_n);
  m_given = λ i k' c' a' e' b' li is vs. grind (arith, nat_tests, mk.m_given i k' c' a' e' b' li, (calls h).c_named p c t a e in_n, (calls h).c_target p c t in_n, (calls h).c_tries p c q a e in_n);
  m_coll = λ i k' c' a' e' b' li is vs. grind (arith, nat_tests, mk.m_coll i k' c' a' e' b' li);
  m_met = λ i k' c' a' e' s' b' li is of bg pr lt. grind (arith, nat_tests, mk.m_met i k' c' a' e' s' b' li, (calls h).c_named p c t a e in_n, (calls h).c_target p c t in_n, (calls h).c_tries p c q a e in_n);
  m_once = λ i k' c' a' e' s' b' li is vs pr. grind (arith, nat_tests, mk.m_once i k' c' a' e' s' b' li, (calls h).c_named p c t a e in_n, (calls h).c_target p c t in_n, (calls h).c_tries p c q a e in_n);
})

-- kind LeaveSlot
pub cancel_gives : (ms : ℕ → Marks) (sh : Layout) (st : S.State) (p : ℕ) (x : ℕ) (calm : Bool) (c : ℕ) (t : ℕ) (told : ℕ) → p < sh.passes → (st.stands p).section ≡ Inside x calm → (st.stands p).phase ≡ phase.Cancel (cancel.GiveUp c t) → Shut sh st → ScansAgree sh st → MarksAgree sh st ms → IsHere st
    → KeepsMarks ms sh st p Go (Inside x calm) (phase.Cancel (cancel.GiveUp c t)) told (Store (place.Directory c t) (word.Directory (dir.Limbo (x + 1))))
cancel_gives ms sh st p x calm c t told in_n at_sec at_call h r mk hr = unmarked sh (did sh st p Go (Inside x calm) (phase.Cancel (cancel.GiveUp c t)) told (Store (place.Directory c t) (word.Directory (dir.Limbo (x + 1))))) ms p st.world (change sh p (st.stands p) (Inside x calm) (phase.Cancel (cancel.GiveUp c t)) Go told (seen (Store (place.Directory c t) (word.Directory (dir.Limbo (x + 1)))) st.memory)).event (grind (arith, nat_tests)) (record {
  m_began = λ i k' c' a' e' b' li is bg. grind (arith, nat_tests, mk.m_began i k' c' a' e' b' li);
  m_given = λ i k' c' a' e' b' li is vs. grind (arith, nat_tests, mk.m_given i k' c' a' e' b' li);
  m_coll = λ i k' c' a' e' b' li is vs. grind (arith, nat_tests, mk.m_coll i k' c' a' e' b' li);
  m_met = λ i k' c' a' e' s' b' li is of bg pr lt. grind (arith, nat_tests, mk.m_met i k' c' a' e' s' b' li);
  m_once = λ i k' c' a' e' s' b' li is vs pr. grind (arith, nat_tests, mk.m_once i k' c' a' e' s' b' li);
})

-- kind CloseRound
pub cancel_ends : (ms : ℕ → Marks) (sh : Layout) (st : S.State) (p : ℕ) (x : ℕ) (calm : Bool) (told : ℕ) → p < sh.passes → (st.stands p).section ≡ Inside x calm → (st.stands p).phase ≡ phase.Cancel cancel.End → Shut sh st → ScansAgree sh st → MarksAgree sh st ms → IsHere st
    → KeepsMarks ms sh st p Go (Inside x calm) (phase.Cancel cancel.End) told (Store place.Round (word.Round None))
cancel_ends ms sh st p x calm told in_n at_sec at_call h r mk hr = unmarked sh (did sh st p Go (Inside x calm) (phase.Cancel cancel.End) told (Store place.Round (word.Round None))) ms p st.world (change sh p (st.stands p) (Inside x calm) (phase.Cancel cancel.End) Go told (seen (Store place.Round (word.Round None)) st.memory)).event (grind (arith, nat_tests)) (record {
  m_began = λ i k' c' a' e' b' li is bg. grind (arith, nat_tests, mk.m_began i k' c' a' e' b' li);
  m_given = λ i k' c' a' e' b' li is vs. grind (arith, nat_tests, mk.m_given i k' c' a' e' b' li);
  m_coll = λ i k' c' a' e' b' li is vs. grind (arith, nat_tests, mk.m_coll i k' c' a' e' b' li);
  m_met = λ i k' c' a' e' s' b' li is of bg pr lt. grind (arith, nat_tests, mk.m_met i k' c' a' e' s' b' li);
  m_once = λ i k' c' a' e' s' b' li is vs pr. grind (arith, nat_tests, mk.m_once i k' c' a' e' s' b' li);
})
