-- Steps keep the marks of scans: begins. Written by tools/marks.py.
use Rattle.std.proofs.Common.{◌≡◌, ℕ, ◌+◌, ◌<◌, Bool, Some, None, arith}
use Rattle.std.proofs.lemmas.Bool.Decides.{nat_tests}
use Rattle.smc_shape.specs.Layout.{Layout}
use Rattle.smc_shape.specs.declared.place.Place.TheVariants as place
use Rattle.smc_core.specs.declared.call.Call.TheVariants as call
use Rattle.smc_core.specs.declared.call.Choice.TheVariants.{Start, Go}
use Rattle.smc_core.specs.declared.op.Op.TheVariants.{Load, Store, Exchange}
use Rattle.smc_core.specs.declared.phase.Phase.TheVariants as phase
use Rattle.smc_core.specs.declared.phase.moves.Count.{Count}
use Rattle.smc_core.specs.declared.phase.moves.BeginPhase.TheVariants as begin
use Rattle.smc_core.specs.declared.phase.moves.CountPhase.TheVariants as walk
use Rattle.smc_core.specs.declared.phase.moves.Walk.{Walk}
use Rattle.smc_core.specs.declared.section.Section.TheVariants.{Inside}
use Rattle.smc_core.specs.declared.word.Word.TheVariants as word
use Rattle.smc_rules.specs.Reads.{object}
use Rattle.smc_rules.specs.State as S
use Rattle.smc_rules.specs.State.{put_stand}
use Rattle.smc_agreement.proofs.Whole.{Shut, did}
use Rattle.smc_inv_scan.specs.Scans.{ScansAgree}
use Rattle.smc_core.specs.Change.{change}
use Rattle.smc_rules.specs.Memory.{seen}
use Rattle.smc_inv_scan.specs.Marks.{Marks, MarksAgree, IsHere}
use Rattle.smc_inv_scan.proofs.MarkViews.{unmarked}
use Rattle.smc_inv_scan.proofs.MarkSteps.{KeepsMarks}

-- kind OpenRound
pub starts_begin : (ms : ℕ → Marks) (sh : Layout) (st : S.State) (p : ℕ) (x : ℕ) (calm : Bool) (c : ℕ) (told : ℕ) → p < sh.passes → (st.stands p).section ≡ Inside x calm → (st.stands p).phase ≡ phase.Idle → Shut sh st → ScansAgree sh st → MarksAgree sh st ms → IsHere st
    → KeepsMarks ms sh st p (Start (call.Begin c)) (Inside x calm) phase.Idle told (Exchange place.Round (word.Round None) (word.Round (Some (record { bound = x + 1; pass = p; coll = c }))))
starts_begin ms sh st p x calm c told in_n at_sec at_call h r mk hr = unmarked sh (did sh st p (Start (call.Begin c)) (Inside x calm) phase.Idle told (Exchange place.Round (word.Round None) (word.Round (Some (record { bound = x + 1; pass = p; coll = c }))))) ms p st.world (change sh p (st.stands p) (Inside x calm) phase.Idle (Start (call.Begin c)) told (seen (Exchange place.Round (word.Round None) (word.Round (Some (record { bound = x + 1; pass = p; coll = c })))) st.memory)).event (grind (arith, nat_tests)) (record {
  m_began = λ i k' c' a' e' b' li is bg. grind (arith, nat_tests, mk.m_began i k' c' a' e' b' li);
  m_given = λ i k' c' a' e' b' li is vs. grind (arith, nat_tests, mk.m_given i k' c' a' e' b' li);
  m_coll = λ i k' c' a' e' b' li is vs. grind (arith, nat_tests, mk.m_coll i k' c' a' e' b' li);
  m_met = λ i k' c' a' e' s' b' li is of bg pr lt. grind (arith, nat_tests, mk.m_met i k' c' a' e' s' b' li);
  m_once = λ i k' c' a' e' s' b' li is vs pr. grind (arith, nat_tests, mk.m_once i k' c' a' e' s' b' li);
})

-- kind LoadDirectory
pub count_dir : (ms : ℕ → Marks) (sh : Layout) (st : S.State) (p : ℕ) (x : ℕ) (calm : Bool) (c : ℕ) (t : ℕ) (cnt : Count) (told : ℕ) → p < sh.passes → (st.stands p).section ≡ Inside x calm → (st.stands p).phase ≡ phase.Begin (begin.Count (walk.Directory c t cnt)) → Shut sh st → ScansAgree sh st → MarksAgree sh st ms → IsHere st
    → KeepsMarks ms sh st p Go (Inside x calm) (phase.Begin (begin.Count (walk.Directory c t cnt))) told (Load (place.Directory c t))
count_dir ms sh st p x calm c t cnt told in_n at_sec at_call h r mk hr = unmarked sh (did sh st p Go (Inside x calm) (phase.Begin (begin.Count (walk.Directory c t cnt))) told (Load (place.Directory c t))) ms p st.world (change sh p (st.stands p) (Inside x calm) (phase.Begin (begin.Count (walk.Directory c t cnt))) Go told (seen (Load (place.Directory c t)) st.memory)).event (grind (arith, nat_tests)) (record {
  m_began = λ i k' c' a' e' b' li is bg. grind (arith, nat_tests, mk.m_began i k' c' a' e' b' li);
  m_given = λ i k' c' a' e' b' li is vs. grind (arith, nat_tests, mk.m_given i k' c' a' e' b' li);
  m_coll = λ i k' c' a' e' b' li is vs. grind (arith, nat_tests, mk.m_coll i k' c' a' e' b' li);
  m_met = λ i k' c' a' e' s' b' li is of bg pr lt. grind (arith, nat_tests, mk.m_met i k' c' a' e' s' b' li);
  m_once = λ i k' c' a' e' s' b' li is vs pr. grind (arith, nat_tests, mk.m_once i k' c' a' e' s' b' li);
})

-- kind LoadBack
pub count_back : (ms : ℕ → Marks) (sh : Layout) (st : S.State) (p : ℕ) (x : ℕ) (calm : Bool) (c : ℕ) (t : ℕ) (cnt : Count) (told : ℕ) → p < sh.passes → (st.stands p).section ≡ Inside x calm → (st.stands p).phase ≡ phase.Begin (begin.Count (walk.Back c t cnt)) → Shut sh st → ScansAgree sh st → MarksAgree sh st ms → IsHere st
    → KeepsMarks ms sh st p Go (Inside x calm) (phase.Begin (begin.Count (walk.Back c t cnt))) told (Load (place.Back c t))
count_back ms sh st p x calm c t cnt told in_n at_sec at_call h r mk hr = unmarked sh (did sh st p Go (Inside x calm) (phase.Begin (begin.Count (walk.Back c t cnt))) told (Load (place.Back c t))) ms p st.world (change sh p (st.stands p) (Inside x calm) (phase.Begin (begin.Count (walk.Back c t cnt))) Go told (seen (Load (place.Back c t)) st.memory)).event (grind (arith, nat_tests)) (record {
  m_began = λ i k' c' a' e' b' li is bg. grind (arith, nat_tests, mk.m_began i k' c' a' e' b' li);
  m_given = λ i k' c' a' e' b' li is vs. grind (arith, nat_tests, mk.m_given i k' c' a' e' b' li);
  m_coll = λ i k' c' a' e' b' li is vs. grind (arith, nat_tests, mk.m_coll i k' c' a' e' b' li);
  m_met = λ i k' c' a' e' s' b' li is of bg pr lt. grind (arith, nat_tests, mk.m_met i k' c' a' e' s' b' li);
  m_once = λ i k' c' a' e' s' b' li is vs pr. grind (arith, nat_tests, mk.m_once i k' c' a' e' s' b' li);
})

-- kind LoadEntry
pub count_entry : (ms : ℕ → Marks) (sh : Layout) (st : S.State) (p : ℕ) (x : ℕ) (calm : Bool) (c : ℕ) (t : ℕ) (cnt : Count) (c2 : ℕ) (a : ℕ) (e : ℕ) (told : ℕ) → p < sh.passes → (st.stands p).section ≡ Inside x calm → (st.stands p).phase ≡ phase.Begin (begin.Count (walk.Entry c t cnt (object a e c2))) → Shut sh st → ScansAgree sh st → MarksAgree sh st ms → IsHere st
    → KeepsMarks ms sh st p Go (Inside x calm) (phase.Begin (begin.Count (walk.Entry c t cnt (object a e c2)))) told (Load (place.Entry c2 e))
count_entry ms sh st p x calm c t cnt c2 a e told in_n at_sec at_call h r mk hr = unmarked sh (did sh st p Go (Inside x calm) (phase.Begin (begin.Count (walk.Entry c t cnt (object a e c2)))) told (Load (place.Entry c2 e))) ms p st.world (change sh p (st.stands p) (Inside x calm) (phase.Begin (begin.Count (walk.Entry c t cnt (object a e c2)))) Go told (seen (Load (place.Entry c2 e)) st.memory)).event (grind (arith, nat_tests)) (record {
  m_began = λ i k' c' a' e' b' li is bg. grind (arith, nat_tests, mk.m_began i k' c' a' e' b' li);
  m_given = λ i k' c' a' e' b' li is vs. grind (arith, nat_tests, mk.m_given i k' c' a' e' b' li);
  m_coll = λ i k' c' a' e' b' li is vs. grind (arith, nat_tests, mk.m_coll i k' c' a' e' b' li);
  m_met = λ i k' c' a' e' s' b' li is of bg pr lt. grind (arith, nat_tests, mk.m_met i k' c' a' e' s' b' li);
  m_once = λ i k' c' a' e' s' b' li is vs pr. grind (arith, nat_tests, mk.m_once i k' c' a' e' s' b' li);
})

-- kind CloseRound
pub nothing : (ms : ℕ → Marks) (sh : Layout) (st : S.State) (p : ℕ) (x : ℕ) (calm : Bool) (c : ℕ) (told : ℕ) → p < sh.passes → (st.stands p).section ≡ Inside x calm → (st.stands p).phase ≡ phase.Begin (begin.Nothing c) → Shut sh st → ScansAgree sh st → MarksAgree sh st ms → IsHere st
    → KeepsMarks ms sh st p Go (Inside x calm) (phase.Begin (begin.Nothing c)) told (Store place.Round (word.Round None))
nothing ms sh st p x calm c told in_n at_sec at_call h r mk hr = unmarked sh (did sh st p Go (Inside x calm) (phase.Begin (begin.Nothing c)) told (Store place.Round (word.Round None))) ms p st.world (change sh p (st.stands p) (Inside x calm) (phase.Begin (begin.Nothing c)) Go told (seen (Store place.Round (word.Round None)) st.memory)).event (grind (arith, nat_tests)) (record {
  m_began = λ i k' c' a' e' b' li is bg. grind (arith, nat_tests, mk.m_began i k' c' a' e' b' li);
  m_given = λ i k' c' a' e' b' li is vs. grind (arith, nat_tests, mk.m_given i k' c' a' e' b' li);
  m_coll = λ i k' c' a' e' b' li is vs. grind (arith, nat_tests, mk.m_coll i k' c' a' e' b' li);
  m_met = λ i k' c' a' e' s' b' li is of bg pr lt. grind (arith, nat_tests, mk.m_met i k' c' a' e' s' b' li);
  m_once = λ i k' c' a' e' s' b' li is vs pr. grind (arith, nat_tests, mk.m_once i k' c' a' e' s' b' li);
})

-- kind LoadDirectory
pub source_dir : (ms : ℕ → Marks) (sh : Layout) (st : S.State) (p : ℕ) (x : ℕ) (calm : Bool) (m : Walk) (told : ℕ) → p < sh.passes → (st.stands p).section ≡ Inside x calm → (st.stands p).phase ≡ phase.Begin (begin.SourceDirectory m) → Shut sh st → ScansAgree sh st → MarksAgree sh st ms → IsHere st
    → KeepsMarks ms sh st p Go (Inside x calm) (phase.Begin (begin.SourceDirectory m)) told (Load (place.Directory m.coll m.source))
source_dir ms sh st p x calm m told in_n at_sec at_call h r mk hr = unmarked sh (did sh st p Go (Inside x calm) (phase.Begin (begin.SourceDirectory m)) told (Load (place.Directory m.coll m.source))) ms p st.world (change sh p (st.stands p) (Inside x calm) (phase.Begin (begin.SourceDirectory m)) Go told (seen (Load (place.Directory m.coll m.source)) st.memory)).event (grind (arith, nat_tests)) (record {
  m_began = λ i k' c' a' e' b' li is bg. grind (arith, nat_tests, mk.m_began i k' c' a' e' b' li);
  m_given = λ i k' c' a' e' b' li is vs. grind (arith, nat_tests, mk.m_given i k' c' a' e' b' li);
  m_coll = λ i k' c' a' e' b' li is vs. grind (arith, nat_tests, mk.m_coll i k' c' a' e' b' li);
  m_met = λ i k' c' a' e' s' b' li is of bg pr lt. grind (arith, nat_tests, mk.m_met i k' c' a' e' s' b' li);
  m_once = λ i k' c' a' e' s' b' li is vs pr. grind (arith, nat_tests, mk.m_once i k' c' a' e' s' b' li);
})

-- kind LoadBack
pub source_back : (ms : ℕ → Marks) (sh : Layout) (st : S.State) (p : ℕ) (x : ℕ) (calm : Bool) (m : Walk) (told : ℕ) → p < sh.passes → (st.stands p).section ≡ Inside x calm → (st.stands p).phase ≡ phase.Begin (begin.SourceBack m) → Shut sh st → ScansAgree sh st → MarksAgree sh st ms → IsHere st
    → KeepsMarks ms sh st p Go (Inside x calm) (phase.Begin (begin.SourceBack m)) told (Load (place.Back m.coll m.source))
source_back ms sh st p x calm m told in_n at_sec at_call h r mk hr = unmarked sh (did sh st p Go (Inside x calm) (phase.Begin (begin.SourceBack m)) told (Load (place.Back m.coll m.source))) ms p st.world (change sh p (st.stands p) (Inside x calm) (phase.Begin (begin.SourceBack m)) Go told (seen (Load (place.Back m.coll m.source)) st.memory)).event (grind (arith, nat_tests)) (record {
  m_began = λ i k' c' a' e' b' li is bg. grind (arith, nat_tests, mk.m_began i k' c' a' e' b' li);
  m_given = λ i k' c' a' e' b' li is vs. grind (arith, nat_tests, mk.m_given i k' c' a' e' b' li);
  m_coll = λ i k' c' a' e' b' li is vs. grind (arith, nat_tests, mk.m_coll i k' c' a' e' b' li);
  m_met = λ i k' c' a' e' s' b' li is of bg pr lt. grind (arith, nat_tests, mk.m_met i k' c' a' e' s' b' li);
  m_once = λ i k' c' a' e' s' b' li is vs pr. grind (arith, nat_tests, mk.m_once i k' c' a' e' s' b' li);
})

-- kind LoadEntry
pub source_entry : (ms : ℕ → Marks) (sh : Layout) (st : S.State) (p : ℕ) (x : ℕ) (calm : Bool) (m : Walk) (a : ℕ) (e : ℕ) (told : ℕ) → p < sh.passes → (st.stands p).section ≡ Inside x calm → (st.stands p).phase ≡ phase.Begin (begin.SourceEntry m (object a e m.coll)) → Shut sh st → ScansAgree sh st → MarksAgree sh st ms → IsHere st
    → KeepsMarks ms sh st p Go (Inside x calm) (phase.Begin (begin.SourceEntry m (object a e m.coll))) told (Load (place.Entry m.coll e))
source_entry ms sh st p x calm m a e told in_n at_sec at_call h r mk hr = unmarked sh (did sh st p Go (Inside x calm) (phase.Begin (begin.SourceEntry m (object a e m.coll))) told (Load (place.Entry m.coll e))) ms p st.world (change sh p (st.stands p) (Inside x calm) (phase.Begin (begin.SourceEntry m (object a e m.coll))) Go told (seen (Load (place.Entry m.coll e)) st.memory)).event (grind (arith, nat_tests)) (record {
  m_began = λ i k' c' a' e' b' li is bg. grind (arith, nat_tests, mk.m_began i k' c' a' e' b' li);
  m_given = λ i k' c' a' e' b' li is vs. grind (arith, nat_tests, mk.m_given i k' c' a' e' b' li);
  m_coll = λ i k' c' a' e' b' li is vs. grind (arith, nat_tests, mk.m_coll i k' c' a' e' b' li);
  m_met = λ i k' c' a' e' s' b' li is of bg pr lt. grind (arith, nat_tests, mk.m_met i k' c' a' e' s' b' li);
  m_once = λ i k' c' a' e' s' b' li is vs pr. grind (arith, nat_tests, mk.m_once i k' c' a' e' s' b' li);
})
