-- Steps keep the marks of scans: finishes. Written by tools/marks.py.
use Rattle.std.proofs.Common.{◌≡◌, ℕ, ◌+◌, ◌<◌, Bool, true, false, Some, None, arith}
use Rattle.std.proofs.lemmas.Bool.Decides.{nat_tests}
use Rattle.smc_words.specs.declared.layout.TheConstants.{BLANK}
use Rattle.smc_words.specs.declared.dir.Dir.TheVariants as dir
use Rattle.smc_shape.specs.Layout.{Layout}
use Rattle.smc_shape.specs.declared.place.Place.TheVariants as place
use Rattle.smc_core.specs.declared.call.Call.TheVariants as call
use Rattle.smc_core.specs.declared.call.Choice.TheVariants.{Start, Go}
use Rattle.smc_core.specs.declared.op.Op.TheVariants.{Load, Store, Exchange}
use Rattle.smc_core.specs.declared.phase.Phase.TheVariants as phase
use Rattle.smc_core.specs.declared.phase.moves.FinishPhase.TheVariants as finish
use Rattle.smc_core.specs.declared.phase.moves.Targets.{Targets}
use Rattle.smc_core.specs.declared.phase.objects.CopyPhase.TheVariants as copy
use Rattle.smc_core.specs.declared.section.Section.TheVariants.{Inside}
use Rattle.smc_core.specs.declared.word.State.TheVariants as state
use Rattle.smc_core.specs.declared.word.Word.TheVariants as word
use Rattle.smc_core.specs.Finish.{is_early}
use Rattle.smc_rules.specs.Reads.{object}
use Rattle.smc_rules.specs.State as S
use Rattle.smc_rules.specs.State.{put_stand}
use Rattle.smc_agreement.proofs.Whole.{Shut, calls, copies, moves, did}
use Rattle.smc_inv_scan.specs.Scans.{ScansAgree}
use Rattle.smc_core.specs.Change.{change}
use Rattle.smc_rules.specs.Memory.{seen}
use Rattle.smc_inv_scan.specs.Marks.{Marks, MarksAgree, IsHere}
use Rattle.smc_inv_scan.proofs.MarkViews.{unmarked}
use Rattle.smc_inv_scan.proofs.MarkSteps.{KeepsMarks}

-- kind LoadDirectory
pub starts_finish : (ms : ℕ → Marks) (sh : Layout) (st : S.State) (p : ℕ) (x : ℕ) (calm : Bool) (b : ℕ) (c : ℕ) (told : ℕ) → p < sh.passes → (st.stands p).section ≡ Inside x calm → (st.stands p).phase ≡ phase.Idle → (st.stands p).round ≡ Some (record { bound = b; coll = c }) → is_early x b ≡ false → Shut sh st → ScansAgree sh st → MarksAgree sh st ms → IsHere st
    → KeepsMarks ms sh st p (Start call.Finish) (Inside x calm) phase.Idle told (Load (place.Directory c 0))
starts_finish ms sh st p x calm b c told in_n at_sec at_call pre1 pre2 h r mk hr = unmarked sh (did sh st p (Start call.Finish) (Inside x calm) phase.Idle told (Load (place.Directory c 0))) ms p st.world (change sh p (st.stands p) (Inside x calm) phase.Idle (Start call.Finish) told (seen (Load (place.Directory c 0)) st.memory)).event (grind (arith, nat_tests)) (record {
  m_began = λ i k' c' a' e' b' li is bg. grind (arith, nat_tests, mk.m_began i k' c' a' e' b' li);
  m_given = λ i k' c' a' e' b' li is vs. grind (arith, nat_tests, mk.m_given i k' c' a' e' b' li);
  m_coll = λ i k' c' a' e' b' li is vs. grind (arith, nat_tests, mk.m_coll i k' c' a' e' b' li);
  m_met = λ i k' c' a' e' s' b' li is of bg pr lt. grind (arith, nat_tests, mk.m_met i k' c' a' e' s' b' li);
  m_once = λ i k' c' a' e' s' b' li is vs pr. grind (arith, nat_tests, mk.m_once i k' c' a' e' s' b' li);
})

-- kind LoadSection
pub finish_early : (ms : ℕ → Marks) (sh : Layout) (st : S.State) (p : ℕ) (x : ℕ) (calm : Bool) (b : ℕ) (c : ℕ) (told : ℕ) → p < sh.passes → (st.stands p).section ≡ Inside x calm → (st.stands p).phase ≡ phase.Idle → (st.stands p).round ≡ Some (record { bound = b; coll = c }) → is_early x b ≡ true → Shut sh st → ScansAgree sh st → MarksAgree sh st ms → IsHere st
    → KeepsMarks ms sh st p (Start call.Finish) (Inside x calm) phase.Idle told (Load (place.Section p))
finish_early ms sh st p x calm b c told in_n at_sec at_call pre1 pre2 h r mk hr = unmarked sh (did sh st p (Start call.Finish) (Inside x calm) phase.Idle told (Load (place.Section p))) ms p st.world (change sh p (st.stands p) (Inside x calm) phase.Idle (Start call.Finish) told (seen (Load (place.Section p)) st.memory)).event (grind (arith, nat_tests)) (record {
  m_began = λ i k' c' a' e' b' li is bg. grind (arith, nat_tests, mk.m_began i k' c' a' e' b' li);
  m_given = λ i k' c' a' e' b' li is vs. grind (arith, nat_tests, mk.m_given i k' c' a' e' b' li);
  m_coll = λ i k' c' a' e' b' li is vs. grind (arith, nat_tests, mk.m_coll i k' c' a' e' b' li);
  m_met = λ i k' c' a' e' s' b' li is of bg pr lt. grind (arith, nat_tests, mk.m_met i k' c' a' e' s' b' li);
  m_once = λ i k' c' a' e' s' b' li is vs pr. grind (arith, nat_tests, mk.m_once i k' c' a' e' s' b' li);
})

-- kind LoadDirectory
pub finish_dir : (ms : ℕ → Marks) (sh : Layout) (st : S.State) (p : ℕ) (x : ℕ) (calm : Bool) (g : Targets) (told : ℕ) → p < sh.passes → (st.stands p).section ≡ Inside x calm → (st.stands p).phase ≡ phase.Finish (finish.Directory g) → Shut sh st → ScansAgree sh st → MarksAgree sh st ms → IsHere st
    → KeepsMarks ms sh st p Go (Inside x calm) (phase.Finish (finish.Directory g)) told (Load (place.Directory g.coll g.slot))
finish_dir ms sh st p x calm g told in_n at_sec at_call h r mk hr = unmarked sh (did sh st p Go (Inside x calm) (phase.Finish (finish.Directory g)) told (Load (place.Directory g.coll g.slot))) ms p st.world (change sh p (st.stands p) (Inside x calm) (phase.Finish (finish.Directory g)) Go told (seen (Load (place.Directory g.coll g.slot)) st.memory)).event (grind (arith, nat_tests)) (record {
  m_began = λ i k' c' a' e' b' li is bg. grind (arith, nat_tests, mk.m_began i k' c' a' e' b' li);
  m_given = λ i k' c' a' e' b' li is vs. grind (arith, nat_tests, mk.m_given i k' c' a' e' b' li);
  m_coll = λ i k' c' a' e' b' li is vs. grind (arith, nat_tests, mk.m_coll i k' c' a' e' b' li);
  m_met = λ i k' c' a' e' s' b' li is of bg pr lt. grind (arith, nat_tests, mk.m_met i k' c' a' e' s' b' li);
  m_once = λ i k' c' a' e' s' b' li is vs pr. grind (arith, nat_tests, mk.m_once i k' c' a' e' s' b' li);
})

-- kind LoadBack
pub finish_back : (ms : ℕ → Marks) (sh : Layout) (st : S.State) (p : ℕ) (x : ℕ) (calm : Bool) (g : Targets) (told : ℕ) → p < sh.passes → (st.stands p).section ≡ Inside x calm → (st.stands p).phase ≡ phase.Finish (finish.Back g) → Shut sh st → ScansAgree sh st → MarksAgree sh st ms → IsHere st
    → KeepsMarks ms sh st p Go (Inside x calm) (phase.Finish (finish.Back g)) told (Load (place.Back g.coll g.slot))
finish_back ms sh st p x calm g told in_n at_sec at_call h r mk hr = unmarked sh (did sh st p Go (Inside x calm) (phase.Finish (finish.Back g)) told (Load (place.Back g.coll g.slot))) ms p st.world (change sh p (st.stands p) (Inside x calm) (phase.Finish (finish.Back g)) Go told (seen (Load (place.Back g.coll g.slot)) st.memory)).event (grind (arith, nat_tests)) (record {
  m_began = λ i k' c' a' e' b' li is bg. grind (arith, nat_tests, mk.m_began i k' c' a' e' b' li);
  m_given = λ i k' c' a' e' b' li is vs. grind (arith, nat_tests, mk.m_given i k' c' a' e' b' li);
  m_coll = λ i k' c' a' e' b' li is vs. grind (arith, nat_tests, mk.m_coll i k' c' a' e' b' li);
  m_met = λ i k' c' a' e' s' b' li is of bg pr lt. grind (arith, nat_tests, mk.m_met i k' c' a' e' s' b' li);
  m_once = λ i k' c' a' e' s' b' li is vs pr. grind (arith, nat_tests, mk.m_once i k' c' a' e' s' b' li);
})

-- kind LoadEntry
pub finish_entry : (ms : ℕ → Marks) (sh : Layout) (st : S.State) (p : ℕ) (x : ℕ) (calm : Bool) (g : Targets) (a : ℕ) (e : ℕ) (told : ℕ) → p < sh.passes → (st.stands p).section ≡ Inside x calm → (st.stands p).phase ≡ phase.Finish (finish.Entry g (object a e g.coll)) → Shut sh st → ScansAgree sh st → MarksAgree sh st ms → IsHere st
    → KeepsMarks ms sh st p Go (Inside x calm) (phase.Finish (finish.Entry g (object a e g.coll))) told (Load (place.Entry g.coll e))
finish_entry ms sh st p x calm g a e told in_n at_sec at_call h r mk hr = unmarked sh (did sh st p Go (Inside x calm) (phase.Finish (finish.Entry g (object a e g.coll))) told (Load (place.Entry g.coll e))) ms p st.world (change sh p (st.stands p) (Inside x calm) (phase.Finish (finish.Entry g (object a e g.coll))) Go told (seen (Load (place.Entry g.coll e)) st.memory)).event (grind (arith, nat_tests)) (record {
  m_began = λ i k' c' a' e' b' li is bg. grind (arith, nat_tests, mk.m_began i k' c' a' e' b' li);
  m_given = λ i k' c' a' e' b' li is vs. grind (arith, nat_tests, mk.m_given i k' c' a' e' b' li);
  m_coll = λ i k' c' a' e' b' li is vs. grind (arith, nat_tests, mk.m_coll i k' c' a' e' b' li);
  m_met = λ i k' c' a' e' s' b' li is of bg pr lt. grind (arith, nat_tests, mk.m_met i k' c' a' e' s' b' li);
  m_once = λ i k' c' a' e' s' b' li is vs pr. grind (arith, nat_tests, mk.m_once i k' c' a' e' s' b' li);
})

-- kind Lock
pub lock : (ms : ℕ → Marks) (sh : Layout) (st : S.State) (p : ℕ) (x : ℕ) (calm : Bool) (g : Targets) (a : ℕ) (e : ℕ) (q : ℕ) (told : ℕ) → p < sh.passes → (st.stands p).section ≡ Inside x calm → (st.stands p).phase ≡ phase.Finish (finish.Lock g (object a e g.coll) q) → Shut sh st → ScansAgree sh st → MarksAgree sh st ms → IsHere st
    → KeepsMarks ms sh st p Go (Inside x calm) (phase.Finish (finish.Lock g (object a e g.coll) q)) told (Exchange (place.Entry g.coll e) (word.Entry (state.Frozen a q)) (word.Entry (state.Locked a q)))
lock ms sh st p x calm g a e q told in_n at_sec at_call h r mk hr = unmarked sh (did sh st p Go (Inside x calm) (phase.Finish (finish.Lock g (object a e g.coll) q)) told (Exchange (place.Entry g.coll e) (word.Entry (state.Frozen a q)) (word.Entry (state.Locked a q)))) ms p st.world (change sh p (st.stands p) (Inside x calm) (phase.Finish (finish.Lock g (object a e g.coll) q)) Go told (seen (Exchange (place.Entry g.coll e) (word.Entry (state.Frozen a q)) (word.Entry (state.Locked a q))) st.memory)).event (grind (arith, nat_tests)) (record {
  m_began = λ i k' c' a' e' b' li is bg. grind (arith, nat_tests, mk.m_began i k' c' a' e' b' li, (calls h).c_named p g.coll g.slot a e in_n, (calls h).c_target p g.coll g.slot in_n, (calls h).c_tries p g.coll q a e in_n);
  m_given = λ i k' c' a' e' b' li is vs. grind (arith, nat_tests, mk.m_given i k' c' a' e' b' li, (calls h).c_named p g.coll g.slot a e in_n, (calls h).c_target p g.coll g.slot in_n, (calls h).c_tries p g.coll q a e in_n);
  m_coll = λ i k' c' a' e' b' li is vs. grind (arith, nat_tests, mk.m_coll i k' c' a' e' b' li);
  m_met = λ i k' c' a' e' s' b' li is of bg pr lt. grind (arith, nat_tests, mk.m_met i k' c' a' e' s' b' li, (calls h).c_named p g.coll g.slot a e in_n, (calls h).c_target p g.coll g.slot in_n, (calls h).c_tries p g.coll q a e in_n);
  m_once = λ i k' c' a' e' s' b' li is vs pr. grind (arith, nat_tests, mk.m_once i k' c' a' e' s' b' li, (calls h).c_named p g.coll g.slot a e in_n, (calls h).c_target p g.coll g.slot in_n, (calls h).c_tries p g.coll q a e in_n);
})

-- kind LoadForward
pub f_fwd : (ms : ℕ → Marks) (sh : Layout) (st : S.State) (p : ℕ) (x : ℕ) (calm : Bool) (g : Targets) (a : ℕ) (e : ℕ) (q : ℕ) (told : ℕ) → p < sh.passes → (st.stands p).section ≡ Inside x calm → (st.stands p).phase ≡ phase.Finish (finish.Move g (object a e g.coll) q copy.Target) → Shut sh st → ScansAgree sh st → MarksAgree sh st ms → IsHere st
    → KeepsMarks ms sh st p Go (Inside x calm) (phase.Finish (finish.Move g (object a e g.coll) q copy.Target)) told (Load (place.Forward g.coll q))
f_fwd ms sh st p x calm g a e q told in_n at_sec at_call h r mk hr = unmarked sh (did sh st p Go (Inside x calm) (phase.Finish (finish.Move g (object a e g.coll) q copy.Target)) told (Load (place.Forward g.coll q))) ms p st.world (change sh p (st.stands p) (Inside x calm) (phase.Finish (finish.Move g (object a e g.coll) q copy.Target)) Go told (seen (Load (place.Forward g.coll q)) st.memory)).event (grind (arith, nat_tests)) (record {
  m_began = λ i k' c' a' e' b' li is bg. grind (arith, nat_tests, mk.m_began i k' c' a' e' b' li);
  m_given = λ i k' c' a' e' b' li is vs. grind (arith, nat_tests, mk.m_given i k' c' a' e' b' li);
  m_coll = λ i k' c' a' e' b' li is vs. grind (arith, nat_tests, mk.m_coll i k' c' a' e' b' li);
  m_met = λ i k' c' a' e' s' b' li is of bg pr lt. grind (arith, nat_tests, mk.m_met i k' c' a' e' s' b' li);
  m_once = λ i k' c' a' e' s' b' li is vs pr. grind (arith, nat_tests, mk.m_once i k' c' a' e' s' b' li);
})

-- kind LoadField
pub f_read : (ms : ℕ → Marks) (sh : Layout) (st : S.State) (p : ℕ) (x : ℕ) (calm : Bool) (g : Targets) (a : ℕ) (e : ℕ) (q : ℕ) (t : ℕ) (f : ℕ) (told : ℕ) → p < sh.passes → (st.stands p).section ≡ Inside x calm → (st.stands p).phase ≡ phase.Finish (finish.Move g (object a e g.coll) q (copy.Load t f)) → Shut sh st → ScansAgree sh st → MarksAgree sh st ms → IsHere st
    → KeepsMarks ms sh st p Go (Inside x calm) (phase.Finish (finish.Move g (object a e g.coll) q (copy.Load t f))) told (Load (place.Field g.coll q f))
f_read ms sh st p x calm g a e q t f told in_n at_sec at_call h r mk hr = unmarked sh (did sh st p Go (Inside x calm) (phase.Finish (finish.Move g (object a e g.coll) q (copy.Load t f))) told (Load (place.Field g.coll q f))) ms p st.world (change sh p (st.stands p) (Inside x calm) (phase.Finish (finish.Move g (object a e g.coll) q (copy.Load t f))) Go told (seen (Load (place.Field g.coll q f)) st.memory)).event (grind (arith, nat_tests)) (record {
  m_began = λ i k' c' a' e' b' li is bg. grind (arith, nat_tests, mk.m_began i k' c' a' e' b' li);
  m_given = λ i k' c' a' e' b' li is vs. grind (arith, nat_tests, mk.m_given i k' c' a' e' b' li);
  m_coll = λ i k' c' a' e' b' li is vs. grind (arith, nat_tests, mk.m_coll i k' c' a' e' b' li);
  m_met = λ i k' c' a' e' s' b' li is of bg pr lt. grind (arith, nat_tests, mk.m_met i k' c' a' e' s' b' li);
  m_once = λ i k' c' a' e' s' b' li is vs pr. grind (arith, nat_tests, mk.m_once i k' c' a' e' s' b' li);
})

-- kind CopyField
pub f_put : (ms : ℕ → Marks) (sh : Layout) (st : S.State) (p : ℕ) (x : ℕ) (calm : Bool) (g : Targets) (a : ℕ) (e : ℕ) (q : ℕ) (t : ℕ) (f : ℕ) (w : ℕ) (told : ℕ) → p < sh.passes → (st.stands p).section ≡ Inside x calm → (st.stands p).phase ≡ phase.Finish (finish.Move g (object a e g.coll) q (copy.Put t f w)) → Shut sh st → ScansAgree sh st → MarksAgree sh st ms → IsHere st
    → KeepsMarks ms sh st p Go (Inside x calm) (phase.Finish (finish.Move g (object a e g.coll) q (copy.Put t f w))) told (Exchange (place.Field g.coll t f) (word.Plain BLANK) (word.Plain w))
f_put ms sh st p x calm g a e q t f w told in_n at_sec at_call h r mk hr = unmarked sh (did sh st p Go (Inside x calm) (phase.Finish (finish.Move g (object a e g.coll) q (copy.Put t f w))) told (Exchange (place.Field g.coll t f) (word.Plain BLANK) (word.Plain w))) ms p st.world (change sh p (st.stands p) (Inside x calm) (phase.Finish (finish.Move g (object a e g.coll) q (copy.Put t f w))) Go told (seen (Exchange (place.Field g.coll t f) (word.Plain BLANK) (word.Plain w)) st.memory)).event (grind (arith, nat_tests)) (record {
  m_began = λ i k' c' a' e' b' li is bg. grind (arith, nat_tests, mk.m_began i k' c' a' e' b' li);
  m_given = λ i k' c' a' e' b' li is vs. grind (arith, nat_tests, mk.m_given i k' c' a' e' b' li);
  m_coll = λ i k' c' a' e' b' li is vs. grind (arith, nat_tests, mk.m_coll i k' c' a' e' b' li);
  m_met = λ i k' c' a' e' s' b' li is of bg pr lt. grind (arith, nat_tests, mk.m_met i k' c' a' e' s' b' li);
  m_once = λ i k' c' a' e' s' b' li is vs pr. grind (arith, nat_tests, mk.m_once i k' c' a' e' s' b' li);
})

-- kind Swing
pub f_swing : (ms : ℕ → Marks) (sh : Layout) (st : S.State) (p : ℕ) (x : ℕ) (calm : Bool) (g : Targets) (a : ℕ) (e : ℕ) (q : ℕ) (t : ℕ) (told : ℕ) → p < sh.passes → (st.stands p).section ≡ Inside x calm → (st.stands p).phase ≡ phase.Finish (finish.Move g (object a e g.coll) q (copy.Swing t)) → Shut sh st → ScansAgree sh st → MarksAgree sh st ms → IsHere st
    → KeepsMarks ms sh st p Go (Inside x calm) (phase.Finish (finish.Move g (object a e g.coll) q (copy.Swing t))) told (Exchange (place.Entry g.coll e) (word.Entry (state.Locked a q)) (word.Entry (state.Present a t)))
f_swing ms sh st p x calm g a e q t told in_n at_sec at_call h r mk hr = unmarked sh (did sh st p Go (Inside x calm) (phase.Finish (finish.Move g (object a e g.coll) q (copy.Swing t))) told (Exchange (place.Entry g.coll e) (word.Entry (state.Locked a q)) (word.Entry (state.Present a t)))) ms p st.world (change sh p (st.stands p) (Inside x calm) (phase.Finish (finish.Move g (object a e g.coll) q (copy.Swing t))) Go told (seen (Exchange (place.Entry g.coll e) (word.Entry (state.Locked a q)) (word.Entry (state.Present a t))) st.memory)).event (grind (arith, nat_tests)) (record {
  m_began = λ i k' c' a' e' b' li is bg. grind (arith, nat_tests, mk.m_began i k' c' a' e' b' li, (calls h).c_leads p g.coll q g.slot in_n, (calls h).c_leaves p g.coll q in_n, (calls h).c_apart p g.coll q a e in_n);
  m_given = λ i k' c' a' e' b' li is vs. grind (arith, nat_tests, mk.m_given i k' c' a' e' b' li, (calls h).c_leads p g.coll q g.slot in_n, (calls h).c_leaves p g.coll q in_n, (calls h).c_apart p g.coll q a e in_n);
  m_coll = λ i k' c' a' e' b' li is vs. grind (arith, nat_tests, mk.m_coll i k' c' a' e' b' li);
  m_met = λ i k' c' a' e' s' b' li is of bg pr lt. grind (arith, nat_tests, mk.m_met i k' c' a' e' s' b' li, (calls h).c_leads p g.coll q g.slot in_n, (calls h).c_leaves p g.coll q in_n, (calls h).c_apart p g.coll q a e in_n, r.s_locked i k' g.coll a e q b' li, (copies h).j_led p g.coll a e q (copy.Swing t) in_n);
  m_once = λ i k' c' a' e' s' b' li is vs pr. grind (arith, nat_tests, mk.m_once i k' c' a' e' s' b' li, (calls h).c_leads p g.coll q g.slot in_n, (calls h).c_leaves p g.coll q in_n, (calls h).c_apart p g.coll q a e in_n, r.s_locked i k' g.coll a e q b' li, mk.m_once i k' g.coll a e q b' li, mk.m_coll i k' g.coll a e b' li, (moves h).locked g.coll a e q, (copies h).j_led p g.coll a e q (copy.Swing t) in_n);
})

-- kind Settle
pub settle : (ms : ℕ → Marks) (sh : Layout) (st : S.State) (p : ℕ) (x : ℕ) (calm : Bool) (g : Targets) (q : ℕ) (told : ℕ) → p < sh.passes → (st.stands p).section ≡ Inside x calm → (st.stands p).phase ≡ phase.Finish (finish.Settle g q) → Shut sh st → ScansAgree sh st → MarksAgree sh st ms → IsHere st
    → KeepsMarks ms sh st p Go (Inside x calm) (phase.Finish (finish.Settle g q)) told (Exchange (place.Directory g.coll g.slot) (word.Directory dir.Incoming) (word.Directory dir.Valid))
settle ms sh st p x calm g q told in_n at_sec at_call h r mk hr = unmarked sh (did sh st p Go (Inside x calm) (phase.Finish (finish.Settle g q)) told (Exchange (place.Directory g.coll g.slot) (word.Directory dir.Incoming) (word.Directory dir.Valid))) ms p st.world (change sh p (st.stands p) (Inside x calm) (phase.Finish (finish.Settle g q)) Go told (seen (Exchange (place.Directory g.coll g.slot) (word.Directory dir.Incoming) (word.Directory dir.Valid)) st.memory)).event (grind (arith, nat_tests)) (record {
  m_began = λ i k' c' a' e' b' li is bg. grind (arith, nat_tests, mk.m_began i k' c' a' e' b' li);
  m_given = λ i k' c' a' e' b' li is vs. grind (arith, nat_tests, mk.m_given i k' c' a' e' b' li);
  m_coll = λ i k' c' a' e' b' li is vs. grind (arith, nat_tests, mk.m_coll i k' c' a' e' b' li);
  m_met = λ i k' c' a' e' s' b' li is of bg pr lt. grind (arith, nat_tests, mk.m_met i k' c' a' e' s' b' li);
  m_once = λ i k' c' a' e' s' b' li is vs pr. grind (arith, nat_tests, mk.m_once i k' c' a' e' s' b' li);
})

-- kind LeaveSlot
pub leave_source : (ms : ℕ → Marks) (sh : Layout) (st : S.State) (p : ℕ) (x : ℕ) (calm : Bool) (g : Targets) (q : ℕ) (told : ℕ) → p < sh.passes → (st.stands p).section ≡ Inside x calm → (st.stands p).phase ≡ phase.Finish (finish.LeaveSource g q) → Shut sh st → ScansAgree sh st → MarksAgree sh st ms → IsHere st
    → KeepsMarks ms sh st p Go (Inside x calm) (phase.Finish (finish.LeaveSource g q)) told (Store (place.Directory g.coll q) (word.Directory (dir.Limbo (x + 1))))
leave_source ms sh st p x calm g q told in_n at_sec at_call h r mk hr = unmarked sh (did sh st p Go (Inside x calm) (phase.Finish (finish.LeaveSource g q)) told (Store (place.Directory g.coll q) (word.Directory (dir.Limbo (x + 1))))) ms p st.world (change sh p (st.stands p) (Inside x calm) (phase.Finish (finish.LeaveSource g q)) Go told (seen (Store (place.Directory g.coll q) (word.Directory (dir.Limbo (x + 1)))) st.memory)).event (grind (arith, nat_tests)) (record {
  m_began = λ i k' c' a' e' b' li is bg. grind (arith, nat_tests, mk.m_began i k' c' a' e' b' li);
  m_given = λ i k' c' a' e' b' li is vs. grind (arith, nat_tests, mk.m_given i k' c' a' e' b' li);
  m_coll = λ i k' c' a' e' b' li is vs. grind (arith, nat_tests, mk.m_coll i k' c' a' e' b' li);
  m_met = λ i k' c' a' e' s' b' li is of bg pr lt. grind (arith, nat_tests, mk.m_met i k' c' a' e' s' b' li);
  m_once = λ i k' c' a' e' s' b' li is vs pr. grind (arith, nat_tests, mk.m_once i k' c' a' e' s' b' li);
})

-- kind LeaveSlot
pub finish_gives : (ms : ℕ → Marks) (sh : Layout) (st : S.State) (p : ℕ) (x : ℕ) (calm : Bool) (g : Targets) (gone : Bool) (told : ℕ) → p < sh.passes → (st.stands p).section ≡ Inside x calm → (st.stands p).phase ≡ phase.Finish (finish.GiveUp g gone) → Shut sh st → ScansAgree sh st → MarksAgree sh st ms → IsHere st
    → KeepsMarks ms sh st p Go (Inside x calm) (phase.Finish (finish.GiveUp g gone)) told (Store (place.Directory g.coll g.slot) (word.Directory (dir.Limbo (x + 1))))
finish_gives ms sh st p x calm g gone told in_n at_sec at_call h r mk hr = unmarked sh (did sh st p Go (Inside x calm) (phase.Finish (finish.GiveUp g gone)) told (Store (place.Directory g.coll g.slot) (word.Directory (dir.Limbo (x + 1))))) ms p st.world (change sh p (st.stands p) (Inside x calm) (phase.Finish (finish.GiveUp g gone)) Go told (seen (Store (place.Directory g.coll g.slot) (word.Directory (dir.Limbo (x + 1)))) st.memory)).event (grind (arith, nat_tests)) (record {
  m_began = λ i k' c' a' e' b' li is bg. grind (arith, nat_tests, mk.m_began i k' c' a' e' b' li);
  m_given = λ i k' c' a' e' b' li is vs. grind (arith, nat_tests, mk.m_given i k' c' a' e' b' li);
  m_coll = λ i k' c' a' e' b' li is vs. grind (arith, nat_tests, mk.m_coll i k' c' a' e' b' li);
  m_met = λ i k' c' a' e' s' b' li is of bg pr lt. grind (arith, nat_tests, mk.m_met i k' c' a' e' s' b' li);
  m_once = λ i k' c' a' e' s' b' li is vs pr. grind (arith, nat_tests, mk.m_once i k' c' a' e' s' b' li);
})

-- kind CloseRound
pub finish_ends : (ms : ℕ → Marks) (sh : Layout) (st : S.State) (p : ℕ) (x : ℕ) (calm : Bool) (g : Targets) (told : ℕ) → p < sh.passes → (st.stands p).section ≡ Inside x calm → (st.stands p).phase ≡ phase.Finish (finish.End g) → Shut sh st → ScansAgree sh st → MarksAgree sh st ms → IsHere st
    → KeepsMarks ms sh st p Go (Inside x calm) (phase.Finish (finish.End g)) told (Store place.Round (word.Round None))
finish_ends ms sh st p x calm g told in_n at_sec at_call h r mk hr = unmarked sh (did sh st p Go (Inside x calm) (phase.Finish (finish.End g)) told (Store place.Round (word.Round None))) ms p st.world (change sh p (st.stands p) (Inside x calm) (phase.Finish (finish.End g)) Go told (seen (Store place.Round (word.Round None)) st.memory)).event (grind (arith, nat_tests)) (record {
  m_began = λ i k' c' a' e' b' li is bg. grind (arith, nat_tests, mk.m_began i k' c' a' e' b' li);
  m_given = λ i k' c' a' e' b' li is vs. grind (arith, nat_tests, mk.m_given i k' c' a' e' b' li);
  m_coll = λ i k' c' a' e' b' li is vs. grind (arith, nat_tests, mk.m_coll i k' c' a' e' b' li);
  m_met = λ i k' c' a' e' s' b' li is of bg pr lt. grind (arith, nat_tests, mk.m_met i k' c' a' e' s' b' li);
  m_once = λ i k' c' a' e' s' b' li is vs pr. grind (arith, nat_tests, mk.m_once i k' c' a' e' s' b' li);
})
