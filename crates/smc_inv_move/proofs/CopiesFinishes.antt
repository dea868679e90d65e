-- Steps keep the agreement: copies, finishes. Written by tools/laws.py.
use Rattle.std.proofs.Common.{◌≡◌, ℕ, ◌+◌, ◌<◌, Bool, true, false, Some, None, arith}
use Rattle.std.proofs.lemmas.Bool.Decides.{nat_tests}
use Rattle.smc_words.specs.declared.layout.TheConstants.{BLANK}
use Rattle.smc_words.specs.declared.dir.Dir.TheVariants as dir
use Rattle.smc_shape.specs.Layout.{Layout}
use Rattle.smc_shape.specs.declared.place.Place.TheVariants as place
use Rattle.smc_core.specs.declared.call.Call.TheVariants as call
use Rattle.smc_core.specs.declared.call.Choice.TheVariants.{Start, Go}
use Rattle.smc_core.specs.declared.op.Op.TheVariants.{Load, Store, Exchange}
use Rattle.smc_core.specs.declared.phase.Phase.TheVariants as phase
use Rattle.smc_core.specs.declared.phase.moves.FinishPhase.TheVariants as finish
use Rattle.smc_core.specs.declared.phase.moves.Targets.{Targets}
use Rattle.smc_core.specs.declared.phase.objects.CopyPhase.TheVariants as copy
use Rattle.smc_core.specs.declared.section.Section.TheVariants.{Inside}
use Rattle.smc_core.specs.declared.word.State.TheVariants as state
use Rattle.smc_core.specs.declared.word.Word.TheVariants as word
use Rattle.smc_core.specs.Finish.{is_early}
use Rattle.smc_rules.specs.Reads.{object}
use Rattle.smc_rules.specs.State as S
use Rattle.smc_rules.specs.State.{put_stand}
use Rattle.smc_agreement.specs.Kept.{Nothing}
use Rattle.smc_agreement.specs.Agreement.{CopiesAgree}
use Rattle.smc_agreement.proofs.Whole.{Shut, calls, copies, objects, moves, did, sections}
use Rattle.smc_agreement.proofs.CrossLaws.{late_copy}

-- kind LoadDirectory
pub starts_finish : (sh : Layout) (st : S.State) (p : ℕ) (x : ℕ) (calm : Bool) (b : ℕ) (c : ℕ) (told : ℕ) → p < sh.passes → (st.stands p).section ≡ Inside x calm → (st.stands p).phase ≡ phase.Idle → (st.stands p).round ≡ Some (record { bound = b; coll = c }) → is_early x b ≡ false → Shut sh st → Nothing sh st
    → CopiesAgree sh (did sh st p (Start call.Finish) (Inside x calm) phase.Idle told (Load (place.Directory c 0)))
starts_finish sh st p x calm b c told in_n at_sec at_call pre1 pre2 h _ = record {
  j_named = λ i c' a' e' s' n' li is. grind (arith, nat_tests, (copies h).j_named i c' a' e' s' n' li, (calls h).calls p in_n, sections sh st h p in_n);
  j_led = λ i c' a' e' s' n' li is. grind (arith, nat_tests, (copies h).j_led i c' a' e' s' n' li, (calls h).calls p in_n, sections sh st h p in_n);
  j_entry = λ i c' a' e' s' n' li is. grind (arith, nat_tests, (copies h).j_entry i c' a' e' s' n' li, (calls h).calls p in_n, sections sh st h p in_n);
  j_locked = λ i c' a' e' s' n' li is lk. grind (arith, nat_tests, (copies h).j_locked i c' a' e' s' n' li, (calls h).calls p in_n, sections sh st h p in_n);
  j_left = λ i c' a' e' s' n' li is. grind (arith, nat_tests, (copies h).j_left i c' a' e' s' n' li, (calls h).calls p in_n, sections sh st h p in_n);
  j_for = λ i c' a' e' s' n' li is. grind (arith, nat_tests, (copies h).j_for i c' a' e' s' n' li, (calls h).calls p in_n, sections sh st h p in_n);
  j_back = λ i c' a' e' s' n' li is inc. grind (arith, nat_tests, (copies h).j_back i c' a' e' s' n' li, (calls h).calls p in_n, sections sh st h p in_n);
}

-- kind LoadSection
pub finish_early : (sh : Layout) (st : S.State) (p : ℕ) (x : ℕ) (calm : Bool) (b : ℕ) (c : ℕ) (told : ℕ) → p < sh.passes → (st.stands p).section ≡ Inside x calm → (st.stands p).phase ≡ phase.Idle → (st.stands p).round ≡ Some (record { bound = b; coll = c }) → is_early x b ≡ true → Shut sh st → Nothing sh st
    → CopiesAgree sh (did sh st p (Start call.Finish) (Inside x calm) phase.Idle told (Load (place.Section p)))
finish_early sh st p x calm b c told in_n at_sec at_call pre1 pre2 h _ = record {
  j_named = λ i c' a' e' s' n' li is. grind (arith, nat_tests, (copies h).j_named i c' a' e' s' n' li, (calls h).calls p in_n, sections sh st h p in_n);
  j_led = λ i c' a' e' s' n' li is. grind (arith, nat_tests, (copies h).j_led i c' a' e' s' n' li, (calls h).calls p in_n, sections sh st h p in_n);
  j_entry = λ i c' a' e' s' n' li is. grind (arith, nat_tests, (copies h).j_entry i c' a' e' s' n' li, (calls h).calls p in_n, sections sh st h p in_n);
  j_locked = λ i c' a' e' s' n' li is lk. grind (arith, nat_tests, (copies h).j_locked i c' a' e' s' n' li, (calls h).calls p in_n, sections sh st h p in_n);
  j_left = λ i c' a' e' s' n' li is. grind (arith, nat_tests, (copies h).j_left i c' a' e' s' n' li, (calls h).calls p in_n, sections sh st h p in_n);
  j_for = λ i c' a' e' s' n' li is. grind (arith, nat_tests, (copies h).j_for i c' a' e' s' n' li, (calls h).calls p in_n, sections sh st h p in_n);
  j_back = λ i c' a' e' s' n' li is inc. grind (arith, nat_tests, (copies h).j_back i c' a' e' s' n' li, (calls h).calls p in_n, sections sh st h p in_n);
}

-- kind LoadDirectory
pub finish_dir : (sh : Layout) (st : S.State) (p : ℕ) (x : ℕ) (calm : Bool) (g : Targets) (told : ℕ) → p < sh.passes → (st.stands p).section ≡ Inside x calm → (st.stands p).phase ≡ phase.Finish (finish.Directory g) → Shut sh st → Nothing sh st
    → CopiesAgree sh (did sh st p Go (Inside x calm) (phase.Finish (finish.Directory g)) told (Load (place.Directory g.coll g.slot)))
finish_dir sh st p x calm g told in_n at_sec at_call h _ = record {
  j_named = λ i c' a' e' s' n' li is. grind (arith, nat_tests, (copies h).j_named i c' a' e' s' n' li, (calls h).calls p in_n, sections sh st h p in_n);
  j_led = λ i c' a' e' s' n' li is. grind (arith, nat_tests, (copies h).j_led i c' a' e' s' n' li, (calls h).calls p in_n, sections sh st h p in_n);
  j_entry = λ i c' a' e' s' n' li is. grind (arith, nat_tests, (copies h).j_entry i c' a' e' s' n' li, (calls h).calls p in_n, sections sh st h p in_n);
  j_locked = λ i c' a' e' s' n' li is lk. grind (arith, nat_tests, (copies h).j_locked i c' a' e' s' n' li, (calls h).calls p in_n, sections sh st h p in_n);
  j_left = λ i c' a' e' s' n' li is. grind (arith, nat_tests, (copies h).j_left i c' a' e' s' n' li, (calls h).calls p in_n, sections sh st h p in_n);
  j_for = λ i c' a' e' s' n' li is. grind (arith, nat_tests, (copies h).j_for i c' a' e' s' n' li, (calls h).calls p in_n, sections sh st h p in_n);
  j_back = λ i c' a' e' s' n' li is inc. grind (arith, nat_tests, (copies h).j_back i c' a' e' s' n' li, (calls h).calls p in_n, sections sh st h p in_n);
}

-- kind LoadBack
pub finish_back : (sh : Layout) (st : S.State) (p : ℕ) (x : ℕ) (calm : Bool) (g : Targets) (told : ℕ) → p < sh.passes → (st.stands p).section ≡ Inside x calm → (st.stands p).phase ≡ phase.Finish (finish.Back g) → Shut sh st → Nothing sh st
    → CopiesAgree sh (did sh st p Go (Inside x calm) (phase.Finish (finish.Back g)) told (Load (place.Back g.coll g.slot)))
finish_back sh st p x calm g told in_n at_sec at_call h _ = record {
  j_named = λ i c' a' e' s' n' li is. grind (arith, nat_tests, (copies h).j_named i c' a' e' s' n' li, (calls h).c_target p g.coll g.slot in_n, (calls h).calls p in_n, sections sh st h p in_n);
  j_led = λ i c' a' e' s' n' li is. grind (arith, nat_tests, (copies h).j_led i c' a' e' s' n' li, (calls h).c_target p g.coll g.slot in_n, (calls h).calls p in_n, sections sh st h p in_n);
  j_entry = λ i c' a' e' s' n' li is. grind (arith, nat_tests, (copies h).j_entry i c' a' e' s' n' li, (calls h).c_target p g.coll g.slot in_n, (calls h).calls p in_n, sections sh st h p in_n);
  j_locked = λ i c' a' e' s' n' li is lk. grind (arith, nat_tests, (copies h).j_locked i c' a' e' s' n' li, (calls h).c_target p g.coll g.slot in_n, (calls h).calls p in_n, sections sh st h p in_n);
  j_left = λ i c' a' e' s' n' li is. grind (arith, nat_tests, (copies h).j_left i c' a' e' s' n' li, (calls h).c_target p g.coll g.slot in_n, (calls h).calls p in_n, sections sh st h p in_n);
  j_for = λ i c' a' e' s' n' li is. grind (arith, nat_tests, (copies h).j_for i c' a' e' s' n' li, (calls h).c_target p g.coll g.slot in_n, (calls h).calls p in_n, sections sh st h p in_n);
  j_back = λ i c' a' e' s' n' li is inc. grind (arith, nat_tests, (copies h).j_back i c' a' e' s' n' li, (calls h).c_target p g.coll g.slot in_n, (calls h).calls p in_n, sections sh st h p in_n);
}

-- kind LoadEntry
pub finish_entry : (sh : Layout) (st : S.State) (p : ℕ) (x : ℕ) (calm : Bool) (g : Targets) (a : ℕ) (e : ℕ) (told : ℕ) → p < sh.passes → (st.stands p).section ≡ Inside x calm → (st.stands p).phase ≡ phase.Finish (finish.Entry g (object a e g.coll)) → Shut sh st → Nothing sh st
    → CopiesAgree sh (did sh st p Go (Inside x calm) (phase.Finish (finish.Entry g (object a e g.coll))) told (Load (place.Entry g.coll e)))
finish_entry sh st p x calm g a e told in_n at_sec at_call h _ = record {
  j_named = λ i c' a' e' s' n' li is. grind (arith, nat_tests, (copies h).j_named i c' a' e' s' n' li, (calls h).c_named p g.coll g.slot a e in_n, (calls h).c_target p g.coll g.slot in_n, (calls h).calls p in_n, sections sh st h p in_n);
  j_led = λ i c' a' e' s' n' li is. grind (arith, nat_tests, (copies h).j_led i c' a' e' s' n' li, (calls h).c_named p g.coll g.slot a e in_n, (calls h).c_target p g.coll g.slot in_n, (calls h).calls p in_n, sections sh st h p in_n);
  j_entry = λ i c' a' e' s' n' li is. grind (arith, nat_tests, (copies h).j_entry i c' a' e' s' n' li, (calls h).c_named p g.coll g.slot a e in_n, (calls h).c_target p g.coll g.slot in_n, (calls h).calls p in_n, sections sh st h p in_n);
  j_locked = λ i c' a' e' s' n' li is lk. grind (arith, nat_tests, (copies h).j_locked i c' a' e' s' n' li, (calls h).c_named p g.coll g.slot a e in_n, (calls h).c_target p g.coll g.slot in_n, (calls h).calls p in_n, sections sh st h p in_n);
  j_left = λ i c' a' e' s' n' li is. grind (arith, nat_tests, (copies h).j_left i c' a' e' s' n' li, (calls h).c_named p g.coll g.slot a e in_n, (calls h).c_target p g.coll g.slot in_n, (calls h).calls p in_n, sections sh st h p in_n);
  j_for = λ i c' a' e' s' n' li is. grind (arith, nat_tests, (copies h).j_for i c' a' e' s' n' li, (calls h).c_named p g.coll g.slot a e in_n, (calls h).c_target p g.coll g.slot in_n, (calls h).calls p in_n, sections sh st h p in_n);
  j_back = λ i c' a' e' s' n' li is inc. grind (arith, nat_tests, (copies h).j_back i c' a' e' s' n' li, (calls h).c_named p g.coll g.slot a e in_n, (calls h).c_target p g.coll g.slot in_n, (calls h).calls p in_n, sections sh st h p in_n);
}

-- kind Lock
pub lock : (sh : Layout) (st : S.State) (p : ℕ) (x : ℕ) (calm : Bool) (g : Targets) (a : ℕ) (e : ℕ) (q : ℕ) (told : ℕ) → p < sh.passes → (st.stands p).section ≡ Inside x calm → (st.stands p).phase ≡ phase.Finish (finish.Lock g (object a e g.coll) q) → Shut sh st → Nothing sh st
    → CopiesAgree sh (did sh st p Go (Inside x calm) (phase.Finish (finish.Lock g (object a e g.coll) q)) told (Exchange (place.Entry g.coll e) (word.Entry (state.Frozen a q)) (word.Entry (state.Locked a q))))
lock sh st p x calm g a e q told in_n at_sec at_call h _ = record {
  j_named = λ i c' a' e' s' n' li is. grind (arith, nat_tests, (copies h).j_named i c' a' e' s' n' li, (calls h).c_named p g.coll g.slot a e in_n, (calls h).c_target p g.coll g.slot in_n, (calls h).c_tries p g.coll q a e in_n, (calls h).calls p in_n, sections sh st h p in_n, late_copy sh st h p x g.coll a e q i in_n li, (objects h).standing g.coll a e q, (moves h).frozen g.coll a e q, (objects h).placed g.coll a e q, (moves h).standing_in p g.coll a e q in_n, sections sh st h i li, (calls h).calls i li);
  j_led = λ i c' a' e' s' n' li is. grind (arith, nat_tests, (copies h).j_led i c' a' e' s' n' li, (calls h).c_named p g.coll g.slot a e in_n, (calls h).c_target p g.coll g.slot in_n, (calls h).c_tries p g.coll q a e in_n, (calls h).calls p in_n, sections sh st h p in_n, late_copy sh st h p x g.coll a e q i in_n li, (objects h).standing g.coll a e q, (moves h).frozen g.coll a e q, (objects h).placed g.coll a e q, (moves h).standing_in p g.coll a e q in_n, sections sh st h i li, (calls h).calls i li);
  j_entry = λ i c' a' e' s' n' li is. grind (arith, nat_tests, (copies h).j_entry i c' a' e' s' n' li, (calls h).c_named p g.coll g.slot a e in_n, (calls h).c_target p g.coll g.slot in_n, (calls h).c_tries p g.coll q a e in_n, (calls h).calls p in_n, sections sh st h p in_n, late_copy sh st h p x g.coll a e q i in_n li, (objects h).standing g.coll a e q, (moves h).frozen g.coll a e q, (objects h).placed g.coll a e q, (moves h).standing_in p g.coll a e q in_n, sections sh st h i li, (calls h).calls i li);
  j_locked = λ i c' a' e' s' n' li is lk. grind (arith, nat_tests, (copies h).j_locked i c' a' e' s' n' li, (calls h).c_named p g.coll g.slot a e in_n, (calls h).c_target p g.coll g.slot in_n, (calls h).c_tries p g.coll q a e in_n, (calls h).calls p in_n, sections sh st h p in_n, late_copy sh st h p x g.coll a e q i in_n li, (objects h).standing g.coll a e q, (moves h).frozen g.coll a e q, (objects h).placed g.coll a e q, (moves h).standing_in p g.coll a e q in_n, sections sh st h i li, (calls h).calls i li);
  j_left = λ i c' a' e' s' n' li is. grind (arith, nat_tests, (copies h).j_left i c' a' e' s' n' li, (calls h).c_named p g.coll g.slot a e in_n, (calls h).c_target p g.coll g.slot in_n, (calls h).c_tries p g.coll q a e in_n, (calls h).calls p in_n, sections sh st h p in_n, late_copy sh st h p x g.coll a e q i in_n li, (objects h).standing g.coll a e q, (moves h).frozen g.coll a e q, (objects h).placed g.coll a e q, (moves h).standing_in p g.coll a e q in_n, sections sh st h i li, (calls h).calls i li);
  j_for = λ i c' a' e' s' n' li is. grind (arith, nat_tests, (copies h).j_for i c' a' e' s' n' li, (calls h).c_named p g.coll g.slot a e in_n, (calls h).c_target p g.coll g.slot in_n, (calls h).c_tries p g.coll q a e in_n, (calls h).calls p in_n, sections sh st h p in_n, late_copy sh st h p x g.coll a e q i in_n li, (objects h).standing g.coll a e q, (moves h).frozen g.coll a e q, (objects h).placed g.coll a e q, (moves h).standing_in p g.coll a e q in_n, sections sh st h i li, (calls h).calls i li);
  j_back = λ i c' a' e' s' n' li is inc. grind (arith, nat_tests, (copies h).j_back i c' a' e' s' n' li, (calls h).c_named p g.coll g.slot a e in_n, (calls h).c_target p g.coll g.slot in_n, (calls h).c_tries p g.coll q a e in_n, (calls h).calls p in_n, sections sh st h p in_n, late_copy sh st h p x g.coll a e q i in_n li, (objects h).standing g.coll a e q, (moves h).frozen g.coll a e q, (objects h).placed g.coll a e q, (moves h).standing_in p g.coll a e q in_n, sections sh st h i li, (calls h).calls i li);
}

-- kind LoadForward
pub f_fwd : (sh : Layout) (st : S.State) (p : ℕ) (x : ℕ) (calm : Bool) (g : Targets) (a : ℕ) (e : ℕ) (q : ℕ) (told : ℕ) → p < sh.passes → (st.stands p).section ≡ Inside x calm → (st.stands p).phase ≡ phase.Finish (finish.Move g (object a e g.coll) q copy.Target) → Shut sh st → Nothing sh st
    → CopiesAgree sh (did sh st p Go (Inside x calm) (phase.Finish (finish.Move g (object a e g.coll) q copy.Target)) told (Load (place.Forward g.coll q)))
f_fwd sh st p x calm g a e q told in_n at_sec at_call h _ = record {
  j_named = λ i c' a' e' s' n' li is. grind (arith, nat_tests, (copies h).j_named i c' a' e' s' n' li, (calls h).c_leads p g.coll q g.slot in_n, (calls h).c_leaves p g.coll q in_n, (calls h).c_apart p g.coll q a e in_n, (copies h).j_named p g.coll a e q copy.Target in_n, (copies h).j_led p g.coll a e q copy.Target in_n, (copies h).j_entry p g.coll a e q copy.Target in_n, (copies h).j_locked p g.coll a e q copy.Target in_n, (copies h).j_left p g.coll a e q copy.Target in_n, (copies h).j_for p g.coll a e q copy.Target in_n, (copies h).j_back p g.coll a e q copy.Target in_n, (calls h).calls p in_n, sections sh st h p in_n);
  j_led = λ i c' a' e' s' n' li is. grind (arith, nat_tests, (copies h).j_led i c' a' e' s' n' li, (calls h).c_leads p g.coll q g.slot in_n, (calls h).c_leaves p g.coll q in_n, (calls h).c_apart p g.coll q a e in_n, (copies h).j_named p g.coll a e q copy.Target in_n, (copies h).j_led p g.coll a e q copy.Target in_n, (copies h).j_entry p g.coll a e q copy.Target in_n, (copies h).j_locked p g.coll a e q copy.Target in_n, (copies h).j_left p g.coll a e q copy.Target in_n, (copies h).j_for p g.coll a e q copy.Target in_n, (copies h).j_back p g.coll a e q copy.Target in_n, (calls h).calls p in_n, sections sh st h p in_n);
  j_entry = λ i c' a' e' s' n' li is. grind (arith, nat_tests, (copies h).j_entry i c' a' e' s' n' li, (calls h).c_leads p g.coll q g.slot in_n, (calls h).c_leaves p g.coll q in_n, (calls h).c_apart p g.coll q a e in_n, (copies h).j_named p g.coll a e q copy.Target in_n, (copies h).j_led p g.coll a e q copy.Target in_n, (copies h).j_entry p g.coll a e q copy.Target in_n, (copies h).j_locked p g.coll a e q copy.Target in_n, (copies h).j_left p g.coll a e q copy.Target in_n, (copies h).j_for p g.coll a e q copy.Target in_n, (copies h).j_back p g.coll a e q copy.Target in_n, (calls h).calls p in_n, sections sh st h p in_n);
  j_locked = λ i c' a' e' s' n' li is lk. grind (arith, nat_tests, (copies h).j_locked i c' a' e' s' n' li, (calls h).c_leads p g.coll q g.slot in_n, (calls h).c_leaves p g.coll q in_n, (calls h).c_apart p g.coll q a e in_n, (copies h).j_named p g.coll a e q copy.Target in_n, (copies h).j_led p g.coll a e q copy.Target in_n, (copies h).j_entry p g.coll a e q copy.Target in_n, (copies h).j_locked p g.coll a e q copy.Target in_n, (copies h).j_left p g.coll a e q copy.Target in_n, (copies h).j_for p g.coll a e q copy.Target in_n, (copies h).j_back p g.coll a e q copy.Target in_n, (calls h).calls p in_n, sections sh st h p in_n);
  j_left = λ i c' a' e' s' n' li is. grind (arith, nat_tests, (copies h).j_left i c' a' e' s' n' li, (calls h).c_leads p g.coll q g.slot in_n, (calls h).c_leaves p g.coll q in_n, (calls h).c_apart p g.coll q a e in_n, (copies h).j_named p g.coll a e q copy.Target in_n, (copies h).j_led p g.coll a e q copy.Target in_n, (copies h).j_entry p g.coll a e q copy.Target in_n, (copies h).j_locked p g.coll a e q copy.Target in_n, (copies h).j_left p g.coll a e q copy.Target in_n, (copies h).j_for p g.coll a e q copy.Target in_n, (copies h).j_back p g.coll a e q copy.Target in_n, (calls h).calls p in_n, sections sh st h p in_n);
  j_for = λ i c' a' e' s' n' li is. grind (arith, nat_tests, (copies h).j_for i c' a' e' s' n' li, (calls h).c_leads p g.coll q g.slot in_n, (calls h).c_leaves p g.coll q in_n, (calls h).c_apart p g.coll q a e in_n, (copies h).j_named p g.coll a e q copy.Target in_n, (copies h).j_led p g.coll a e q copy.Target in_n, (copies h).j_entry p g.coll a e q copy.Target in_n, (copies h).j_locked p g.coll a e q copy.Target in_n, (copies h).j_left p g.coll a e q copy.Target in_n, (copies h).j_for p g.coll a e q copy.Target in_n, (copies h).j_back p g.coll a e q copy.Target in_n, (calls h).calls p in_n, sections sh st h p in_n);
  j_back = λ i c' a' e' s' n' li is inc. grind (arith, nat_tests, (copies h).j_back i c' a' e' s' n' li, (calls h).c_leads p g.coll q g.slot in_n, (calls h).c_leaves p g.coll q in_n, (calls h).c_apart p g.coll q a e in_n, (copies h).j_named p g.coll a e q copy.Target in_n, (copies h).j_led p g.coll a e q copy.Target in_n, (copies h).j_entry p g.coll a e q copy.Target in_n, (copies h).j_locked p g.coll a e q copy.Target in_n, (copies h).j_left p g.coll a e q copy.Target in_n, (copies h).j_for p g.coll a e q copy.Target in_n, (copies h).j_back p g.coll a e q copy.Target in_n, (calls h).calls p in_n, sections sh st h p in_n);
}

-- kind LoadField
pub f_read : (sh : Layout) (st : S.State) (p : ℕ) (x : ℕ) (calm : Bool) (g : Targets) (a : ℕ) (e : ℕ) (q : ℕ) (t : ℕ) (f : ℕ) (told : ℕ) → p < sh.passes → (st.stands p).section ≡ Inside x calm → (st.stands p).phase ≡ phase.Finish (finish.Move g (object a e g.coll) q (copy.Load t f)) → Shut sh st → Nothing sh st
    → CopiesAgree sh (did sh st p Go (Inside x calm) (phase.Finish (finish.Move g (object a e g.coll) q (copy.Load t f))) told (Load (place.Field g.coll q f)))
f_read sh st p x calm g a e q t f told in_n at_sec at_call h _ = record {
  j_named = λ i c' a' e' s' n' li is. grind (arith, nat_tests, (copies h).j_named i c' a' e' s' n' li, (calls h).c_leads p g.coll q g.slot in_n, (calls h).c_leaves p g.coll q in_n, (calls h).c_apart p g.coll q a e in_n, (copies h).j_named p g.coll a e q (copy.Load t f) in_n, (copies h).j_led p g.coll a e q (copy.Load t f) in_n, (copies h).j_entry p g.coll a e q (copy.Load t f) in_n, (copies h).j_locked p g.coll a e q (copy.Load t f) in_n, (copies h).j_left p g.coll a e q (copy.Load t f) in_n, (copies h).j_for p g.coll a e q (copy.Load t f) in_n, (copies h).j_back p g.coll a e q (copy.Load t f) in_n, (calls h).calls p in_n, sections sh st h p in_n);
  j_led = λ i c' a' e' s' n' li is. grind (arith, nat_tests, (copies h).j_led i c' a' e' s' n' li, (calls h).c_leads p g.coll q g.slot in_n, (calls h).c_leaves p g.coll q in_n, (calls h).c_apart p g.coll q a e in_n, (copies h).j_named p g.coll a e q (copy.Load t f) in_n, (copies h).j_led p g.coll a e q (copy.Load t f) in_n, (copies h).j_entry p g.coll a e q (copy.Load t f) in_n, (copies h).j_locked p g.coll a e q (copy.Load t f) in_n, (copies h).j_left p g.coll a e q (copy.Load t f) in_n, (copies h).j_for p g.coll a e q (copy.Load t f) in_n, (copies h).j_back p g.coll a e q (copy.Load t f) in_n, (calls h).calls p in_n, sections sh st h p in_n);
  j_entry = λ i c' a' e' s' n' li is. grind (arith, nat_tests, (copies h).j_entry i c' a' e' s' n' li, (calls h).c_leads p g.coll q g.slot in_n, (calls h).c_leaves p g.coll q in_n, (calls h).c_apart p g.coll q a e in_n, (copies h).j_named p g.coll a e q (copy.Load t f) in_n, (copies h).j_led p g.coll a e q (copy.Load t f) in_n, (copies h).j_entry p g.coll a e q (copy.Load t f) in_n, (copies h).j_locked p g.coll a e q (copy.Load t f) in_n, (copies h).j_left p g.coll a e q (copy.Load t f) in_n, (copies h).j_for p g.coll a e q (copy.Load t f) in_n, (copies h).j_back p g.coll a e q (copy.Load t f) in_n, (calls h).calls p in_n, sections sh st h p in_n);
  j_locked = λ i c' a' e' s' n' li is lk. grind (arith, nat_tests, (copies h).j_locked i c' a' e' s' n' li, (calls h).c_leads p g.coll q g.slot in_n, (calls h).c_leaves p g.coll q in_n, (calls h).c_apart p g.coll q a e in_n, (copies h).j_named p g.coll a e q (copy.Load t f) in_n, (copies h).j_led p g.coll a e q (copy.Load t f) in_n, (copies h).j_entry p g.coll a e q (copy.Load t f) in_n, (copies h).j_locked p g.coll a e q (copy.Load t f) in_n, (copies h).j_left p g.coll a e q (copy.Load t f) in_n, (copies h).j_for p g.coll a e q (copy.Load t f) in_n, (copies h).j_back p g.coll a e q (copy.Load t f) in_n, (calls h).calls p in_n, sections sh st h p in_n);
  j_left = λ i c' a' e' s' n' li is. grind (arith, nat_tests, (copies h).j_left i c' a' e' s' n' li, (calls h).c_leads p g.coll q g.slot in_n, (calls h).c_leaves p g.coll q in_n, (calls h).c_apart p g.coll q a e in_n, (copies h).j_named p g.coll a e q (copy.Load t f) in_n, (copies h).j_led p g.coll a e q (copy.Load t f) in_n, (copies h).j_entry p g.coll a e q (copy.Load t f) in_n, (copies h).j_locked p g.coll a e q (copy.Load t f) in_n, (copies h).j_left p g.coll a e q (copy.Load t f) in_n, (copies h).j_for p g.coll a e q (copy.Load t f) in_n, (copies h).j_back p g.coll a e q (copy.Load t f) in_n, (calls h).calls p in_n, sections sh st h p in_n);
  j_for = λ i c' a' e' s' n' li is. grind (arith, nat_tests, (copies h).j_for i c' a' e' s' n' li, (calls h).c_leads p g.coll q g.slot in_n, (calls h).c_leaves p g.coll q in_n, (calls h).c_apart p g.coll q a e in_n, (copies h).j_named p g.coll a e q (copy.Load t f) in_n, (copies h).j_led p g.coll a e q (copy.Load t f) in_n, (copies h).j_entry p g.coll a e q (copy.Load t f) in_n, (copies h).j_locked p g.coll a e q (copy.Load t f) in_n, (copies h).j_left p g.coll a e q (copy.Load t f) in_n, (copies h).j_for p g.coll a e q (copy.Load t f) in_n, (copies h).j_back p g.coll a e q (copy.Load t f) in_n, (calls h).calls p in_n, sections sh st h p in_n);
  j_back = λ i c' a' e' s' n' li is inc. grind (arith, nat_tests, (copies h).j_back i c' a' e' s' n' li, (calls h).c_leads p g.coll q g.slot in_n, (calls h).c_leaves p g.coll q in_n, (calls h).c_apart p g.coll q a e in_n, (copies h).j_named p g.coll a e q (copy.Load t f) in_n, (copies h).j_led p g.coll a e q (copy.Load t f) in_n, (copies h).j_entry p g.coll a e q (copy.Load t f) in_n, (copies h).j_locked p g.coll a e q (copy.Load t f) in_n, (copies h).j_left p g.coll a e q (copy.Load t f) in_n, (copies h).j_for p g.coll a e q (copy.Load t f) in_n, (copies h).j_back p g.coll a e q (copy.Load t f) in_n, (calls h).calls p in_n, sections sh st h p in_n);
}

-- kind CopyField
pub f_put : (sh : Layout) (st : S.State) (p : ℕ) (x : ℕ) (calm : Bool) (g : Targets) (a : ℕ) (e : ℕ) (q : ℕ) (t : ℕ) (f : ℕ) (w : ℕ) (told : ℕ) → p < sh.passes → (st.stands p).section ≡ Inside x calm → (st.stands p).phase ≡ phase.Finish (finish.Move g (object a e g.coll) q (copy.Put t f w)) → Shut sh st → Nothing sh st
    → CopiesAgree sh (did sh st p Go (Inside x calm) (phase.Finish (finish.Move g (object a e g.coll) q (copy.Put t f w))) told (Exchange (place.Field g.coll t f) (word.Plain BLANK) (word.Plain w)))
f_put sh st p x calm g a e q t f w told in_n at_sec at_call h _ = record {
  j_named = λ i c' a' e' s' n' li is. grind (arith, nat_tests, (copies h).j_named i c' a' e' s' n' li, (calls h).c_leads p g.coll q g.slot in_n, (calls h).c_leaves p g.coll q in_n, (calls h).c_apart p g.coll q a e in_n, (copies h).j_named p g.coll a e q (copy.Put t f w) in_n, (copies h).j_led p g.coll a e q (copy.Put t f w) in_n, (copies h).j_entry p g.coll a e q (copy.Put t f w) in_n, (copies h).j_locked p g.coll a e q (copy.Put t f w) in_n, (copies h).j_left p g.coll a e q (copy.Put t f w) in_n, (copies h).j_for p g.coll a e q (copy.Put t f w) in_n, (copies h).j_back p g.coll a e q (copy.Put t f w) in_n, (calls h).calls p in_n, sections sh st h p in_n);
  j_led = λ i c' a' e' s' n' li is. grind (arith, nat_tests, (copies h).j_led i c' a' e' s' n' li, (calls h).c_leads p g.coll q g.slot in_n, (calls h).c_leaves p g.coll q in_n, (calls h).c_apart p g.coll q a e in_n, (copies h).j_named p g.coll a e q (copy.Put t f w) in_n, (copies h).j_led p g.coll a e q (copy.Put t f w) in_n, (copies h).j_entry p g.coll a e q (copy.Put t f w) in_n, (copies h).j_locked p g.coll a e q (copy.Put t f w) in_n, (copies h).j_left p g.coll a e q (copy.Put t f w) in_n, (copies h).j_for p g.coll a e q (copy.Put t f w) in_n, (copies h).j_back p g.coll a e q (copy.Put t f w) in_n, (calls h).calls p in_n, sections sh st h p in_n);
  j_entry = λ i c' a' e' s' n' li is. grind (arith, nat_tests, (copies h).j_entry i c' a' e' s' n' li, (calls h).c_leads p g.coll q g.slot in_n, (calls h).c_leaves p g.coll q in_n, (calls h).c_apart p g.coll q a e in_n, (copies h).j_named p g.coll a e q (copy.Put t f w) in_n, (copies h).j_led p g.coll a e q (copy.Put t f w) in_n, (copies h).j_entry p g.coll a e q (copy.Put t f w) in_n, (copies h).j_locked p g.coll a e q (copy.Put t f w) in_n, (copies h).j_left p g.coll a e q (copy.Put t f w) in_n, (copies h).j_for p g.coll a e q (copy.Put t f w) in_n, (copies h).j_back p g.coll a e q (copy.Put t f w) in_n, (calls h).calls p in_n, sections sh st h p in_n);
  j_locked = λ i c' a' e' s' n' li is lk. grind (arith, nat_tests, (copies h).j_locked i c' a' e' s' n' li, (calls h).c_leads p g.coll q g.slot in_n, (calls h).c_leaves p g.coll q in_n, (calls h).c_apart p g.coll q a e in_n, (copies h).j_named p g.coll a e q (copy.Put t f w) in_n, (copies h).j_led p g.coll a e q (copy.Put t f w) in_n, (copies h).j_entry p g.coll a e q (copy.Put t f w) in_n, (copies h).j_locked p g.coll a e q (copy.Put t f w) in_n, (copies h).j_left p g.coll a e q (copy.Put t f w) in_n, (copies h).j_for p g.coll a e q (copy.Put t f w) in_n, (copies h).j_back p g.coll a e q (copy.Put t f w) in_n, (calls h).calls p in_n, sections sh st h p in_n);
  j_left = λ i c' a' e' s' n' li is. grind (arith, nat_tests, (copies h).j_left i c' a' e' s' n' li, (calls h).c_leads p g.coll q g.slot in_n, (calls h).c_leaves p g.coll q in_n, (calls h).c_apart p g.coll q a e in_n, (copies h).j_named p g.coll a e q (copy.Put t f w) in_n, (copies h).j_led p g.coll a e q (copy.Put t f w) in_n, (copies h).j_entry p g.coll a e q (copy.Put t f w) in_n, (copies h).j_locked p g.coll a e q (copy.Put t f w) in_n, (copies h).j_left p g.coll a e q (copy.Put t f w) in_n, (copies h).j_for p g.coll a e q (copy.Put t f w) in_n, (copies h).j_back p g.coll a e q (copy.Put t f w) in_n, (calls h).calls p in_n, sections sh st h p in_n);
  j_for = λ i c' a' e' s' n' li is. grind (arith, nat_tests, (copies h).j_for i c' a' e' s' n' li, (calls h).c_leads p g.coll q g.slot in_n, (calls h).c_leaves p g.coll q in_n, (calls h).c_apart p g.coll q a e in_n, (copies h).j_named p g.coll a e q (copy.Put t f w) in_n, (copies h).j_led p g.coll a e q (copy.Put t f w) in_n, (copies h).j_entry p g.coll a e q (copy.Put t f w) in_n, (copies h).j_locked p g.coll a e q (copy.Put t f w) in_n, (copies h).j_left p g.coll a e q (copy.Put t f w) in_n, (copies h).j_for p g.coll a e q (copy.Put t f w) in_n, (copies h).j_back p g.coll a e q (copy.Put t f w) in_n, (calls h).calls p in_n, sections sh st h p in_n);
  j_back = λ i c' a' e' s' n' li is inc. grind (arith, nat_tests, (copies h).j_back i c' a' e' s' n' li, (calls h).c_leads p g.coll q g.slot in_n, (calls h).c_leaves p g.coll q in_n, (calls h).c_apart p g.coll q a e in_n, (copies h).j_named p g.coll a e q (copy.Put t f w) in_n, (copies h).j_led p g.coll a e q (copy.Put t f w) in_n, (copies h).j_entry p g.coll a e q (copy.Put t f w) in_n, (copies h).j_locked p g.coll a e q (copy.Put t f w) in_n, (copies h).j_left p g.coll a e q (copy.Put t f w) in_n, (copies h).j_for p g.coll a e q (copy.Put t f w) in_n, (copies h).j_back p g.coll a e q (copy.Put t f w) in_n, (calls h).calls p in_n, sections sh st h p in_n);
}

-- kind Swing
pub f_swing : (sh : Layout) (st : S.State) (p : ℕ) (x : ℕ) (calm : Bool) (g : Targets) (a : ℕ) (e : ℕ) (q : ℕ) (t : ℕ) (told : ℕ) → p < sh.passes → (st.stands p).section ≡ Inside x calm → (st.stands p).phase ≡ phase.Finish (finish.Move g (object a e g.coll) q (copy.Swing t)) → Shut sh st → Nothing sh st
    → CopiesAgree sh (did sh st p Go (Inside x calm) (phase.Finish (finish.Move g (object a e g.coll) q (copy.Swing t))) told (Exchange (place.Entry g.coll e) (word.Entry (state.Locked a q)) (word.Entry (state.Present a t))))
f_swing sh st p x calm g a e q t told in_n at_sec at_call h _ = record {
  j_named = λ i c' a' e' s' n' li is. grind (arith, nat_tests, (copies h).j_named i c' a' e' s' n' li, (calls h).c_leads p g.coll q g.slot in_n, (calls h).c_leaves p g.coll q in_n, (calls h).c_apart p g.coll q a e in_n, (copies h).j_named p g.coll a e q (copy.Swing t) in_n, (copies h).j_led p g.coll a e q (copy.Swing t) in_n, (copies h).j_entry p g.coll a e q (copy.Swing t) in_n, (copies h).j_locked p g.coll a e q (copy.Swing t) in_n, (copies h).j_left p g.coll a e q (copy.Swing t) in_n, (copies h).j_for p g.coll a e q (copy.Swing t) in_n, (copies h).j_back p g.coll a e q (copy.Swing t) in_n, (calls h).calls p in_n, sections sh st h p in_n);
  j_led = λ i c' a' e' s' n' li is. grind (arith, nat_tests, (copies h).j_led i c' a' e' s' n' li, (calls h).c_leads p g.coll q g.slot in_n, (calls h).c_leaves p g.coll q in_n, (calls h).c_apart p g.coll q a e in_n, (copies h).j_named p g.coll a e q (copy.Swing t) in_n, (copies h).j_led p g.coll a e q (copy.Swing t) in_n, (copies h).j_entry p g.coll a e q (copy.Swing t) in_n, (copies h).j_locked p g.coll a e q (copy.Swing t) in_n, (copies h).j_left p g.coll a e q (copy.Swing t) in_n, (copies h).j_for p g.coll a e q (copy.Swing t) in_n, (copies h).j_back p g.coll a e q (copy.Swing t) in_n, (calls h).calls p in_n, sections sh st h p in_n);
  j_entry = λ i c' a' e' s' n' li is. grind (arith, nat_tests, (copies h).j_entry i c' a' e' s' n' li, (calls h).c_leads p g.coll q g.slot in_n, (calls h).c_leaves p g.coll q in_n, (calls h).c_apart p g.coll q a e in_n, (copies h).j_named p g.coll a e q (copy.Swing t) in_n, (copies h).j_led p g.coll a e q (copy.Swing t) in_n, (copies h).j_entry p g.coll a e q (copy.Swing t) in_n, (copies h).j_locked p g.coll a e q (copy.Swing t) in_n, (copies h).j_left p g.coll a e q (copy.Swing t) in_n, (copies h).j_for p g.coll a e q (copy.Swing t) in_n, (copies h).j_back p g.coll a e q (copy.Swing t) in_n, (calls h).calls p in_n, sections sh st h p in_n);
  j_locked = λ i c' a' e' s' n' li is lk. grind (arith, nat_tests, (copies h).j_locked i c' a' e' s' n' li, (calls h).c_leads p g.coll q g.slot in_n, (calls h).c_leaves p g.coll q in_n, (calls h).c_apart p g.coll q a e in_n, (copies h).j_named p g.coll a e q (copy.Swing t) in_n, (copies h).j_led p g.coll a e q (copy.Swing t) in_n, (copies h).j_entry p g.coll a e q (copy.Swing t) in_n, (copies h).j_locked p g.coll a e q (copy.Swing t) in_n, (copies h).j_left p g.coll a e q (copy.Swing t) in_n, (copies h).j_for p g.coll a e q (copy.Swing t) in_n, (copies h).j_back p g.coll a e q (copy.Swing t) in_n, (calls h).calls p in_n, sections sh st h p in_n);
  j_left = λ i c' a' e' s' n' li is. grind (arith, nat_tests, (copies h).j_left i c' a' e' s' n' li, (calls h).c_leads p g.coll q g.slot in_n, (calls h).c_leaves p g.coll q in_n, (calls h).c_apart p g.coll q a e in_n, (copies h).j_named p g.coll a e q (copy.Swing t) in_n, (copies h).j_led p g.coll a e q (copy.Swing t) in_n, (copies h).j_entry p g.coll a e q (copy.Swing t) in_n, (copies h).j_locked p g.coll a e q (copy.Swing t) in_n, (copies h).j_left p g.coll a e q (copy.Swing t) in_n, (copies h).j_for p g.coll a e q (copy.Swing t) in_n, (copies h).j_back p g.coll a e q (copy.Swing t) in_n, (calls h).calls p in_n, sections sh st h p in_n);
  j_for = λ i c' a' e' s' n' li is. grind (arith, nat_tests, (copies h).j_for i c' a' e' s' n' li, (calls h).c_leads p g.coll q g.slot in_n, (calls h).c_leaves p g.coll q in_n, (calls h).c_apart p g.coll q a e in_n, (copies h).j_named p g.coll a e q (copy.Swing t) in_n, (copies h).j_led p g.coll a e q (copy.Swing t) in_n, (copies h).j_entry p g.coll a e q (copy.Swing t) in_n, (copies h).j_locked p g.coll a e q (copy.Swing t) in_n, (copies h).j_left p g.coll a e q (copy.Swing t) in_n, (copies h).j_for p g.coll a e q (copy.Swing t) in_n, (copies h).j_back p g.coll a e q (copy.Swing t) in_n, (calls h).calls p in_n, sections sh st h p in_n);
  j_back = λ i c' a' e' s' n' li is inc. grind (arith, nat_tests, (copies h).j_back i c' a' e' s' n' li, (calls h).c_leads p g.coll q g.slot in_n, (calls h).c_leaves p g.coll q in_n, (calls h).c_apart p g.coll q a e in_n, (copies h).j_named p g.coll a e q (copy.Swing t) in_n, (copies h).j_led p g.coll a e q (copy.Swing t) in_n, (copies h).j_entry p g.coll a e q (copy.Swing t) in_n, (copies h).j_locked p g.coll a e q (copy.Swing t) in_n, (copies h).j_left p g.coll a e q (copy.Swing t) in_n, (copies h).j_for p g.coll a e q (copy.Swing t) in_n, (copies h).j_back p g.coll a e q (copy.Swing t) in_n, (calls h).calls p in_n, sections sh st h p in_n);
}

-- kind Settle
pub settle : (sh : Layout) (st : S.State) (p : ℕ) (x : ℕ) (calm : Bool) (g : Targets) (q : ℕ) (told : ℕ) → p < sh.passes → (st.stands p).section ≡ Inside x calm → (st.stands p).phase ≡ phase.Finish (finish.Settle g q) → Shut sh st → Nothing sh st
    → CopiesAgree sh (did sh st p Go (Inside x calm) (phase.Finish (finish.Settle g q)) told (Exchange (place.Directory g.coll g.slot) (word.Directory dir.Incoming) (word.Directory dir.Valid)))
settle sh st p x calm g q told in_n at_sec at_call h _ = record {
  j_named = λ i c' a' e' s' n' li is. grind (arith, nat_tests, (copies h).j_named i c' a' e' s' n' li, (calls h).c_leaves p g.coll q in_n, (calls h).c_ends p g.coll q g.slot in_n, (calls h).c_apart p g.coll q a' e' in_n, (calls h).c_moved p g.coll q a' e' in_n, (calls h).calls p in_n, sections sh st h p in_n);
  j_led = λ i c' a' e' s' n' li is. grind (arith, nat_tests, (copies h).j_led i c' a' e' s' n' li, (calls h).c_leaves p g.coll q in_n, (calls h).c_ends p g.coll q g.slot in_n, (calls h).c_apart p g.coll q a' e' in_n, (calls h).c_moved p g.coll q a' e' in_n, (calls h).calls p in_n, sections sh st h p in_n);
  j_entry = λ i c' a' e' s' n' li is. grind (arith, nat_tests, (copies h).j_entry i c' a' e' s' n' li, (calls h).c_leaves p g.coll q in_n, (calls h).c_ends p g.coll q g.slot in_n, (calls h).c_apart p g.coll q a' e' in_n, (calls h).c_moved p g.coll q a' e' in_n, (calls h).calls p in_n, sections sh st h p in_n);
  j_locked = λ i c' a' e' s' n' li is lk. grind (arith, nat_tests, (copies h).j_locked i c' a' e' s' n' li, (calls h).c_leaves p g.coll q in_n, (calls h).c_ends p g.coll q g.slot in_n, (calls h).c_apart p g.coll q a' e' in_n, (calls h).c_moved p g.coll q a' e' in_n, (calls h).calls p in_n, sections sh st h p in_n, (moves h).locked_owner p c' a' e' s' in_n);
  j_left = λ i c' a' e' s' n' li is. grind (arith, nat_tests, (copies h).j_left i c' a' e' s' n' li, (calls h).c_leaves p g.coll q in_n, (calls h).c_ends p g.coll q g.slot in_n, (calls h).c_apart p g.coll q a' e' in_n, (calls h).c_moved p g.coll q a' e' in_n, (calls h).calls p in_n, sections sh st h p in_n);
  j_for = λ i c' a' e' s' n' li is. grind (arith, nat_tests, (copies h).j_for i c' a' e' s' n' li, (calls h).c_leaves p g.coll q in_n, (calls h).c_ends p g.coll q g.slot in_n, (calls h).c_apart p g.coll q a' e' in_n, (calls h).c_moved p g.coll q a' e' in_n, (calls h).calls p in_n, sections sh st h p in_n);
  j_back = λ i c' a' e' s' n' li is inc. grind (arith, nat_tests, (copies h).j_back i c' a' e' s' n' li, (calls h).c_leaves p g.coll q in_n, (calls h).c_ends p g.coll q g.slot in_n, (calls h).c_apart p g.coll q a' e' in_n, (calls h).c_moved p g.coll q a' e' in_n, (calls h).calls p in_n, sections sh st h p in_n);
}

-- kind LeaveSlot
pub leave_source : (sh : Layout) (st : S.State) (p : ℕ) (x : ℕ) (calm : Bool) (g : Targets) (q : ℕ) (told : ℕ) → p < sh.passes → (st.stands p).section ≡ Inside x calm → (st.stands p).phase ≡ phase.Finish (finish.LeaveSource g q) → Shut sh st → Nothing sh st
    → CopiesAgree sh (did sh st p Go (Inside x calm) (phase.Finish (finish.LeaveSource g q)) told (Store (place.Directory g.coll q) (word.Directory (dir.Limbo (x + 1)))))
leave_source sh st p x calm g q told in_n at_sec at_call h _ = record {
  j_named = λ i c' a' e' s' n' li is. grind (arith, nat_tests, (copies h).j_named i c' a' e' s' n' li, (calls h).c_leaves p g.coll q in_n, (calls h).c_passed p g.coll g.slot in_n, (calls h).c_apart p g.coll q a' e' in_n, (calls h).c_moved p g.coll q a' e' in_n, (calls h).calls p in_n, sections sh st h p in_n);
  j_led = λ i c' a' e' s' n' li is. grind (arith, nat_tests, (copies h).j_led i c' a' e' s' n' li, (calls h).c_leaves p g.coll q in_n, (calls h).c_passed p g.coll g.slot in_n, (calls h).c_apart p g.coll q a' e' in_n, (calls h).c_moved p g.coll q a' e' in_n, (calls h).calls p in_n, sections sh st h p in_n);
  j_entry = λ i c' a' e' s' n' li is. grind (arith, nat_tests, (copies h).j_entry i c' a' e' s' n' li, (calls h).c_leaves p g.coll q in_n, (calls h).c_passed p g.coll g.slot in_n, (calls h).c_apart p g.coll q a' e' in_n, (calls h).c_moved p g.coll q a' e' in_n, (calls h).calls p in_n, sections sh st h p in_n);
  j_locked = λ i c' a' e' s' n' li is lk. grind (arith, nat_tests, (copies h).j_locked i c' a' e' s' n' li, (calls h).c_leaves p g.coll q in_n, (calls h).c_passed p g.coll g.slot in_n, (calls h).c_apart p g.coll q a' e' in_n, (calls h).c_moved p g.coll q a' e' in_n, (calls h).calls p in_n, sections sh st h p in_n, (moves h).locked_owner p c' a' e' s' in_n);
  j_left = λ i c' a' e' s' n' li is. grind (arith, nat_tests, (copies h).j_left i c' a' e' s' n' li, (calls h).c_leaves p g.coll q in_n, (calls h).c_passed p g.coll g.slot in_n, (calls h).c_apart p g.coll q a' e' in_n, (calls h).c_moved p g.coll q a' e' in_n, (calls h).calls p in_n, sections sh st h p in_n, sections sh st h i li, (calls h).calls i li);
  j_for = λ i c' a' e' s' n' li is. grind (arith, nat_tests, (copies h).j_for i c' a' e' s' n' li, (calls h).c_leaves p g.coll q in_n, (calls h).c_passed p g.coll g.slot in_n, (calls h).c_apart p g.coll q a' e' in_n, (calls h).c_moved p g.coll q a' e' in_n, (calls h).calls p in_n, sections sh st h p in_n, sections sh st h i li, (calls h).calls i li);
  j_back = λ i c' a' e' s' n' li is inc. grind (arith, nat_tests, (copies h).j_back i c' a' e' s' n' li, (calls h).c_leaves p g.coll q in_n, (calls h).c_passed p g.coll g.slot in_n, (calls h).c_apart p g.coll q a' e' in_n, (calls h).c_moved p g.coll q a' e' in_n, (calls h).calls p in_n, sections sh st h p in_n);
}

-- kind LeaveSlot
pub finish_gives : (sh : Layout) (st : S.State) (p : ℕ) (x : ℕ) (calm : Bool) (g : Targets) (gone : Bool) (told : ℕ) → p < sh.passes → (st.stands p).section ≡ Inside x calm → (st.stands p).phase ≡ phase.Finish (finish.GiveUp g gone) → Shut sh st → Nothing sh st
    → CopiesAgree sh (did sh st p Go (Inside x calm) (phase.Finish (finish.GiveUp g gone)) told (Store (place.Directory g.coll g.slot) (word.Directory (dir.Limbo (x + 1)))))
finish_gives sh st p x calm g gone told in_n at_sec at_call h _ = record {
  j_named = λ i c' a' e' s' n' li is. grind (arith, nat_tests, (copies h).j_named i c' a' e' s' n' li, (calls h).c_target p g.coll g.slot in_n, (calls h).c_loose p g.coll g.slot a' e' in_n, (calls h).calls p in_n, sections sh st h p in_n);
  j_led = λ i c' a' e' s' n' li is. grind (arith, nat_tests, (copies h).j_led i c' a' e' s' n' li, (calls h).c_target p g.coll g.slot in_n, (calls h).c_loose p g.coll g.slot a' e' in_n, (calls h).calls p in_n, sections sh st h p in_n);
  j_entry = λ i c' a' e' s' n' li is. grind (arith, nat_tests, (copies h).j_entry i c' a' e' s' n' li, (calls h).c_target p g.coll g.slot in_n, (calls h).c_loose p g.coll g.slot a' e' in_n, (calls h).calls p in_n, sections sh st h p in_n);
  j_locked = λ i c' a' e' s' n' li is lk. grind (arith, nat_tests, (copies h).j_locked i c' a' e' s' n' li, (calls h).c_target p g.coll g.slot in_n, (calls h).c_loose p g.coll g.slot a' e' in_n, (calls h).calls p in_n, sections sh st h p in_n, (moves h).locked_owner p c' a' e' s' in_n);
  j_left = λ i c' a' e' s' n' li is. grind (arith, nat_tests, (copies h).j_left i c' a' e' s' n' li, (calls h).c_target p g.coll g.slot in_n, (calls h).c_loose p g.coll g.slot a' e' in_n, (calls h).calls p in_n, sections sh st h p in_n, sections sh st h i li, (calls h).calls i li);
  j_for = λ i c' a' e' s' n' li is. grind (arith, nat_tests, (copies h).j_for i c' a' e' s' n' li, (calls h).c_target p g.coll g.slot in_n, (calls h).c_loose p g.coll g.slot a' e' in_n, (calls h).calls p in_n, sections sh st h p in_n, sections sh st h i li, (calls h).calls i li);
  j_back = λ i c' a' e' s' n' li is inc. grind (arith, nat_tests, (copies h).j_back i c' a' e' s' n' li, (calls h).c_target p g.coll g.slot in_n, (calls h).c_loose p g.coll g.slot a' e' in_n, (calls h).calls p in_n, sections sh st h p in_n);
}

-- kind CloseRound
pub finish_ends : (sh : Layout) (st : S.State) (p : ℕ) (x : ℕ) (calm : Bool) (g : Targets) (told : ℕ) → p < sh.passes → (st.stands p).section ≡ Inside x calm → (st.stands p).phase ≡ phase.Finish (finish.End g) → Shut sh st → Nothing sh st
    → CopiesAgree sh (did sh st p Go (Inside x calm) (phase.Finish (finish.End g)) told (Store place.Round (word.Round None)))
finish_ends sh st p x calm g told in_n at_sec at_call h _ = record {
  j_named = λ i c' a' e' s' n' li is. grind (arith, nat_tests, (copies h).j_named i c' a' e' s' n' li, (calls h).calls p in_n, sections sh st h p in_n);
  j_led = λ i c' a' e' s' n' li is. grind (arith, nat_tests, (copies h).j_led i c' a' e' s' n' li, (calls h).calls p in_n, sections sh st h p in_n);
  j_entry = λ i c' a' e' s' n' li is. grind (arith, nat_tests, (copies h).j_entry i c' a' e' s' n' li, (calls h).calls p in_n, sections sh st h p in_n);
  j_locked = λ i c' a' e' s' n' li is lk. grind (arith, nat_tests, (copies h).j_locked i c' a' e' s' n' li, (calls h).calls p in_n, sections sh st h p in_n);
  j_left = λ i c' a' e' s' n' li is. grind (arith, nat_tests, (copies h).j_left i c' a' e' s' n' li, (calls h).calls p in_n, sections sh st h p in_n);
  j_for = λ i c' a' e' s' n' li is. grind (arith, nat_tests, (copies h).j_for i c' a' e' s' n' li, (calls h).calls p in_n, sections sh st h p in_n);
  j_back = λ i c' a' e' s' n' li is inc. grind (arith, nat_tests, (copies h).j_back i c' a' e' s' n' li, (calls h).calls p in_n, sections sh st h p in_n);
}
