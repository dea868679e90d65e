-- Steps keep the agreement: uses, finishes. Written by tools/laws.py.
use Rattle.std.proofs.Common.{◌≡◌, ℕ, ◌+◌, ◌<◌, ◌==◌, ◌&&◌, Bool, true, false, Some, None, inl, inr, arith}
use Rattle.std.proofs.lemmas.Bool.Decides.{nat_tests}
use Rattle.smc_words.specs.declared.layout.TheConstants.{BLANK}
use Rattle.smc_words.specs.declared.dir.Dir.TheVariants as dir
use Rattle.smc_shape.specs.Layout.{Layout}
use Rattle.smc_shape.specs.declared.place.Place.TheVariants as place
use Rattle.smc_core.specs.declared.call.Call.TheVariants as call
use Rattle.smc_core.specs.declared.call.Choice.TheVariants.{Start, Go}
use Rattle.smc_core.specs.declared.op.Op.TheVariants.{Load, Store, Exchange}
use Rattle.smc_core.specs.declared.phase.Phase.TheVariants as phase
use Rattle.smc_core.specs.declared.phase.moves.FinishPhase.TheVariants as finish
use Rattle.smc_core.specs.declared.phase.moves.Targets.{Targets}
use Rattle.smc_core.specs.declared.phase.objects.CopyPhase.TheVariants as copy
use Rattle.smc_core.specs.declared.section.Section.TheVariants.{Inside}
use Rattle.smc_core.specs.declared.word.State.TheVariants as state
use Rattle.smc_core.specs.declared.word.Word.TheVariants as word
use Rattle.smc_core.specs.Finish.{is_early}
use Rattle.smc_core.specs.Words.{same_word}
use Rattle.smc_rules.specs.Reads.{object}
use Rattle.smc_rules.specs.State as S
use Rattle.smc_rules.specs.State.{put_stand}
use Rattle.smc_agreement.proofs.Whole.{Shut, calls, copies, objects, did, moved, sections}
use Rattle.smc_agreement.proofs.CrossLaws.{by_true}
use Rattle.smc_rules.specs.Memory.{apply, seen}
use Rattle.smc_core.specs.Words.{gone}
use Rattle.smc_inv_use.specs.Uses.{UsesAgree}
use Rattle.smc_inv_use.proofs.UseLaws.{kept_use, moves_left, settled_use}

-- kind LoadDirectory
pub starts_finish : (sh : Layout) (st : S.State) (p : ℕ) (x : ℕ) (calm : Bool) (b : ℕ) (c : ℕ) (told : ℕ) → p < sh.passes → (st.stands p).section ≡ Inside x calm → (st.stands p).phase ≡ phase.Idle → (st.stands p).round ≡ Some (record { bound = b; coll = c }) → is_early x b ≡ false → Shut sh st → UsesAgree sh st
    → UsesAgree sh (did sh st p (Start call.Finish) (Inside x calm) phase.Idle told (Load (place.Directory c 0)))
starts_finish sh st p x calm b c told in_n at_sec at_call pre1 pre2 h r = record {
  u_slot = λ c' s' is. kept_use sh st.memory (apply (Load (place.Directory c 0)) st.memory) st.stands p (moved sh p (st.stands p) (Inside x calm) phase.Idle (Start call.Finish) told (seen (Load (place.Directory c 0)) st.memory)) phase.Idle c' s' at_call (λ y0. let (a1, e1, y) = y0 in inl (a1, e1, y)) (λ y0. let (a1, e1, y) = y0 in (absurd (cc))) (λ y. (absurd (cc))) (r.u_slot c' s' is);
  u_named = λ i c' s' li is. grind (arith, nat_tests, r.u_named i c' s' li, (calls h).calls p in_n, sections sh st h p in_n);
  u_moves = λ i c' s' t' a' e' li is nm inc. grind (arith, nat_tests, r.u_moves i c' s' t' a' e' li, (calls h).calls p in_n, sections sh st h p in_n);
}

-- kind LoadSection
pub finish_early : (sh : Layout) (st : S.State) (p : ℕ) (x : ℕ) (calm : Bool) (b : ℕ) (c : ℕ) (told : ℕ) → p < sh.passes → (st.stands p).section ≡ Inside x calm → (st.stands p).phase ≡ phase.Idle → (st.stands p).round ≡ Some (record { bound = b; coll = c }) → is_early x b ≡ true → Shut sh st → UsesAgree sh st
    → UsesAgree sh (did sh st p (Start call.Finish) (Inside x calm) phase.Idle told (Load (place.Section p)))
finish_early sh st p x calm b c told in_n at_sec at_call pre1 pre2 h r = record {
  u_slot = λ c' s' is. kept_use sh st.memory (apply (Load (place.Section p)) st.memory) st.stands p (moved sh p (st.stands p) (Inside x calm) phase.Idle (Start call.Finish) told (seen (Load (place.Section p)) st.memory)) phase.Idle c' s' at_call (λ y0. let (a1, e1, y) = y0 in inl (a1, e1, y)) (λ y0. let (a1, e1, y) = y0 in (absurd (cc))) (λ y. (absurd (cc))) (r.u_slot c' s' is);
  u_named = λ i c' s' li is. grind (arith, nat_tests, r.u_named i c' s' li, (calls h).calls p in_n, sections sh st h p in_n);
  u_moves = λ i c' s' t' a' e' li is nm inc. grind (arith, nat_tests, r.u_moves i c' s' t' a' e' li, (calls h).calls p in_n, sections sh st h p in_n);
}

-- kind LoadDirectory
pub finish_dir : (sh : Layout) (st : S.State) (p : ℕ) (x : ℕ) (calm : Bool) (g : Targets) (told : ℕ) → p < sh.passes → (st.stands p).section ≡ Inside x calm → (st.stands p).phase ≡ phase.Finish (finish.Directory g) → Shut sh st → UsesAgree sh st
    → UsesAgree sh (did sh st p Go (Inside x calm) (phase.Finish (finish.Directory g)) told (Load (place.Directory g.coll g.slot)))
finish_dir sh st p x calm g told in_n at_sec at_call h r = record {
  u_slot = λ c' s' is. kept_use sh st.memory (apply (Load (place.Directory g.coll g.slot)) st.memory) st.stands p (moved sh p (st.stands p) (Inside x calm) (phase.Finish (finish.Directory g)) Go told (seen (Load (place.Directory g.coll g.slot)) st.memory)) (phase.Finish (finish.Directory g)) c' s' at_call (λ y0. let (a1, e1, y) = y0 in inl (a1, e1, y)) (λ y0. let (a1, e1, y) = y0 in (absurd (cc))) (λ y. (absurd (cc))) (r.u_slot c' s' is);
  u_named = λ i c' s' li is. grind (arith, nat_tests, r.u_named i c' s' li, (calls h).calls p in_n, sections sh st h p in_n);
  u_moves = λ i c' s' t' a' e' li is nm inc. grind (arith, nat_tests, r.u_moves i c' s' t' a' e' li, (calls h).calls p in_n, sections sh st h p in_n);
}

-- kind LoadBack
pub finish_back : (sh : Layout) (st : S.State) (p : ℕ) (x : ℕ) (calm : Bool) (g : Targets) (told : ℕ) → p < sh.passes → (st.stands p).section ≡ Inside x calm → (st.stands p).phase ≡ phase.Finish (finish.Back g) → Shut sh st → UsesAgree sh st
    → UsesAgree sh (did sh st p Go (Inside x calm) (phase.Finish (finish.Back g)) told (Load (place.Back g.coll g.slot)))
finish_back sh st p x calm g told in_n at_sec at_call h r = record {
  u_slot = λ c' s' is. kept_use sh st.memory (apply (Load (place.Back g.coll g.slot)) st.memory) st.stands p (moved sh p (st.stands p) (Inside x calm) (phase.Finish (finish.Back g)) Go told (seen (Load (place.Back g.coll g.slot)) st.memory)) (phase.Finish (finish.Back g)) c' s' at_call (λ y0. let (a1, e1, y) = y0 in inl (a1, e1, y)) (λ y0. let (a1, e1, y) = y0 in (absurd (cc))) (λ y. (absurd (cc))) (r.u_slot c' s' is);
  u_named = λ i c' s' li is. grind (arith, nat_tests, r.u_named i c' s' li, (calls h).c_target p g.coll g.slot in_n, (calls h).calls p in_n, sections sh st h p in_n);
  u_moves = λ i c' s' t' a' e' li is nm inc. grind (arith, nat_tests, r.u_moves i c' s' t' a' e' li, (calls h).c_target p g.coll g.slot in_n, (calls h).calls p in_n, sections sh st h p in_n);
}

-- kind LoadEntry
pub finish_entry : (sh : Layout) (st : S.State) (p : ℕ) (x : ℕ) (calm : Bool) (g : Targets) (a : ℕ) (e : ℕ) (told : ℕ) → p < sh.passes → (st.stands p).section ≡ Inside x calm → (st.stands p).phase ≡ phase.Finish (finish.Entry g (object a e g.coll)) → Shut sh st → UsesAgree sh st
    → UsesAgree sh (did sh st p Go (Inside x calm) (phase.Finish (finish.Entry g (object a e g.coll))) told (Load (place.Entry g.coll e)))
finish_entry sh st p x calm g a e told in_n at_sec at_call h r = record {
  u_slot = λ c' s' is. kept_use sh st.memory (apply (Load (place.Entry g.coll e)) st.memory) st.stands p (moved sh p (st.stands p) (Inside x calm) (phase.Finish (finish.Entry g (object a e g.coll))) Go told (seen (Load (place.Entry g.coll e)) st.memory)) (phase.Finish (finish.Entry g (object a e g.coll))) c' s' at_call (λ y0. let (a1, e1, y) = y0 in inl (a1, e1, y)) (λ y0. let (a1, e1, y) = y0 in (absurd (cc))) (λ y. (absurd (cc))) (r.u_slot c' s' is);
  u_named = λ i c' s' li is. grind (arith, nat_tests, r.u_named i c' s' li, (calls h).c_named p g.coll g.slot a e in_n, (calls h).c_target p g.coll g.slot in_n, (calls h).calls p in_n, sections sh st h p in_n);
  u_moves = λ i c' s' t' a' e' li is nm inc. grind (arith, nat_tests, r.u_moves i c' s' t' a' e' li, (calls h).c_named p g.coll g.slot a e in_n, (calls h).c_target p g.coll g.slot in_n, (calls h).calls p in_n, sections sh st h p in_n);
}

-- kind Lock
pub lock : (sh : Layout) (st : S.State) (p : ℕ) (x : ℕ) (calm : Bool) (g : Targets) (a : ℕ) (e : ℕ) (q : ℕ) (told : ℕ) → p < sh.passes → (st.stands p).section ≡ Inside x calm → (st.stands p).phase ≡ phase.Finish (finish.Lock g (object a e g.coll) q) → Shut sh st → UsesAgree sh st
    → UsesAgree sh (did sh st p Go (Inside x calm) (phase.Finish (finish.Lock g (object a e g.coll) q)) told (Exchange (place.Entry g.coll e) (word.Entry (state.Frozen a q)) (word.Entry (state.Locked a q))))
lock sh st p x calm g a e q told in_n at_sec at_call h r = record {
  u_slot = λ c' s' is. kept_use sh st.memory (apply (Exchange (place.Entry g.coll e) (word.Entry (state.Frozen a q)) (word.Entry (state.Locked a q))) st.memory) st.stands p (moved sh p (st.stands p) (Inside x calm) (phase.Finish (finish.Lock g (object a e g.coll) q)) Go told (seen (Exchange (place.Entry g.coll e) (word.Entry (state.Frozen a q)) (word.Entry (state.Locked a q))) st.memory)) (phase.Finish (finish.Lock g (object a e g.coll) q)) c' s' at_call (λ y0. let (a1, e1, y) = y0 in inl (a1, e1, grind (arith, nat_tests))) (λ y0. let (a1, e1, y) = y0 in (absurd (cc))) (λ y. (absurd (cc))) (r.u_slot c' s' is);
  u_named = λ i c' s' li is. grind (arith, nat_tests, r.u_named i c' s' li, (calls h).c_named p g.coll g.slot a e in_n, (calls h).c_target p g.coll g.slot in_n, (calls h).c_tries p g.coll q a e in_n, (calls h).calls p in_n, sections sh st h p in_n, (objects h).standing g.coll a e q);
  u_moves = λ i c' s' t' a' e' li is nm inc. grind (arith, nat_tests, r.u_moves i c' s' t' a' e' li, (calls h).c_named p g.coll g.slot a e in_n, (calls h).c_target p g.coll g.slot in_n, (calls h).c_tries p g.coll q a e in_n, (calls h).calls p in_n, sections sh st h p in_n, (objects h).standing g.coll a e q);
}

-- kind LoadForward
pub f_fwd : (sh : Layout) (st : S.State) (p : ℕ) (x : ℕ) (calm : Bool) (g : Targets) (a : ℕ) (e : ℕ) (q : ℕ) (told : ℕ) → p < sh.passes → (st.stands p).section ≡ Inside x calm → (st.stands p).phase ≡ phase.Finish (finish.Move g (object a e g.coll) q copy.Target) → Shut sh st → UsesAgree sh st
    → UsesAgree sh (did sh st p Go (Inside x calm) (phase.Finish (finish.Move g (object a e g.coll) q copy.Target)) told (Load (place.Forward g.coll q)))
f_fwd sh st p x calm g a e q told in_n at_sec at_call h r = record {
  u_slot = λ c' s' is. kept_use sh st.memory (apply (Load (place.Forward g.coll q)) st.memory) st.stands p (moved sh p (st.stands p) (Inside x calm) (phase.Finish (finish.Move g (object a e g.coll) q copy.Target)) Go told (seen (Load (place.Forward g.coll q)) st.memory)) (phase.Finish (finish.Move g (object a e g.coll) q copy.Target)) c' s' at_call (λ y0. let (a1, e1, y) = y0 in inl (a1, e1, y)) (λ y0. let (a1, e1, y) = y0 in (absurd (cc))) (λ y. inr (inr (p, in_n, grind (arith, nat_tests)))) (r.u_slot c' s' is);
  u_named = λ i c' s' li is. grind (arith, nat_tests, r.u_named i c' s' li, (calls h).c_leads p g.coll q g.slot in_n, (calls h).c_leaves p g.coll q in_n, (calls h).c_apart p g.coll q a e in_n, (copies h).j_named p g.coll a e q copy.Target in_n, (copies h).j_led p g.coll a e q copy.Target in_n, (copies h).j_entry p g.coll a e q copy.Target in_n, (copies h).j_locked p g.coll a e q copy.Target in_n, (copies h).j_left p g.coll a e q copy.Target in_n, (copies h).j_for p g.coll a e q copy.Target in_n, (copies h).j_back p g.coll a e q copy.Target in_n, (calls h).calls p in_n, sections sh st h p in_n);
  u_moves = λ i c' s' t' a' e' li is nm inc. grind (arith, nat_tests, r.u_moves i c' s' t' a' e' li, (calls h).c_leads p g.coll q g.slot in_n, (calls h).c_leaves p g.coll q in_n, (calls h).c_apart p g.coll q a e in_n, (copies h).j_named p g.coll a e q copy.Target in_n, (copies h).j_led p g.coll a e q copy.Target in_n, (copies h).j_entry p g.coll a e q copy.Target in_n, (copies h).j_locked p g.coll a e q copy.Target in_n, (copies h).j_left p g.coll a e q copy.Target in_n, (copies h).j_for p g.coll a e q copy.Target in_n, (copies h).j_back p g.coll a e q copy.Target in_n, (calls h).calls p in_n, sections sh st h p in_n);
}

-- kind LoadField
pub f_read : (sh : Layout) (st : S.State) (p : ℕ) (x : ℕ) (calm : Bool) (g : Targets) (a : ℕ) (e : ℕ) (q : ℕ) (t : ℕ) (f : ℕ) (told : ℕ) → p < sh.passes → (st.stands p).section ≡ Inside x calm → (st.stands p).phase ≡ phase.Finish (finish.Move g (object a e g.coll) q (copy.Load t f)) → Shut sh st → UsesAgree sh st
    → UsesAgree sh (did sh st p Go (Inside x calm) (phase.Finish (finish.Move g (object a e g.coll) q (copy.Load t f))) told (Load (place.Field g.coll q f)))
f_read sh st p x calm g a e q t f told in_n at_sec at_call h r = record {
  u_slot = λ c' s' is. kept_use sh st.memory (apply (Load (place.Field g.coll q f)) st.memory) st.stands p (moved sh p (st.stands p) (Inside x calm) (phase.Finish (finish.Move g (object a e g.coll) q (copy.Load t f))) Go told (seen (Load (place.Field g.coll q f)) st.memory)) (phase.Finish (finish.Move g (object a e g.coll) q (copy.Load t f))) c' s' at_call (λ y0. let (a1, e1, y) = y0 in inl (a1, e1, y)) (λ y0. let (a1, e1, y) = y0 in (absurd (cc))) (λ y. inr (inr (p, in_n, grind (arith, nat_tests)))) (r.u_slot c' s' is);
  u_named = λ i c' s' li is. grind (arith, nat_tests, r.u_named i c' s' li, (calls h).c_leads p g.coll q g.slot in_n, (calls h).c_leaves p g.coll q in_n, (calls h).c_apart p g.coll q a e in_n, (copies h).j_named p g.coll a e q (copy.Load t f) in_n, (copies h).j_led p g.coll a e q (copy.Load t f) in_n, (copies h).j_entry p g.coll a e q (copy.Load t f) in_n, (copies h).j_locked p g.coll a e q (copy.Load t f) in_n, (copies h).j_left p g.coll a e q (copy.Load t f) in_n, (copies h).j_for p g.coll a e q (copy.Load t f) in_n, (copies h).j_back p g.coll a e q (copy.Load t f) in_n, (calls h).calls p in_n, sections sh st h p in_n);
  u_moves = λ i c' s' t' a' e' li is nm inc. grind (arith, nat_tests, r.u_moves i c' s' t' a' e' li, (calls h).c_leads p g.coll q g.slot in_n, (calls h).c_leaves p g.coll q in_n, (calls h).c_apart p g.coll q a e in_n, (copies h).j_named p g.coll a e q (copy.Load t f) in_n, (copies h).j_led p g.coll a e q (copy.Load t f) in_n, (copies h).j_entry p g.coll a e q (copy.Load t f) in_n, (copies h).j_locked p g.coll a e q (copy.Load t f) in_n, (copies h).j_left p g.coll a e q (copy.Load t f) in_n, (copies h).j_for p g.coll a e q (copy.Load t f) in_n, (copies h).j_back p g.coll a e q (copy.Load t f) in_n, (calls h).calls p in_n, sections sh st h p in_n);
}

-- kind CopyField
pub f_put : (sh : Layout) (st : S.State) (p : ℕ) (x : ℕ) (calm : Bool) (g : Targets) (a : ℕ) (e : ℕ) (q : ℕ) (t : ℕ) (f : ℕ) (w : ℕ) (told : ℕ) → p < sh.passes → (st.stands p).section ≡ Inside x calm → (st.stands p).phase ≡ phase.Finish (finish.Move g (object a e g.coll) q (copy.Put t f w)) → Shut sh st → UsesAgree sh st
    → UsesAgree sh (did sh st p Go (Inside x calm) (phase.Finish (finish.Move g (object a e g.coll) q (copy.Put t f w))) told (Exchange (place.Field g.coll t f) (word.Plain BLANK) (word.Plain w)))
f_put sh st p x calm g a e q t f w told in_n at_sec at_call h r = record {
  u_slot = λ c' s' is. kept_use sh st.memory (apply (Exchange (place.Field g.coll t f) (word.Plain BLANK) (word.Plain w)) st.memory) st.stands p (moved sh p (st.stands p) (Inside x calm) (phase.Finish (finish.Move g (object a e g.coll) q (copy.Put t f w))) Go told (seen (Exchange (place.Field g.coll t f) (word.Plain BLANK) (word.Plain w)) st.memory)) (phase.Finish (finish.Move g (object a e g.coll) q (copy.Put t f w))) c' s' at_call (λ y0. let (a1, e1, y) = y0 in inl (a1, e1, y)) (λ y0. let (a1, e1, y) = y0 in (absurd (cc))) (λ y. inr (inr (p, in_n, grind (arith, nat_tests)))) (r.u_slot c' s' is);
  u_named = λ i c' s' li is. grind (arith, nat_tests, r.u_named i c' s' li, (calls h).c_leads p g.coll q g.slot in_n, (calls h).c_leaves p g.coll q in_n, (calls h).c_apart p g.coll q a e in_n, (copies h).j_named p g.coll a e q (copy.Put t f w) in_n, (copies h).j_led p g.coll a e q (copy.Put t f w) in_n, (copies h).j_entry p g.coll a e q (copy.Put t f w) in_n, (copies h).j_locked p g.coll a e q (copy.Put t f w) in_n, (copies h).j_left p g.coll a e q (copy.Put t f w) in_n, (copies h).j_for p g.coll a e q (copy.Put t f w) in_n, (copies h).j_back p g.coll a e q (copy.Put t f w) in_n, (calls h).calls p in_n, sections sh st h p in_n);
  u_moves = λ i c' s' t' a' e' li is nm inc. grind (arith, nat_tests, r.u_moves i c' s' t' a' e' li, (calls h).c_leads p g.coll q g.slot in_n, (calls h).c_leaves p g.coll q in_n, (calls h).c_apart p g.coll q a e in_n, (copies h).j_named p g.coll a e q (copy.Put t f w) in_n, (copies h).j_led p g.coll a e q (copy.Put t f w) in_n, (copies h).j_entry p g.coll a e q (copy.Put t f w) in_n, (copies h).j_locked p g.coll a e q (copy.Put t f w) in_n, (copies h).j_left p g.coll a e q (copy.Put t f w) in_n, (copies h).j_for p g.coll a e q (copy.Put t f w) in_n, (copies h).j_back p g.coll a e q (copy.Put t f w) in_n, (calls h).calls p in_n, sections sh st h p in_n);
}

-- kind Swing
pub f_swing : (sh : Layout) (st : S.State) (p : ℕ) (x : ℕ) (calm : Bool) (g : Targets) (a : ℕ) (e : ℕ) (q : ℕ) (t : ℕ) (told : ℕ) → p < sh.passes → (st.stands p).section ≡ Inside x calm → (st.stands p).phase ≡ phase.Finish (finish.Move g (object a e g.coll) q (copy.Swing t)) → Shut sh st → UsesAgree sh st
    → UsesAgree sh (did sh st p Go (Inside x calm) (phase.Finish (finish.Move g (object a e g.coll) q (copy.Swing t))) told (Exchange (place.Entry g.coll e) (word.Entry (state.Locked a q)) (word.Entry (state.Present a t))))
f_swing sh st p x calm g a e q t told in_n at_sec at_call h r = record {
  u_slot = λ c' s' is. kept_use sh st.memory (apply (Exchange (place.Entry g.coll e) (word.Entry (state.Locked a q)) (word.Entry (state.Present a t))) st.memory) st.stands p (moved sh p (st.stands p) (Inside x calm) (phase.Finish (finish.Move g (object a e g.coll) q (copy.Swing t))) Go told (seen (Exchange (place.Entry g.coll e) (word.Entry (state.Locked a q)) (word.Entry (state.Present a t))) st.memory)) (phase.Finish (finish.Move g (object a e g.coll) q (copy.Swing t))) c' s' at_call (λ y0. let (a1, e1, y) = y0 in by_true (same_word (st.memory (place.Entry g.coll e)) (word.Entry (state.Locked a q)) && (e1 == e && c' == g.coll)) (λ t1. inr (inr (p, in_n, grind (arith, nat_tests)))) (λ n1. inl (a1, e1, grind (arith, nat_tests)))) (λ y0. let (a1, e1, y) = y0 in (absurd (cc))) (λ y. inr (inr (p, in_n, grind (arith, nat_tests)))) (r.u_slot c' s' is);
  u_named = λ i c' s' li is. grind (arith, nat_tests, r.u_named i c' s' li, (calls h).c_leads p g.coll q g.slot in_n, (calls h).c_leaves p g.coll q in_n, (calls h).c_apart p g.coll q a e in_n, (copies h).j_named p g.coll a e q (copy.Swing t) in_n, (copies h).j_led p g.coll a e q (copy.Swing t) in_n, (copies h).j_entry p g.coll a e q (copy.Swing t) in_n, (copies h).j_locked p g.coll a e q (copy.Swing t) in_n, (copies h).j_left p g.coll a e q (copy.Swing t) in_n, (copies h).j_for p g.coll a e q (copy.Swing t) in_n, (copies h).j_back p g.coll a e q (copy.Swing t) in_n, (calls h).calls p in_n, sections sh st h p in_n);
  u_moves = λ i c' s' t' a' e' li is nm inc. grind (arith, nat_tests, r.u_moves i c' s' t' a' e' li, (calls h).c_leads p g.coll q g.slot in_n, (calls h).c_leaves p g.coll q in_n, (calls h).c_apart p g.coll q a e in_n, (copies h).j_named p g.coll a e q (copy.Swing t) in_n, (copies h).j_led p g.coll a e q (copy.Swing t) in_n, (copies h).j_entry p g.coll a e q (copy.Swing t) in_n, (copies h).j_locked p g.coll a e q (copy.Swing t) in_n, (copies h).j_left p g.coll a e q (copy.Swing t) in_n, (copies h).j_for p g.coll a e q (copy.Swing t) in_n, (copies h).j_back p g.coll a e q (copy.Swing t) in_n, (calls h).calls p in_n, sections sh st h p in_n, (calls h).c_leads i c' s' t' li, (calls h).c_moved i c' s' a' e' li, moves_left (st.stands i).phase c' s' t');
}

-- kind Settle
pub settle : (sh : Layout) (st : S.State) (p : ℕ) (x : ℕ) (calm : Bool) (g : Targets) (q : ℕ) (told : ℕ) → p < sh.passes → (st.stands p).section ≡ Inside x calm → (st.stands p).phase ≡ phase.Finish (finish.Settle g q) → Shut sh st → UsesAgree sh st
    → UsesAgree sh (did sh st p Go (Inside x calm) (phase.Finish (finish.Settle g q)) told (Exchange (place.Directory g.coll g.slot) (word.Directory dir.Incoming) (word.Directory dir.Valid)))
settle sh st p x calm g q told in_n at_sec at_call h r = record {
  u_slot = λ c' s' is. by_true (same_word (st.memory (place.Directory g.coll g.slot)) (word.Directory dir.Incoming) && (s' == g.slot && c' == g.coll)) (λ t1. let (a1, e1, y) = settled_use sh st h r p g q in_n at_call (grind (arith, nat_tests)) in inl (a1, e1, grind (arith, nat_tests))) (λ n1. kept_use sh st.memory (apply (Exchange (place.Directory g.coll g.slot) (word.Directory dir.Incoming) (word.Directory dir.Valid)) st.memory) st.stands p (moved sh p (st.stands p) (Inside x calm) (phase.Finish (finish.Settle g q)) Go told (seen (Exchange (place.Directory g.coll g.slot) (word.Directory dir.Incoming) (word.Directory dir.Valid)) st.memory)) (phase.Finish (finish.Settle g q)) c' s' at_call (λ y0. let (a1, e1, y) = y0 in inl (a1, e1, y)) (λ y0. let (a1, e1, y) = y0 in (absurd (cc))) (λ y. inr (inr (p, in_n, grind (arith, nat_tests)))) (r.u_slot c' s' (grind (arith, nat_tests))));
  u_named = λ i c' s' li is. grind (arith, nat_tests, r.u_named i c' s' li, (calls h).c_leaves p g.coll q in_n, (calls h).c_ends p g.coll q g.slot in_n, (calls h).calls p in_n, sections sh st h p in_n);
  u_moves = λ i c' s' t' a' e' li is nm inc. grind (arith, nat_tests, r.u_moves i c' s' t' a' e' li, (calls h).c_leaves p g.coll q in_n, (calls h).c_ends p g.coll q g.slot in_n, (calls h).c_apart p g.coll q a' e' in_n, (calls h).c_moved p g.coll q a' e' in_n, (calls h).calls p in_n, sections sh st h p in_n);
}

-- kind LeaveSlot
pub leave_source : (sh : Layout) (st : S.State) (p : ℕ) (x : ℕ) (calm : Bool) (g : Targets) (q : ℕ) (told : ℕ) → p < sh.passes → (st.stands p).section ≡ Inside x calm → (st.stands p).phase ≡ phase.Finish (finish.LeaveSource g q) → Shut sh st → UsesAgree sh st
    → UsesAgree sh (did sh st p Go (Inside x calm) (phase.Finish (finish.LeaveSource g q)) told (Store (place.Directory g.coll q) (word.Directory (dir.Limbo (x + 1)))))
leave_source sh st p x calm g q told in_n at_sec at_call h r = record {
  u_slot = λ c' s' is. kept_use sh st.memory (apply (Store (place.Directory g.coll q) (word.Directory (dir.Limbo (x + 1)))) st.memory) st.stands p (moved sh p (st.stands p) (Inside x calm) (phase.Finish (finish.LeaveSource g q)) Go told (seen (Store (place.Directory g.coll q) (word.Directory (dir.Limbo (x + 1)))) st.memory)) (phase.Finish (finish.LeaveSource g q)) c' s' at_call (λ y0. let (a1, e1, y) = y0 in inl (a1, e1, y)) (λ y0. let (a1, e1, y) = y0 in (absurd (cc))) (λ y. absurd (grind (arith, nat_tests))) (r.u_slot c' s' (grind (arith, nat_tests)));
  u_named = λ i c' s' li is. grind (arith, nat_tests, r.u_named i c' s' li, (calls h).c_leaves p g.coll q in_n, (calls h).c_passed p g.coll g.slot in_n, (calls h).calls p in_n, sections sh st h p in_n);
  u_moves = λ i c' s' t' a' e' li is nm inc. grind (arith, nat_tests, r.u_moves i c' s' t' a' e' li, (calls h).c_leaves p g.coll q in_n, (calls h).c_passed p g.coll g.slot in_n, (calls h).c_apart p g.coll q a' e' in_n, (calls h).c_moved p g.coll q a' e' in_n, (calls h).calls p in_n, sections sh st h p in_n);
}

-- kind LeaveSlot
pub finish_gives : (sh : Layout) (st : S.State) (p : ℕ) (x : ℕ) (calm : Bool) (g : Targets) (gone : Bool) (told : ℕ) → p < sh.passes → (st.stands p).section ≡ Inside x calm → (st.stands p).phase ≡ phase.Finish (finish.GiveUp g gone) → Shut sh st → UsesAgree sh st
    → UsesAgree sh (did sh st p Go (Inside x calm) (phase.Finish (finish.GiveUp g gone)) told (Store (place.Directory g.coll g.slot) (word.Directory (dir.Limbo (x + 1)))))
finish_gives sh st p x calm g gone told in_n at_sec at_call h r = record {
  u_slot = λ c' s' is. kept_use sh st.memory (apply (Store (place.Directory g.coll g.slot) (word.Directory (dir.Limbo (x + 1)))) st.memory) st.stands p (moved sh p (st.stands p) (Inside x calm) (phase.Finish (finish.GiveUp g gone)) Go told (seen (Store (place.Directory g.coll g.slot) (word.Directory (dir.Limbo (x + 1)))) st.memory)) (phase.Finish (finish.GiveUp g gone)) c' s' at_call (λ y0. let (a1, e1, y) = y0 in inl (a1, e1, y)) (λ y0. let (a1, e1, y) = y0 in (absurd (cc))) (λ y. (absurd (cc))) (r.u_slot c' s' (grind (arith, nat_tests)));
  u_named = λ i c' s' li is. grind (arith, nat_tests, r.u_named i c' s' li, (calls h).c_target p g.coll g.slot in_n, (calls h).calls p in_n, sections sh st h p in_n);
  u_moves = λ i c' s' t' a' e' li is nm inc. grind (arith, nat_tests, r.u_moves i c' s' t' a' e' li, (calls h).c_target p g.coll g.slot in_n, (calls h).c_loose p g.coll g.slot a' e' in_n, (calls h).calls p in_n, sections sh st h p in_n);
}

-- kind CloseRound
pub finish_ends : (sh : Layout) (st : S.State) (p : ℕ) (x : ℕ) (calm : Bool) (g : Targets) (told : ℕ) → p < sh.passes → (st.stands p).section ≡ Inside x calm → (st.stands p).phase ≡ phase.Finish (finish.End g) → Shut sh st → UsesAgree sh st
    → UsesAgree sh (did sh st p Go (Inside x calm) (phase.Finish (finish.End g)) told (Store place.Round (word.Round None)))
finish_ends sh st p x calm g told in_n at_sec at_call h r = record {
  u_slot = λ c' s' is. kept_use sh st.memory (apply (Store place.Round (word.Round None)) st.memory) st.stands p (moved sh p (st.stands p) (Inside x calm) (phase.Finish (finish.End g)) Go told (seen (Store place.Round (word.Round None)) st.memory)) (phase.Finish (finish.End g)) c' s' at_call (λ y0. let (a1, e1, y) = y0 in inl (a1, e1, y)) (λ y0. let (a1, e1, y) = y0 in (absurd (cc))) (λ y. (absurd (cc))) (r.u_slot c' s' is);
  u_named = λ i c' s' li is. grind (arith, nat_tests, r.u_named i c' s' li, (calls h).calls p in_n, sections sh st h p in_n);
  u_moves = λ i c' s' t' a' e' li is nm inc. grind (arith, nat_tests, r.u_moves i c' s' t' a' e' li, (calls h).calls p in_n, sections sh st h p in_n);
}
