-- Steps keep the agreement: uses, helps. Written by tools/laws.py.
use Rattle.std.proofs.Common.{◌≡◌, ℕ, ◌<◌, ◌==◌, ◌&&◌, Bool, inl, inr, arith}
use Rattle.std.proofs.lemmas.Bool.Decides.{nat_tests}
use Rattle.smc_words.specs.declared.layout.TheConstants.{BLANK}
use Rattle.smc_shape.specs.Layout.{Layout}
use Rattle.smc_shape.specs.declared.place.Place.TheVariants as place
use Rattle.smc_core.specs.declared.call.Choice.TheVariants.{Go}
use Rattle.smc_core.specs.declared.op.Op.TheVariants.{Load, Exchange}
use Rattle.smc_core.specs.declared.phase.Phase.TheVariants as phase
use Rattle.smc_core.specs.declared.phase.objects.CopyPhase.TheVariants as copy
use Rattle.smc_core.specs.declared.phase.objects.LookPhase.TheVariants as look
use Rattle.smc_core.specs.declared.phase.objects.Seeker.{Seeker}
use Rattle.smc_core.specs.declared.section.Section.TheVariants.{Inside}
use Rattle.smc_core.specs.declared.word.State.TheVariants as state
use Rattle.smc_core.specs.declared.word.Word.TheVariants as word
use Rattle.smc_core.specs.Words.{same_word}
use Rattle.smc_rules.specs.Reads.{object}
use Rattle.smc_rules.specs.State as S
use Rattle.smc_rules.specs.State.{put_stand}
use Rattle.smc_agreement.proofs.Whole.{Shut, calls, copies, did, moved, sections}
use Rattle.smc_agreement.proofs.CrossLaws.{by_true}
use Rattle.smc_rules.specs.Memory.{apply, seen}
use Rattle.smc_inv_use.specs.Uses.{UsesAgree}
use Rattle.smc_inv_use.proofs.UseLaws.{kept_use, left_stays, moves_left, locked_left}

-- kind LoadForward
pub l_fwd : (sh : Layout) (st : S.State) (p : ℕ) (x : ℕ) (calm : Bool) (who : Seeker) (c : ℕ) (a : ℕ) (e : ℕ) (q : ℕ) (told : ℕ) → p < sh.passes → (st.stands p).section ≡ Inside x calm → (st.stands p).phase ≡ phase.Look (look.Help who (object a e c) q copy.Target) → Shut sh st → UsesAgree sh st
    → UsesAgree sh (did sh st p Go (Inside x calm) (phase.Look (look.Help who (object a e c) q copy.Target)) told (Load (place.Forward c q)))
l_fwd sh st p x calm who c a e q told in_n at_sec at_call h r = record {
  u_slot = λ c' s' is. kept_use sh st.memory (apply (Load (place.Forward c q)) st.memory) st.stands p (moved sh p (st.stands p) (Inside x calm) (phase.Look (look.Help who (object a e c) q copy.Target)) Go told (seen (Load (place.Forward c q)) st.memory)) (phase.Look (look.Help who (object a e c) q copy.Target)) c' s' at_call (λ y0. let (a1, e1, y) = y0 in inl (a1, e1, y)) (λ y0. let (a1, e1, y) = y0 in (absurd (cc))) (λ y. (absurd (cc))) (r.u_slot c' s' is);
  u_named = λ i c' s' li is. grind (arith, nat_tests, r.u_named i c' s' li, (copies h).j_named p c a e q copy.Target in_n, (copies h).j_led p c a e q copy.Target in_n, (copies h).j_entry p c a e q copy.Target in_n, (copies h).j_locked p c a e q copy.Target in_n, (copies h).j_left p c a e q copy.Target in_n, (copies h).j_for p c a e q copy.Target in_n, (copies h).j_back p c a e q copy.Target in_n, (calls h).calls p in_n, sections sh st h p in_n);
  u_moves = λ i c' s' t' a' e' li is nm inc. grind (arith, nat_tests, r.u_moves i c' s' t' a' e' li, (copies h).j_named p c a e q copy.Target in_n, (copies h).j_led p c a e q copy.Target in_n, (copies h).j_entry p c a e q copy.Target in_n, (copies h).j_locked p c a e q copy.Target in_n, (copies h).j_left p c a e q copy.Target in_n, (copies h).j_for p c a e q copy.Target in_n, (copies h).j_back p c a e q copy.Target in_n, (calls h).calls p in_n, sections sh st h p in_n);
}

-- kind LoadField
pub l_read : (sh : Layout) (st : S.State) (p : ℕ) (x : ℕ) (calm : Bool) (who : Seeker) (c : ℕ) (a : ℕ) (e : ℕ) (q : ℕ) (t : ℕ) (f : ℕ) (told : ℕ) → p < sh.passes → (st.stands p).section ≡ Inside x calm → (st.stands p).phase ≡ phase.Look (look.Help who (object a e c) q (copy.Load t f)) → Shut sh st → UsesAgree sh st
    → UsesAgree sh (did sh st p Go (Inside x calm) (phase.Look (look.Help who (object a e c) q (copy.Load t f))) told (Load (place.Field c q f)))
l_read sh st p x calm who c a e q t f told in_n at_sec at_call h r = record {
  u_slot = λ c' s' is. kept_use sh st.memory (apply (Load (place.Field c q f)) st.memory) st.stands p (moved sh p (st.stands p) (Inside x calm) (phase.Look (look.Help who (object a e c) q (copy.Load t f))) Go told (seen (Load (place.Field c q f)) st.memory)) (phase.Look (look.Help who (object a e c) q (copy.Load t f))) c' s' at_call (λ y0. let (a1, e1, y) = y0 in inl (a1, e1, y)) (λ y0. let (a1, e1, y) = y0 in (absurd (cc))) (λ y. (absurd (cc))) (r.u_slot c' s' is);
  u_named = λ i c' s' li is. grind (arith, nat_tests, r.u_named i c' s' li, (copies h).j_named p c a e q (copy.Load t f) in_n, (copies h).j_led p c a e q (copy.Load t f) in_n, (copies h).j_entry p c a e q (copy.Load t f) in_n, (copies h).j_locked p c a e q (copy.Load t f) in_n, (copies h).j_left p c a e q (copy.Load t f) in_n, (copies h).j_for p c a e q (copy.Load t f) in_n, (copies h).j_back p c a e q (copy.Load t f) in_n, (calls h).calls p in_n, sections sh st h p in_n);
  u_moves = λ i c' s' t' a' e' li is nm inc. grind (arith, nat_tests, r.u_moves i c' s' t' a' e' li, (copies h).j_named p c a e q (copy.Load t f) in_n, (copies h).j_led p c a e q (copy.Load t f) in_n, (copies h).j_entry p c a e q (copy.Load t f) in_n, (copies h).j_locked p c a e q (copy.Load t f) in_n, (copies h).j_left p c a e q (copy.Load t f) in_n, (copies h).j_for p c a e q (copy.Load t f) in_n, (copies h).j_back p c a e q (copy.Load t f) in_n, (calls h).calls p in_n, sections sh st h p in_n);
}

-- kind CopyField
pub l_put : (sh : Layout) (st : S.State) (p : ℕ) (x : ℕ) (calm : Bool) (who : Seeker) (c : ℕ) (a : ℕ) (e : ℕ) (q : ℕ) (t : ℕ) (f : ℕ) (w : ℕ) (told : ℕ) → p < sh.passes → (st.stands p).section ≡ Inside x calm → (st.stands p).phase ≡ phase.Look (look.Help who (object a e c) q (copy.Put t f w)) → Shut sh st → UsesAgree sh st
    → UsesAgree sh (did sh st p Go (Inside x calm) (phase.Look (look.Help who (object a e c) q (copy.Put t f w))) told (Exchange (place.Field c t f) (word.Plain BLANK) (word.Plain w)))
l_put sh st p x calm who c a e q t f w told in_n at_sec at_call h r = record {
  u_slot = λ c' s' is. kept_use sh st.memory (apply (Exchange (place.Field c t f) (word.Plain BLANK) (word.Plain w)) st.memory) st.stands p (moved sh p (st.stands p) (Inside x calm) (phase.Look (look.Help who (object a e c) q (copy.Put t f w))) Go told (seen (Exchange (place.Field c t f) (word.Plain BLANK) (word.Plain w)) st.memory)) (phase.Look (look.Help who (object a e c) q (copy.Put t f w))) c' s' at_call (λ y0. let (a1, e1, y) = y0 in inl (a1, e1, y)) (λ y0. let (a1, e1, y) = y0 in (absurd (cc))) (λ y. (absurd (cc))) (r.u_slot c' s' is);
  u_named = λ i c' s' li is. grind (arith, nat_tests, r.u_named i c' s' li, (copies h).j_named p c a e q (copy.Put t f w) in_n, (copies h).j_led p c a e q (copy.Put t f w) in_n, (copies h).j_entry p c a e q (copy.Put t f w) in_n, (copies h).j_locked p c a e q (copy.Put t f w) in_n, (copies h).j_left p c a e q (copy.Put t f w) in_n, (copies h).j_for p c a e q (copy.Put t f w) in_n, (copies h).j_back p c a e q (copy.Put t f w) in_n, (calls h).calls p in_n, sections sh st h p in_n);
  u_moves = λ i c' s' t' a' e' li is nm inc. grind (arith, nat_tests, r.u_moves i c' s' t' a' e' li, (copies h).j_named p c a e q (copy.Put t f w) in_n, (copies h).j_led p c a e q (copy.Put t f w) in_n, (copies h).j_entry p c a e q (copy.Put t f w) in_n, (copies h).j_locked p c a e q (copy.Put t f w) in_n, (copies h).j_left p c a e q (copy.Put t f w) in_n, (copies h).j_for p c a e q (copy.Put t f w) in_n, (copies h).j_back p c a e q (copy.Put t f w) in_n, (calls h).calls p in_n, sections sh st h p in_n);
}

-- kind Swing
pub l_swing : (sh : Layout) (st : S.State) (p : ℕ) (x : ℕ) (calm : Bool) (who : Seeker) (c : ℕ) (a : ℕ) (e : ℕ) (q : ℕ) (t : ℕ) (told : ℕ) → p < sh.passes → (st.stands p).section ≡ Inside x calm → (st.stands p).phase ≡ phase.Look (look.Help who (object a e c) q (copy.Swing t)) → Shut sh st → UsesAgree sh st
    → UsesAgree sh (did sh st p Go (Inside x calm) (phase.Look (look.Help who (object a e c) q (copy.Swing t))) told (Exchange (place.Entry c e) (word.Entry (state.Locked a q)) (word.Entry (state.Present a t))))
l_swing sh st p x calm who c a e q t told in_n at_sec at_call h r = record {
  u_slot = λ c' s' is. kept_use sh st.memory (apply (Exchange (place.Entry c e) (word.Entry (state.Locked a q)) (word.Entry (state.Present a t))) st.memory) st.stands p (moved sh p (st.stands p) (Inside x calm) (phase.Look (look.Help who (object a e c) q (copy.Swing t))) Go told (seen (Exchange (place.Entry c e) (word.Entry (state.Locked a q)) (word.Entry (state.Present a t))) st.memory)) (phase.Look (look.Help who (object a e c) q (copy.Swing t))) c' s' at_call (λ y0. let (a1, e1, y) = y0 in by_true (same_word (st.memory (place.Entry c e)) (word.Entry (state.Locked a q)) && (e1 == e && c' == c)) (λ t1. inr (inr (left_stays sh st.stands p (moved sh p (st.stands p) (Inside x calm) (phase.Look (look.Help who (object a e c) q (copy.Swing t))) Go told (seen (Exchange (place.Entry c e) (word.Entry (state.Locked a q)) (word.Entry (state.Present a t))) st.memory)) (phase.Look (look.Help who (object a e c) q (copy.Swing t))) c' s' at_call (λ y2. cc) (locked_left sh st h c' a e s' (grind (arith, nat_tests)))))) (λ n1. inl (a1, e1, grind (arith, nat_tests)))) (λ y0. let (a1, e1, y) = y0 in (absurd (cc))) (λ y. (absurd (cc))) (r.u_slot c' s' is);
  u_named = λ i c' s' li is. grind (arith, nat_tests, r.u_named i c' s' li, (copies h).j_named p c a e q (copy.Swing t) in_n, (copies h).j_led p c a e q (copy.Swing t) in_n, (copies h).j_entry p c a e q (copy.Swing t) in_n, (copies h).j_locked p c a e q (copy.Swing t) in_n, (copies h).j_left p c a e q (copy.Swing t) in_n, (copies h).j_for p c a e q (copy.Swing t) in_n, (copies h).j_back p c a e q (copy.Swing t) in_n, (calls h).calls p in_n, sections sh st h p in_n);
  u_moves = λ i c' s' t' a' e' li is nm inc. grind (arith, nat_tests, r.u_moves i c' s' t' a' e' li, (copies h).j_named p c a e q (copy.Swing t) in_n, (copies h).j_led p c a e q (copy.Swing t) in_n, (copies h).j_entry p c a e q (copy.Swing t) in_n, (copies h).j_locked p c a e q (copy.Swing t) in_n, (copies h).j_left p c a e q (copy.Swing t) in_n, (copies h).j_for p c a e q (copy.Swing t) in_n, (copies h).j_back p c a e q (copy.Swing t) in_n, (calls h).calls p in_n, sections sh st h p in_n, (calls h).c_leads i c' s' t' li, (calls h).c_moved i c' s' a' e' li, moves_left (st.stands i).phase c' s' t');
}
