-- Steps keep the agreement: claims, helps. Written by tools/laws.py.
use Rattle.std.proofs.Common.{◌≡◌, ℕ, ◌<◌, Bool, arith}
use Rattle.std.proofs.lemmas.Bool.Decides.{nat_tests}
use Rattle.smc_words.specs.declared.layout.TheConstants.{BLANK}
use Rattle.smc_shape.specs.Layout.{Layout}
use Rattle.smc_shape.specs.declared.place.Place.TheVariants as place
use Rattle.smc_core.specs.declared.call.Choice.TheVariants.{Go}
use Rattle.smc_core.specs.declared.op.Op.TheVariants.{Load, Exchange}
use Rattle.smc_core.specs.declared.phase.Phase.TheVariants as phase
use Rattle.smc_core.specs.declared.phase.objects.CopyPhase.TheVariants as copy
use Rattle.smc_core.specs.declared.phase.objects.LookPhase.TheVariants as look
use Rattle.smc_core.specs.declared.phase.objects.Seeker.{Seeker}
use Rattle.smc_core.specs.declared.section.Section.TheVariants.{Inside}
use Rattle.smc_core.specs.declared.word.State.TheVariants as state
use Rattle.smc_core.specs.declared.word.Word.TheVariants as word
use Rattle.smc_rules.specs.Reads.{object}
use Rattle.smc_rules.specs.State as S
use Rattle.smc_rules.specs.State.{put_stand}
use Rattle.smc_agreement.specs.Kept.{Nothing}
use Rattle.smc_agreement.specs.Agreement.{ClaimsAgree}
use Rattle.smc_agreement.proofs.Whole.{Shut, calls, copies, claims, did, sections}

-- kind LoadForward
pub l_fwd : (sh : Layout) (st : S.State) (p : ℕ) (x : ℕ) (calm : Bool) (who : Seeker) (c : ℕ) (a : ℕ) (e : ℕ) (q : ℕ) (told : ℕ) → p < sh.passes → (st.stands p).section ≡ Inside x calm → (st.stands p).phase ≡ phase.Look (look.Help who (object a e c) q copy.Target) → Shut sh st → Nothing sh st
    → ClaimsAgree sh (did sh st p Go (Inside x calm) (phase.Look (look.Help who (object a e c) q copy.Target)) told (Load (place.Forward c q)))
l_fwd sh st p x calm who c a e q told in_n at_sec at_call h _ = record {
  one_slot = λ i j c' s' li lj ei ej. grind (arith, nat_tests, (claims h).one_slot i j c' s' li lj, (copies h).j_named p c a e q copy.Target in_n, (copies h).j_led p c a e q copy.Target in_n, (copies h).j_entry p c a e q copy.Target in_n, (copies h).j_locked p c a e q copy.Target in_n, (copies h).j_left p c a e q copy.Target in_n, (copies h).j_for p c a e q copy.Target in_n, (copies h).j_back p c a e q copy.Target in_n, (calls h).calls p in_n, sections sh st h p in_n);
  one_entry = λ i j c' a' b' e' li lj ei ej. grind (arith, nat_tests, (claims h).one_entry i j c' a' b' e' li lj, (copies h).j_named p c a e q copy.Target in_n, (copies h).j_led p c a e q copy.Target in_n, (copies h).j_entry p c a e q copy.Target in_n, (copies h).j_locked p c a e q copy.Target in_n, (copies h).j_left p c a e q copy.Target in_n, (copies h).j_for p c a e q copy.Target in_n, (copies h).j_back p c a e q copy.Target in_n, (calls h).calls p in_n, sections sh st h p in_n);
  one_gone = λ i j c' a' b' e' li lj ei ej. grind (arith, nat_tests, (claims h).one_gone i j c' a' b' e' li lj, (copies h).j_named p c a e q copy.Target in_n, (copies h).j_led p c a e q copy.Target in_n, (copies h).j_entry p c a e q copy.Target in_n, (copies h).j_locked p c a e q copy.Target in_n, (copies h).j_left p c a e q copy.Target in_n, (copies h).j_for p c a e q copy.Target in_n, (copies h).j_back p c a e q copy.Target in_n, (calls h).calls p in_n, sections sh st h p in_n);
  claimed = λ c' s' is. grind (arith, nat_tests, (claims h).claimed c' s', (copies h).j_named p c a e q copy.Target in_n, (copies h).j_led p c a e q copy.Target in_n, (copies h).j_entry p c a e q copy.Target in_n, (copies h).j_locked p c a e q copy.Target in_n, (copies h).j_left p c a e q copy.Target in_n, (copies h).j_for p c a e q copy.Target in_n, (copies h).j_back p c a e q copy.Target in_n, (calls h).calls p in_n, sections sh st h p in_n);
  taken = λ c' a' e' is. grind (arith, nat_tests, (claims h).taken c' a' e', (copies h).j_named p c a e q copy.Target in_n, (copies h).j_led p c a e q copy.Target in_n, (copies h).j_entry p c a e q copy.Target in_n, (copies h).j_locked p c a e q copy.Target in_n, (copies h).j_left p c a e q copy.Target in_n, (copies h).j_for p c a e q copy.Target in_n, (copies h).j_back p c a e q copy.Target in_n, (calls h).calls p in_n, sections sh st h p in_n);
  removed = λ c' a' e' is. grind (arith, nat_tests, (claims h).removed c' a' e', (copies h).j_named p c a e q copy.Target in_n, (copies h).j_led p c a e q copy.Target in_n, (copies h).j_entry p c a e q copy.Target in_n, (copies h).j_locked p c a e q copy.Target in_n, (copies h).j_left p c a e q copy.Target in_n, (copies h).j_for p c a e q copy.Target in_n, (copies h).j_back p c a e q copy.Target in_n, (calls h).calls p in_n, sections sh st h p in_n);
}

-- kind LoadField
pub l_read : (sh : Layout) (st : S.State) (p : ℕ) (x : ℕ) (calm : Bool) (who : Seeker) (c : ℕ) (a : ℕ) (e : ℕ) (q : ℕ) (t : ℕ) (f : ℕ) (told : ℕ) → p < sh.passes → (st.stands p).section ≡ Inside x calm → (st.stands p).phase ≡ phase.Look (look.Help who (object a e c) q (copy.Load t f)) → Shut sh st → Nothing sh st
    → ClaimsAgree sh (did sh st p Go (Inside x calm) (phase.Look (look.Help who (object a e c) q (copy.Load t f))) told (Load (place.Field c q f)))
l_read sh st p x calm who c a e q t f told in_n at_sec at_call h _ = record {
  one_slot = λ i j c' s' li lj ei ej. grind (arith, nat_tests, (claims h).one_slot i j c' s' li lj, (copies h).j_named p c a e q (copy.Load t f) in_n, (copies h).j_led p c a e q (copy.Load t f) in_n, (copies h).j_entry p c a e q (copy.Load t f) in_n, (copies h).j_locked p c a e q (copy.Load t f) in_n, (copies h).j_left p c a e q (copy.Load t f) in_n, (copies h).j_for p c a e q (copy.Load t f) in_n, (copies h).j_back p c a e q (copy.Load t f) in_n, (calls h).calls p in_n, sections sh st h p in_n);
  one_entry = λ i j c' a' b' e' li lj ei ej. grind (arith, nat_tests, (claims h).one_entry i j c' a' b' e' li lj, (copies h).j_named p c a e q (copy.Load t f) in_n, (copies h).j_led p c a e q (copy.Load t f) in_n, (copies h).j_entry p c a e q (copy.Load t f) in_n, (copies h).j_locked p c a e q (copy.Load t f) in_n, (copies h).j_left p c a e q (copy.Load t f) in_n, (copies h).j_for p c a e q (copy.Load t f) in_n, (copies h).j_back p c a e q (copy.Load t f) in_n, (calls h).calls p in_n, sections sh st h p in_n);
  one_gone = λ i j c' a' b' e' li lj ei ej. grind (arith, nat_tests, (claims h).one_gone i j c' a' b' e' li lj, (copies h).j_named p c a e q (copy.Load t f) in_n, (copies h).j_led p c a e q (copy.Load t f) in_n, (copies h).j_entry p c a e q (copy.Load t f) in_n, (copies h).j_locked p c a e q (copy.Load t f) in_n, (copies h).j_left p c a e q (copy.Load t f) in_n, (copies h).j_for p c a e q (copy.Load t f) in_n, (copies h).j_back p c a e q (copy.Load t f) in_n, (calls h).calls p in_n, sections sh st h p in_n);
  claimed = λ c' s' is. grind (arith, nat_tests, (claims h).claimed c' s', (copies h).j_named p c a e q (copy.Load t f) in_n, (copies h).j_led p c a e q (copy.Load t f) in_n, (copies h).j_entry p c a e q (copy.Load t f) in_n, (copies h).j_locked p c a e q (copy.Load t f) in_n, (copies h).j_left p c a e q (copy.Load t f) in_n, (copies h).j_for p c a e q (copy.Load t f) in_n, (copies h).j_back p c a e q (copy.Load t f) in_n, (calls h).calls p in_n, sections sh st h p in_n);
  taken = λ c' a' e' is. grind (arith, nat_tests, (claims h).taken c' a' e', (copies h).j_named p c a e q (copy.Load t f) in_n, (copies h).j_led p c a e q (copy.Load t f) in_n, (copies h).j_entry p c a e q (copy.Load t f) in_n, (copies h).j_locked p c a e q (copy.Load t f) in_n, (copies h).j_left p c a e q (copy.Load t f) in_n, (copies h).j_for p c a e q (copy.Load t f) in_n, (copies h).j_back p c a e q (copy.Load t f) in_n, (calls h).calls p in_n, sections sh st h p in_n);
  removed = λ c' a' e' is. grind (arith, nat_tests, (claims h).removed c' a' e', (copies h).j_named p c a e q (copy.Load t f) in_n, (copies h).j_led p c a e q (copy.Load t f) in_n, (copies h).j_entry p c a e q (copy.Load t f) in_n, (copies h).j_locked p c a e q (copy.Load t f) in_n, (copies h).j_left p c a e q (copy.Load t f) in_n, (copies h).j_for p c a e q (copy.Load t f) in_n, (copies h).j_back p c a e q (copy.Load t f) in_n, (calls h).calls p in_n, sections sh st h p in_n);
}

-- kind CopyField
pub l_put : (sh : Layout) (st : S.State) (p : ℕ) (x : ℕ) (calm : Bool) (who : Seeker) (c : ℕ) (a : ℕ) (e : ℕ) (q : ℕ) (t : ℕ) (f : ℕ) (w : ℕ) (told : ℕ) → p < sh.passes → (st.stands p).section ≡ Inside x calm → (st.stands p).phase ≡ phase.Look (look.Help who (object a e c) q (copy.Put t f w)) → Shut sh st → Nothing sh st
    → ClaimsAgree sh (did sh st p Go (Inside x calm) (phase.Look (look.Help who (object a e c) q (copy.Put t f w))) told (Exchange (place.Field c t f) (word.Plain BLANK) (word.Plain w)))
l_put sh st p x calm who c a e q t f w told in_n at_sec at_call h _ = record {
  one_slot = λ i j c' s' li lj ei ej. grind (arith, nat_tests, (claims h).one_slot i j c' s' li lj, (copies h).j_named p c a e q (copy.Put t f w) in_n, (copies h).j_led p c a e q (copy.Put t f w) in_n, (copies h).j_entry p c a e q (copy.Put t f w) in_n, (copies h).j_locked p c a e q (copy.Put t f w) in_n, (copies h).j_left p c a e q (copy.Put t f w) in_n, (copies h).j_for p c a e q (copy.Put t f w) in_n, (copies h).j_back p c a e q (copy.Put t f w) in_n, (calls h).calls p in_n, sections sh st h p in_n);
  one_entry = λ i j c' a' b' e' li lj ei ej. grind (arith, nat_tests, (claims h).one_entry i j c' a' b' e' li lj, (copies h).j_named p c a e q (copy.Put t f w) in_n, (copies h).j_led p c a e q (copy.Put t f w) in_n, (copies h).j_entry p c a e q (copy.Put t f w) in_n, (copies h).j_locked p c a e q (copy.Put t f w) in_n, (copies h).j_left p c a e q (copy.Put t f w) in_n, (copies h).j_for p c a e q (copy.Put t f w) in_n, (copies h).j_back p c a e q (copy.Put t f w) in_n, (calls h).calls p in_n, sections sh st h p in_n);
  one_gone = λ i j c' a' b' e' li lj ei ej. grind (arith, nat_tests, (claims h).one_gone i j c' a' b' e' li lj, (copies h).j_named p c a e q (copy.Put t f w) in_n, (copies h).j_led p c a e q (copy.Put t f w) in_n, (copies h).j_entry p c a e q (copy.Put t f w) in_n, (copies h).j_locked p c a e q (copy.Put t f w) in_n, (copies h).j_left p c a e q (copy.Put t f w) in_n, (copies h).j_for p c a e q (copy.Put t f w) in_n, (copies h).j_back p c a e q (copy.Put t f w) in_n, (calls h).calls p in_n, sections sh st h p in_n);
  claimed = λ c' s' is. grind (arith, nat_tests, (claims h).claimed c' s', (copies h).j_named p c a e q (copy.Put t f w) in_n, (copies h).j_led p c a e q (copy.Put t f w) in_n, (copies h).j_entry p c a e q (copy.Put t f w) in_n, (copies h).j_locked p c a e q (copy.Put t f w) in_n, (copies h).j_left p c a e q (copy.Put t f w) in_n, (copies h).j_for p c a e q (copy.Put t f w) in_n, (copies h).j_back p c a e q (copy.Put t f w) in_n, (calls h).calls p in_n, sections sh st h p in_n);
  taken = λ c' a' e' is. grind (arith, nat_tests, (claims h).taken c' a' e', (copies h).j_named p c a e q (copy.Put t f w) in_n, (copies h).j_led p c a e q (copy.Put t f w) in_n, (copies h).j_entry p c a e q (copy.Put t f w) in_n, (copies h).j_locked p c a e q (copy.Put t f w) in_n, (copies h).j_left p c a e q (copy.Put t f w) in_n, (copies h).j_for p c a e q (copy.Put t f w) in_n, (copies h).j_back p c a e q (copy.Put t f w) in_n, (calls h).calls p in_n, sections sh st h p in_n);
  removed = λ c' a' e' is. grind (arith, nat_tests, (claims h).removed c' a' e', (copies h).j_named p c a e q (copy.Put t f w) in_n, (copies h).j_led p c a e q (copy.Put t f w) in_n, (copies h).j_entry p c a e q (copy.Put t f w) in_n, (copies h).j_locked p c a e q (copy.Put t f w) in_n, (copies h).j_left p c a e q (copy.Put t f w) in_n, (copies h).j_for p c a e q (copy.Put t f w) in_n, (copies h).j_back p c a e q (copy.Put t f w) in_n, (calls h).calls p in_n, sections sh st h p in_n);
}

-- kind Swing
pub l_swing : (sh : Layout) (st : S.State) (p : ℕ) (x : ℕ) (calm : Bool) (who : Seeker) (c : ℕ) (a : ℕ) (e : ℕ) (q : ℕ) (t : ℕ) (told : ℕ) → p < sh.passes → (st.stands p).section ≡ Inside x calm → (st.stands p).phase ≡ phase.Look (look.Help who (object a e c) q (copy.Swing t)) → Shut sh st → Nothing sh st
    → ClaimsAgree sh (did sh st p Go (Inside x calm) (phase.Look (look.Help who (object a e c) q (copy.Swing t))) told (Exchange (place.Entry c e) (word.Entry (state.Locked a q)) (word.Entry (state.Present a t))))
l_swing sh st p x calm who c a e q t told in_n at_sec at_call h _ = record {
  one_slot = λ i j c' s' li lj ei ej. grind (arith, nat_tests, (claims h).one_slot i j c' s' li lj, (copies h).j_named p c a e q (copy.Swing t) in_n, (copies h).j_led p c a e q (copy.Swing t) in_n, (copies h).j_entry p c a e q (copy.Swing t) in_n, (copies h).j_locked p c a e q (copy.Swing t) in_n, (copies h).j_left p c a e q (copy.Swing t) in_n, (copies h).j_for p c a e q (copy.Swing t) in_n, (copies h).j_back p c a e q (copy.Swing t) in_n, (calls h).calls p in_n, sections sh st h p in_n);
  one_entry = λ i j c' a' b' e' li lj ei ej. grind (arith, nat_tests, (claims h).one_entry i j c' a' b' e' li lj, (copies h).j_named p c a e q (copy.Swing t) in_n, (copies h).j_led p c a e q (copy.Swing t) in_n, (copies h).j_entry p c a e q (copy.Swing t) in_n, (copies h).j_locked p c a e q (copy.Swing t) in_n, (copies h).j_left p c a e q (copy.Swing t) in_n, (copies h).j_for p c a e q (copy.Swing t) in_n, (copies h).j_back p c a e q (copy.Swing t) in_n, (calls h).calls p in_n, sections sh st h p in_n);
  one_gone = λ i j c' a' b' e' li lj ei ej. grind (arith, nat_tests, (claims h).one_gone i j c' a' b' e' li lj, (copies h).j_named p c a e q (copy.Swing t) in_n, (copies h).j_led p c a e q (copy.Swing t) in_n, (copies h).j_entry p c a e q (copy.Swing t) in_n, (copies h).j_locked p c a e q (copy.Swing t) in_n, (copies h).j_left p c a e q (copy.Swing t) in_n, (copies h).j_for p c a e q (copy.Swing t) in_n, (copies h).j_back p c a e q (copy.Swing t) in_n, (calls h).calls p in_n, sections sh st h p in_n);
  claimed = λ c' s' is. grind (arith, nat_tests, (claims h).claimed c' s', (copies h).j_named p c a e q (copy.Swing t) in_n, (copies h).j_led p c a e q (copy.Swing t) in_n, (copies h).j_entry p c a e q (copy.Swing t) in_n, (copies h).j_locked p c a e q (copy.Swing t) in_n, (copies h).j_left p c a e q (copy.Swing t) in_n, (copies h).j_for p c a e q (copy.Swing t) in_n, (copies h).j_back p c a e q (copy.Swing t) in_n, (calls h).calls p in_n, sections sh st h p in_n);
  taken = λ c' a' e' is. grind (arith, nat_tests, (claims h).taken c' a' e', (copies h).j_named p c a e q (copy.Swing t) in_n, (copies h).j_led p c a e q (copy.Swing t) in_n, (copies h).j_entry p c a e q (copy.Swing t) in_n, (copies h).j_locked p c a e q (copy.Swing t) in_n, (copies h).j_left p c a e q (copy.Swing t) in_n, (copies h).j_for p c a e q (copy.Swing t) in_n, (copies h).j_back p c a e q (copy.Swing t) in_n, (calls h).calls p in_n, sections sh st h p in_n);
  removed = λ c' a' e' is. grind (arith, nat_tests, (claims h).removed c' a' e', (copies h).j_named p c a e q (copy.Swing t) in_n, (copies h).j_led p c a e q (copy.Swing t) in_n, (copies h).j_entry p c a e q (copy.Swing t) in_n, (copies h).j_locked p c a e q (copy.Swing t) in_n, (copies h).j_left p c a e q (copy.Swing t) in_n, (copies h).j_for p c a e q (copy.Swing t) in_n, (copies h).j_back p c a e q (copy.Swing t) in_n, (calls h).calls p in_n, sections sh st h p in_n);
}
