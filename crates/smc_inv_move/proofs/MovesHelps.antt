-- Steps keep the agreement: moves, helps. Written by tools/laws.py.
use Rattle.std.proofs.Common.{◌≡◌, ℕ, ◌<◌, Bool, arith}
use Rattle.std.proofs.lemmas.Bool.Decides.{nat_tests}
use Rattle.smc_words.specs.declared.layout.TheConstants.{BLANK}
use Rattle.smc_shape.specs.Layout.{Layout}
use Rattle.smc_shape.specs.declared.place.Place.TheVariants as place
use Rattle.smc_core.specs.declared.call.Choice.TheVariants.{Go}
use Rattle.smc_core.specs.declared.op.Op.TheVariants.{Load, Exchange}
use Rattle.smc_core.specs.declared.phase.Phase.TheVariants as phase
use Rattle.smc_core.specs.declared.phase.objects.CopyPhase.TheVariants as copy
use Rattle.smc_core.specs.declared.phase.objects.LookPhase.TheVariants as look
use Rattle.smc_core.specs.declared.phase.objects.Seeker.{Seeker}
use Rattle.smc_core.specs.declared.section.Section.TheVariants.{Inside}
use Rattle.smc_core.specs.declared.word.State.TheVariants as state
use Rattle.smc_core.specs.declared.word.Word.TheVariants as word
use Rattle.smc_rules.specs.Reads.{object}
use Rattle.smc_rules.specs.State as S
use Rattle.smc_rules.specs.State.{put_stand}
use Rattle.smc_agreement.specs.Kept.{Nothing}
use Rattle.smc_agreement.specs.Agreement.{MovesAgree}
use Rattle.smc_agreement.proofs.Whole.{Shut, calls, copies, moves, did, sections}
use Rattle.smc_agreement.proofs.CrossLaws.{homes}

-- kind LoadForward
pub l_fwd : (sh : Layout) (st : S.State) (p : ℕ) (x : ℕ) (calm : Bool) (who : Seeker) (c : ℕ) (a : ℕ) (e : ℕ) (q : ℕ) (told : ℕ) → p < sh.passes → (st.stands p).section ≡ Inside x calm → (st.stands p).phase ≡ phase.Look (look.Help who (object a e c) q copy.Target) → Shut sh st → Nothing sh st
    → MovesAgree sh (did sh st p Go (Inside x calm) (phase.Look (look.Help who (object a e c) q copy.Target)) told (Load (place.Forward c q)))
l_fwd sh st p x calm who c a e q told in_n at_sec at_call h _ = record {
  standing_in = λ i c' a' e' s' li o is inc. grind (arith, nat_tests, (moves h).standing_in i c' a' e' s' li, (copies h).j_named p c a e q copy.Target in_n, (copies h).j_led p c a e q copy.Target in_n, (copies h).j_entry p c a e q copy.Target in_n, (copies h).j_locked p c a e q copy.Target in_n, (copies h).j_left p c a e q copy.Target in_n, (copies h).j_for p c a e q copy.Target in_n, (copies h).j_back p c a e q copy.Target in_n, (calls h).calls p in_n, sections sh st h p in_n);
  incoming_round = (moves h).incoming_round;
  incoming_in = (moves h).incoming_in;
  incoming_known = (moves h).incoming_known;
  incoming_fwd = (moves h).incoming_fwd;
  unpassed = λ i c' s' li o inc. grind (arith, nat_tests, (moves h).unpassed i c' s' li, (copies h).j_named p c a e q copy.Target in_n, (copies h).j_led p c a e q copy.Target in_n, (copies h).j_entry p c a e q copy.Target in_n, (copies h).j_locked p c a e q copy.Target in_n, (copies h).j_left p c a e q copy.Target in_n, (copies h).j_for p c a e q copy.Target in_n, (copies h).j_back p c a e q copy.Target in_n, (calls h).calls p in_n, sections sh st h p in_n);
  ahead = λ i c' t' a' e' s' li inc nm is. grind (arith, nat_tests, (moves h).ahead i c' t' a' e' s' li, (copies h).j_named p c a e q copy.Target in_n, (copies h).j_led p c a e q copy.Target in_n, (copies h).j_entry p c a e q copy.Target in_n, (copies h).j_locked p c a e q copy.Target in_n, (copies h).j_left p c a e q copy.Target in_n, (copies h).j_for p c a e q copy.Target in_n, (copies h).j_back p c a e q copy.Target in_n, (calls h).calls p in_n, sections sh st h p in_n);
  frozen = (moves h).frozen;
  frozen_held = λ i c' a' e' s' t' r' li is r hd. grind (arith, nat_tests, (moves h).frozen_held i c' a' e' s' t' r' li, (copies h).j_named p c a e q copy.Target in_n, (copies h).j_led p c a e q copy.Target in_n, (copies h).j_entry p c a e q copy.Target in_n, (copies h).j_locked p c a e q copy.Target in_n, (copies h).j_left p c a e q copy.Target in_n, (copies h).j_for p c a e q copy.Target in_n, (copies h).j_back p c a e q copy.Target in_n, (calls h).calls p in_n, sections sh st h p in_n);
  frozen_copy = λ i c' a' e' s' r' li is r cp. grind (arith, nat_tests, (moves h).frozen_copy i c' a' e' s' r' li, (copies h).j_named p c a e q copy.Target in_n, (copies h).j_led p c a e q copy.Target in_n, (copies h).j_entry p c a e q copy.Target in_n, (copies h).j_locked p c a e q copy.Target in_n, (copies h).j_left p c a e q copy.Target in_n, (copies h).j_for p c a e q copy.Target in_n, (copies h).j_back p c a e q copy.Target in_n, (calls h).calls p in_n, sections sh st h p in_n);
  abandon = λ i c' a' e' s' t' r' li ab is r. grind (arith, nat_tests, (moves h).abandon i c' a' e' s' t' r' li, (copies h).j_named p c a e q copy.Target in_n, (copies h).j_led p c a e q copy.Target in_n, (copies h).j_entry p c a e q copy.Target in_n, (copies h).j_locked p c a e q copy.Target in_n, (copies h).j_left p c a e q copy.Target in_n, (copies h).j_for p c a e q copy.Target in_n, (copies h).j_back p c a e q copy.Target in_n, (calls h).calls p in_n, sections sh st h p in_n);
  locked = (moves h).locked;
  locked_owner = λ i c' a' e' s' li o is. grind (arith, nat_tests, (moves h).locked_owner i c' a' e' s' li, (copies h).j_named p c a e q copy.Target in_n, (copies h).j_led p c a e q copy.Target in_n, (copies h).j_entry p c a e q copy.Target in_n, (copies h).j_locked p c a e q copy.Target in_n, (copies h).j_left p c a e q copy.Target in_n, (copies h).j_for p c a e q copy.Target in_n, (copies h).j_back p c a e q copy.Target in_n, (calls h).calls p in_n, sections sh st h p in_n);
  begin_copy = λ i j c' s' a' e' t' n' li lj sr cp. grind (arith, nat_tests, (moves h).begin_copy i j c' s' a' e' t' n' li lj, (copies h).j_named p c a e q copy.Target in_n, (copies h).j_led p c a e q copy.Target in_n, (copies h).j_entry p c a e q copy.Target in_n, (copies h).j_locked p c a e q copy.Target in_n, (copies h).j_left p c a e q copy.Target in_n, (copies h).j_for p c a e q copy.Target in_n, (copies h).j_back p c a e q copy.Target in_n, (calls h).calls p in_n, sections sh st h p in_n, (moves h).begin_copy i p c' s' a e q copy.Target li in_n);
}

-- kind LoadField
pub l_read : (sh : Layout) (st : S.State) (p : ℕ) (x : ℕ) (calm : Bool) (who : Seeker) (c : ℕ) (a : ℕ) (e : ℕ) (q : ℕ) (t : ℕ) (f : ℕ) (told : ℕ) → p < sh.passes → (st.stands p).section ≡ Inside x calm → (st.stands p).phase ≡ phase.Look (look.Help who (object a e c) q (copy.Load t f)) → Shut sh st → Nothing sh st
    → MovesAgree sh (did sh st p Go (Inside x calm) (phase.Look (look.Help who (object a e c) q (copy.Load t f))) told (Load (place.Field c q f)))
l_read sh st p x calm who c a e q t f told in_n at_sec at_call h _ = record {
  standing_in = λ i c' a' e' s' li o is inc. grind (arith, nat_tests, (moves h).standing_in i c' a' e' s' li, (copies h).j_named p c a e q (copy.Load t f) in_n, (copies h).j_led p c a e q (copy.Load t f) in_n, (copies h).j_entry p c a e q (copy.Load t f) in_n, (copies h).j_locked p c a e q (copy.Load t f) in_n, (copies h).j_left p c a e q (copy.Load t f) in_n, (copies h).j_for p c a e q (copy.Load t f) in_n, (copies h).j_back p c a e q (copy.Load t f) in_n, (calls h).calls p in_n, sections sh st h p in_n);
  incoming_round = (moves h).incoming_round;
  incoming_in = (moves h).incoming_in;
  incoming_known = (moves h).incoming_known;
  incoming_fwd = (moves h).incoming_fwd;
  unpassed = λ i c' s' li o inc. grind (arith, nat_tests, (moves h).unpassed i c' s' li, (copies h).j_named p c a e q (copy.Load t f) in_n, (copies h).j_led p c a e q (copy.Load t f) in_n, (copies h).j_entry p c a e q (copy.Load t f) in_n, (copies h).j_locked p c a e q (copy.Load t f) in_n, (copies h).j_left p c a e q (copy.Load t f) in_n, (copies h).j_for p c a e q (copy.Load t f) in_n, (copies h).j_back p c a e q (copy.Load t f) in_n, (calls h).calls p in_n, sections sh st h p in_n);
  ahead = λ i c' t' a' e' s' li inc nm is. grind (arith, nat_tests, (moves h).ahead i c' t' a' e' s' li, (copies h).j_named p c a e q (copy.Load t f) in_n, (copies h).j_led p c a e q (copy.Load t f) in_n, (copies h).j_entry p c a e q (copy.Load t f) in_n, (copies h).j_locked p c a e q (copy.Load t f) in_n, (copies h).j_left p c a e q (copy.Load t f) in_n, (copies h).j_for p c a e q (copy.Load t f) in_n, (copies h).j_back p c a e q (copy.Load t f) in_n, (calls h).calls p in_n, sections sh st h p in_n);
  frozen = (moves h).frozen;
  frozen_held = λ i c' a' e' s' t' r' li is r hd. grind (arith, nat_tests, (moves h).frozen_held i c' a' e' s' t' r' li, (copies h).j_named p c a e q (copy.Load t f) in_n, (copies h).j_led p c a e q (copy.Load t f) in_n, (copies h).j_entry p c a e q (copy.Load t f) in_n, (copies h).j_locked p c a e q (copy.Load t f) in_n, (copies h).j_left p c a e q (copy.Load t f) in_n, (copies h).j_for p c a e q (copy.Load t f) in_n, (copies h).j_back p c a e q (copy.Load t f) in_n, (calls h).calls p in_n, sections sh st h p in_n);
  frozen_copy = λ i c' a' e' s' r' li is r cp. grind (arith, nat_tests, (moves h).frozen_copy i c' a' e' s' r' li, (copies h).j_named p c a e q (copy.Load t f) in_n, (copies h).j_led p c a e q (copy.Load t f) in_n, (copies h).j_entry p c a e q (copy.Load t f) in_n, (copies h).j_locked p c a e q (copy.Load t f) in_n, (copies h).j_left p c a e q (copy.Load t f) in_n, (copies h).j_for p c a e q (copy.Load t f) in_n, (copies h).j_back p c a e q (copy.Load t f) in_n, (calls h).calls p in_n, sections sh st h p in_n);
  abandon = λ i c' a' e' s' t' r' li ab is r. grind (arith, nat_tests, (moves h).abandon i c' a' e' s' t' r' li, (copies h).j_named p c a e q (copy.Load t f) in_n, (copies h).j_led p c a e q (copy.Load t f) in_n, (copies h).j_entry p c a e q (copy.Load t f) in_n, (copies h).j_locked p c a e q (copy.Load t f) in_n, (copies h).j_left p c a e q (copy.Load t f) in_n, (copies h).j_for p c a e q (copy.Load t f) in_n, (copies h).j_back p c a e q (copy.Load t f) in_n, (calls h).calls p in_n, sections sh st h p in_n);
  locked = (moves h).locked;
  locked_owner = λ i c' a' e' s' li o is. grind (arith, nat_tests, (moves h).locked_owner i c' a' e' s' li, (copies h).j_named p c a e q (copy.Load t f) in_n, (copies h).j_led p c a e q (copy.Load t f) in_n, (copies h).j_entry p c a e q (copy.Load t f) in_n, (copies h).j_locked p c a e q (copy.Load t f) in_n, (copies h).j_left p c a e q (copy.Load t f) in_n, (copies h).j_for p c a e q (copy.Load t f) in_n, (copies h).j_back p c a e q (copy.Load t f) in_n, (calls h).calls p in_n, sections sh st h p in_n);
  begin_copy = λ i j c' s' a' e' t' n' li lj sr cp. grind (arith, nat_tests, (moves h).begin_copy i j c' s' a' e' t' n' li lj, (copies h).j_named p c a e q (copy.Load t f) in_n, (copies h).j_led p c a e q (copy.Load t f) in_n, (copies h).j_entry p c a e q (copy.Load t f) in_n, (copies h).j_locked p c a e q (copy.Load t f) in_n, (copies h).j_left p c a e q (copy.Load t f) in_n, (copies h).j_for p c a e q (copy.Load t f) in_n, (copies h).j_back p c a e q (copy.Load t f) in_n, (calls h).calls p in_n, sections sh st h p in_n, (moves h).begin_copy i p c' s' a e q (copy.Load t f) li in_n);
}

-- kind CopyField
pub l_put : (sh : Layout) (st : S.State) (p : ℕ) (x : ℕ) (calm : Bool) (who : Seeker) (c : ℕ) (a : ℕ) (e : ℕ) (q : ℕ) (t : ℕ) (f : ℕ) (w : ℕ) (told : ℕ) → p < sh.passes → (st.stands p).section ≡ Inside x calm → (st.stands p).phase ≡ phase.Look (look.Help who (object a e c) q (copy.Put t f w)) → Shut sh st → Nothing sh st
    → MovesAgree sh (did sh st p Go (Inside x calm) (phase.Look (look.Help who (object a e c) q (copy.Put t f w))) told (Exchange (place.Field c t f) (word.Plain BLANK) (word.Plain w)))
l_put sh st p x calm who c a e q t f w told in_n at_sec at_call h _ = record {
  standing_in = λ i c' a' e' s' li o is inc. grind (arith, nat_tests, (moves h).standing_in i c' a' e' s' li, (copies h).j_named p c a e q (copy.Put t f w) in_n, (copies h).j_led p c a e q (copy.Put t f w) in_n, (copies h).j_entry p c a e q (copy.Put t f w) in_n, (copies h).j_locked p c a e q (copy.Put t f w) in_n, (copies h).j_left p c a e q (copy.Put t f w) in_n, (copies h).j_for p c a e q (copy.Put t f w) in_n, (copies h).j_back p c a e q (copy.Put t f w) in_n, (calls h).calls p in_n, sections sh st h p in_n);
  incoming_round = (moves h).incoming_round;
  incoming_in = (moves h).incoming_in;
  incoming_known = (moves h).incoming_known;
  incoming_fwd = (moves h).incoming_fwd;
  unpassed = λ i c' s' li o inc. grind (arith, nat_tests, (moves h).unpassed i c' s' li, (copies h).j_named p c a e q (copy.Put t f w) in_n, (copies h).j_led p c a e q (copy.Put t f w) in_n, (copies h).j_entry p c a e q (copy.Put t f w) in_n, (copies h).j_locked p c a e q (copy.Put t f w) in_n, (copies h).j_left p c a e q (copy.Put t f w) in_n, (copies h).j_for p c a e q (copy.Put t f w) in_n, (copies h).j_back p c a e q (copy.Put t f w) in_n, (calls h).calls p in_n, sections sh st h p in_n);
  ahead = λ i c' t' a' e' s' li inc nm is. grind (arith, nat_tests, (moves h).ahead i c' t' a' e' s' li, (copies h).j_named p c a e q (copy.Put t f w) in_n, (copies h).j_led p c a e q (copy.Put t f w) in_n, (copies h).j_entry p c a e q (copy.Put t f w) in_n, (copies h).j_locked p c a e q (copy.Put t f w) in_n, (copies h).j_left p c a e q (copy.Put t f w) in_n, (copies h).j_for p c a e q (copy.Put t f w) in_n, (copies h).j_back p c a e q (copy.Put t f w) in_n, (calls h).calls p in_n, sections sh st h p in_n);
  frozen = (moves h).frozen;
  frozen_held = λ i c' a' e' s' t' r' li is r hd. grind (arith, nat_tests, (moves h).frozen_held i c' a' e' s' t' r' li, (copies h).j_named p c a e q (copy.Put t f w) in_n, (copies h).j_led p c a e q (copy.Put t f w) in_n, (copies h).j_entry p c a e q (copy.Put t f w) in_n, (copies h).j_locked p c a e q (copy.Put t f w) in_n, (copies h).j_left p c a e q (copy.Put t f w) in_n, (copies h).j_for p c a e q (copy.Put t f w) in_n, (copies h).j_back p c a e q (copy.Put t f w) in_n, (calls h).calls p in_n, sections sh st h p in_n);
  frozen_copy = λ i c' a' e' s' r' li is r cp. grind (arith, nat_tests, (moves h).frozen_copy i c' a' e' s' r' li, (copies h).j_named p c a e q (copy.Put t f w) in_n, (copies h).j_led p c a e q (copy.Put t f w) in_n, (copies h).j_entry p c a e q (copy.Put t f w) in_n, (copies h).j_locked p c a e q (copy.Put t f w) in_n, (copies h).j_left p c a e q (copy.Put t f w) in_n, (copies h).j_for p c a e q (copy.Put t f w) in_n, (copies h).j_back p c a e q (copy.Put t f w) in_n, (calls h).calls p in_n, sections sh st h p in_n);
  abandon = λ i c' a' e' s' t' r' li ab is r. grind (arith, nat_tests, (moves h).abandon i c' a' e' s' t' r' li, (copies h).j_named p c a e q (copy.Put t f w) in_n, (copies h).j_led p c a e q (copy.Put t f w) in_n, (copies h).j_entry p c a e q (copy.Put t f w) in_n, (copies h).j_locked p c a e q (copy.Put t f w) in_n, (copies h).j_left p c a e q (copy.Put t f w) in_n, (copies h).j_for p c a e q (copy.Put t f w) in_n, (copies h).j_back p c a e q (copy.Put t f w) in_n, (calls h).calls p in_n, sections sh st h p in_n);
  locked = (moves h).locked;
  locked_owner = λ i c' a' e' s' li o is. grind (arith, nat_tests, (moves h).locked_owner i c' a' e' s' li, (copies h).j_named p c a e q (copy.Put t f w) in_n, (copies h).j_led p c a e q (copy.Put t f w) in_n, (copies h).j_entry p c a e q (copy.Put t f w) in_n, (copies h).j_locked p c a e q (copy.Put t f w) in_n, (copies h).j_left p c a e q (copy.Put t f w) in_n, (copies h).j_for p c a e q (copy.Put t f w) in_n, (copies h).j_back p c a e q (copy.Put t f w) in_n, (calls h).calls p in_n, sections sh st h p in_n);
  begin_copy = λ i j c' s' a' e' t' n' li lj sr cp. grind (arith, nat_tests, (moves h).begin_copy i j c' s' a' e' t' n' li lj, (copies h).j_named p c a e q (copy.Put t f w) in_n, (copies h).j_led p c a e q (copy.Put t f w) in_n, (copies h).j_entry p c a e q (copy.Put t f w) in_n, (copies h).j_locked p c a e q (copy.Put t f w) in_n, (copies h).j_left p c a e q (copy.Put t f w) in_n, (copies h).j_for p c a e q (copy.Put t f w) in_n, (copies h).j_back p c a e q (copy.Put t f w) in_n, (calls h).calls p in_n, sections sh st h p in_n, (moves h).begin_copy i p c' s' a e q (copy.Put t f w) li in_n);
}

-- kind Swing
pub l_swing : (sh : Layout) (st : S.State) (p : ℕ) (x : ℕ) (calm : Bool) (who : Seeker) (c : ℕ) (a : ℕ) (e : ℕ) (q : ℕ) (t : ℕ) (told : ℕ) → p < sh.passes → (st.stands p).section ≡ Inside x calm → (st.stands p).phase ≡ phase.Look (look.Help who (object a e c) q (copy.Swing t)) → Shut sh st → Nothing sh st
    → MovesAgree sh (did sh st p Go (Inside x calm) (phase.Look (look.Help who (object a e c) q (copy.Swing t))) told (Exchange (place.Entry c e) (word.Entry (state.Locked a q)) (word.Entry (state.Present a t))))
l_swing sh st p x calm who c a e q t told in_n at_sec at_call h _ = record {
  standing_in = λ i c' a' e' s' li o is inc. grind (arith, nat_tests, (moves h).standing_in i c' a' e' s' li, (copies h).j_named p c a e q (copy.Swing t) in_n, (copies h).j_led p c a e q (copy.Swing t) in_n, (copies h).j_entry p c a e q (copy.Swing t) in_n, (copies h).j_locked p c a e q (copy.Swing t) in_n, (copies h).j_left p c a e q (copy.Swing t) in_n, (copies h).j_for p c a e q (copy.Swing t) in_n, (copies h).j_back p c a e q (copy.Swing t) in_n, (calls h).calls p in_n, sections sh st h p in_n, (moves h).locked_owner i c a e q li, homes sh st h i li);
  incoming_round = (moves h).incoming_round;
  incoming_in = (moves h).incoming_in;
  incoming_known = λ c' s' a' e' inc nm. grind (arith, nat_tests, (moves h).incoming_known c' s' a' e', (copies h).j_named p c a e q (copy.Swing t) in_n, (copies h).j_led p c a e q (copy.Swing t) in_n, (copies h).j_entry p c a e q (copy.Swing t) in_n, (copies h).j_locked p c a e q (copy.Swing t) in_n, (copies h).j_left p c a e q (copy.Swing t) in_n, (copies h).j_for p c a e q (copy.Swing t) in_n, (copies h).j_back p c a e q (copy.Swing t) in_n, (calls h).calls p in_n, sections sh st h p in_n);
  incoming_fwd = λ c' t' a' e' s' inc nm is. grind (arith, nat_tests, (moves h).incoming_fwd c' t' a' e' s', (copies h).j_named p c a e q (copy.Swing t) in_n, (copies h).j_led p c a e q (copy.Swing t) in_n, (copies h).j_entry p c a e q (copy.Swing t) in_n, (copies h).j_locked p c a e q (copy.Swing t) in_n, (copies h).j_left p c a e q (copy.Swing t) in_n, (copies h).j_for p c a e q (copy.Swing t) in_n, (copies h).j_back p c a e q (copy.Swing t) in_n, (calls h).calls p in_n, sections sh st h p in_n, (moves h).incoming_fwd c' t' a e q);
  unpassed = λ i c' s' li o inc. grind (arith, nat_tests, (moves h).unpassed i c' s' li, (copies h).j_named p c a e q (copy.Swing t) in_n, (copies h).j_led p c a e q (copy.Swing t) in_n, (copies h).j_entry p c a e q (copy.Swing t) in_n, (copies h).j_locked p c a e q (copy.Swing t) in_n, (copies h).j_left p c a e q (copy.Swing t) in_n, (copies h).j_for p c a e q (copy.Swing t) in_n, (copies h).j_back p c a e q (copy.Swing t) in_n, (calls h).calls p in_n, sections sh st h p in_n);
  ahead = λ i c' t' a' e' s' li inc nm is. grind (arith, nat_tests, (moves h).ahead i c' t' a' e' s' li, (copies h).j_named p c a e q (copy.Swing t) in_n, (copies h).j_led p c a e q (copy.Swing t) in_n, (copies h).j_entry p c a e q (copy.Swing t) in_n, (copies h).j_locked p c a e q (copy.Swing t) in_n, (copies h).j_left p c a e q (copy.Swing t) in_n, (copies h).j_for p c a e q (copy.Swing t) in_n, (copies h).j_back p c a e q (copy.Swing t) in_n, (calls h).calls p in_n, sections sh st h p in_n, (moves h).locked_owner i c' a e q li, (calls h).calls i li);
  frozen = λ c' a' e' s' is. grind (arith, nat_tests, (moves h).frozen c' a' e' s', (copies h).j_named p c a e q (copy.Swing t) in_n, (copies h).j_led p c a e q (copy.Swing t) in_n, (copies h).j_entry p c a e q (copy.Swing t) in_n, (copies h).j_locked p c a e q (copy.Swing t) in_n, (copies h).j_left p c a e q (copy.Swing t) in_n, (copies h).j_for p c a e q (copy.Swing t) in_n, (copies h).j_back p c a e q (copy.Swing t) in_n, (calls h).calls p in_n, sections sh st h p in_n);
  frozen_held = λ i c' a' e' s' t' r' li is r hd. grind (arith, nat_tests, (moves h).frozen_held i c' a' e' s' t' r' li, (copies h).j_named p c a e q (copy.Swing t) in_n, (copies h).j_led p c a e q (copy.Swing t) in_n, (copies h).j_entry p c a e q (copy.Swing t) in_n, (copies h).j_locked p c a e q (copy.Swing t) in_n, (copies h).j_left p c a e q (copy.Swing t) in_n, (copies h).j_for p c a e q (copy.Swing t) in_n, (copies h).j_back p c a e q (copy.Swing t) in_n, (calls h).calls p in_n, sections sh st h p in_n, (moves h).frozen_copy p c a e s' r' in_n);
  frozen_copy = λ i c' a' e' s' r' li is r cp. grind (arith, nat_tests, (moves h).frozen_copy i c' a' e' s' r' li, (copies h).j_named p c a e q (copy.Swing t) in_n, (copies h).j_led p c a e q (copy.Swing t) in_n, (copies h).j_entry p c a e q (copy.Swing t) in_n, (copies h).j_locked p c a e q (copy.Swing t) in_n, (copies h).j_left p c a e q (copy.Swing t) in_n, (copies h).j_for p c a e q (copy.Swing t) in_n, (copies h).j_back p c a e q (copy.Swing t) in_n, (calls h).calls p in_n, sections sh st h p in_n);
  abandon = λ i c' a' e' s' t' r' li ab is r. grind (arith, nat_tests, (moves h).abandon i c' a' e' s' t' r' li, (copies h).j_named p c a e q (copy.Swing t) in_n, (copies h).j_led p c a e q (copy.Swing t) in_n, (copies h).j_entry p c a e q (copy.Swing t) in_n, (copies h).j_locked p c a e q (copy.Swing t) in_n, (copies h).j_left p c a e q (copy.Swing t) in_n, (copies h).j_for p c a e q (copy.Swing t) in_n, (copies h).j_back p c a e q (copy.Swing t) in_n, (calls h).calls p in_n, sections sh st h p in_n);
  locked = λ c' a' e' s' is. grind (arith, nat_tests, (moves h).locked c' a' e' s', (copies h).j_named p c a e q (copy.Swing t) in_n, (copies h).j_led p c a e q (copy.Swing t) in_n, (copies h).j_entry p c a e q (copy.Swing t) in_n, (copies h).j_locked p c a e q (copy.Swing t) in_n, (copies h).j_left p c a e q (copy.Swing t) in_n, (copies h).j_for p c a e q (copy.Swing t) in_n, (copies h).j_back p c a e q (copy.Swing t) in_n, (calls h).calls p in_n, sections sh st h p in_n);
  locked_owner = λ i c' a' e' s' li o is. grind (arith, nat_tests, (moves h).locked_owner i c' a' e' s' li, (copies h).j_named p c a e q (copy.Swing t) in_n, (copies h).j_led p c a e q (copy.Swing t) in_n, (copies h).j_entry p c a e q (copy.Swing t) in_n, (copies h).j_locked p c a e q (copy.Swing t) in_n, (copies h).j_left p c a e q (copy.Swing t) in_n, (copies h).j_for p c a e q (copy.Swing t) in_n, (copies h).j_back p c a e q (copy.Swing t) in_n, (calls h).calls p in_n, sections sh st h p in_n);
  begin_copy = λ i j c' s' a' e' t' n' li lj sr cp. grind (arith, nat_tests, (moves h).begin_copy i j c' s' a' e' t' n' li lj, (copies h).j_named p c a e q (copy.Swing t) in_n, (copies h).j_led p c a e q (copy.Swing t) in_n, (copies h).j_entry p c a e q (copy.Swing t) in_n, (copies h).j_locked p c a e q (copy.Swing t) in_n, (copies h).j_left p c a e q (copy.Swing t) in_n, (copies h).j_for p c a e q (copy.Swing t) in_n, (copies h).j_back p c a e q (copy.Swing t) in_n, (calls h).calls p in_n, sections sh st h p in_n);
}
