-- Steps keep the agreement: moves, looks. Written by tools/laws.py.
use Rattle.std.proofs.Common.{◌≡◌, ℕ, ◌<◌, Bool, true, false, Some, subst, arith}
use Rattle.std.proofs.lemmas.Bool.Decides.{nat_tests}
use Rattle.smc_shape.specs.Layout.{Layout}
use Rattle.smc_shape.specs.declared.place.Place.TheVariants as place
use Rattle.smc_core.specs.declared.call.Call.TheVariants as call
use Rattle.smc_core.specs.declared.call.Choice.TheVariants.{Start, Go}
use Rattle.smc_core.specs.declared.op.Op.TheVariants.{Load, Exchange}
use Rattle.smc_core.specs.declared.phase.Phase.TheVariants as phase
use Rattle.smc_core.specs.declared.phase.objects.LookPhase.TheVariants as look
use Rattle.smc_core.specs.declared.phase.objects.Seeker.{Seeker}
use Rattle.smc_core.specs.declared.section.Section.TheVariants.{Inside}
use Rattle.smc_core.specs.declared.word.State.TheVariants as state
use Rattle.smc_core.specs.declared.word.Word.TheVariants as word
use Rattle.smc_core.specs.Row.{has_place}
use Rattle.smc_core.specs.declared.local.Stand.{Stand}
use Rattle.smc_rules.specs.Calls.{copying_of}
use Rattle.smc_rules.specs.Reads.{state_in, object}
use Rattle.smc_rules.specs.State as S
use Rattle.smc_rules.specs.State.{put_stand}
use Rattle.smc_rules.proofs.CarryLaws.{put_stand-same}
use Rattle.smc_agreement.specs.Kept.{Nothing}
use Rattle.smc_agreement.specs.Agreement.{MovesAgree}
use Rattle.smc_agreement.proofs.Whole.{Shut, calls, moves, did, sections, calms}
use Rattle.smc_agreement.proofs.CrossLaws.{by_eq, load_copies}

-- kind LookUp
pub starts_look : (sh : Layout) (st : S.State) (p : ℕ) (x : ℕ) (calm : Bool) (c : ℕ) (a : ℕ) (e : ℕ) (told : ℕ) → p < sh.passes → (st.stands p).section ≡ Inside x calm → (st.stands p).phase ≡ phase.Idle → has_place sh (place.Entry c e) ≡ true → Shut sh st → Nothing sh st
    → MovesAgree sh (did sh st p (Start (call.Look (object a e c))) (Inside x calm) phase.Idle told (Load (place.Entry c e)))
starts_look sh st p x calm c a e told in_n at_sec at_call pre1 h _ = record {
  standing_in = λ i c' a' e' s' li o is inc. grind (arith, nat_tests, (moves h).standing_in i c' a' e' s' li, (calls h).calls p in_n, sections sh st h p in_n);
  incoming_round = (moves h).incoming_round;
  incoming_in = (moves h).incoming_in;
  incoming_known = (moves h).incoming_known;
  incoming_fwd = (moves h).incoming_fwd;
  unpassed = λ i c' s' li o inc. grind (arith, nat_tests, (moves h).unpassed i c' s' li, (calls h).calls p in_n, sections sh st h p in_n);
  ahead = λ i c' t' a' e' s' li inc nm is. grind (arith, nat_tests, (moves h).ahead i c' t' a' e' s' li, (calls h).calls p in_n, sections sh st h p in_n);
  frozen = (moves h).frozen;
  frozen_held = λ i c' a' e' s' t' r' li is r hd. grind (arith, nat_tests, (moves h).frozen_held i c' a' e' s' t' r' li, (calls h).calls p in_n, sections sh st h p in_n, calms sh st h p in_n);
  frozen_copy = λ i c' a' e' s' r' li is r cp. grind (arith, nat_tests, (moves h).frozen_copy i c' a' e' s' r' li, (calls h).calls p in_n, sections sh st h p in_n);
  abandon = λ i c' a' e' s' t' r' li ab is r. grind (arith, nat_tests, (moves h).abandon i c' a' e' s' t' r' li, (calls h).calls p in_n, sections sh st h p in_n);
  locked = (moves h).locked;
  locked_owner = λ i c' a' e' s' li o is. grind (arith, nat_tests, (moves h).locked_owner i c' a' e' s' li, (calls h).calls p in_n, sections sh st h p in_n);
  begin_copy = λ i j c' s' a' e' t' n' li lj sr cp. grind (arith, nat_tests, (moves h).begin_copy i j c' s' a' e' t' n' li lj, (calls h).calls p in_n, sections sh st h p in_n, (moves h).locked_owner i c' a' e' t' li, (calls h).calls i li);
}

-- kind LoadSection
pub look_out : (sh : Layout) (st : S.State) (p : ℕ) (x : ℕ) (calm : Bool) (c : ℕ) (a : ℕ) (e : ℕ) (told : ℕ) → p < sh.passes → (st.stands p).section ≡ Inside x calm → (st.stands p).phase ≡ phase.Idle → has_place sh (place.Entry c e) ≡ false → Shut sh st → Nothing sh st
    → MovesAgree sh (did sh st p (Start (call.Look (object a e c))) (Inside x calm) phase.Idle told (Load (place.Section p)))
look_out sh st p x calm c a e told in_n at_sec at_call pre1 h _ = record {
  standing_in = λ i c' a' e' s' li o is inc. grind (arith, nat_tests, (moves h).standing_in i c' a' e' s' li, (calls h).calls p in_n, sections sh st h p in_n);
  incoming_round = (moves h).incoming_round;
  incoming_in = (moves h).incoming_in;
  incoming_known = (moves h).incoming_known;
  incoming_fwd = (moves h).incoming_fwd;
  unpassed = λ i c' s' li o inc. grind (arith, nat_tests, (moves h).unpassed i c' s' li, (calls h).calls p in_n, sections sh st h p in_n);
  ahead = λ i c' t' a' e' s' li inc nm is. grind (arith, nat_tests, (moves h).ahead i c' t' a' e' s' li, (calls h).calls p in_n, sections sh st h p in_n);
  frozen = (moves h).frozen;
  frozen_held = λ i c' a' e' s' t' r' li is r hd. grind (arith, nat_tests, (moves h).frozen_held i c' a' e' s' t' r' li, (calls h).calls p in_n, sections sh st h p in_n);
  frozen_copy = λ i c' a' e' s' r' li is r cp. grind (arith, nat_tests, (moves h).frozen_copy i c' a' e' s' r' li, (calls h).calls p in_n, sections sh st h p in_n);
  abandon = λ i c' a' e' s' t' r' li ab is r. grind (arith, nat_tests, (moves h).abandon i c' a' e' s' t' r' li, (calls h).calls p in_n, sections sh st h p in_n);
  locked = (moves h).locked;
  locked_owner = λ i c' a' e' s' li o is. grind (arith, nat_tests, (moves h).locked_owner i c' a' e' s' li, (calls h).calls p in_n, sections sh st h p in_n);
  begin_copy = λ i j c' s' a' e' t' n' li lj sr cp. grind (arith, nat_tests, (moves h).begin_copy i j c' s' a' e' t' n' li lj, (calls h).calls p in_n, sections sh st h p in_n);
}

-- kind LookUp
pub look_load : (sh : Layout) (st : S.State) (p : ℕ) (x : ℕ) (calm : Bool) (who : Seeker) (c : ℕ) (a : ℕ) (e : ℕ) (told : ℕ) → p < sh.passes → (st.stands p).section ≡ Inside x calm → (st.stands p).phase ≡ phase.Look (look.Load who (object a e c)) → Shut sh st → Nothing sh st
    → MovesAgree sh (did sh st p Go (Inside x calm) (phase.Look (look.Load who (object a e c))) told (Load (place.Entry c e)))
look_load sh st p x calm who c a e told in_n at_sec at_call h _ = record {
  standing_in = λ i c' a' e' s' li o is inc. grind (arith, nat_tests, (moves h).standing_in i c' a' e' s' li, (calls h).calls p in_n, sections sh st h p in_n);
  incoming_round = (moves h).incoming_round;
  incoming_in = (moves h).incoming_in;
  incoming_known = (moves h).incoming_known;
  incoming_fwd = (moves h).incoming_fwd;
  unpassed = λ i c' s' li o inc. grind (arith, nat_tests, (moves h).unpassed i c' s' li, (calls h).calls p in_n, sections sh st h p in_n);
  ahead = λ i c' t' a' e' s' li inc nm is. grind (arith, nat_tests, (moves h).ahead i c' t' a' e' s' li, (calls h).calls p in_n, sections sh st h p in_n);
  frozen = (moves h).frozen;
  frozen_held = λ i c' a' e' s' t' r' li is r hd. grind (arith, nat_tests, (moves h).frozen_held i c' a' e' s' t' r' li, (calls h).calls p in_n, sections sh st h p in_n, calms sh st h p in_n);
  frozen_copy = λ i c' a' e' s' r' li is r cp. grind (arith, nat_tests, (moves h).frozen_copy i c' a' e' s' r' li, (calls h).calls p in_n, sections sh st h p in_n);
  abandon = λ i c' a' e' s' t' r' li ab is r. grind (arith, nat_tests, (moves h).abandon i c' a' e' s' t' r' li, (calls h).calls p in_n, sections sh st h p in_n);
  locked = (moves h).locked;
  locked_owner = λ i c' a' e' s' li o is. grind (arith, nat_tests, (moves h).locked_owner i c' a' e' s' li, (calls h).calls p in_n, sections sh st h p in_n);
  begin_copy = λ i j c' s' a' e' t' n' li lj sr cp. by_eq j p (λ y. let z = subst (λ (l : Stand). copying_of l.phase ≡ Some (record { number = object a' e' c'; source = t'; next = n' })) (put_stand-same st.stands p j _ y) cp in let (u, v, u2, n, k) = load_copies sh who calm a e c (state_in st.memory c e) a' e' c' t' n' z in grind (arith, nat_tests, (moves h).locked_owner i c a e t' li, (calls h).calls i li)) (λ n. grind (arith, nat_tests, (moves h).begin_copy i j c' s' a' e' t' n' li lj));
}

-- kind Unfreeze
pub abandon : (sh : Layout) (st : S.State) (p : ℕ) (x : ℕ) (calm : Bool) (who : Seeker) (c : ℕ) (a : ℕ) (e : ℕ) (q : ℕ) (told : ℕ) → p < sh.passes → (st.stands p).section ≡ Inside x calm → (st.stands p).phase ≡ phase.Look (look.Abandon who (object a e c) q) → Shut sh st → Nothing sh st
    → MovesAgree sh (did sh st p Go (Inside x calm) (phase.Look (look.Abandon who (object a e c) q)) told (Exchange (place.Entry c e) (word.Entry (state.Frozen a q)) (word.Entry (state.Present a q))))
abandon sh st p x calm who c a e q told in_n at_sec at_call h _ = record {
  standing_in = λ i c' a' e' s' li o is inc. grind (arith, nat_tests, (moves h).standing_in i c' a' e' s' li, (calls h).calls p in_n, sections sh st h p in_n);
  incoming_round = (moves h).incoming_round;
  incoming_in = (moves h).incoming_in;
  incoming_known = λ c' s' a' e' inc nm. grind (arith, nat_tests, (moves h).incoming_known c' s' a' e', (calls h).calls p in_n, sections sh st h p in_n);
  incoming_fwd = λ c' t' a' e' s' inc nm is. grind (arith, nat_tests, (moves h).incoming_fwd c' t' a' e' s', (calls h).calls p in_n, sections sh st h p in_n);
  unpassed = λ i c' s' li o inc. grind (arith, nat_tests, (moves h).unpassed i c' s' li, (calls h).calls p in_n, sections sh st h p in_n);
  ahead = λ i c' t' a' e' s' li inc nm is. grind (arith, nat_tests, (moves h).ahead i c' t' a' e' s' li, (calls h).calls p in_n, sections sh st h p in_n);
  frozen = λ c' a' e' s' is. grind (arith, nat_tests, (moves h).frozen c' a' e' s', (calls h).calls p in_n, sections sh st h p in_n);
  frozen_held = λ i c' a' e' s' t' r' li is r hd. grind (arith, nat_tests, (moves h).frozen_held i c' a' e' s' t' r' li, (calls h).calls p in_n, sections sh st h p in_n, (moves h).abandon p c a e s' q r' in_n);
  frozen_copy = λ i c' a' e' s' r' li is r cp. grind (arith, nat_tests, (moves h).frozen_copy i c' a' e' s' r' li, (calls h).calls p in_n, sections sh st h p in_n);
  abandon = λ i c' a' e' s' t' r' li ab is r. grind (arith, nat_tests, (moves h).abandon i c' a' e' s' t' r' li, (calls h).calls p in_n, sections sh st h p in_n);
  locked = λ c' a' e' s' is. grind (arith, nat_tests, (moves h).locked c' a' e' s', (calls h).calls p in_n, sections sh st h p in_n);
  locked_owner = λ i c' a' e' s' li o is. grind (arith, nat_tests, (moves h).locked_owner i c' a' e' s' li, (calls h).calls p in_n, sections sh st h p in_n);
  begin_copy = λ i j c' s' a' e' t' n' li lj sr cp. grind (arith, nat_tests, (moves h).begin_copy i j c' s' a' e' t' n' li lj, (calls h).calls p in_n, sections sh st h p in_n, (moves h).locked_owner i c' a' e' t' li, (calls h).calls i li);
}
