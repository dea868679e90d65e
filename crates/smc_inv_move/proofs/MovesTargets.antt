-- Steps keep the agreement: moves, targets. Written by tools/laws.py.
use Rattle.std.proofs.Common.{◌≡◌, ℕ, ◌+◌, ◌<◌, Bool, Some, arith}
use Rattle.std.proofs.lemmas.Bool.Decides.{nat_tests}
use Rattle.smc_words.specs.declared.layout.TheConstants.{BLANK}
use Rattle.smc_words.specs.declared.dir.Dir.{Dir}
use Rattle.smc_words.specs.declared.dir.Dir.TheVariants as dir
use Rattle.smc_shape.specs.Layout.{Layout}
use Rattle.smc_shape.specs.declared.place.Place.TheVariants as place
use Rattle.smc_core.specs.declared.call.Choice.TheVariants.{Go}
use Rattle.smc_core.specs.declared.op.Op.TheVariants.{Load, Store, Exchange}
use Rattle.smc_core.specs.declared.phase.Phase.TheVariants as phase
use Rattle.smc_core.specs.declared.phase.moves.BeginPhase.TheVariants as begin
use Rattle.smc_core.specs.declared.phase.moves.Walk.{Walk}
use Rattle.smc_core.specs.declared.section.Section.TheVariants.{Inside}
use Rattle.smc_core.specs.declared.word.State.TheVariants as state
use Rattle.smc_core.specs.declared.word.Word.TheVariants as word
use Rattle.smc_rules.specs.Reads.{object}
use Rattle.smc_rules.specs.State as S
use Rattle.smc_rules.specs.State.{put_stand}
use Rattle.smc_agreement.specs.Kept.{Nothing}
use Rattle.smc_agreement.specs.Agreement.{MovesAgree}
use Rattle.smc_agreement.proofs.Whole.{Shut, calls, objects, moves, did, sections, owner, owner_same}
use Rattle.smc_agreement.proofs.CrossLaws.{below, in_round, not_claimed}

-- kind LoadDirectory
pub target_dir : (sh : Layout) (st : S.State) (p : ℕ) (x : ℕ) (calm : Bool) (m : Walk) (a : ℕ) (e : ℕ) (told : ℕ) → p < sh.passes → (st.stands p).section ≡ Inside x calm → (st.stands p).phase ≡ phase.Begin (begin.TargetDirectory m (object a e m.coll)) → Shut sh st → Nothing sh st
    → MovesAgree sh (did sh st p Go (Inside x calm) (phase.Begin (begin.TargetDirectory m (object a e m.coll))) told (Load (place.Directory m.coll m.target)))
target_dir sh st p x calm m a e told in_n at_sec at_call h _ = record {
  standing_in = λ i c' a' e' s' li o is inc. grind (arith, nat_tests, (moves h).standing_in i c' a' e' s' li, (calls h).c_origin p m.coll m.source a e in_n, (calls h).c_source p m.coll m.source a e in_n, (calls h).c_resting p m.coll m.source a e in_n, below sh st h p in_n (begin.TargetDirectory m (object a e m.coll)) at_call, (calls h).calls p in_n, sections sh st h p in_n);
  incoming_round = (moves h).incoming_round;
  incoming_in = (moves h).incoming_in;
  incoming_known = (moves h).incoming_known;
  incoming_fwd = (moves h).incoming_fwd;
  unpassed = λ i c' s' li o inc. grind (arith, nat_tests, (moves h).unpassed i c' s' li, (calls h).c_origin p m.coll m.source a e in_n, (calls h).c_source p m.coll m.source a e in_n, (calls h).c_resting p m.coll m.source a e in_n, below sh st h p in_n (begin.TargetDirectory m (object a e m.coll)) at_call, (calls h).calls p in_n, sections sh st h p in_n);
  ahead = λ i c' t' a' e' s' li inc nm is. grind (arith, nat_tests, (moves h).ahead i c' t' a' e' s' li, (calls h).c_origin p m.coll m.source a e in_n, (calls h).c_source p m.coll m.source a e in_n, (calls h).c_resting p m.coll m.source a e in_n, below sh st h p in_n (begin.TargetDirectory m (object a e m.coll)) at_call, (calls h).calls p in_n, sections sh st h p in_n);
  frozen = (moves h).frozen;
  frozen_held = λ i c' a' e' s' t' r' li is r hd. grind (arith, nat_tests, (moves h).frozen_held i c' a' e' s' t' r' li, (calls h).c_origin p m.coll m.source a e in_n, (calls h).c_source p m.coll m.source a e in_n, (calls h).c_resting p m.coll m.source a e in_n, below sh st h p in_n (begin.TargetDirectory m (object a e m.coll)) at_call, (calls h).calls p in_n, sections sh st h p in_n);
  frozen_copy = λ i c' a' e' s' r' li is r cp. grind (arith, nat_tests, (moves h).frozen_copy i c' a' e' s' r' li, (calls h).c_origin p m.coll m.source a e in_n, (calls h).c_source p m.coll m.source a e in_n, (calls h).c_resting p m.coll m.source a e in_n, below sh st h p in_n (begin.TargetDirectory m (object a e m.coll)) at_call, (calls h).calls p in_n, sections sh st h p in_n);
  abandon = λ i c' a' e' s' t' r' li ab is r. grind (arith, nat_tests, (moves h).abandon i c' a' e' s' t' r' li, (calls h).c_origin p m.coll m.source a e in_n, (calls h).c_source p m.coll m.source a e in_n, (calls h).c_resting p m.coll m.source a e in_n, below sh st h p in_n (begin.TargetDirectory m (object a e m.coll)) at_call, (calls h).calls p in_n, sections sh st h p in_n);
  locked = (moves h).locked;
  locked_owner = λ i c' a' e' s' li o is. grind (arith, nat_tests, (moves h).locked_owner i c' a' e' s' li, (calls h).c_origin p m.coll m.source a e in_n, (calls h).c_source p m.coll m.source a e in_n, (calls h).c_resting p m.coll m.source a e in_n, below sh st h p in_n (begin.TargetDirectory m (object a e m.coll)) at_call, (calls h).calls p in_n, sections sh st h p in_n);
  begin_copy = λ i j c' s' a' e' t' n' li lj sr cp. grind (arith, nat_tests, (moves h).begin_copy i j c' s' a' e' t' n' li lj, (calls h).c_origin p m.coll m.source a e in_n, (calls h).c_source p m.coll m.source a e in_n, (calls h).c_resting p m.coll m.source a e in_n, below sh st h p in_n (begin.TargetDirectory m (object a e m.coll)) at_call, (calls h).calls p in_n, sections sh st h p in_n);
}

-- kind ClaimSlot
pub claim_target : (sh : Layout) (st : S.State) (p : ℕ) (x : ℕ) (calm : Bool) (m : Walk) (a : ℕ) (e : ℕ) (d : Dir) (told : ℕ) → p < sh.passes → (st.stands p).section ≡ Inside x calm → (st.stands p).phase ≡ phase.Begin (begin.ClaimTarget m (object a e m.coll) d) → Shut sh st → Nothing sh st
    → MovesAgree sh (did sh st p Go (Inside x calm) (phase.Begin (begin.ClaimTarget m (object a e m.coll) d)) told (Exchange (place.Directory m.coll m.target) (word.Directory d) (word.Directory dir.Claimed)))
claim_target sh st p x calm m a e d told in_n at_sec at_call h _ = record {
  standing_in = λ i c' a' e' s' li o is inc. grind (arith, nat_tests, (moves h).standing_in i c' a' e' s' li, (calls h).c_origin p m.coll m.source a e in_n, (calls h).c_source p m.coll m.source a e in_n, (calls h).c_resting p m.coll m.source a e in_n, below sh st h p in_n (begin.ClaimTarget m (object a e m.coll) d) at_call, (calls h).calls p in_n, sections sh st h p in_n);
  incoming_round = λ c' s' inc. grind (arith, nat_tests, (moves h).incoming_round c' s', (calls h).c_origin p m.coll m.source a e in_n, (calls h).c_source p m.coll m.source a e in_n, (calls h).c_resting p m.coll m.source a e in_n, below sh st h p in_n (begin.ClaimTarget m (object a e m.coll) d) at_call, (calls h).calls p in_n, sections sh st h p in_n);
  incoming_in = λ c' s' inc. grind (arith, nat_tests, (moves h).incoming_in c' s', (calls h).c_origin p m.coll m.source a e in_n, (calls h).c_source p m.coll m.source a e in_n, (calls h).c_resting p m.coll m.source a e in_n, below sh st h p in_n (begin.ClaimTarget m (object a e m.coll) d) at_call, (calls h).calls p in_n, sections sh st h p in_n);
  incoming_known = λ c' s' a' e' inc nm. grind (arith, nat_tests, (moves h).incoming_known c' s' a' e', (calls h).c_origin p m.coll m.source a e in_n, (calls h).c_source p m.coll m.source a e in_n, (calls h).c_resting p m.coll m.source a e in_n, below sh st h p in_n (begin.ClaimTarget m (object a e m.coll) d) at_call, (calls h).calls p in_n, sections sh st h p in_n);
  incoming_fwd = λ c' t' a' e' s' inc nm is. grind (arith, nat_tests, (moves h).incoming_fwd c' t' a' e' s', (calls h).c_origin p m.coll m.source a e in_n, (calls h).c_source p m.coll m.source a e in_n, (calls h).c_resting p m.coll m.source a e in_n, below sh st h p in_n (begin.ClaimTarget m (object a e m.coll) d) at_call, (calls h).calls p in_n, sections sh st h p in_n);
  unpassed = λ i c' s' li o inc. grind (arith, nat_tests, (moves h).unpassed i c' s' li, (calls h).c_origin p m.coll m.source a e in_n, (calls h).c_source p m.coll m.source a e in_n, (calls h).c_resting p m.coll m.source a e in_n, below sh st h p in_n (begin.ClaimTarget m (object a e m.coll) d) at_call, (calls h).calls p in_n, sections sh st h p in_n);
  ahead = λ i c' t' a' e' s' li inc nm is. grind (arith, nat_tests, (moves h).ahead i c' t' a' e' s' li, (calls h).c_origin p m.coll m.source a e in_n, (calls h).c_source p m.coll m.source a e in_n, (calls h).c_resting p m.coll m.source a e in_n, below sh st h p in_n (begin.ClaimTarget m (object a e m.coll) d) at_call, (calls h).calls p in_n, sections sh st h p in_n);
  frozen = λ c' a' e' s' is. grind (arith, nat_tests, (moves h).frozen c' a' e' s', (calls h).c_origin p m.coll m.source a e in_n, (calls h).c_source p m.coll m.source a e in_n, (calls h).c_resting p m.coll m.source a e in_n, below sh st h p in_n (begin.ClaimTarget m (object a e m.coll) d) at_call, (calls h).calls p in_n, sections sh st h p in_n);
  frozen_held = λ i c' a' e' s' t' r' li is r hd. grind (arith, nat_tests, (moves h).frozen_held i c' a' e' s' t' r' li, (calls h).c_origin p m.coll m.source a e in_n, (calls h).c_source p m.coll m.source a e in_n, (calls h).c_resting p m.coll m.source a e in_n, below sh st h p in_n (begin.ClaimTarget m (object a e m.coll) d) at_call, (calls h).calls p in_n, sections sh st h p in_n);
  frozen_copy = λ i c' a' e' s' r' li is r cp. grind (arith, nat_tests, (moves h).frozen_copy i c' a' e' s' r' li, (calls h).c_origin p m.coll m.source a e in_n, (calls h).c_source p m.coll m.source a e in_n, (calls h).c_resting p m.coll m.source a e in_n, below sh st h p in_n (begin.ClaimTarget m (object a e m.coll) d) at_call, (calls h).calls p in_n, sections sh st h p in_n);
  abandon = λ i c' a' e' s' t' r' li ab is r. grind (arith, nat_tests, (moves h).abandon i c' a' e' s' t' r' li, (calls h).c_origin p m.coll m.source a e in_n, (calls h).c_source p m.coll m.source a e in_n, (calls h).c_resting p m.coll m.source a e in_n, below sh st h p in_n (begin.ClaimTarget m (object a e m.coll) d) at_call, (calls h).calls p in_n, sections sh st h p in_n);
  locked = λ c' a' e' s' is. grind (arith, nat_tests, (moves h).locked c' a' e' s', (calls h).c_origin p m.coll m.source a e in_n, (calls h).c_source p m.coll m.source a e in_n, (calls h).c_resting p m.coll m.source a e in_n, below sh st h p in_n (begin.ClaimTarget m (object a e m.coll) d) at_call, (calls h).calls p in_n, sections sh st h p in_n);
  locked_owner = λ i c' a' e' s' li o is. grind (arith, nat_tests, (moves h).locked_owner i c' a' e' s' li, (calls h).c_origin p m.coll m.source a e in_n, (calls h).c_source p m.coll m.source a e in_n, (calls h).c_resting p m.coll m.source a e in_n, below sh st h p in_n (begin.ClaimTarget m (object a e m.coll) d) at_call, (calls h).calls p in_n, sections sh st h p in_n);
  begin_copy = λ i j c' s' a' e' t' n' li lj sr cp. grind (arith, nat_tests, (moves h).begin_copy i j c' s' a' e' t' n' li lj, (calls h).c_origin p m.coll m.source a e in_n, (calls h).c_source p m.coll m.source a e in_n, (calls h).c_resting p m.coll m.source a e in_n, below sh st h p in_n (begin.ClaimTarget m (object a e m.coll) d) at_call, (calls h).calls p in_n, sections sh st h p in_n);
}

-- kind StoreField
pub blank_field : (sh : Layout) (st : S.State) (p : ℕ) (x : ℕ) (calm : Bool) (m : Walk) (a : ℕ) (e : ℕ) (f : ℕ) (told : ℕ) → p < sh.passes → (st.stands p).section ≡ Inside x calm → (st.stands p).phase ≡ phase.Begin (begin.BlankField m (object a e m.coll) f) → Shut sh st → Nothing sh st
    → MovesAgree sh (did sh st p Go (Inside x calm) (phase.Begin (begin.BlankField m (object a e m.coll) f)) told (Store (place.Field m.coll m.target f) (word.Plain BLANK)))
blank_field sh st p x calm m a e f told in_n at_sec at_call h _ = record {
  standing_in = λ i c' a' e' s' li o is inc. grind (arith, nat_tests, (moves h).standing_in i c' a' e' s' li, (calls h).c_slot p m.coll m.target in_n, (calls h).c_origin p m.coll m.source a e in_n, (calls h).c_source p m.coll m.source a e in_n, (calls h).c_resting p m.coll m.source a e in_n, below sh st h p in_n (begin.BlankField m (object a e m.coll) f) at_call, (calls h).calls p in_n, sections sh st h p in_n);
  incoming_round = (moves h).incoming_round;
  incoming_in = (moves h).incoming_in;
  incoming_known = (moves h).incoming_known;
  incoming_fwd = (moves h).incoming_fwd;
  unpassed = λ i c' s' li o inc. grind (arith, nat_tests, (moves h).unpassed i c' s' li, (calls h).c_slot p m.coll m.target in_n, (calls h).c_origin p m.coll m.source a e in_n, (calls h).c_source p m.coll m.source a e in_n, (calls h).c_resting p m.coll m.source a e in_n, below sh st h p in_n (begin.BlankField m (object a e m.coll) f) at_call, (calls h).calls p in_n, sections sh st h p in_n);
  ahead = λ i c' t' a' e' s' li inc nm is. grind (arith, nat_tests, (moves h).ahead i c' t' a' e' s' li, (calls h).c_slot p m.coll m.target in_n, (calls h).c_origin p m.coll m.source a e in_n, (calls h).c_source p m.coll m.source a e in_n, (calls h).c_resting p m.coll m.source a e in_n, below sh st h p in_n (begin.BlankField m (object a e m.coll) f) at_call, (calls h).calls p in_n, sections sh st h p in_n);
  frozen = (moves h).frozen;
  frozen_held = λ i c' a' e' s' t' r' li is r hd. grind (arith, nat_tests, (moves h).frozen_held i c' a' e' s' t' r' li, (calls h).c_slot p m.coll m.target in_n, (calls h).c_origin p m.coll m.source a e in_n, (calls h).c_source p m.coll m.source a e in_n, (calls h).c_resting p m.coll m.source a e in_n, below sh st h p in_n (begin.BlankField m (object a e m.coll) f) at_call, (calls h).calls p in_n, sections sh st h p in_n);
  frozen_copy = λ i c' a' e' s' r' li is r cp. grind (arith, nat_tests, (moves h).frozen_copy i c' a' e' s' r' li, (calls h).c_slot p m.coll m.target in_n, (calls h).c_origin p m.coll m.source a e in_n, (calls h).c_source p m.coll m.source a e in_n, (calls h).c_resting p m.coll m.source a e in_n, below sh st h p in_n (begin.BlankField m (object a e m.coll) f) at_call, (calls h).calls p in_n, sections sh st h p in_n);
  abandon = λ i c' a' e' s' t' r' li ab is r. grind (arith, nat_tests, (moves h).abandon i c' a' e' s' t' r' li, (calls h).c_slot p m.coll m.target in_n, (calls h).c_origin p m.coll m.source a e in_n, (calls h).c_source p m.coll m.source a e in_n, (calls h).c_resting p m.coll m.source a e in_n, below sh st h p in_n (begin.BlankField m (object a e m.coll) f) at_call, (calls h).calls p in_n, sections sh st h p in_n);
  locked = (moves h).locked;
  locked_owner = λ i c' a' e' s' li o is. grind (arith, nat_tests, (moves h).locked_owner i c' a' e' s' li, (calls h).c_slot p m.coll m.target in_n, (calls h).c_origin p m.coll m.source a e in_n, (calls h).c_source p m.coll m.source a e in_n, (calls h).c_resting p m.coll m.source a e in_n, below sh st h p in_n (begin.BlankField m (object a e m.coll) f) at_call, (calls h).calls p in_n, sections sh st h p in_n);
  begin_copy = λ i j c' s' a' e' t' n' li lj sr cp. grind (arith, nat_tests, (moves h).begin_copy i j c' s' a' e' t' n' li lj, (calls h).c_slot p m.coll m.target in_n, (calls h).c_origin p m.coll m.source a e in_n, (calls h).c_source p m.coll m.source a e in_n, (calls h).c_resting p m.coll m.source a e in_n, below sh st h p in_n (begin.BlankField m (object a e m.coll) f) at_call, (calls h).calls p in_n, sections sh st h p in_n);
}

-- kind StoreBack
pub name_target : (sh : Layout) (st : S.State) (p : ℕ) (x : ℕ) (calm : Bool) (m : Walk) (a : ℕ) (e : ℕ) (told : ℕ) → p < sh.passes → (st.stands p).section ≡ Inside x calm → (st.stands p).phase ≡ phase.Begin (begin.StoreBack m (object a e m.coll)) → Shut sh st → Nothing sh st
    → MovesAgree sh (did sh st p Go (Inside x calm) (phase.Begin (begin.StoreBack m (object a e m.coll))) told (Store (place.Back m.coll m.target) (word.Back (Some (object a e m.coll)))))
name_target sh st p x calm m a e told in_n at_sec at_call h _ = record {
  standing_in = λ i c' a' e' s' li o is inc. grind (arith, nat_tests, (moves h).standing_in i c' a' e' s' li, (calls h).c_slot p m.coll m.target in_n, (calls h).c_origin p m.coll m.source a e in_n, (calls h).c_source p m.coll m.source a e in_n, (calls h).c_resting p m.coll m.source a e in_n, below sh st h p in_n (begin.StoreBack m (object a e m.coll)) at_call, (calls h).calls p in_n, sections sh st h p in_n);
  incoming_round = (moves h).incoming_round;
  incoming_in = (moves h).incoming_in;
  incoming_known = λ c' s' a' e' inc nm. grind (arith, nat_tests, (moves h).incoming_known c' s' a' e', (calls h).c_slot p m.coll m.target in_n, (calls h).c_origin p m.coll m.source a e in_n, (calls h).c_source p m.coll m.source a e in_n, (calls h).c_resting p m.coll m.source a e in_n, below sh st h p in_n (begin.StoreBack m (object a e m.coll)) at_call, (calls h).calls p in_n, sections sh st h p in_n);
  incoming_fwd = λ c' t' a' e' s' inc nm is. grind (arith, nat_tests, (moves h).incoming_fwd c' t' a' e' s', (calls h).c_slot p m.coll m.target in_n, (calls h).c_origin p m.coll m.source a e in_n, (calls h).c_source p m.coll m.source a e in_n, (calls h).c_resting p m.coll m.source a e in_n, below sh st h p in_n (begin.StoreBack m (object a e m.coll)) at_call, (calls h).calls p in_n, sections sh st h p in_n);
  unpassed = λ i c' s' li o inc. grind (arith, nat_tests, (moves h).unpassed i c' s' li, (calls h).c_slot p m.coll m.target in_n, (calls h).c_origin p m.coll m.source a e in_n, (calls h).c_source p m.coll m.source a e in_n, (calls h).c_resting p m.coll m.source a e in_n, below sh st h p in_n (begin.StoreBack m (object a e m.coll)) at_call, (calls h).calls p in_n, sections sh st h p in_n);
  ahead = λ i c' t' a' e' s' li inc nm is. grind (arith, nat_tests, (moves h).ahead i c' t' a' e' s' li, (calls h).c_slot p m.coll m.target in_n, (calls h).c_origin p m.coll m.source a e in_n, (calls h).c_source p m.coll m.source a e in_n, (calls h).c_resting p m.coll m.source a e in_n, below sh st h p in_n (begin.StoreBack m (object a e m.coll)) at_call, (calls h).calls p in_n, sections sh st h p in_n);
  frozen = λ c' a' e' s' is. grind (arith, nat_tests, (moves h).frozen c' a' e' s', (calls h).c_slot p m.coll m.target in_n, (calls h).c_origin p m.coll m.source a e in_n, (calls h).c_source p m.coll m.source a e in_n, (calls h).c_resting p m.coll m.source a e in_n, below sh st h p in_n (begin.StoreBack m (object a e m.coll)) at_call, (calls h).calls p in_n, sections sh st h p in_n);
  frozen_held = λ i c' a' e' s' t' r' li is r hd. grind (arith, nat_tests, (moves h).frozen_held i c' a' e' s' t' r' li, (calls h).c_slot p m.coll m.target in_n, (calls h).c_origin p m.coll m.source a e in_n, (calls h).c_source p m.coll m.source a e in_n, (calls h).c_resting p m.coll m.source a e in_n, below sh st h p in_n (begin.StoreBack m (object a e m.coll)) at_call, (calls h).calls p in_n, sections sh st h p in_n);
  frozen_copy = λ i c' a' e' s' r' li is r cp. grind (arith, nat_tests, (moves h).frozen_copy i c' a' e' s' r' li, (calls h).c_slot p m.coll m.target in_n, (calls h).c_origin p m.coll m.source a e in_n, (calls h).c_source p m.coll m.source a e in_n, (calls h).c_resting p m.coll m.source a e in_n, below sh st h p in_n (begin.StoreBack m (object a e m.coll)) at_call, (calls h).calls p in_n, sections sh st h p in_n);
  abandon = λ i c' a' e' s' t' r' li ab is r. grind (arith, nat_tests, (moves h).abandon i c' a' e' s' t' r' li, (calls h).c_slot p m.coll m.target in_n, (calls h).c_origin p m.coll m.source a e in_n, (calls h).c_source p m.coll m.source a e in_n, (calls h).c_resting p m.coll m.source a e in_n, below sh st h p in_n (begin.StoreBack m (object a e m.coll)) at_call, (calls h).calls p in_n, sections sh st h p in_n);
  locked = λ c' a' e' s' is. grind (arith, nat_tests, (moves h).locked c' a' e' s', (calls h).c_slot p m.coll m.target in_n, (calls h).c_origin p m.coll m.source a e in_n, (calls h).c_source p m.coll m.source a e in_n, (calls h).c_resting p m.coll m.source a e in_n, below sh st h p in_n (begin.StoreBack m (object a e m.coll)) at_call, (calls h).calls p in_n, sections sh st h p in_n);
  locked_owner = λ i c' a' e' s' li o is. grind (arith, nat_tests, (moves h).locked_owner i c' a' e' s' li, (calls h).c_slot p m.coll m.target in_n, (calls h).c_origin p m.coll m.source a e in_n, (calls h).c_source p m.coll m.source a e in_n, (calls h).c_resting p m.coll m.source a e in_n, below sh st h p in_n (begin.StoreBack m (object a e m.coll)) at_call, (calls h).calls p in_n, sections sh st h p in_n);
  begin_copy = λ i j c' s' a' e' t' n' li lj sr cp. grind (arith, nat_tests, (moves h).begin_copy i j c' s' a' e' t' n' li lj, (calls h).c_slot p m.coll m.target in_n, (calls h).c_origin p m.coll m.source a e in_n, (calls h).c_source p m.coll m.source a e in_n, (calls h).c_resting p m.coll m.source a e in_n, below sh st h p in_n (begin.StoreBack m (object a e m.coll)) at_call, (calls h).calls p in_n, sections sh st h p in_n);
}

-- kind StoreForward
pub lead_source : (sh : Layout) (st : S.State) (p : ℕ) (x : ℕ) (calm : Bool) (m : Walk) (a : ℕ) (e : ℕ) (told : ℕ) → p < sh.passes → (st.stands p).section ≡ Inside x calm → (st.stands p).phase ≡ phase.Begin (begin.StoreForward m (object a e m.coll)) → Shut sh st → Nothing sh st
    → MovesAgree sh (did sh st p Go (Inside x calm) (phase.Begin (begin.StoreForward m (object a e m.coll))) told (Store (place.Forward m.coll m.source) (word.Forward m.target)))
lead_source sh st p x calm m a e told in_n at_sec at_call h _ = record {
  standing_in = λ i c' a' e' s' li o is inc. grind (arith, nat_tests, (moves h).standing_in i c' a' e' s' li, (calls h).c_slot p m.coll m.target in_n, (calls h).c_named p m.coll m.target a e in_n, (calls h).c_origin p m.coll m.source a e in_n, (calls h).c_source p m.coll m.source a e in_n, (calls h).c_resting p m.coll m.source a e in_n, below sh st h p in_n (begin.StoreForward m (object a e m.coll)) at_call, (calls h).calls p in_n, sections sh st h p in_n);
  incoming_round = (moves h).incoming_round;
  incoming_in = (moves h).incoming_in;
  incoming_known = (moves h).incoming_known;
  incoming_fwd = λ c' t' a' e' s' inc nm is. grind (arith, nat_tests, (moves h).incoming_fwd c' t' a' e' s', (calls h).c_slot p m.coll m.target in_n, (calls h).c_named p m.coll m.target a e in_n, (calls h).c_origin p m.coll m.source a e in_n, (calls h).c_source p m.coll m.source a e in_n, (calls h).c_resting p m.coll m.source a e in_n, below sh st h p in_n (begin.StoreForward m (object a e m.coll)) at_call, (calls h).calls p in_n, sections sh st h p in_n, (moves h).ahead p c' t' a' e' s' in_n, (moves h).locked_owner p c' a' e' s' in_n);
  unpassed = λ i c' s' li o inc. grind (arith, nat_tests, (moves h).unpassed i c' s' li, (calls h).c_slot p m.coll m.target in_n, (calls h).c_named p m.coll m.target a e in_n, (calls h).c_origin p m.coll m.source a e in_n, (calls h).c_source p m.coll m.source a e in_n, (calls h).c_resting p m.coll m.source a e in_n, below sh st h p in_n (begin.StoreForward m (object a e m.coll)) at_call, (calls h).calls p in_n, sections sh st h p in_n);
  ahead = λ i c' t' a' e' s' li inc nm is. grind (arith, nat_tests, (moves h).ahead i c' t' a' e' s' li, (calls h).c_slot p m.coll m.target in_n, (calls h).c_named p m.coll m.target a e in_n, (calls h).c_origin p m.coll m.source a e in_n, (calls h).c_source p m.coll m.source a e in_n, (calls h).c_resting p m.coll m.source a e in_n, below sh st h p in_n (begin.StoreForward m (object a e m.coll)) at_call, (calls h).calls p in_n, sections sh st h p in_n);
  frozen = λ c' a' e' s' is. grind (arith, nat_tests, (moves h).frozen c' a' e' s', (calls h).c_slot p m.coll m.target in_n, (calls h).c_named p m.coll m.target a e in_n, (calls h).c_origin p m.coll m.source a e in_n, (calls h).c_source p m.coll m.source a e in_n, (calls h).c_resting p m.coll m.source a e in_n, below sh st h p in_n (begin.StoreForward m (object a e m.coll)) at_call, (calls h).calls p in_n, sections sh st h p in_n, (objects h).standing c' a' e' s');
  frozen_held = λ i c' a' e' s' t' r' li is r hd. grind (arith, nat_tests, (moves h).frozen_held i c' a' e' s' t' r' li, (calls h).c_slot p m.coll m.target in_n, (calls h).c_named p m.coll m.target a e in_n, (calls h).c_origin p m.coll m.source a e in_n, (calls h).c_source p m.coll m.source a e in_n, (calls h).c_resting p m.coll m.source a e in_n, below sh st h p in_n (begin.StoreForward m (object a e m.coll)) at_call, (calls h).calls p in_n, sections sh st h p in_n);
  frozen_copy = λ i c' a' e' s' r' li is r cp. grind (arith, nat_tests, (moves h).frozen_copy i c' a' e' s' r' li, (calls h).c_slot p m.coll m.target in_n, (calls h).c_named p m.coll m.target a e in_n, (calls h).c_origin p m.coll m.source a e in_n, (calls h).c_source p m.coll m.source a e in_n, (calls h).c_resting p m.coll m.source a e in_n, below sh st h p in_n (begin.StoreForward m (object a e m.coll)) at_call, (calls h).calls p in_n, sections sh st h p in_n);
  abandon = λ i c' a' e' s' t' r' li ab is r. grind (arith, nat_tests, (moves h).abandon i c' a' e' s' t' r' li, (calls h).c_slot p m.coll m.target in_n, (calls h).c_named p m.coll m.target a e in_n, (calls h).c_origin p m.coll m.source a e in_n, (calls h).c_source p m.coll m.source a e in_n, (calls h).c_resting p m.coll m.source a e in_n, below sh st h p in_n (begin.StoreForward m (object a e m.coll)) at_call, (calls h).calls p in_n, sections sh st h p in_n);
  locked = λ c' a' e' s' is. grind (arith, nat_tests, (moves h).locked c' a' e' s', (calls h).c_slot p m.coll m.target in_n, (calls h).c_named p m.coll m.target a e in_n, (calls h).c_origin p m.coll m.source a e in_n, (calls h).c_source p m.coll m.source a e in_n, (calls h).c_resting p m.coll m.source a e in_n, below sh st h p in_n (begin.StoreForward m (object a e m.coll)) at_call, (calls h).calls p in_n, sections sh st h p in_n, (moves h).locked_owner p c' a' e' s' in_n);
  locked_owner = λ i c' a' e' s' li o is. grind (arith, nat_tests, (moves h).locked_owner i c' a' e' s' li, (calls h).c_slot p m.coll m.target in_n, (calls h).c_named p m.coll m.target a e in_n, (calls h).c_origin p m.coll m.source a e in_n, (calls h).c_source p m.coll m.source a e in_n, (calls h).c_resting p m.coll m.source a e in_n, below sh st h p in_n (begin.StoreForward m (object a e m.coll)) at_call, (calls h).calls p in_n, sections sh st h p in_n, (moves h).locked_owner p c' a' e' s' in_n);
  begin_copy = λ i j c' s' a' e' t' n' li lj sr cp. grind (arith, nat_tests, (moves h).begin_copy i j c' s' a' e' t' n' li lj, (calls h).c_slot p m.coll m.target in_n, (calls h).c_named p m.coll m.target a e in_n, (calls h).c_origin p m.coll m.source a e in_n, (calls h).c_source p m.coll m.source a e in_n, (calls h).c_resting p m.coll m.source a e in_n, below sh st h p in_n (begin.StoreForward m (object a e m.coll)) at_call, (calls h).calls p in_n, sections sh st h p in_n);
}

-- kind StoreIncoming
pub store_incoming : (sh : Layout) (st : S.State) (p : ℕ) (x : ℕ) (calm : Bool) (m : Walk) (a : ℕ) (e : ℕ) (told : ℕ) → p < sh.passes → (st.stands p).section ≡ Inside x calm → (st.stands p).phase ≡ phase.Begin (begin.StoreIncoming m (object a e m.coll)) → Shut sh st → Nothing sh st
    → MovesAgree sh (did sh st p Go (Inside x calm) (phase.Begin (begin.StoreIncoming m (object a e m.coll))) told (Store (place.Directory m.coll m.target) (word.Directory dir.Incoming)))
store_incoming sh st p x calm m a e told in_n at_sec at_call h _ = record {
  standing_in = λ i c' a' e' s' li o is inc. grind (arith, nat_tests, (moves h).standing_in i c' a' e' s' li, (calls h).c_slot p m.coll m.target in_n, (calls h).c_named p m.coll m.target a e in_n, (calls h).c_leads p m.coll m.source m.target in_n, (calls h).c_origin p m.coll m.source a e in_n, (calls h).c_source p m.coll m.source a e in_n, (calls h).c_resting p m.coll m.source a e in_n, below sh st h p in_n (begin.StoreIncoming m (object a e m.coll)) at_call, (calls h).calls p in_n, sections sh st h p in_n, not_claimed sh st h c' a' e' s');
  incoming_round = λ c' s' inc. grind (arith, nat_tests, (moves h).incoming_round c' s', (calls h).c_slot p m.coll m.target in_n, (calls h).c_named p m.coll m.target a e in_n, (calls h).c_leads p m.coll m.source m.target in_n, (calls h).c_origin p m.coll m.source a e in_n, (calls h).c_source p m.coll m.source a e in_n, (calls h).c_resting p m.coll m.source a e in_n, below sh st h p in_n (begin.StoreIncoming m (object a e m.coll)) at_call, (calls h).calls p in_n, sections sh st h p in_n, owner sh st h p (x + 1) m.coll in_n);
  incoming_in = λ c' s' inc. grind (arith, nat_tests, (moves h).incoming_in c' s', (calls h).c_slot p m.coll m.target in_n, (calls h).c_named p m.coll m.target a e in_n, (calls h).c_leads p m.coll m.source m.target in_n, (calls h).c_origin p m.coll m.source a e in_n, (calls h).c_source p m.coll m.source a e in_n, (calls h).c_resting p m.coll m.source a e in_n, below sh st h p in_n (begin.StoreIncoming m (object a e m.coll)) at_call, (calls h).calls p in_n, sections sh st h p in_n);
  incoming_known = λ c' s' a' e' inc nm. grind (arith, nat_tests, (moves h).incoming_known c' s' a' e', (calls h).c_slot p m.coll m.target in_n, (calls h).c_named p m.coll m.target a e in_n, (calls h).c_leads p m.coll m.source m.target in_n, (calls h).c_origin p m.coll m.source a e in_n, (calls h).c_source p m.coll m.source a e in_n, (calls h).c_resting p m.coll m.source a e in_n, below sh st h p in_n (begin.StoreIncoming m (object a e m.coll)) at_call, (calls h).calls p in_n, sections sh st h p in_n);
  incoming_fwd = λ c' t' a' e' s' inc nm is. grind (arith, nat_tests, (moves h).incoming_fwd c' t' a' e' s', (calls h).c_slot p m.coll m.target in_n, (calls h).c_named p m.coll m.target a e in_n, (calls h).c_leads p m.coll m.source m.target in_n, (calls h).c_origin p m.coll m.source a e in_n, (calls h).c_source p m.coll m.source a e in_n, (calls h).c_resting p m.coll m.source a e in_n, below sh st h p in_n (begin.StoreIncoming m (object a e m.coll)) at_call, (calls h).calls p in_n, sections sh st h p in_n);
  unpassed = λ i c' s' li o inc. grind (arith, nat_tests, (moves h).unpassed i c' s' li, (calls h).c_slot p m.coll m.target in_n, (calls h).c_named p m.coll m.target a e in_n, (calls h).c_leads p m.coll m.source m.target in_n, (calls h).c_origin p m.coll m.source a e in_n, (calls h).c_source p m.coll m.source a e in_n, (calls h).c_resting p m.coll m.source a e in_n, below sh st h p in_n (begin.StoreIncoming m (object a e m.coll)) at_call, (calls h).calls p in_n, sections sh st h p in_n, owner_same sh st h i p li in_n);
  ahead = λ i c' t' a' e' s' li inc nm is. grind (arith, nat_tests, (moves h).ahead i c' t' a' e' s' li, (calls h).c_slot p m.coll m.target in_n, (calls h).c_named p m.coll m.target a e in_n, (calls h).c_leads p m.coll m.source m.target in_n, (calls h).c_origin p m.coll m.source a e in_n, (calls h).c_source p m.coll m.source a e in_n, (calls h).c_resting p m.coll m.source a e in_n, below sh st h p in_n (begin.StoreIncoming m (object a e m.coll)) at_call, (calls h).calls p in_n, sections sh st h p in_n, (calls h).calls i li, owner_same sh st h i p li in_n);
  frozen = λ c' a' e' s' is. grind (arith, nat_tests, (moves h).frozen c' a' e' s', (calls h).c_slot p m.coll m.target in_n, (calls h).c_named p m.coll m.target a e in_n, (calls h).c_leads p m.coll m.source m.target in_n, (calls h).c_origin p m.coll m.source a e in_n, (calls h).c_source p m.coll m.source a e in_n, (calls h).c_resting p m.coll m.source a e in_n, below sh st h p in_n (begin.StoreIncoming m (object a e m.coll)) at_call, (calls h).calls p in_n, sections sh st h p in_n);
  frozen_held = λ i c' a' e' s' t' r' li is r hd. grind (arith, nat_tests, (moves h).frozen_held i c' a' e' s' t' r' li, (calls h).c_slot p m.coll m.target in_n, (calls h).c_named p m.coll m.target a e in_n, (calls h).c_leads p m.coll m.source m.target in_n, (calls h).c_origin p m.coll m.source a e in_n, (calls h).c_source p m.coll m.source a e in_n, (calls h).c_resting p m.coll m.source a e in_n, below sh st h p in_n (begin.StoreIncoming m (object a e m.coll)) at_call, (calls h).calls p in_n, sections sh st h p in_n);
  frozen_copy = λ i c' a' e' s' r' li is r cp. grind (arith, nat_tests, (moves h).frozen_copy i c' a' e' s' r' li, (calls h).c_slot p m.coll m.target in_n, (calls h).c_named p m.coll m.target a e in_n, (calls h).c_leads p m.coll m.source m.target in_n, (calls h).c_origin p m.coll m.source a e in_n, (calls h).c_source p m.coll m.source a e in_n, (calls h).c_resting p m.coll m.source a e in_n, below sh st h p in_n (begin.StoreIncoming m (object a e m.coll)) at_call, (calls h).calls p in_n, sections sh st h p in_n);
  abandon = λ i c' a' e' s' t' r' li ab is r. grind (arith, nat_tests, (moves h).abandon i c' a' e' s' t' r' li, (calls h).c_slot p m.coll m.target in_n, (calls h).c_named p m.coll m.target a e in_n, (calls h).c_leads p m.coll m.source m.target in_n, (calls h).c_origin p m.coll m.source a e in_n, (calls h).c_source p m.coll m.source a e in_n, (calls h).c_resting p m.coll m.source a e in_n, below sh st h p in_n (begin.StoreIncoming m (object a e m.coll)) at_call, (calls h).calls p in_n, sections sh st h p in_n);
  locked = λ c' a' e' s' is. grind (arith, nat_tests, (moves h).locked c' a' e' s', (calls h).c_slot p m.coll m.target in_n, (calls h).c_named p m.coll m.target a e in_n, (calls h).c_leads p m.coll m.source m.target in_n, (calls h).c_origin p m.coll m.source a e in_n, (calls h).c_source p m.coll m.source a e in_n, (calls h).c_resting p m.coll m.source a e in_n, below sh st h p in_n (begin.StoreIncoming m (object a e m.coll)) at_call, (calls h).calls p in_n, sections sh st h p in_n);
  locked_owner = λ i c' a' e' s' li o is. grind (arith, nat_tests, (moves h).locked_owner i c' a' e' s' li, (calls h).c_slot p m.coll m.target in_n, (calls h).c_named p m.coll m.target a e in_n, (calls h).c_leads p m.coll m.source m.target in_n, (calls h).c_origin p m.coll m.source a e in_n, (calls h).c_source p m.coll m.source a e in_n, (calls h).c_resting p m.coll m.source a e in_n, below sh st h p in_n (begin.StoreIncoming m (object a e m.coll)) at_call, (calls h).calls p in_n, sections sh st h p in_n);
  begin_copy = λ i j c' s' a' e' t' n' li lj sr cp. grind (arith, nat_tests, (moves h).begin_copy i j c' s' a' e' t' n' li lj, (calls h).c_slot p m.coll m.target in_n, (calls h).c_named p m.coll m.target a e in_n, (calls h).c_leads p m.coll m.source m.target in_n, (calls h).c_origin p m.coll m.source a e in_n, (calls h).c_source p m.coll m.source a e in_n, (calls h).c_resting p m.coll m.source a e in_n, below sh st h p in_n (begin.StoreIncoming m (object a e m.coll)) at_call, (calls h).calls p in_n, sections sh st h p in_n);
}

-- kind Freeze
pub freeze : (sh : Layout) (st : S.State) (p : ℕ) (x : ℕ) (calm : Bool) (m : Walk) (a : ℕ) (e : ℕ) (told : ℕ) → p < sh.passes → (st.stands p).section ≡ Inside x calm → (st.stands p).phase ≡ phase.Begin (begin.Freeze m (object a e m.coll)) → Shut sh st → Nothing sh st
    → MovesAgree sh (did sh st p Go (Inside x calm) (phase.Begin (begin.Freeze m (object a e m.coll))) told (Exchange (place.Entry m.coll e) (word.Entry (state.Present a m.source)) (word.Entry (state.Frozen a m.source))))
freeze sh st p x calm m a e told in_n at_sec at_call h _ = record {
  standing_in = λ i c' a' e' s' li o is inc. grind (arith, nat_tests, (moves h).standing_in i c' a' e' s' li, (calls h).c_named p m.coll m.target a e in_n, (calls h).c_target p m.coll m.target in_n, (calls h).c_leads p m.coll m.source m.target in_n, (calls h).c_origin p m.coll m.source a e in_n, (calls h).c_source p m.coll m.source a e in_n, (calls h).c_resting p m.coll m.source a e in_n, below sh st h p in_n (begin.Freeze m (object a e m.coll)) at_call, (calls h).calls p in_n, sections sh st h p in_n);
  incoming_round = (moves h).incoming_round;
  incoming_in = (moves h).incoming_in;
  incoming_known = λ c' s' a' e' inc nm. grind (arith, nat_tests, (moves h).incoming_known c' s' a' e', (calls h).c_named p m.coll m.target a e in_n, (calls h).c_target p m.coll m.target in_n, (calls h).c_leads p m.coll m.source m.target in_n, (calls h).c_origin p m.coll m.source a e in_n, (calls h).c_source p m.coll m.source a e in_n, (calls h).c_resting p m.coll m.source a e in_n, below sh st h p in_n (begin.Freeze m (object a e m.coll)) at_call, (calls h).calls p in_n, sections sh st h p in_n);
  incoming_fwd = λ c' t' a' e' s' inc nm is. grind (arith, nat_tests, (moves h).incoming_fwd c' t' a' e' s', (calls h).c_named p m.coll m.target a e in_n, (calls h).c_target p m.coll m.target in_n, (calls h).c_leads p m.coll m.source m.target in_n, (calls h).c_origin p m.coll m.source a e in_n, (calls h).c_source p m.coll m.source a e in_n, (calls h).c_resting p m.coll m.source a e in_n, below sh st h p in_n (begin.Freeze m (object a e m.coll)) at_call, (calls h).calls p in_n, sections sh st h p in_n);
  unpassed = λ i c' s' li o inc. grind (arith, nat_tests, (moves h).unpassed i c' s' li, (calls h).c_named p m.coll m.target a e in_n, (calls h).c_target p m.coll m.target in_n, (calls h).c_leads p m.coll m.source m.target in_n, (calls h).c_origin p m.coll m.source a e in_n, (calls h).c_source p m.coll m.source a e in_n, (calls h).c_resting p m.coll m.source a e in_n, below sh st h p in_n (begin.Freeze m (object a e m.coll)) at_call, (calls h).calls p in_n, sections sh st h p in_n);
  ahead = λ i c' t' a' e' s' li inc nm is. grind (arith, nat_tests, (moves h).ahead i c' t' a' e' s' li, (calls h).c_named p m.coll m.target a e in_n, (calls h).c_target p m.coll m.target in_n, (calls h).c_leads p m.coll m.source m.target in_n, (calls h).c_origin p m.coll m.source a e in_n, (calls h).c_source p m.coll m.source a e in_n, (calls h).c_resting p m.coll m.source a e in_n, below sh st h p in_n (begin.Freeze m (object a e m.coll)) at_call, (calls h).calls p in_n, sections sh st h p in_n);
  frozen = λ c' a' e' s' is. grind (arith, nat_tests, (moves h).frozen c' a' e' s', (calls h).c_named p m.coll m.target a e in_n, (calls h).c_target p m.coll m.target in_n, (calls h).c_leads p m.coll m.source m.target in_n, (calls h).c_origin p m.coll m.source a e in_n, (calls h).c_source p m.coll m.source a e in_n, (calls h).c_resting p m.coll m.source a e in_n, below sh st h p in_n (begin.Freeze m (object a e m.coll)) at_call, (calls h).calls p in_n, sections sh st h p in_n, owner sh st h p (x + 1) m.coll in_n);
  frozen_held = λ i c' a' e' s' t' r' li is r hd. grind (arith, nat_tests, (moves h).frozen_held i c' a' e' s' t' r' li, (calls h).c_named p m.coll m.target a e in_n, (calls h).c_target p m.coll m.target in_n, (calls h).c_leads p m.coll m.source m.target in_n, (calls h).c_origin p m.coll m.source a e in_n, (calls h).c_source p m.coll m.source a e in_n, (calls h).c_resting p m.coll m.source a e in_n, below sh st h p in_n (begin.Freeze m (object a e m.coll)) at_call, (calls h).calls p in_n, sections sh st h p in_n, sections sh st h i li, (objects h).held i c' a' e' t' li, owner sh st h p (x + 1) m.coll in_n);
  frozen_copy = λ i c' a' e' s' r' li is r cp. grind (arith, nat_tests, (moves h).frozen_copy i c' a' e' s' r' li, (calls h).c_named p m.coll m.target a e in_n, (calls h).c_target p m.coll m.target in_n, (calls h).c_leads p m.coll m.source m.target in_n, (calls h).c_origin p m.coll m.source a e in_n, (calls h).c_source p m.coll m.source a e in_n, (calls h).c_resting p m.coll m.source a e in_n, below sh st h p in_n (begin.Freeze m (object a e m.coll)) at_call, (calls h).calls p in_n, sections sh st h p in_n, sections sh st h i li, (calls h).calls i li, owner sh st h p (x + 1) m.coll in_n);
  abandon = λ i c' a' e' s' t' r' li ab is r. grind (arith, nat_tests, (moves h).abandon i c' a' e' s' t' r' li, (calls h).c_named p m.coll m.target a e in_n, (calls h).c_target p m.coll m.target in_n, (calls h).c_leads p m.coll m.source m.target in_n, (calls h).c_origin p m.coll m.source a e in_n, (calls h).c_source p m.coll m.source a e in_n, (calls h).c_resting p m.coll m.source a e in_n, below sh st h p in_n (begin.Freeze m (object a e m.coll)) at_call, (calls h).calls p in_n, sections sh st h p in_n, sections sh st h i li, (calls h).calls i li, owner sh st h p (x + 1) m.coll in_n);
  locked = λ c' a' e' s' is. grind (arith, nat_tests, (moves h).locked c' a' e' s', (calls h).c_named p m.coll m.target a e in_n, (calls h).c_target p m.coll m.target in_n, (calls h).c_leads p m.coll m.source m.target in_n, (calls h).c_origin p m.coll m.source a e in_n, (calls h).c_source p m.coll m.source a e in_n, (calls h).c_resting p m.coll m.source a e in_n, below sh st h p in_n (begin.Freeze m (object a e m.coll)) at_call, (calls h).calls p in_n, sections sh st h p in_n);
  locked_owner = λ i c' a' e' s' li o is. grind (arith, nat_tests, (moves h).locked_owner i c' a' e' s' li, (calls h).c_named p m.coll m.target a e in_n, (calls h).c_target p m.coll m.target in_n, (calls h).c_leads p m.coll m.source m.target in_n, (calls h).c_origin p m.coll m.source a e in_n, (calls h).c_source p m.coll m.source a e in_n, (calls h).c_resting p m.coll m.source a e in_n, below sh st h p in_n (begin.Freeze m (object a e m.coll)) at_call, (calls h).calls p in_n, sections sh st h p in_n);
  begin_copy = λ i j c' s' a' e' t' n' li lj sr cp. grind (arith, nat_tests, (moves h).begin_copy i j c' s' a' e' t' n' li lj, (calls h).c_named p m.coll m.target a e in_n, (calls h).c_target p m.coll m.target in_n, (calls h).c_leads p m.coll m.source m.target in_n, (calls h).c_origin p m.coll m.source a e in_n, (calls h).c_source p m.coll m.source a e in_n, (calls h).c_resting p m.coll m.source a e in_n, below sh st h p in_n (begin.Freeze m (object a e m.coll)) at_call, (calls h).calls p in_n, sections sh st h p in_n);
}

-- kind LeaveSlot
pub begin_gives : (sh : Layout) (st : S.State) (p : ℕ) (x : ℕ) (calm : Bool) (m : Walk) (told : ℕ) → p < sh.passes → (st.stands p).section ≡ Inside x calm → (st.stands p).phase ≡ phase.Begin (begin.GiveUp m) → Shut sh st → Nothing sh st
    → MovesAgree sh (did sh st p Go (Inside x calm) (phase.Begin (begin.GiveUp m)) told (Store (place.Directory m.coll m.target) (word.Directory (dir.Limbo (x + 1)))))
begin_gives sh st p x calm m told in_n at_sec at_call h _ = record {
  standing_in = λ i c' a' e' s' li o is inc. grind (arith, nat_tests, (moves h).standing_in i c' a' e' s' li, (calls h).c_target p m.coll m.target in_n, (calls h).c_leads p m.coll m.source m.target in_n, (calls h).c_loose p m.coll m.target a' e' in_n, below sh st h p in_n (begin.GiveUp m) at_call, (calls h).calls p in_n, sections sh st h p in_n);
  incoming_round = λ c' s' inc. grind (arith, nat_tests, (moves h).incoming_round c' s', (calls h).c_target p m.coll m.target in_n, (calls h).c_leads p m.coll m.source m.target in_n, below sh st h p in_n (begin.GiveUp m) at_call, (calls h).calls p in_n, sections sh st h p in_n);
  incoming_in = λ c' s' inc. grind (arith, nat_tests, (moves h).incoming_in c' s', (calls h).c_target p m.coll m.target in_n, (calls h).c_leads p m.coll m.source m.target in_n, below sh st h p in_n (begin.GiveUp m) at_call, (calls h).calls p in_n, sections sh st h p in_n);
  incoming_known = λ c' s' a' e' inc nm. grind (arith, nat_tests, (moves h).incoming_known c' s' a' e', (calls h).c_target p m.coll m.target in_n, (calls h).c_leads p m.coll m.source m.target in_n, (calls h).c_loose p m.coll m.target a' e' in_n, below sh st h p in_n (begin.GiveUp m) at_call, (calls h).calls p in_n, sections sh st h p in_n);
  incoming_fwd = λ c' t' a' e' s' inc nm is. grind (arith, nat_tests, (moves h).incoming_fwd c' t' a' e' s', (calls h).c_target p m.coll m.target in_n, (calls h).c_leads p m.coll m.source m.target in_n, (calls h).c_loose p m.coll m.target a' e' in_n, below sh st h p in_n (begin.GiveUp m) at_call, (calls h).calls p in_n, sections sh st h p in_n);
  unpassed = λ i c' s' li o inc. grind (arith, nat_tests, (moves h).unpassed i c' s' li, (calls h).c_target p m.coll m.target in_n, (calls h).c_leads p m.coll m.source m.target in_n, below sh st h p in_n (begin.GiveUp m) at_call, (calls h).calls p in_n, sections sh st h p in_n, (moves h).incoming_in c' s', (moves h).incoming_round c' s', in_round sh st h p c' in_n, owner_same sh st h i p li in_n);
  ahead = λ i c' t' a' e' s' li inc nm is. grind (arith, nat_tests, (moves h).ahead i c' t' a' e' s' li, (calls h).c_target p m.coll m.target in_n, (calls h).c_leads p m.coll m.source m.target in_n, (calls h).c_loose p m.coll m.target a' e' in_n, below sh st h p in_n (begin.GiveUp m) at_call, (calls h).calls p in_n, sections sh st h p in_n);
  frozen = λ c' a' e' s' is. grind (arith, nat_tests, (moves h).frozen c' a' e' s', (calls h).c_target p m.coll m.target in_n, (calls h).c_leads p m.coll m.source m.target in_n, (calls h).c_loose p m.coll m.target a' e' in_n, below sh st h p in_n (begin.GiveUp m) at_call, (calls h).calls p in_n, sections sh st h p in_n);
  frozen_held = λ i c' a' e' s' t' r' li is r hd. grind (arith, nat_tests, (moves h).frozen_held i c' a' e' s' t' r' li, (calls h).c_target p m.coll m.target in_n, (calls h).c_leads p m.coll m.source m.target in_n, (calls h).c_loose p m.coll m.target a' e' in_n, below sh st h p in_n (begin.GiveUp m) at_call, (calls h).calls p in_n, sections sh st h p in_n);
  frozen_copy = λ i c' a' e' s' r' li is r cp. grind (arith, nat_tests, (moves h).frozen_copy i c' a' e' s' r' li, (calls h).c_target p m.coll m.target in_n, (calls h).c_leads p m.coll m.source m.target in_n, (calls h).c_loose p m.coll m.target a' e' in_n, below sh st h p in_n (begin.GiveUp m) at_call, (calls h).calls p in_n, sections sh st h p in_n);
  abandon = λ i c' a' e' s' t' r' li ab is r. grind (arith, nat_tests, (moves h).abandon i c' a' e' s' t' r' li, (calls h).c_target p m.coll m.target in_n, (calls h).c_leads p m.coll m.source m.target in_n, (calls h).c_loose p m.coll m.target a' e' in_n, below sh st h p in_n (begin.GiveUp m) at_call, (calls h).calls p in_n, sections sh st h p in_n);
  locked = λ c' a' e' s' is. grind (arith, nat_tests, (moves h).locked c' a' e' s', (calls h).c_target p m.coll m.target in_n, (calls h).c_leads p m.coll m.source m.target in_n, (calls h).c_loose p m.coll m.target a' e' in_n, below sh st h p in_n (begin.GiveUp m) at_call, (calls h).calls p in_n, sections sh st h p in_n);
  locked_owner = λ i c' a' e' s' li o is. grind (arith, nat_tests, (moves h).locked_owner i c' a' e' s' li, (calls h).c_target p m.coll m.target in_n, (calls h).c_leads p m.coll m.source m.target in_n, (calls h).c_loose p m.coll m.target a' e' in_n, below sh st h p in_n (begin.GiveUp m) at_call, (calls h).calls p in_n, sections sh st h p in_n);
  begin_copy = λ i j c' s' a' e' t' n' li lj sr cp. grind (arith, nat_tests, (moves h).begin_copy i j c' s' a' e' t' n' li lj, (calls h).c_target p m.coll m.target in_n, (calls h).c_leads p m.coll m.source m.target in_n, (calls h).c_loose p m.coll m.target a' e' in_n, below sh st h p in_n (begin.GiveUp m) at_call, (calls h).calls p in_n, sections sh st h p in_n);
}
