-- Steps keep the agreement: scans, targets. Written by tools/laws.py.
use Rattle.std.proofs.Common.{◌≡◌, ℕ, ◌+◌, ◌<◌, Bool, Some, arith}
use Rattle.std.proofs.lemmas.Bool.Decides.{nat_tests}
use Rattle.smc_words.specs.declared.layout.TheConstants.{BLANK}
use Rattle.smc_words.specs.declared.dir.Dir.{Dir}
use Rattle.smc_words.specs.declared.dir.Dir.TheVariants as dir
use Rattle.smc_shape.specs.Layout.{Layout}
use Rattle.smc_shape.specs.declared.place.Place.TheVariants as place
use Rattle.smc_core.specs.declared.call.Choice.TheVariants.{Go}
use Rattle.smc_core.specs.declared.op.Op.TheVariants.{Load, Store, Exchange}
use Rattle.smc_core.specs.declared.phase.Phase.TheVariants as phase
use Rattle.smc_core.specs.declared.phase.moves.BeginPhase.TheVariants as begin
use Rattle.smc_core.specs.declared.phase.moves.Walk.{Walk}
use Rattle.smc_core.specs.declared.section.Section.TheVariants.{Inside}
use Rattle.smc_core.specs.declared.word.State.TheVariants as state
use Rattle.smc_core.specs.declared.word.Word.TheVariants as word
use Rattle.smc_rules.specs.Reads.{object}
use Rattle.smc_rules.specs.State as S
use Rattle.smc_rules.specs.State.{put_stand}
use Rattle.smc_agreement.proofs.Whole.{Shut, calls, objects, moves, did, sections, owner}
use Rattle.smc_inv_scan.specs.Scans.{ScansAgree}
use Rattle.smc_inv_scan.proofs.PlaceLaws.{sought-slot}

-- kind LoadDirectory
pub target_dir : (sh : Layout) (st : S.State) (p : ℕ) (x : ℕ) (calm : Bool) (m : Walk) (a : ℕ) (e : ℕ) (told : ℕ) → p < sh.passes → (st.stands p).section ≡ Inside x calm → (st.stands p).phase ≡ phase.Begin (begin.TargetDirectory m (object a e m.coll)) → Shut sh st → ScansAgree sh st
    → ScansAgree sh (did sh st p Go (Inside x calm) (phase.Begin (begin.TargetDirectory m (object a e m.coll))) told (Load (place.Directory m.coll m.target)))
target_dir sh st p x calm m a e told in_n at_sec at_call h r = record {
  s_apart = λ i li. grind (arith, nat_tests, r.s_apart i li, (calls h).calls p in_n, sections sh st h p in_n);
  s_fresh = λ i k' b' li is. grind (arith, nat_tests, r.s_fresh i k' b' li, (calls h).calls p in_n, sections sh st h p in_n);
  s_within = λ i k' b' li is. grind (arith, nat_tests, r.s_within i k' b' li, (calls h).calls p in_n, sections sh st h p in_n);
  s_place = λ i k' c' s' li is. grind (arith, nat_tests, r.s_place i k' c' s' li, (calls h).calls p in_n, sections sh st h p in_n);
  s_over = λ i k' li is. grind (arith, nat_tests, r.s_over i k' li, (calls h).calls p in_n, sections sh st h p in_n);
  s_dir = λ i c' s' li is. grind (arith, nat_tests, r.s_dir i c' s' li, (calls h).calls p in_n, sections sh st h p in_n);
  s_back = λ i c' s' a' e' d' li is. grind (arith, nat_tests, r.s_back i c' s' a' e' d' li, (calls h).calls p in_n, sections sh st h p in_n);
  s_home = λ i c' s' a' e' d' li is. grind (arith, nat_tests, r.s_home i c' s' a' e' d' li, (calls h).calls p in_n, sections sh st h p in_n);
  s_frozen = λ i k' c' a' e' s' b' r' li fz rd is of lt. grind (arith, nat_tests, r.s_frozen i k' c' a' e' s' b' r' li, (calls h).calls p in_n, sections sh st h p in_n);
  s_locked = λ i k' c' a' e' s' b' li lk is of. grind (arith, nat_tests, r.s_locked i k' c' a' e' s' b' li, (calls h).calls p in_n, sections sh st h p in_n);
}

-- kind ClaimSlot
pub claim_target : (sh : Layout) (st : S.State) (p : ℕ) (x : ℕ) (calm : Bool) (m : Walk) (a : ℕ) (e : ℕ) (d : Dir) (told : ℕ) → p < sh.passes → (st.stands p).section ≡ Inside x calm → (st.stands p).phase ≡ phase.Begin (begin.ClaimTarget m (object a e m.coll) d) → Shut sh st → ScansAgree sh st
    → ScansAgree sh (did sh st p Go (Inside x calm) (phase.Begin (begin.ClaimTarget m (object a e m.coll) d)) told (Exchange (place.Directory m.coll m.target) (word.Directory d) (word.Directory dir.Claimed)))
claim_target sh st p x calm m a e d told in_n at_sec at_call h r = record {
  s_apart = λ i li. grind (arith, nat_tests, r.s_apart i li, (calls h).calls p in_n, sections sh st h p in_n);
  s_fresh = λ i k' b' li is. grind (arith, nat_tests, r.s_fresh i k' b' li, (calls h).calls p in_n, sections sh st h p in_n);
  s_within = λ i k' b' li is. grind (arith, nat_tests, r.s_within i k' b' li, (calls h).calls p in_n, sections sh st h p in_n);
  s_place = λ i k' c' s' li is. grind (arith, nat_tests, r.s_place i k' c' s' li, (calls h).calls p in_n, sections sh st h p in_n);
  s_over = λ i k' li is. grind (arith, nat_tests, r.s_over i k' li, (calls h).calls p in_n, sections sh st h p in_n);
  s_dir = λ i c' s' li is. grind (arith, nat_tests, r.s_dir i c' s' li, (calls h).c_origin p m.coll m.source a e in_n, (calls h).c_source p m.coll m.source a e in_n, (calls h).c_resting p m.coll m.source a e in_n, (calls h).calls p in_n, sections sh st h p in_n, sections sh st h i li, (calls h).calls i li);
  s_back = λ i c' s' a' e' d' li is. grind (arith, nat_tests, r.s_back i c' s' a' e' d' li, (calls h).calls p in_n, sections sh st h p in_n);
  s_home = λ i c' s' a' e' d' li is. grind (arith, nat_tests, r.s_home i c' s' a' e' d' li, (calls h).calls p in_n, sections sh st h p in_n);
  s_frozen = λ i k' c' a' e' s' b' r' li fz rd is of lt. grind (arith, nat_tests, r.s_frozen i k' c' a' e' s' b' r' li, (calls h).calls p in_n, sections sh st h p in_n);
  s_locked = λ i k' c' a' e' s' b' li lk is of. grind (arith, nat_tests, r.s_locked i k' c' a' e' s' b' li, (calls h).calls p in_n, sections sh st h p in_n);
}

-- kind StoreField
pub blank_field : (sh : Layout) (st : S.State) (p : ℕ) (x : ℕ) (calm : Bool) (m : Walk) (a : ℕ) (e : ℕ) (f : ℕ) (told : ℕ) → p < sh.passes → (st.stands p).section ≡ Inside x calm → (st.stands p).phase ≡ phase.Begin (begin.BlankField m (object a e m.coll) f) → Shut sh st → ScansAgree sh st
    → ScansAgree sh (did sh st p Go (Inside x calm) (phase.Begin (begin.BlankField m (object a e m.coll) f)) told (Store (place.Field m.coll m.target f) (word.Plain BLANK)))
blank_field sh st p x calm m a e f told in_n at_sec at_call h r = record {
  s_apart = λ i li. grind (arith, nat_tests, r.s_apart i li, (calls h).calls p in_n, sections sh st h p in_n);
  s_fresh = λ i k' b' li is. grind (arith, nat_tests, r.s_fresh i k' b' li, (calls h).calls p in_n, sections sh st h p in_n);
  s_within = λ i k' b' li is. grind (arith, nat_tests, r.s_within i k' b' li, (calls h).calls p in_n, sections sh st h p in_n);
  s_place = λ i k' c' s' li is. grind (arith, nat_tests, r.s_place i k' c' s' li, (calls h).calls p in_n, sections sh st h p in_n);
  s_over = λ i k' li is. grind (arith, nat_tests, r.s_over i k' li, (calls h).calls p in_n, sections sh st h p in_n);
  s_dir = λ i c' s' li is. grind (arith, nat_tests, r.s_dir i c' s' li, (calls h).calls p in_n, sections sh st h p in_n);
  s_back = λ i c' s' a' e' d' li is. grind (arith, nat_tests, r.s_back i c' s' a' e' d' li, (calls h).calls p in_n, sections sh st h p in_n);
  s_home = λ i c' s' a' e' d' li is. grind (arith, nat_tests, r.s_home i c' s' a' e' d' li, (calls h).calls p in_n, sections sh st h p in_n);
  s_frozen = λ i k' c' a' e' s' b' r' li fz rd is of lt. grind (arith, nat_tests, r.s_frozen i k' c' a' e' s' b' r' li, (calls h).calls p in_n, sections sh st h p in_n);
  s_locked = λ i k' c' a' e' s' b' li lk is of. grind (arith, nat_tests, r.s_locked i k' c' a' e' s' b' li, (calls h).calls p in_n, sections sh st h p in_n);
}

-- kind StoreBack
pub name_target : (sh : Layout) (st : S.State) (p : ℕ) (x : ℕ) (calm : Bool) (m : Walk) (a : ℕ) (e : ℕ) (told : ℕ) → p < sh.passes → (st.stands p).section ≡ Inside x calm → (st.stands p).phase ≡ phase.Begin (begin.StoreBack m (object a e m.coll)) → Shut sh st → ScansAgree sh st
    → ScansAgree sh (did sh st p Go (Inside x calm) (phase.Begin (begin.StoreBack m (object a e m.coll))) told (Store (place.Back m.coll m.target) (word.Back (Some (object a e m.coll)))))
name_target sh st p x calm m a e told in_n at_sec at_call h r = record {
  s_apart = λ i li. grind (arith, nat_tests, r.s_apart i li, (calls h).calls p in_n, sections sh st h p in_n);
  s_fresh = λ i k' b' li is. grind (arith, nat_tests, r.s_fresh i k' b' li, (calls h).calls p in_n, sections sh st h p in_n);
  s_within = λ i k' b' li is. grind (arith, nat_tests, r.s_within i k' b' li, (calls h).calls p in_n, sections sh st h p in_n);
  s_place = λ i k' c' s' li is. grind (arith, nat_tests, r.s_place i k' c' s' li, (calls h).calls p in_n, sections sh st h p in_n);
  s_over = λ i k' li is. grind (arith, nat_tests, r.s_over i k' li, (calls h).calls p in_n, sections sh st h p in_n);
  s_dir = λ i c' s' li is. grind (arith, nat_tests, r.s_dir i c' s' li, (calls h).calls p in_n, sections sh st h p in_n);
  s_back = λ i c' s' a' e' d' li is. grind (arith, nat_tests, r.s_back i c' s' a' e' d' li, (calls h).c_slot p m.coll m.target in_n, (calls h).c_origin p m.coll m.source a e in_n, (calls h).c_source p m.coll m.source a e in_n, (calls h).c_resting p m.coll m.source a e in_n, (calls h).calls p in_n, sections sh st h p in_n, r.s_dir i c' s' li, sought-slot (st.stands i).phase (c', s') (object a' e' d'));
  s_home = λ i c' s' a' e' d' li is. grind (arith, nat_tests, r.s_home i c' s' a' e' d' li, (calls h).calls p in_n, sections sh st h p in_n);
  s_frozen = λ i k' c' a' e' s' b' r' li fz rd is of lt. grind (arith, nat_tests, r.s_frozen i k' c' a' e' s' b' r' li, (calls h).calls p in_n, sections sh st h p in_n);
  s_locked = λ i k' c' a' e' s' b' li lk is of. grind (arith, nat_tests, r.s_locked i k' c' a' e' s' b' li, (calls h).calls p in_n, sections sh st h p in_n);
}

-- kind StoreForward
pub lead_source : (sh : Layout) (st : S.State) (p : ℕ) (x : ℕ) (calm : Bool) (m : Walk) (a : ℕ) (e : ℕ) (told : ℕ) → p < sh.passes → (st.stands p).section ≡ Inside x calm → (st.stands p).phase ≡ phase.Begin (begin.StoreForward m (object a e m.coll)) → Shut sh st → ScansAgree sh st
    → ScansAgree sh (did sh st p Go (Inside x calm) (phase.Begin (begin.StoreForward m (object a e m.coll))) told (Store (place.Forward m.coll m.source) (word.Forward m.target)))
lead_source sh st p x calm m a e told in_n at_sec at_call h r = record {
  s_apart = λ i li. grind (arith, nat_tests, r.s_apart i li, (calls h).calls p in_n, sections sh st h p in_n);
  s_fresh = λ i k' b' li is. grind (arith, nat_tests, r.s_fresh i k' b' li, (calls h).calls p in_n, sections sh st h p in_n);
  s_within = λ i k' b' li is. grind (arith, nat_tests, r.s_within i k' b' li, (calls h).calls p in_n, sections sh st h p in_n);
  s_place = λ i k' c' s' li is. grind (arith, nat_tests, r.s_place i k' c' s' li, (calls h).calls p in_n, sections sh st h p in_n);
  s_over = λ i k' li is. grind (arith, nat_tests, r.s_over i k' li, (calls h).calls p in_n, sections sh st h p in_n);
  s_dir = λ i c' s' li is. grind (arith, nat_tests, r.s_dir i c' s' li, (calls h).calls p in_n, sections sh st h p in_n);
  s_back = λ i c' s' a' e' d' li is. grind (arith, nat_tests, r.s_back i c' s' a' e' d' li, (calls h).calls p in_n, sections sh st h p in_n);
  s_home = λ i c' s' a' e' d' li is. grind (arith, nat_tests, r.s_home i c' s' a' e' d' li, (calls h).calls p in_n, sections sh st h p in_n);
  s_frozen = λ i k' c' a' e' s' b' r' li fz rd is of lt. grind (arith, nat_tests, r.s_frozen i k' c' a' e' s' b' r' li, (calls h).c_slot p m.coll m.target in_n, (calls h).c_named p m.coll m.target a e in_n, (calls h).c_origin p m.coll m.source a e in_n, (calls h).c_source p m.coll m.source a e in_n, (calls h).c_resting p m.coll m.source a e in_n, (calls h).calls p in_n, sections sh st h p in_n, (objects h).standing c' a' e' s');
  s_locked = λ i k' c' a' e' s' b' li lk is of. grind (arith, nat_tests, r.s_locked i k' c' a' e' s' b' li, (calls h).c_slot p m.coll m.target in_n, (calls h).c_named p m.coll m.target a e in_n, (calls h).c_origin p m.coll m.source a e in_n, (calls h).c_source p m.coll m.source a e in_n, (calls h).c_resting p m.coll m.source a e in_n, (calls h).calls p in_n, sections sh st h p in_n, (moves h).locked_owner p c' a' e' s' in_n);
}

-- kind StoreIncoming
pub store_incoming : (sh : Layout) (st : S.State) (p : ℕ) (x : ℕ) (calm : Bool) (m : Walk) (a : ℕ) (e : ℕ) (told : ℕ) → p < sh.passes → (st.stands p).section ≡ Inside x calm → (st.stands p).phase ≡ phase.Begin (begin.StoreIncoming m (object a e m.coll)) → Shut sh st → ScansAgree sh st
    → ScansAgree sh (did sh st p Go (Inside x calm) (phase.Begin (begin.StoreIncoming m (object a e m.coll))) told (Store (place.Directory m.coll m.target) (word.Directory dir.Incoming)))
store_incoming sh st p x calm m a e told in_n at_sec at_call h r = record {
  s_apart = λ i li. grind (arith, nat_tests, r.s_apart i li, (calls h).calls p in_n, sections sh st h p in_n);
  s_fresh = λ i k' b' li is. grind (arith, nat_tests, r.s_fresh i k' b' li, (calls h).calls p in_n, sections sh st h p in_n);
  s_within = λ i k' b' li is. grind (arith, nat_tests, r.s_within i k' b' li, (calls h).calls p in_n, sections sh st h p in_n);
  s_place = λ i k' c' s' li is. grind (arith, nat_tests, r.s_place i k' c' s' li, (calls h).calls p in_n, sections sh st h p in_n);
  s_over = λ i k' li is. grind (arith, nat_tests, r.s_over i k' li, (calls h).calls p in_n, sections sh st h p in_n);
  s_dir = λ i c' s' li is. grind (arith, nat_tests, r.s_dir i c' s' li, (calls h).c_slot p m.coll m.target in_n, (calls h).c_named p m.coll m.target a e in_n, (calls h).c_leads p m.coll m.source m.target in_n, (calls h).c_origin p m.coll m.source a e in_n, (calls h).c_source p m.coll m.source a e in_n, (calls h).c_resting p m.coll m.source a e in_n, (calls h).calls p in_n, sections sh st h p in_n);
  s_back = λ i c' s' a' e' d' li is. grind (arith, nat_tests, r.s_back i c' s' a' e' d' li, (calls h).calls p in_n, sections sh st h p in_n);
  s_home = λ i c' s' a' e' d' li is. grind (arith, nat_tests, r.s_home i c' s' a' e' d' li, (calls h).calls p in_n, sections sh st h p in_n);
  s_frozen = λ i k' c' a' e' s' b' r' li fz rd is of lt. grind (arith, nat_tests, r.s_frozen i k' c' a' e' s' b' r' li, (calls h).calls p in_n, sections sh st h p in_n);
  s_locked = λ i k' c' a' e' s' b' li lk is of. grind (arith, nat_tests, r.s_locked i k' c' a' e' s' b' li, (calls h).calls p in_n, sections sh st h p in_n);
}

-- kind Freeze
pub freeze : (sh : Layout) (st : S.State) (p : ℕ) (x : ℕ) (calm : Bool) (m : Walk) (a : ℕ) (e : ℕ) (told : ℕ) → p < sh.passes → (st.stands p).section ≡ Inside x calm → (st.stands p).phase ≡ phase.Begin (begin.Freeze m (object a e m.coll)) → Shut sh st → ScansAgree sh st
    → ScansAgree sh (did sh st p Go (Inside x calm) (phase.Begin (begin.Freeze m (object a e m.coll))) told (Exchange (place.Entry m.coll e) (word.Entry (state.Present a m.source)) (word.Entry (state.Frozen a m.source))))
freeze sh st p x calm m a e told in_n at_sec at_call h r = record {
  s_apart = λ i li. grind (arith, nat_tests, r.s_apart i li, (calls h).calls p in_n, sections sh st h p in_n);
  s_fresh = λ i k' b' li is. grind (arith, nat_tests, r.s_fresh i k' b' li, (calls h).calls p in_n, sections sh st h p in_n);
  s_within = λ i k' b' li is. grind (arith, nat_tests, r.s_within i k' b' li, (calls h).calls p in_n, sections sh st h p in_n);
  s_place = λ i k' c' s' li is. grind (arith, nat_tests, r.s_place i k' c' s' li, (calls h).calls p in_n, sections sh st h p in_n);
  s_over = λ i k' li is. grind (arith, nat_tests, r.s_over i k' li, (calls h).calls p in_n, sections sh st h p in_n);
  s_dir = λ i c' s' li is. grind (arith, nat_tests, r.s_dir i c' s' li, (calls h).calls p in_n, sections sh st h p in_n);
  s_back = λ i c' s' a' e' d' li is. grind (arith, nat_tests, r.s_back i c' s' a' e' d' li, (calls h).calls p in_n, sections sh st h p in_n);
  s_home = λ i c' s' a' e' d' li is. grind (arith, nat_tests, r.s_home i c' s' a' e' d' li, (calls h).calls p in_n, sections sh st h p in_n);
  s_frozen = λ i k' c' a' e' s' b' r' li fz rd is of lt. grind (arith, nat_tests, r.s_frozen i k' c' a' e' s' b' r' li, (calls h).c_named p m.coll m.target a e in_n, (calls h).c_target p m.coll m.target in_n, (calls h).c_leads p m.coll m.source m.target in_n, (calls h).c_origin p m.coll m.source a e in_n, (calls h).c_source p m.coll m.source a e in_n, (calls h).c_resting p m.coll m.source a e in_n, (calls h).calls p in_n, sections sh st h p in_n, sections sh st h i li, owner sh st h p (x + 1) m.coll in_n, r.s_within i k' b' li);
  s_locked = λ i k' c' a' e' s' b' li lk is of. grind (arith, nat_tests, r.s_locked i k' c' a' e' s' b' li, (calls h).c_named p m.coll m.target a e in_n, (calls h).c_target p m.coll m.target in_n, (calls h).c_leads p m.coll m.source m.target in_n, (calls h).c_origin p m.coll m.source a e in_n, (calls h).c_source p m.coll m.source a e in_n, (calls h).c_resting p m.coll m.source a e in_n, (calls h).calls p in_n, sections sh st h p in_n);
}

-- kind LeaveSlot
pub begin_gives : (sh : Layout) (st : S.State) (p : ℕ) (x : ℕ) (calm : Bool) (m : Walk) (told : ℕ) → p < sh.passes → (st.stands p).section ≡ Inside x calm → (st.stands p).phase ≡ phase.Begin (begin.GiveUp m) → Shut sh st → ScansAgree sh st
    → ScansAgree sh (did sh st p Go (Inside x calm) (phase.Begin (begin.GiveUp m)) told (Store (place.Directory m.coll m.target) (word.Directory (dir.Limbo (x + 1)))))
begin_gives sh st p x calm m told in_n at_sec at_call h r = record {
  s_apart = λ i li. grind (arith, nat_tests, r.s_apart i li, (calls h).calls p in_n, sections sh st h p in_n);
  s_fresh = λ i k' b' li is. grind (arith, nat_tests, r.s_fresh i k' b' li, (calls h).calls p in_n, sections sh st h p in_n);
  s_within = λ i k' b' li is. grind (arith, nat_tests, r.s_within i k' b' li, (calls h).calls p in_n, sections sh st h p in_n);
  s_place = λ i k' c' s' li is. grind (arith, nat_tests, r.s_place i k' c' s' li, (calls h).calls p in_n, sections sh st h p in_n);
  s_over = λ i k' li is. grind (arith, nat_tests, r.s_over i k' li, (calls h).calls p in_n, sections sh st h p in_n);
  s_dir = λ i c' s' li is. grind (arith, nat_tests, r.s_dir i c' s' li, (calls h).c_target p m.coll m.target in_n, (calls h).c_leads p m.coll m.source m.target in_n, (calls h).calls p in_n, sections sh st h p in_n, sections sh st h i li, (calls h).calls i li);
  s_back = λ i c' s' a' e' d' li is. grind (arith, nat_tests, r.s_back i c' s' a' e' d' li, (calls h).calls p in_n, sections sh st h p in_n);
  s_home = λ i c' s' a' e' d' li is. grind (arith, nat_tests, r.s_home i c' s' a' e' d' li, (calls h).calls p in_n, sections sh st h p in_n);
  s_frozen = λ i k' c' a' e' s' b' r' li fz rd is of lt. grind (arith, nat_tests, r.s_frozen i k' c' a' e' s' b' r' li, (calls h).calls p in_n, sections sh st h p in_n);
  s_locked = λ i k' c' a' e' s' b' li lk is of. grind (arith, nat_tests, r.s_locked i k' c' a' e' s' b' li, (calls h).calls p in_n, sections sh st h p in_n);
}
