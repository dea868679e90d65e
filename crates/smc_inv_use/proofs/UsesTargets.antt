-- Steps keep the agreement: uses, targets. Written by tools/laws.py.
use Rattle.std.proofs.Common.{◌≡◌, ℕ, ◌+◌, ◌<◌, Bool, Some, inl, arith}
use Rattle.std.proofs.lemmas.Bool.Decides.{nat_tests}
use Rattle.smc_words.specs.declared.layout.TheConstants.{BLANK}
use Rattle.smc_words.specs.declared.dir.Dir.{Dir}
use Rattle.smc_words.specs.declared.dir.Dir.TheVariants as dir
use Rattle.smc_shape.specs.Layout.{Layout}
use Rattle.smc_shape.specs.declared.place.Place.TheVariants as place
use Rattle.smc_core.specs.declared.call.Choice.TheVariants.{Go}
use Rattle.smc_core.specs.declared.op.Op.TheVariants.{Load, Store, Exchange}
use Rattle.smc_core.specs.declared.phase.Phase.TheVariants as phase
use Rattle.smc_core.specs.declared.phase.moves.BeginPhase.TheVariants as begin
use Rattle.smc_core.specs.declared.phase.moves.Walk.{Walk}
use Rattle.smc_core.specs.declared.section.Section.TheVariants.{Inside}
use Rattle.smc_core.specs.declared.word.State.TheVariants as state
use Rattle.smc_core.specs.declared.word.Word.TheVariants as word
use Rattle.smc_rules.specs.Reads.{object}
use Rattle.smc_rules.specs.State as S
use Rattle.smc_rules.specs.State.{put_stand}
use Rattle.smc_agreement.proofs.Whole.{Shut, calls, did, moved, sections, owner_same}
use Rattle.smc_agreement.proofs.CrossLaws.{below}
use Rattle.smc_rules.specs.Memory.{apply, seen}
use Rattle.smc_inv_use.specs.Uses.{UsesAgree}
use Rattle.smc_inv_use.proofs.UseLaws.{kept_use, moves_left}

-- kind LoadDirectory
pub target_dir : (sh : Layout) (st : S.State) (p : ℕ) (x : ℕ) (calm : Bool) (m : Walk) (a : ℕ) (e : ℕ) (told : ℕ) → p < sh.passes → (st.stands p).section ≡ Inside x calm → (st.stands p).phase ≡ phase.Begin (begin.TargetDirectory m (object a e m.coll)) → Shut sh st → UsesAgree sh st
    → UsesAgree sh (did sh st p Go (Inside x calm) (phase.Begin (begin.TargetDirectory m (object a e m.coll))) told (Load (place.Directory m.coll m.target)))
target_dir sh st p x calm m a e told in_n at_sec at_call h r = record {
  u_slot = λ c' s' is. kept_use sh st.memory (apply (Load (place.Directory m.coll m.target)) st.memory) st.stands p (moved sh p (st.stands p) (Inside x calm) (phase.Begin (begin.TargetDirectory m (object a e m.coll))) Go told (seen (Load (place.Directory m.coll m.target)) st.memory)) (phase.Begin (begin.TargetDirectory m (object a e m.coll))) c' s' at_call (λ y0. let (a1, e1, y) = y0 in inl (a1, e1, y)) (λ y0. let (a1, e1, y) = y0 in (absurd (cc))) (λ y. (absurd (cc))) (r.u_slot c' s' is);
  u_named = λ i c' s' li is. grind (arith, nat_tests, r.u_named i c' s' li, (calls h).c_origin p m.coll m.source a e in_n, (calls h).c_source p m.coll m.source a e in_n, (calls h).c_resting p m.coll m.source a e in_n, below sh st h p in_n (begin.TargetDirectory m (object a e m.coll)) at_call, (calls h).calls p in_n, sections sh st h p in_n);
  u_moves = λ i c' s' t' a' e' li is nm inc. grind (arith, nat_tests, r.u_moves i c' s' t' a' e' li, (calls h).c_origin p m.coll m.source a e in_n, (calls h).c_source p m.coll m.source a e in_n, (calls h).c_resting p m.coll m.source a e in_n, below sh st h p in_n (begin.TargetDirectory m (object a e m.coll)) at_call, (calls h).calls p in_n, sections sh st h p in_n);
}

-- kind ClaimSlot
pub claim_target : (sh : Layout) (st : S.State) (p : ℕ) (x : ℕ) (calm : Bool) (m : Walk) (a : ℕ) (e : ℕ) (d : Dir) (told : ℕ) → p < sh.passes → (st.stands p).section ≡ Inside x calm → (st.stands p).phase ≡ phase.Begin (begin.ClaimTarget m (object a e m.coll) d) → Shut sh st → UsesAgree sh st
    → UsesAgree sh (did sh st p Go (Inside x calm) (phase.Begin (begin.ClaimTarget m (object a e m.coll) d)) told (Exchange (place.Directory m.coll m.target) (word.Directory d) (word.Directory dir.Claimed)))
claim_target sh st p x calm m a e d told in_n at_sec at_call h r = record {
  u_slot = λ c' s' is. kept_use sh st.memory (apply (Exchange (place.Directory m.coll m.target) (word.Directory d) (word.Directory dir.Claimed)) st.memory) st.stands p (moved sh p (st.stands p) (Inside x calm) (phase.Begin (begin.ClaimTarget m (object a e m.coll) d)) Go told (seen (Exchange (place.Directory m.coll m.target) (word.Directory d) (word.Directory dir.Claimed)) st.memory)) (phase.Begin (begin.ClaimTarget m (object a e m.coll) d)) c' s' at_call (λ y0. let (a1, e1, y) = y0 in inl (a1, e1, y)) (λ y0. let (a1, e1, y) = y0 in (absurd (cc))) (λ y. (absurd (cc))) (r.u_slot c' s' (grind (arith, nat_tests)));
  u_named = λ i c' s' li is. grind (arith, nat_tests, r.u_named i c' s' li, (calls h).c_origin p m.coll m.source a e in_n, (calls h).c_source p m.coll m.source a e in_n, (calls h).c_resting p m.coll m.source a e in_n, below sh st h p in_n (begin.ClaimTarget m (object a e m.coll) d) at_call, (calls h).calls p in_n, sections sh st h p in_n);
  u_moves = λ i c' s' t' a' e' li is nm inc. grind (arith, nat_tests, r.u_moves i c' s' t' a' e' li, (calls h).c_origin p m.coll m.source a e in_n, (calls h).c_source p m.coll m.source a e in_n, (calls h).c_resting p m.coll m.source a e in_n, below sh st h p in_n (begin.ClaimTarget m (object a e m.coll) d) at_call, (calls h).calls p in_n, sections sh st h p in_n);
}

-- kind StoreField
pub blank_field : (sh : Layout) (st : S.State) (p : ℕ) (x : ℕ) (calm : Bool) (m : Walk) (a : ℕ) (e : ℕ) (f : ℕ) (told : ℕ) → p < sh.passes → (st.stands p).section ≡ Inside x calm → (st.stands p).phase ≡ phase.Begin (begin.BlankField m (object a e m.coll) f) → Shut sh st → UsesAgree sh st
    → UsesAgree sh (did sh st p Go (Inside x calm) (phase.Begin (begin.BlankField m (object a e m.coll) f)) told (Store (place.Field m.coll m.target f) (word.Plain BLANK)))
blank_field sh st p x calm m a e f told in_n at_sec at_call h r = record {
  u_slot = λ c' s' is. kept_use sh st.memory (apply (Store (place.Field m.coll m.target f) (word.Plain BLANK)) st.memory) st.stands p (moved sh p (st.stands p) (Inside x calm) (phase.Begin (begin.BlankField m (object a e m.coll) f)) Go told (seen (Store (place.Field m.coll m.target f) (word.Plain BLANK)) st.memory)) (phase.Begin (begin.BlankField m (object a e m.coll) f)) c' s' at_call (λ y0. let (a1, e1, y) = y0 in inl (a1, e1, y)) (λ y0. let (a1, e1, y) = y0 in (absurd (cc))) (λ y. (absurd (cc))) (r.u_slot c' s' is);
  u_named = λ i c' s' li is. grind (arith, nat_tests, r.u_named i c' s' li, (calls h).c_slot p m.coll m.target in_n, (calls h).c_origin p m.coll m.source a e in_n, (calls h).c_source p m.coll m.source a e in_n, (calls h).c_resting p m.coll m.source a e in_n, below sh st h p in_n (begin.BlankField m (object a e m.coll) f) at_call, (calls h).calls p in_n, sections sh st h p in_n);
  u_moves = λ i c' s' t' a' e' li is nm inc. grind (arith, nat_tests, r.u_moves i c' s' t' a' e' li, (calls h).c_slot p m.coll m.target in_n, (calls h).c_origin p m.coll m.source a e in_n, (calls h).c_source p m.coll m.source a e in_n, (calls h).c_resting p m.coll m.source a e in_n, below sh st h p in_n (begin.BlankField m (object a e m.coll) f) at_call, (calls h).calls p in_n, sections sh st h p in_n);
}

-- kind StoreBack
pub name_target : (sh : Layout) (st : S.State) (p : ℕ) (x : ℕ) (calm : Bool) (m : Walk) (a : ℕ) (e : ℕ) (told : ℕ) → p < sh.passes → (st.stands p).section ≡ Inside x calm → (st.stands p).phase ≡ phase.Begin (begin.StoreBack m (object a e m.coll)) → Shut sh st → UsesAgree sh st
    → UsesAgree sh (did sh st p Go (Inside x calm) (phase.Begin (begin.StoreBack m (object a e m.coll))) told (Store (place.Back m.coll m.target) (word.Back (Some (object a e m.coll)))))
name_target sh st p x calm m a e told in_n at_sec at_call h r = record {
  u_slot = λ c' s' is. kept_use sh st.memory (apply (Store (place.Back m.coll m.target) (word.Back (Some (object a e m.coll)))) st.memory) st.stands p (moved sh p (st.stands p) (Inside x calm) (phase.Begin (begin.StoreBack m (object a e m.coll))) Go told (seen (Store (place.Back m.coll m.target) (word.Back (Some (object a e m.coll)))) st.memory)) (phase.Begin (begin.StoreBack m (object a e m.coll))) c' s' at_call (λ y0. let (a1, e1, y) = y0 in inl (a1, e1, y)) (λ y0. let (a1, e1, y) = y0 in (absurd (cc))) (λ y. (absurd (cc))) (r.u_slot c' s' is);
  u_named = λ i c' s' li is. grind (arith, nat_tests, r.u_named i c' s' li, (calls h).c_slot p m.coll m.target in_n, (calls h).c_origin p m.coll m.source a e in_n, (calls h).c_source p m.coll m.source a e in_n, (calls h).c_resting p m.coll m.source a e in_n, below sh st h p in_n (begin.StoreBack m (object a e m.coll)) at_call, (calls h).calls p in_n, sections sh st h p in_n, (calls h).c_leaves i c' s' li);
  u_moves = λ i c' s' t' a' e' li is nm inc. grind (arith, nat_tests, r.u_moves i c' s' t' a' e' li, (calls h).c_slot p m.coll m.target in_n, (calls h).c_origin p m.coll m.source a e in_n, (calls h).c_source p m.coll m.source a e in_n, (calls h).c_resting p m.coll m.source a e in_n, below sh st h p in_n (begin.StoreBack m (object a e m.coll)) at_call, (calls h).calls p in_n, sections sh st h p in_n, (calls h).c_leaves i c' s' li, moves_left (st.stands i).phase c' s' t');
}

-- kind StoreForward
pub lead_source : (sh : Layout) (st : S.State) (p : ℕ) (x : ℕ) (calm : Bool) (m : Walk) (a : ℕ) (e : ℕ) (told : ℕ) → p < sh.passes → (st.stands p).section ≡ Inside x calm → (st.stands p).phase ≡ phase.Begin (begin.StoreForward m (object a e m.coll)) → Shut sh st → UsesAgree sh st
    → UsesAgree sh (did sh st p Go (Inside x calm) (phase.Begin (begin.StoreForward m (object a e m.coll))) told (Store (place.Forward m.coll m.source) (word.Forward m.target)))
lead_source sh st p x calm m a e told in_n at_sec at_call h r = record {
  u_slot = λ c' s' is. kept_use sh st.memory (apply (Store (place.Forward m.coll m.source) (word.Forward m.target)) st.memory) st.stands p (moved sh p (st.stands p) (Inside x calm) (phase.Begin (begin.StoreForward m (object a e m.coll))) Go told (seen (Store (place.Forward m.coll m.source) (word.Forward m.target)) st.memory)) (phase.Begin (begin.StoreForward m (object a e m.coll))) c' s' at_call (λ y0. let (a1, e1, y) = y0 in inl (a1, e1, y)) (λ y0. let (a1, e1, y) = y0 in (absurd (cc))) (λ y. (absurd (cc))) (r.u_slot c' s' is);
  u_named = λ i c' s' li is. grind (arith, nat_tests, r.u_named i c' s' li, (calls h).c_slot p m.coll m.target in_n, (calls h).c_named p m.coll m.target a e in_n, (calls h).c_origin p m.coll m.source a e in_n, (calls h).c_source p m.coll m.source a e in_n, (calls h).c_resting p m.coll m.source a e in_n, below sh st h p in_n (begin.StoreForward m (object a e m.coll)) at_call, (calls h).calls p in_n, sections sh st h p in_n);
  u_moves = λ i c' s' t' a' e' li is nm inc. grind (arith, nat_tests, r.u_moves i c' s' t' a' e' li, (calls h).c_slot p m.coll m.target in_n, (calls h).c_named p m.coll m.target a e in_n, (calls h).c_origin p m.coll m.source a e in_n, (calls h).c_source p m.coll m.source a e in_n, (calls h).c_resting p m.coll m.source a e in_n, below sh st h p in_n (begin.StoreForward m (object a e m.coll)) at_call, (calls h).calls p in_n, sections sh st h p in_n);
}

-- kind StoreIncoming
pub store_incoming : (sh : Layout) (st : S.State) (p : ℕ) (x : ℕ) (calm : Bool) (m : Walk) (a : ℕ) (e : ℕ) (told : ℕ) → p < sh.passes → (st.stands p).section ≡ Inside x calm → (st.stands p).phase ≡ phase.Begin (begin.StoreIncoming m (object a e m.coll)) → Shut sh st → UsesAgree sh st
    → UsesAgree sh (did sh st p Go (Inside x calm) (phase.Begin (begin.StoreIncoming m (object a e m.coll))) told (Store (place.Directory m.coll m.target) (word.Directory dir.Incoming)))
store_incoming sh st p x calm m a e told in_n at_sec at_call h r = record {
  u_slot = λ c' s' is. kept_use sh st.memory (apply (Store (place.Directory m.coll m.target) (word.Directory dir.Incoming)) st.memory) st.stands p (moved sh p (st.stands p) (Inside x calm) (phase.Begin (begin.StoreIncoming m (object a e m.coll))) Go told (seen (Store (place.Directory m.coll m.target) (word.Directory dir.Incoming)) st.memory)) (phase.Begin (begin.StoreIncoming m (object a e m.coll))) c' s' at_call (λ y0. let (a1, e1, y) = y0 in inl (a1, e1, y)) (λ y0. let (a1, e1, y) = y0 in (absurd (cc))) (λ y. (absurd (cc))) (r.u_slot c' s' (grind (arith, nat_tests)));
  u_named = λ i c' s' li is. grind (arith, nat_tests, r.u_named i c' s' li, (calls h).c_slot p m.coll m.target in_n, (calls h).c_named p m.coll m.target a e in_n, (calls h).c_leads p m.coll m.source m.target in_n, (calls h).c_origin p m.coll m.source a e in_n, (calls h).c_source p m.coll m.source a e in_n, (calls h).c_resting p m.coll m.source a e in_n, below sh st h p in_n (begin.StoreIncoming m (object a e m.coll)) at_call, (calls h).calls p in_n, sections sh st h p in_n);
  u_moves = λ i c' s' t' a' e' li is nm inc. grind (arith, nat_tests, r.u_moves i c' s' t' a' e' li, (calls h).c_slot p m.coll m.target in_n, (calls h).c_named p m.coll m.target a e in_n, (calls h).c_leads p m.coll m.source m.target in_n, (calls h).c_origin p m.coll m.source a e in_n, (calls h).c_source p m.coll m.source a e in_n, (calls h).c_resting p m.coll m.source a e in_n, below sh st h p in_n (begin.StoreIncoming m (object a e m.coll)) at_call, (calls h).calls p in_n, sections sh st h p in_n, owner_same sh st h i p li in_n, (calls h).calls i li);
}

-- kind Freeze
pub freeze : (sh : Layout) (st : S.State) (p : ℕ) (x : ℕ) (calm : Bool) (m : Walk) (a : ℕ) (e : ℕ) (told : ℕ) → p < sh.passes → (st.stands p).section ≡ Inside x calm → (st.stands p).phase ≡ phase.Begin (begin.Freeze m (object a e m.coll)) → Shut sh st → UsesAgree sh st
    → UsesAgree sh (did sh st p Go (Inside x calm) (phase.Begin (begin.Freeze m (object a e m.coll))) told (Exchange (place.Entry m.coll e) (word.Entry (state.Present a m.source)) (word.Entry (state.Frozen a m.source))))
freeze sh st p x calm m a e told in_n at_sec at_call h r = record {
  u_slot = λ c' s' is. kept_use sh st.memory (apply (Exchange (place.Entry m.coll e) (word.Entry (state.Present a m.source)) (word.Entry (state.Frozen a m.source))) st.memory) st.stands p (moved sh p (st.stands p) (Inside x calm) (phase.Begin (begin.Freeze m (object a e m.coll))) Go told (seen (Exchange (place.Entry m.coll e) (word.Entry (state.Present a m.source)) (word.Entry (state.Frozen a m.source))) st.memory)) (phase.Begin (begin.Freeze m (object a e m.coll))) c' s' at_call (λ y0. let (a1, e1, y) = y0 in inl (a1, e1, grind (arith, nat_tests))) (λ y0. let (a1, e1, y) = y0 in (absurd (cc))) (λ y. (absurd (cc))) (r.u_slot c' s' is);
  u_named = λ i c' s' li is. grind (arith, nat_tests, r.u_named i c' s' li, (calls h).c_named p m.coll m.target a e in_n, (calls h).c_target p m.coll m.target in_n, (calls h).c_leads p m.coll m.source m.target in_n, (calls h).c_origin p m.coll m.source a e in_n, (calls h).c_source p m.coll m.source a e in_n, (calls h).c_resting p m.coll m.source a e in_n, below sh st h p in_n (begin.Freeze m (object a e m.coll)) at_call, (calls h).calls p in_n, sections sh st h p in_n);
  u_moves = λ i c' s' t' a' e' li is nm inc. grind (arith, nat_tests, r.u_moves i c' s' t' a' e' li, (calls h).c_named p m.coll m.target a e in_n, (calls h).c_target p m.coll m.target in_n, (calls h).c_leads p m.coll m.source m.target in_n, (calls h).c_origin p m.coll m.source a e in_n, (calls h).c_source p m.coll m.source a e in_n, (calls h).c_resting p m.coll m.source a e in_n, below sh st h p in_n (begin.Freeze m (object a e m.coll)) at_call, (calls h).calls p in_n, sections sh st h p in_n);
}

-- kind LeaveSlot
pub begin_gives : (sh : Layout) (st : S.State) (p : ℕ) (x : ℕ) (calm : Bool) (m : Walk) (told : ℕ) → p < sh.passes → (st.stands p).section ≡ Inside x calm → (st.stands p).phase ≡ phase.Begin (begin.GiveUp m) → Shut sh st → UsesAgree sh st
    → UsesAgree sh (did sh st p Go (Inside x calm) (phase.Begin (begin.GiveUp m)) told (Store (place.Directory m.coll m.target) (word.Directory (dir.Limbo (x + 1)))))
begin_gives sh st p x calm m told in_n at_sec at_call h r = record {
  u_slot = λ c' s' is. kept_use sh st.memory (apply (Store (place.Directory m.coll m.target) (word.Directory (dir.Limbo (x + 1)))) st.memory) st.stands p (moved sh p (st.stands p) (Inside x calm) (phase.Begin (begin.GiveUp m)) Go told (seen (Store (place.Directory m.coll m.target) (word.Directory (dir.Limbo (x + 1)))) st.memory)) (phase.Begin (begin.GiveUp m)) c' s' at_call (λ y0. let (a1, e1, y) = y0 in inl (a1, e1, y)) (λ y0. let (a1, e1, y) = y0 in (absurd (cc))) (λ y. (absurd (cc))) (r.u_slot c' s' (grind (arith, nat_tests)));
  u_named = λ i c' s' li is. grind (arith, nat_tests, r.u_named i c' s' li, (calls h).c_target p m.coll m.target in_n, (calls h).c_leads p m.coll m.source m.target in_n, below sh st h p in_n (begin.GiveUp m) at_call, (calls h).calls p in_n, sections sh st h p in_n);
  u_moves = λ i c' s' t' a' e' li is nm inc. grind (arith, nat_tests, r.u_moves i c' s' t' a' e' li, (calls h).c_target p m.coll m.target in_n, (calls h).c_leads p m.coll m.source m.target in_n, (calls h).c_loose p m.coll m.target a' e' in_n, below sh st h p in_n (begin.GiveUp m) at_call, (calls h).calls p in_n, sections sh st h p in_n);
}
