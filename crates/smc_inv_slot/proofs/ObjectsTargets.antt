-- Steps keep the agreement: objects, targets. Written by tools/laws.py.
use Rattle.std.proofs.Common.{◌≡◌, ℕ, ◌+◌, ◌<◌, ◌==◌, ◌&&◌, Bool, Some, sym, subst, arith}
use Rattle.std.proofs.lemmas.Bool.Decides.{nat_tests}
use Rattle.smc_words.specs.declared.layout.TheConstants.{BLANK}
use Rattle.smc_words.specs.declared.dir.Dir.{Dir}
use Rattle.smc_words.specs.declared.dir.Dir.TheVariants as dir
use Rattle.smc_shape.specs.Layout.{Layout}
use Rattle.smc_shape.specs.declared.place.Place.TheVariants as place
use Rattle.smc_core.specs.declared.call.Choice.TheVariants.{Go}
use Rattle.smc_core.specs.declared.op.Op.TheVariants.{Load, Store, Exchange}
use Rattle.smc_core.specs.declared.phase.Phase.TheVariants as phase
use Rattle.smc_core.specs.declared.phase.moves.BeginPhase.TheVariants as begin
use Rattle.smc_core.specs.declared.phase.moves.Walk.{Walk}
use Rattle.smc_core.specs.declared.section.Section.TheVariants.{Inside}
use Rattle.smc_core.specs.declared.word.State.TheVariants as state
use Rattle.smc_core.specs.declared.word.Word.TheVariants as word
use Rattle.smc_core.specs.Begin.{blank_field as next_blank, past_target}
use Rattle.smc_core.specs.Offer.{held_slot}
use Rattle.smc_core.specs.Words.{same_word}
use Rattle.smc_core.specs.declared.local.Stand.{Stand}
use Rattle.smc_rules.specs.Reads.{object}
use Rattle.smc_rules.specs.State as S
use Rattle.smc_rules.specs.State.{put_stand}
use Rattle.smc_rules.proofs.CarryLaws.{put_stand-same}
use Rattle.smc_agreement.specs.Kept.{Nothing}
use Rattle.smc_agreement.specs.Agreement.{ObjectsAgree}
use Rattle.smc_agreement.proofs.Whole.{Shut, calls, objects, moves, did, sections}
use Rattle.smc_agreement.proofs.CrossLaws.{by_eq, by_true, below, not_claimed, ripe_target, claim_holds, held_unripe}

-- kind LoadDirectory
pub target_dir : (sh : Layout) (st : S.State) (p : ℕ) (x : ℕ) (calm : Bool) (m : Walk) (a : ℕ) (e : ℕ) (told : ℕ) → p < sh.passes → (st.stands p).section ≡ Inside x calm → (st.stands p).phase ≡ phase.Begin (begin.TargetDirectory m (object a e m.coll)) → Shut sh st → Nothing sh st
    → ObjectsAgree sh (did sh st p Go (Inside x calm) (phase.Begin (begin.TargetDirectory m (object a e m.coll))) told (Load (place.Directory m.coll m.target)))
target_dir sh st p x calm m a e told in_n at_sec at_call h _ = record {
  standing = (objects h).standing;
  placed = (objects h).placed;
  held = λ i c' a' e' s' li is. grind (arith, nat_tests, (objects h).held i c' a' e' s' li, (calls h).c_origin p m.coll m.source a e in_n, (calls h).c_source p m.coll m.source a e in_n, (calls h).c_resting p m.coll m.source a e in_n, below sh st h p in_n (begin.TargetDirectory m (object a e m.coll)) at_call, (calls h).calls p in_n, sections sh st h p in_n);
  one_held = λ i j c' a' e' s' t' li lj hi hj. grind (arith, nat_tests, (objects h).one_held i j c' a' e' s' t' li lj, (calls h).c_origin p m.coll m.source a e in_n, (calls h).c_source p m.coll m.source a e in_n, (calls h).c_resting p m.coll m.source a e in_n, below sh st h p in_n (begin.TargetDirectory m (object a e m.coll)) at_call, (calls h).calls p in_n, sections sh st h p in_n);
  stamp_dir = (objects h).stamp_dir;
  stamp_entry = (objects h).stamp_entry;
}

-- kind ClaimSlot
pub claim_target : (sh : Layout) (st : S.State) (p : ℕ) (x : ℕ) (calm : Bool) (m : Walk) (a : ℕ) (e : ℕ) (d : Dir) (told : ℕ) → p < sh.passes → (st.stands p).section ≡ Inside x calm → (st.stands p).phase ≡ phase.Begin (begin.ClaimTarget m (object a e m.coll) d) → Shut sh st → Nothing sh st
    → ObjectsAgree sh (did sh st p Go (Inside x calm) (phase.Begin (begin.ClaimTarget m (object a e m.coll) d)) told (Exchange (place.Directory m.coll m.target) (word.Directory d) (word.Directory dir.Claimed)))
claim_target sh st p x calm m a e d told in_n at_sec at_call h _ = record {
  standing = (objects h).standing;
  placed = λ c' a' e' s' is. grind (arith, nat_tests, (objects h).placed c' a' e' s', (calls h).c_origin p m.coll m.source a e in_n, (calls h).c_source p m.coll m.source a e in_n, (calls h).c_resting p m.coll m.source a e in_n, below sh st h p in_n (begin.ClaimTarget m (object a e m.coll) d) at_call, (calls h).calls p in_n, sections sh st h p in_n);
  held = λ i c' a' e' s' li is. let was : held_slot (st.stands i).held (object a' e' c') ≡ Some s' = by_eq i p (λ y. subst (λ (k : ℕ). held_slot (st.stands k).held (object a' e' c') ≡ Some s') (sym y) (claim_holds x (past_target m) (object a e m.coll) (same_word (st.memory (place.Directory m.coll m.target)) (word.Directory d)) (phase.Begin (next_blank sh m (object a e m.coll) 0)) (st.stands p).held (object a' e' c') s' (subst (λ (l : Stand). held_slot l.held (object a' e' c') ≡ Some s') (put_stand-same st.stands p i _ y) is))) (λ n. grind (arith, nat_tests)) in let holds = (objects h).held i c' a' e' s' li was in by_true (same_word (st.memory (place.Directory m.coll m.target)) (word.Directory d) && (s' == m.target && c' == m.coll)) (λ t. absurd (held_unripe sh st h i p x c' a' e' s' calm d li in_n at_sec was (grind (arith, nat_tests)) (ripe_target sh st h p x calm m (object a e m.coll) d in_n at_sec at_call))) (λ f. by_eq i p (λ y. grind (arith, nat_tests, holds)) (λ n. grind (arith, nat_tests, holds)));
  one_held = λ i j c' a' e' s' t' li lj hi hj. grind (arith, nat_tests, (objects h).one_held i j c' a' e' s' t' li lj, (calls h).c_origin p m.coll m.source a e in_n, (calls h).c_source p m.coll m.source a e in_n, (calls h).c_resting p m.coll m.source a e in_n, below sh st h p in_n (begin.ClaimTarget m (object a e m.coll) d) at_call, (calls h).calls p in_n, sections sh st h p in_n);
  stamp_dir = λ c' s' z' is. grind (arith, nat_tests, (objects h).stamp_dir c' s' z', (calls h).c_origin p m.coll m.source a e in_n, (calls h).c_source p m.coll m.source a e in_n, (calls h).c_resting p m.coll m.source a e in_n, below sh st h p in_n (begin.ClaimTarget m (object a e m.coll) d) at_call, (calls h).calls p in_n, sections sh st h p in_n);
  stamp_entry = (objects h).stamp_entry;
}

-- kind StoreField
pub blank_field : (sh : Layout) (st : S.State) (p : ℕ) (x : ℕ) (calm : Bool) (m : Walk) (a : ℕ) (e : ℕ) (f : ℕ) (told : ℕ) → p < sh.passes → (st.stands p).section ≡ Inside x calm → (st.stands p).phase ≡ phase.Begin (begin.BlankField m (object a e m.coll) f) → Shut sh st → Nothing sh st
    → ObjectsAgree sh (did sh st p Go (Inside x calm) (phase.Begin (begin.BlankField m (object a e m.coll) f)) told (Store (place.Field m.coll m.target f) (word.Plain BLANK)))
blank_field sh st p x calm m a e f told in_n at_sec at_call h _ = record {
  standing = (objects h).standing;
  placed = (objects h).placed;
  held = λ i c' a' e' s' li is. grind (arith, nat_tests, (objects h).held i c' a' e' s' li, (calls h).c_slot p m.coll m.target in_n, (calls h).c_origin p m.coll m.source a e in_n, (calls h).c_source p m.coll m.source a e in_n, (calls h).c_resting p m.coll m.source a e in_n, below sh st h p in_n (begin.BlankField m (object a e m.coll) f) at_call, (calls h).calls p in_n, sections sh st h p in_n);
  one_held = λ i j c' a' e' s' t' li lj hi hj. grind (arith, nat_tests, (objects h).one_held i j c' a' e' s' t' li lj, (calls h).c_slot p m.coll m.target in_n, (calls h).c_origin p m.coll m.source a e in_n, (calls h).c_source p m.coll m.source a e in_n, (calls h).c_resting p m.coll m.source a e in_n, below sh st h p in_n (begin.BlankField m (object a e m.coll) f) at_call, (calls h).calls p in_n, sections sh st h p in_n);
  stamp_dir = (objects h).stamp_dir;
  stamp_entry = (objects h).stamp_entry;
}

-- kind StoreBack
pub name_target : (sh : Layout) (st : S.State) (p : ℕ) (x : ℕ) (calm : Bool) (m : Walk) (a : ℕ) (e : ℕ) (told : ℕ) → p < sh.passes → (st.stands p).section ≡ Inside x calm → (st.stands p).phase ≡ phase.Begin (begin.StoreBack m (object a e m.coll)) → Shut sh st → Nothing sh st
    → ObjectsAgree sh (did sh st p Go (Inside x calm) (phase.Begin (begin.StoreBack m (object a e m.coll))) told (Store (place.Back m.coll m.target) (word.Back (Some (object a e m.coll)))))
name_target sh st p x calm m a e told in_n at_sec at_call h _ = record {
  standing = λ c' a' e' s' is. grind (arith, nat_tests, (objects h).standing c' a' e' s', (calls h).c_slot p m.coll m.target in_n, (calls h).c_origin p m.coll m.source a e in_n, (calls h).c_source p m.coll m.source a e in_n, (calls h).c_resting p m.coll m.source a e in_n, below sh st h p in_n (begin.StoreBack m (object a e m.coll)) at_call, (calls h).calls p in_n, sections sh st h p in_n, not_claimed sh st h c' a' e' s');
  placed = (objects h).placed;
  held = λ i c' a' e' s' li is. grind (arith, nat_tests, (objects h).held i c' a' e' s' li, (calls h).c_slot p m.coll m.target in_n, (calls h).c_origin p m.coll m.source a e in_n, (calls h).c_source p m.coll m.source a e in_n, (calls h).c_resting p m.coll m.source a e in_n, below sh st h p in_n (begin.StoreBack m (object a e m.coll)) at_call, (calls h).calls p in_n, sections sh st h p in_n);
  one_held = λ i j c' a' e' s' t' li lj hi hj. grind (arith, nat_tests, (objects h).one_held i j c' a' e' s' t' li lj, (calls h).c_slot p m.coll m.target in_n, (calls h).c_origin p m.coll m.source a e in_n, (calls h).c_source p m.coll m.source a e in_n, (calls h).c_resting p m.coll m.source a e in_n, below sh st h p in_n (begin.StoreBack m (object a e m.coll)) at_call, (calls h).calls p in_n, sections sh st h p in_n);
  stamp_dir = (objects h).stamp_dir;
  stamp_entry = (objects h).stamp_entry;
}

-- kind StoreForward
pub lead_source : (sh : Layout) (st : S.State) (p : ℕ) (x : ℕ) (calm : Bool) (m : Walk) (a : ℕ) (e : ℕ) (told : ℕ) → p < sh.passes → (st.stands p).section ≡ Inside x calm → (st.stands p).phase ≡ phase.Begin (begin.StoreForward m (object a e m.coll)) → Shut sh st → Nothing sh st
    → ObjectsAgree sh (did sh st p Go (Inside x calm) (phase.Begin (begin.StoreForward m (object a e m.coll))) told (Store (place.Forward m.coll m.source) (word.Forward m.target)))
lead_source sh st p x calm m a e told in_n at_sec at_call h _ = record {
  standing = (objects h).standing;
  placed = (objects h).placed;
  held = λ i c' a' e' s' li is. grind (arith, nat_tests, (objects h).held i c' a' e' s' li, (calls h).c_slot p m.coll m.target in_n, (calls h).c_named p m.coll m.target a e in_n, (calls h).c_origin p m.coll m.source a e in_n, (calls h).c_source p m.coll m.source a e in_n, (calls h).c_resting p m.coll m.source a e in_n, below sh st h p in_n (begin.StoreForward m (object a e m.coll)) at_call, (calls h).calls p in_n, sections sh st h p in_n);
  one_held = λ i j c' a' e' s' t' li lj hi hj. grind (arith, nat_tests, (objects h).one_held i j c' a' e' s' t' li lj, (calls h).c_slot p m.coll m.target in_n, (calls h).c_named p m.coll m.target a e in_n, (calls h).c_origin p m.coll m.source a e in_n, (calls h).c_source p m.coll m.source a e in_n, (calls h).c_resting p m.coll m.source a e in_n, below sh st h p in_n (begin.StoreForward m (object a e m.coll)) at_call, (calls h).calls p in_n, sections sh st h p in_n);
  stamp_dir = (objects h).stamp_dir;
  stamp_entry = (objects h).stamp_entry;
}

-- kind StoreIncoming
pub store_incoming : (sh : Layout) (st : S.State) (p : ℕ) (x : ℕ) (calm : Bool) (m : Walk) (a : ℕ) (e : ℕ) (told : ℕ) → p < sh.passes → (st.stands p).section ≡ Inside x calm → (st.stands p).phase ≡ phase.Begin (begin.StoreIncoming m (object a e m.coll)) → Shut sh st → Nothing sh st
    → ObjectsAgree sh (did sh st p Go (Inside x calm) (phase.Begin (begin.StoreIncoming m (object a e m.coll))) told (Store (place.Directory m.coll m.target) (word.Directory dir.Incoming)))
store_incoming sh st p x calm m a e told in_n at_sec at_call h _ = record {
  standing = (objects h).standing;
  placed = λ c' a' e' s' is. grind (arith, nat_tests, (objects h).placed c' a' e' s', (calls h).c_slot p m.coll m.target in_n, (calls h).c_named p m.coll m.target a e in_n, (calls h).c_leads p m.coll m.source m.target in_n, (calls h).c_origin p m.coll m.source a e in_n, (calls h).c_source p m.coll m.source a e in_n, (calls h).c_resting p m.coll m.source a e in_n, below sh st h p in_n (begin.StoreIncoming m (object a e m.coll)) at_call, (calls h).calls p in_n, sections sh st h p in_n);
  held = λ i c' a' e' s' li is. grind (arith, nat_tests, (objects h).held i c' a' e' s' li, (calls h).c_slot p m.coll m.target in_n, (calls h).c_named p m.coll m.target a e in_n, (calls h).c_leads p m.coll m.source m.target in_n, (calls h).c_origin p m.coll m.source a e in_n, (calls h).c_source p m.coll m.source a e in_n, (calls h).c_resting p m.coll m.source a e in_n, below sh st h p in_n (begin.StoreIncoming m (object a e m.coll)) at_call, (calls h).calls p in_n, sections sh st h p in_n);
  one_held = λ i j c' a' e' s' t' li lj hi hj. grind (arith, nat_tests, (objects h).one_held i j c' a' e' s' t' li lj, (calls h).c_slot p m.coll m.target in_n, (calls h).c_named p m.coll m.target a e in_n, (calls h).c_leads p m.coll m.source m.target in_n, (calls h).c_origin p m.coll m.source a e in_n, (calls h).c_source p m.coll m.source a e in_n, (calls h).c_resting p m.coll m.source a e in_n, below sh st h p in_n (begin.StoreIncoming m (object a e m.coll)) at_call, (calls h).calls p in_n, sections sh st h p in_n);
  stamp_dir = λ c' s' z' is. grind (arith, nat_tests, (objects h).stamp_dir c' s' z', (calls h).c_slot p m.coll m.target in_n, (calls h).c_named p m.coll m.target a e in_n, (calls h).c_leads p m.coll m.source m.target in_n, (calls h).c_origin p m.coll m.source a e in_n, (calls h).c_source p m.coll m.source a e in_n, (calls h).c_resting p m.coll m.source a e in_n, below sh st h p in_n (begin.StoreIncoming m (object a e m.coll)) at_call, (calls h).calls p in_n, sections sh st h p in_n);
  stamp_entry = (objects h).stamp_entry;
}

-- kind Freeze
pub freeze : (sh : Layout) (st : S.State) (p : ℕ) (x : ℕ) (calm : Bool) (m : Walk) (a : ℕ) (e : ℕ) (told : ℕ) → p < sh.passes → (st.stands p).section ≡ Inside x calm → (st.stands p).phase ≡ phase.Begin (begin.Freeze m (object a e m.coll)) → Shut sh st → Nothing sh st
    → ObjectsAgree sh (did sh st p Go (Inside x calm) (phase.Begin (begin.Freeze m (object a e m.coll))) told (Exchange (place.Entry m.coll e) (word.Entry (state.Present a m.source)) (word.Entry (state.Frozen a m.source))))
freeze sh st p x calm m a e told in_n at_sec at_call h _ = record {
  standing = λ c' a' e' s' is. grind (arith, nat_tests, (objects h).standing c' a' e' s', (calls h).c_named p m.coll m.target a e in_n, (calls h).c_target p m.coll m.target in_n, (calls h).c_leads p m.coll m.source m.target in_n, (calls h).c_origin p m.coll m.source a e in_n, (calls h).c_source p m.coll m.source a e in_n, (calls h).c_resting p m.coll m.source a e in_n, below sh st h p in_n (begin.Freeze m (object a e m.coll)) at_call, (calls h).calls p in_n, sections sh st h p in_n);
  placed = λ c' a' e' s' is. grind (arith, nat_tests, (objects h).placed c' a' e' s', (calls h).c_named p m.coll m.target a e in_n, (calls h).c_target p m.coll m.target in_n, (calls h).c_leads p m.coll m.source m.target in_n, (calls h).c_origin p m.coll m.source a e in_n, (calls h).c_source p m.coll m.source a e in_n, (calls h).c_resting p m.coll m.source a e in_n, below sh st h p in_n (begin.Freeze m (object a e m.coll)) at_call, (calls h).calls p in_n, sections sh st h p in_n);
  held = λ i c' a' e' s' li is. grind (arith, nat_tests, (objects h).held i c' a' e' s' li, (calls h).c_named p m.coll m.target a e in_n, (calls h).c_target p m.coll m.target in_n, (calls h).c_leads p m.coll m.source m.target in_n, (calls h).c_origin p m.coll m.source a e in_n, (calls h).c_source p m.coll m.source a e in_n, (calls h).c_resting p m.coll m.source a e in_n, below sh st h p in_n (begin.Freeze m (object a e m.coll)) at_call, (calls h).calls p in_n, sections sh st h p in_n, sections sh st h i li);
  one_held = λ i j c' a' e' s' t' li lj hi hj. grind (arith, nat_tests, (objects h).one_held i j c' a' e' s' t' li lj, (calls h).c_named p m.coll m.target a e in_n, (calls h).c_target p m.coll m.target in_n, (calls h).c_leads p m.coll m.source m.target in_n, (calls h).c_origin p m.coll m.source a e in_n, (calls h).c_source p m.coll m.source a e in_n, (calls h).c_resting p m.coll m.source a e in_n, below sh st h p in_n (begin.Freeze m (object a e m.coll)) at_call, (calls h).calls p in_n, sections sh st h p in_n);
  stamp_dir = (objects h).stamp_dir;
  stamp_entry = λ c' e' a' z' is. grind (arith, nat_tests, (objects h).stamp_entry c' e' a' z', (calls h).c_named p m.coll m.target a e in_n, (calls h).c_target p m.coll m.target in_n, (calls h).c_leads p m.coll m.source m.target in_n, (calls h).c_origin p m.coll m.source a e in_n, (calls h).c_source p m.coll m.source a e in_n, (calls h).c_resting p m.coll m.source a e in_n, below sh st h p in_n (begin.Freeze m (object a e m.coll)) at_call, (calls h).calls p in_n, sections sh st h p in_n);
}

-- kind LeaveSlot
pub begin_gives : (sh : Layout) (st : S.State) (p : ℕ) (x : ℕ) (calm : Bool) (m : Walk) (told : ℕ) → p < sh.passes → (st.stands p).section ≡ Inside x calm → (st.stands p).phase ≡ phase.Begin (begin.GiveUp m) → Shut sh st → Nothing sh st
    → ObjectsAgree sh (did sh st p Go (Inside x calm) (phase.Begin (begin.GiveUp m)) told (Store (place.Directory m.coll m.target) (word.Directory (dir.Limbo (x + 1)))))
begin_gives sh st p x calm m told in_n at_sec at_call h _ = record {
  standing = (objects h).standing;
  placed = λ c' a' e' s' is. grind (arith, nat_tests, (objects h).placed c' a' e' s', (calls h).c_target p m.coll m.target in_n, (calls h).c_leads p m.coll m.source m.target in_n, (calls h).c_loose p m.coll m.target a' e' in_n, below sh st h p in_n (begin.GiveUp m) at_call, (calls h).calls p in_n, sections sh st h p in_n, (moves h).standing_in p c' a' e' s' in_n);
  held = λ i c' a' e' s' li is. grind (arith, nat_tests, (objects h).held i c' a' e' s' li, (calls h).c_target p m.coll m.target in_n, (calls h).c_leads p m.coll m.source m.target in_n, (calls h).c_loose p m.coll m.target a' e' in_n, below sh st h p in_n (begin.GiveUp m) at_call, (calls h).calls p in_n, sections sh st h p in_n, sections sh st h i li);
  one_held = λ i j c' a' e' s' t' li lj hi hj. grind (arith, nat_tests, (objects h).one_held i j c' a' e' s' t' li lj, (calls h).c_target p m.coll m.target in_n, (calls h).c_leads p m.coll m.source m.target in_n, (calls h).c_loose p m.coll m.target a' e' in_n, below sh st h p in_n (begin.GiveUp m) at_call, (calls h).calls p in_n, sections sh st h p in_n);
  stamp_dir = λ c' s' z' is. grind (arith, nat_tests, (objects h).stamp_dir c' s' z', (calls h).c_target p m.coll m.target in_n, (calls h).c_leads p m.coll m.source m.target in_n, below sh st h p in_n (begin.GiveUp m) at_call, (calls h).calls p in_n, sections sh st h p in_n);
  stamp_entry = (objects h).stamp_entry;
}
