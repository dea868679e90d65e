-- Steps keep the agreement: objects, looks. Written by tools/laws.py.
use Rattle.std.proofs.Common.{◌≡◌, ℕ, ◌<◌, Bool, true, false, Some, subst, inl, inr, arith}
use Rattle.std.proofs.lemmas.Bool.Decides.{nat_tests}
use Rattle.smc_shape.specs.Layout.{Layout}
use Rattle.smc_shape.specs.declared.place.Place.TheVariants as place
use Rattle.smc_core.specs.declared.call.Call.TheVariants as call
use Rattle.smc_core.specs.declared.call.Choice.TheVariants.{Start, Go}
use Rattle.smc_core.specs.declared.op.Op.TheVariants.{Load, Exchange}
use Rattle.smc_core.specs.declared.phase.Phase.TheVariants as phase
use Rattle.smc_core.specs.declared.phase.objects.LookPhase.TheVariants as look
use Rattle.smc_core.specs.declared.phase.objects.Seeker.{Seeker}
use Rattle.smc_core.specs.declared.section.Section.TheVariants.{Inside}
use Rattle.smc_core.specs.declared.word.State.TheVariants as state
use Rattle.smc_core.specs.declared.word.Word.TheVariants as word
use Rattle.smc_core.specs.Offer.{held_slot}
use Rattle.smc_core.specs.Row.{has_place}
use Rattle.smc_core.specs.declared.local.Stand.{Stand}
use Rattle.smc_rules.specs.Reads.{state_in, object}
use Rattle.smc_rules.specs.State as S
use Rattle.smc_rules.specs.State.{put_stand}
use Rattle.smc_rules.proofs.CarryLaws.{put_stand-same}
use Rattle.smc_agreement.specs.Kept.{Nothing}
use Rattle.smc_agreement.specs.Agreement.{ObjectsAgree}
use Rattle.smc_agreement.proofs.Whole.{Shut, calls, objects, did, sections}
use Rattle.smc_agreement.proofs.CrossLaws.{by_eq, load_holds, start_holds, hold_free, calm_unlocked}

-- kind LookUp
pub starts_look : (sh : Layout) (st : S.State) (p : ℕ) (x : ℕ) (calm : Bool) (c : ℕ) (a : ℕ) (e : ℕ) (told : ℕ) → p < sh.passes → (st.stands p).section ≡ Inside x calm → (st.stands p).phase ≡ phase.Idle → has_place sh (place.Entry c e) ≡ true → Shut sh st → Nothing sh st
    → ObjectsAgree sh (did sh st p (Start (call.Look (object a e c))) (Inside x calm) phase.Idle told (Load (place.Entry c e)))
starts_look sh st p x calm c a e told in_n at_sec at_call pre1 h _ = record {
  standing = (objects h).standing;
  placed = (objects h).placed;
  held = λ i c' a' e' s' li is. by_eq i p (λ y. elim (start_holds sh calm a e c (st.memory (place.Entry c e)) (st.stands p).held a' e' c' s' pre1 (λ cm s. calm_unlocked sh st h p x c a e s in_n (subst (λ (b : Bool). (st.stands p).section ≡ Inside x b) cm at_sec)) (subst (λ (l : Stand). held_slot l.held (object a' e' c') ≡ Some s') (put_stand-same st.stands p i _ y) is)) [ inl old ↦ grind (arith, nat_tests, (objects h).held p c' a' e' s' in_n) | inr new ↦ grind (arith, nat_tests, hold_free sh st h x c a e s') ]) (λ n. grind (arith, nat_tests, (objects h).held i c' a' e' s' li));
  one_held = λ i j c' a' e' s' t' li lj hi hj. by_eq i p (λ y. by_eq j p (λ z. grind (arith, nat_tests)) (λ z. elim (start_holds sh calm a e c (st.memory (place.Entry c e)) (st.stands p).held a' e' c' s' pre1 (λ cm s. calm_unlocked sh st h p x c a e s in_n (subst (λ (b : Bool). (st.stands p).section ≡ Inside x b) cm at_sec)) (subst (λ (l : Stand). held_slot l.held (object a' e' c') ≡ Some s') (put_stand-same st.stands p i _ y) hi)) [ inl old ↦ grind (arith, nat_tests, (objects h).one_held p j c' a' e' s' t' in_n lj) | inr new ↦ grind (arith, nat_tests, (objects h).held j c' a' e' t' lj) ])) (λ y. by_eq j p (λ z. elim (start_holds sh calm a e c (st.memory (place.Entry c e)) (st.stands p).held a' e' c' t' pre1 (λ cm s. calm_unlocked sh st h p x c a e s in_n (subst (λ (b : Bool). (st.stands p).section ≡ Inside x b) cm at_sec)) (subst (λ (l : Stand). held_slot l.held (object a' e' c') ≡ Some t') (put_stand-same st.stands p j _ z) hj)) [ inl old ↦ grind (arith, nat_tests, (objects h).one_held i p c' a' e' s' t' li in_n) | inr new ↦ grind (arith, nat_tests, (objects h).held i c' a' e' s' li) ]) (λ z. grind (arith, nat_tests, (objects h).one_held i j c' a' e' s' t' li lj)));
  stamp_dir = (objects h).stamp_dir;
  stamp_entry = (objects h).stamp_entry;
}

-- kind LoadSection
pub look_out : (sh : Layout) (st : S.State) (p : ℕ) (x : ℕ) (calm : Bool) (c : ℕ) (a : ℕ) (e : ℕ) (told : ℕ) → p < sh.passes → (st.stands p).section ≡ Inside x calm → (st.stands p).phase ≡ phase.Idle → has_place sh (place.Entry c e) ≡ false → Shut sh st → Nothing sh st
    → ObjectsAgree sh (did sh st p (Start (call.Look (object a e c))) (Inside x calm) phase.Idle told (Load (place.Section p)))
look_out sh st p x calm c a e told in_n at_sec at_call pre1 h _ = record {
  standing = (objects h).standing;
  placed = (objects h).placed;
  held = λ i c' a' e' s' li is. grind (arith, nat_tests, (objects h).held i c' a' e' s' li, (calls h).calls p in_n, sections sh st h p in_n);
  one_held = λ i j c' a' e' s' t' li lj hi hj. grind (arith, nat_tests, (objects h).one_held i j c' a' e' s' t' li lj, (calls h).calls p in_n, sections sh st h p in_n);
  stamp_dir = (objects h).stamp_dir;
  stamp_entry = (objects h).stamp_entry;
}

-- kind LookUp
pub look_load : (sh : Layout) (st : S.State) (p : ℕ) (x : ℕ) (calm : Bool) (who : Seeker) (c : ℕ) (a : ℕ) (e : ℕ) (told : ℕ) → p < sh.passes → (st.stands p).section ≡ Inside x calm → (st.stands p).phase ≡ phase.Look (look.Load who (object a e c)) → Shut sh st → Nothing sh st
    → ObjectsAgree sh (did sh st p Go (Inside x calm) (phase.Look (look.Load who (object a e c))) told (Load (place.Entry c e)))
look_load sh st p x calm who c a e told in_n at_sec at_call h _ = record {
  standing = (objects h).standing;
  placed = (objects h).placed;
  held = λ i c' a' e' s' li is. by_eq i p (λ y. elim (load_holds sh who calm a e c (state_in st.memory c e) (st.stands p).held a' e' c' s' (λ cm s. calm_unlocked sh st h p x c a e s in_n (subst (λ (b : Bool). (st.stands p).section ≡ Inside x b) cm at_sec)) (subst (λ (l : Stand). held_slot l.held (object a' e' c') ≡ Some s') (put_stand-same st.stands p i _ y) is)) [ inl old ↦ grind (arith, nat_tests, (objects h).held p c' a' e' s' in_n) | inr new ↦ grind (arith, nat_tests, hold_free sh st h x c a e s') ]) (λ n. grind (arith, nat_tests, (objects h).held i c' a' e' s' li));
  one_held = λ i j c' a' e' s' t' li lj hi hj. by_eq i p (λ y. by_eq j p (λ z. grind (arith, nat_tests)) (λ z. elim (load_holds sh who calm a e c (state_in st.memory c e) (st.stands p).held a' e' c' s' (λ cm s. calm_unlocked sh st h p x c a e s in_n (subst (λ (b : Bool). (st.stands p).section ≡ Inside x b) cm at_sec)) (subst (λ (l : Stand). held_slot l.held (object a' e' c') ≡ Some s') (put_stand-same st.stands p i _ y) hi)) [ inl old ↦ grind (arith, nat_tests, (objects h).one_held p j c' a' e' s' t' in_n lj) | inr new ↦ grind (arith, nat_tests, (objects h).held j c' a' e' t' lj) ])) (λ y. by_eq j p (λ z. elim (load_holds sh who calm a e c (state_in st.memory c e) (st.stands p).held a' e' c' t' (λ cm s. calm_unlocked sh st h p x c a e s in_n (subst (λ (b : Bool). (st.stands p).section ≡ Inside x b) cm at_sec)) (subst (λ (l : Stand). held_slot l.held (object a' e' c') ≡ Some t') (put_stand-same st.stands p j _ z) hj)) [ inl old ↦ grind (arith, nat_tests, (objects h).one_held i p c' a' e' s' t' li in_n) | inr new ↦ grind (arith, nat_tests, (objects h).held i c' a' e' s' li) ]) (λ z. grind (arith, nat_tests, (objects h).one_held i j c' a' e' s' t' li lj)));
  stamp_dir = (objects h).stamp_dir;
  stamp_entry = (objects h).stamp_entry;
}

-- kind Unfreeze
pub abandon : (sh : Layout) (st : S.State) (p : ℕ) (x : ℕ) (calm : Bool) (who : Seeker) (c : ℕ) (a : ℕ) (e : ℕ) (q : ℕ) (told : ℕ) → p < sh.passes → (st.stands p).section ≡ Inside x calm → (st.stands p).phase ≡ phase.Look (look.Abandon who (object a e c) q) → Shut sh st → Nothing sh st
    → ObjectsAgree sh (did sh st p Go (Inside x calm) (phase.Look (look.Abandon who (object a e c) q)) told (Exchange (place.Entry c e) (word.Entry (state.Frozen a q)) (word.Entry (state.Present a q))))
abandon sh st p x calm who c a e q told in_n at_sec at_call h _ = record {
  standing = λ c' a' e' s' is. grind (arith, nat_tests, (objects h).standing c' a' e' s', (calls h).calls p in_n, sections sh st h p in_n);
  placed = λ c' a' e' s' is. grind (arith, nat_tests, (objects h).placed c' a' e' s', (calls h).calls p in_n, sections sh st h p in_n);
  held = λ i c' a' e' s' li is. by_eq i p (λ y. grind (arith, nat_tests, (calls h).calls p in_n, sections sh st h p in_n, (objects h).held i c' a' e' s' li, hold_free sh st h x c' a' e' s')) (λ n. grind (arith, nat_tests, (objects h).held i c' a' e' s' li));
  one_held = λ i j c' a' e' s' t' li lj hi hj. by_eq i p (λ y. by_eq j p (λ z. grind (arith, nat_tests, (objects h).one_held i j c' a' e' s' t' li lj)) (λ z. grind (arith, nat_tests, (objects h).one_held i j c' a' e' s' t' li lj, hold_free sh st h x c' a' e' s', (objects h).held j c' a' e' t' lj))) (λ y. by_eq j p (λ z. grind (arith, nat_tests, (objects h).one_held i j c' a' e' s' t' li lj, hold_free sh st h x c' a' e' t', (objects h).held i c' a' e' s' li)) (λ z. grind (arith, nat_tests, (objects h).one_held i j c' a' e' s' t' li lj)));
  stamp_dir = (objects h).stamp_dir;
  stamp_entry = λ c' e' a' z' is. grind (arith, nat_tests, (objects h).stamp_entry c' e' a' z', (calls h).calls p in_n, sections sh st h p in_n);
}
