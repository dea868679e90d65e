-- Steps keep the agreement: copies, looks. Written by tools/laws.py.
use Rattle.std.proofs.Common.{◌≡◌, ℕ, ◌<◌, Bool, true, false, Some, subst, arith}
use Rattle.std.proofs.lemmas.Bool.Decides.{nat_tests}
use Rattle.smc_shape.specs.Layout.{Layout}
use Rattle.smc_shape.specs.declared.place.Place.TheVariants as place
use Rattle.smc_core.specs.declared.call.Call.TheVariants as call
use Rattle.smc_core.specs.declared.call.Choice.TheVariants.{Start, Go}
use Rattle.smc_core.specs.declared.op.Op.TheVariants.{Load, Exchange}
use Rattle.smc_core.specs.declared.phase.Phase.TheVariants as phase
use Rattle.smc_core.specs.declared.phase.objects.LookPhase.TheVariants as look
use Rattle.smc_core.specs.declared.phase.objects.Seeker.{Seeker}
use Rattle.smc_core.specs.declared.section.Section.TheVariants.{Inside}
use Rattle.smc_core.specs.declared.word.State.TheVariants as state
use Rattle.smc_core.specs.declared.word.Word.TheVariants as word
use Rattle.smc_core.specs.Row.{has_place}
use Rattle.smc_core.specs.declared.local.Stand.{Stand}
use Rattle.smc_rules.specs.Calls.{copying_of}
use Rattle.smc_rules.specs.Reads.{state_in, object}
use Rattle.smc_rules.specs.State as S
use Rattle.smc_rules.specs.State.{put_stand}
use Rattle.smc_rules.proofs.CarryLaws.{put_stand-same}
use Rattle.smc_agreement.specs.Kept.{Nothing}
use Rattle.smc_agreement.specs.Agreement.{CopiesAgree}
use Rattle.smc_agreement.proofs.Whole.{Shut, calls, copies, did, sections}
use Rattle.smc_agreement.proofs.CrossLaws.{by_eq, load_copies, start_copies, copy_start}

-- kind LookUp
pub starts_look : (sh : Layout) (st : S.State) (p : ℕ) (x : ℕ) (calm : Bool) (c : ℕ) (a : ℕ) (e : ℕ) (told : ℕ) → p < sh.passes → (st.stands p).section ≡ Inside x calm → (st.stands p).phase ≡ phase.Idle → has_place sh (place.Entry c e) ≡ true → Shut sh st → Nothing sh st
    → CopiesAgree sh (did sh st p (Start (call.Look (object a e c))) (Inside x calm) phase.Idle told (Load (place.Entry c e)))
starts_look sh st p x calm c a e told in_n at_sec at_call pre1 h _ = record {
  j_named = λ i c' a' e' s' n' li is. by_eq i p (λ y. let z = subst (λ (l : Stand). copying_of l.phase ≡ Some (record { number = object a' e' c'; source = s'; next = n' })) (put_stand-same st.stands p i _ y) is in let (u, v, u2, n, k) = start_copies sh calm a e c (st.memory (place.Entry c e)) a' e' c' s' n' pre1 z in grind (arith, nat_tests, copy_start sh st h c' a' e' s')) (λ n. grind (arith, nat_tests, (copies h).j_named i c' a' e' s' n' li));
  j_led = λ i c' a' e' s' n' li is. by_eq i p (λ y. let z = subst (λ (l : Stand). copying_of l.phase ≡ Some (record { number = object a' e' c'; source = s'; next = n' })) (put_stand-same st.stands p i _ y) is in let (u, v, u2, n, k) = start_copies sh calm a e c (st.memory (place.Entry c e)) a' e' c' s' n' pre1 z in grind (arith, nat_tests, copy_start sh st h c' a' e' s')) (λ n. grind (arith, nat_tests, (copies h).j_led i c' a' e' s' n' li));
  j_entry = λ i c' a' e' s' n' li is. by_eq i p (λ y. let z = subst (λ (l : Stand). copying_of l.phase ≡ Some (record { number = object a' e' c'; source = s'; next = n' })) (put_stand-same st.stands p i _ y) is in let (u, v, u2, n, k) = start_copies sh calm a e c (st.memory (place.Entry c e)) a' e' c' s' n' pre1 z in grind (arith, nat_tests, copy_start sh st h c' a' e' s')) (λ n. grind (arith, nat_tests, (copies h).j_entry i c' a' e' s' n' li));
  j_locked = λ i c' a' e' s' n' li is lk. by_eq i p (λ y. let z = subst (λ (l : Stand). copying_of l.phase ≡ Some (record { number = object a' e' c'; source = s'; next = n' })) (put_stand-same st.stands p i _ y) is in let (u, v, u2, n, k) = start_copies sh calm a e c (st.memory (place.Entry c e)) a' e' c' s' n' pre1 z in grind (arith, nat_tests, copy_start sh st h c' a' e' s')) (λ n. grind (arith, nat_tests, (copies h).j_locked i c' a' e' s' n' li));
  j_left = λ i c' a' e' s' n' li is. by_eq i p (λ y. let z = subst (λ (l : Stand). copying_of l.phase ≡ Some (record { number = object a' e' c'; source = s'; next = n' })) (put_stand-same st.stands p i _ y) is in let (u, v, u2, n, k) = start_copies sh calm a e c (st.memory (place.Entry c e)) a' e' c' s' n' pre1 z in grind (arith, nat_tests, copy_start sh st h c' a' e' s')) (λ n. grind (arith, nat_tests, (copies h).j_left i c' a' e' s' n' li));
  j_for = λ i c' a' e' s' n' li is. by_eq i p (λ y. let z = subst (λ (l : Stand). copying_of l.phase ≡ Some (record { number = object a' e' c'; source = s'; next = n' })) (put_stand-same st.stands p i _ y) is in let (u, v, u2, n, k) = start_copies sh calm a e c (st.memory (place.Entry c e)) a' e' c' s' n' pre1 z in grind (arith, nat_tests, copy_start sh st h c' a' e' s')) (λ n. grind (arith, nat_tests, (copies h).j_for i c' a' e' s' n' li));
  j_back = λ i c' a' e' s' n' li is inc. by_eq i p (λ y. let z = subst (λ (l : Stand). copying_of l.phase ≡ Some (record { number = object a' e' c'; source = s'; next = n' })) (put_stand-same st.stands p i _ y) is in let (u, v, u2, n, k) = start_copies sh calm a e c (st.memory (place.Entry c e)) a' e' c' s' n' pre1 z in grind (arith, nat_tests, copy_start sh st h c' a' e' s')) (λ n. grind (arith, nat_tests, (copies h).j_back i c' a' e' s' n' li));
}

-- kind LoadSection
pub look_out : (sh : Layout) (st : S.State) (p : ℕ) (x : ℕ) (calm : Bool) (c : ℕ) (a : ℕ) (e : ℕ) (told : ℕ) → p < sh.passes → (st.stands p).section ≡ Inside x calm → (st.stands p).phase ≡ phase.Idle → has_place sh (place.Entry c e) ≡ false → Shut sh st → Nothing sh st
    → CopiesAgree sh (did sh st p (Start (call.Look (object a e c))) (Inside x calm) phase.Idle told (Load (place.Section p)))
look_out sh st p x calm c a e told in_n at_sec at_call pre1 h _ = record {
  j_named = λ i c' a' e' s' n' li is. grind (arith, nat_tests, (copies h).j_named i c' a' e' s' n' li, (calls h).calls p in_n, sections sh st h p in_n);
  j_led = λ i c' a' e' s' n' li is. grind (arith, nat_tests, (copies h).j_led i c' a' e' s' n' li, (calls h).calls p in_n, sections sh st h p in_n);
  j_entry = λ i c' a' e' s' n' li is. grind (arith, nat_tests, (copies h).j_entry i c' a' e' s' n' li, (calls h).calls p in_n, sections sh st h p in_n);
  j_locked = λ i c' a' e' s' n' li is lk. grind (arith, nat_tests, (copies h).j_locked i c' a' e' s' n' li, (calls h).calls p in_n, sections sh st h p in_n);
  j_left = λ i c' a' e' s' n' li is. grind (arith, nat_tests, (copies h).j_left i c' a' e' s' n' li, (calls h).calls p in_n, sections sh st h p in_n);
  j_for = λ i c' a' e' s' n' li is. grind (arith, nat_tests, (copies h).j_for i c' a' e' s' n' li, (calls h).calls p in_n, sections sh st h p in_n);
  j_back = λ i c' a' e' s' n' li is inc. grind (arith, nat_tests, (copies h).j_back i c' a' e' s' n' li, (calls h).calls p in_n, sections sh st h p in_n);
}

-- kind LookUp
pub look_load : (sh : Layout) (st : S.State) (p : ℕ) (x : ℕ) (calm : Bool) (who : Seeker) (c : ℕ) (a : ℕ) (e : ℕ) (told : ℕ) → p < sh.passes → (st.stands p).section ≡ Inside x calm → (st.stands p).phase ≡ phase.Look (look.Load who (object a e c)) → Shut sh st → Nothing sh st
    → CopiesAgree sh (did sh st p Go (Inside x calm) (phase.Look (look.Load who (object a e c))) told (Load (place.Entry c e)))
look_load sh st p x calm who c a e told in_n at_sec at_call h _ = record {
  j_named = λ i c' a' e' s' n' li is. by_eq i p (λ y. let z = subst (λ (l : Stand). copying_of l.phase ≡ Some (record { number = object a' e' c'; source = s'; next = n' })) (put_stand-same st.stands p i _ y) is in let (u, v, u2, n, k) = load_copies sh who calm a e c (state_in st.memory c e) a' e' c' s' n' z in grind (arith, nat_tests, copy_start sh st h c' a' e' s')) (λ n. grind (arith, nat_tests, (copies h).j_named i c' a' e' s' n' li));
  j_led = λ i c' a' e' s' n' li is. by_eq i p (λ y. let z = subst (λ (l : Stand). copying_of l.phase ≡ Some (record { number = object a' e' c'; source = s'; next = n' })) (put_stand-same st.stands p i _ y) is in let (u, v, u2, n, k) = load_copies sh who calm a e c (state_in st.memory c e) a' e' c' s' n' z in grind (arith, nat_tests, copy_start sh st h c' a' e' s')) (λ n. grind (arith, nat_tests, (copies h).j_led i c' a' e' s' n' li));
  j_entry = λ i c' a' e' s' n' li is. by_eq i p (λ y. let z = subst (λ (l : Stand). copying_of l.phase ≡ Some (record { number = object a' e' c'; source = s'; next = n' })) (put_stand-same st.stands p i _ y) is in let (u, v, u2, n, k) = load_copies sh who calm a e c (state_in st.memory c e) a' e' c' s' n' z in grind (arith, nat_tests, copy_start sh st h c' a' e' s')) (λ n. grind (arith, nat_tests, (copies h).j_entry i c' a' e' s' n' li));
  j_locked = λ i c' a' e' s' n' li is lk. by_eq i p (λ y. let z = subst (λ (l : Stand). copying_of l.phase ≡ Some (record { number = object a' e' c'; source = s'; next = n' })) (put_stand-same st.stands p i _ y) is in let (u, v, u2, n, k) = load_copies sh who calm a e c (state_in st.memory c e) a' e' c' s' n' z in grind (arith, nat_tests, copy_start sh st h c' a' e' s')) (λ n. grind (arith, nat_tests, (copies h).j_locked i c' a' e' s' n' li));
  j_left = λ i c' a' e' s' n' li is. by_eq i p (λ y. let z = subst (λ (l : Stand). copying_of l.phase ≡ Some (record { number = object a' e' c'; source = s'; next = n' })) (put_stand-same st.stands p i _ y) is in let (u, v, u2, n, k) = load_copies sh who calm a e c (state_in st.memory c e) a' e' c' s' n' z in grind (arith, nat_tests, copy_start sh st h c' a' e' s')) (λ n. grind (arith, nat_tests, (copies h).j_left i c' a' e' s' n' li));
  j_for = λ i c' a' e' s' n' li is. by_eq i p (λ y. let z = subst (λ (l : Stand). copying_of l.phase ≡ Some (record { number = object a' e' c'; source = s'; next = n' })) (put_stand-same st.stands p i _ y) is in let (u, v, u2, n, k) = load_copies sh who calm a e c (state_in st.memory c e) a' e' c' s' n' z in grind (arith, nat_tests, copy_start sh st h c' a' e' s')) (λ n. grind (arith, nat_tests, (copies h).j_for i c' a' e' s' n' li));
  j_back = λ i c' a' e' s' n' li is inc. by_eq i p (λ y. let z = subst (λ (l : Stand). copying_of l.phase ≡ Some (record { number = object a' e' c'; source = s'; next = n' })) (put_stand-same st.stands p i _ y) is in let (u, v, u2, n, k) = load_copies sh who calm a e c (state_in st.memory c e) a' e' c' s' n' z in grind (arith, nat_tests, copy_start sh st h c' a' e' s')) (λ n. grind (arith, nat_tests, (copies h).j_back i c' a' e' s' n' li));
}

-- kind Unfreeze
pub abandon : (sh : Layout) (st : S.State) (p : ℕ) (x : ℕ) (calm : Bool) (who : Seeker) (c : ℕ) (a : ℕ) (e : ℕ) (q : ℕ) (told : ℕ) → p < sh.passes → (st.stands p).section ≡ Inside x calm → (st.stands p).phase ≡ phase.Look (look.Abandon who (object a e c) q) → Shut sh st → Nothing sh st
    → CopiesAgree sh (did sh st p Go (Inside x calm) (phase.Look (look.Abandon who (object a e c) q)) told (Exchange (place.Entry c e) (word.Entry (state.Frozen a q)) (word.Entry (state.Present a q))))
abandon sh st p x calm who c a e q told in_n at_sec at_call h _ = record {
  j_named = λ i c' a' e' s' n' li is. grind (arith, nat_tests, (copies h).j_named i c' a' e' s' n' li, (calls h).calls p in_n, sections sh st h p in_n, copy_start sh st h c' a' e' s');
  j_led = λ i c' a' e' s' n' li is. grind (arith, nat_tests, (copies h).j_led i c' a' e' s' n' li, (calls h).calls p in_n, sections sh st h p in_n, copy_start sh st h c' a' e' s');
  j_entry = λ i c' a' e' s' n' li is. grind (arith, nat_tests, (copies h).j_entry i c' a' e' s' n' li, (calls h).calls p in_n, sections sh st h p in_n, copy_start sh st h c' a' e' s');
  j_locked = λ i c' a' e' s' n' li is lk. grind (arith, nat_tests, (copies h).j_locked i c' a' e' s' n' li, (calls h).calls p in_n, sections sh st h p in_n, copy_start sh st h c' a' e' s');
  j_left = λ i c' a' e' s' n' li is. grind (arith, nat_tests, (copies h).j_left i c' a' e' s' n' li, (calls h).calls p in_n, sections sh st h p in_n, copy_start sh st h c' a' e' s');
  j_for = λ i c' a' e' s' n' li is. grind (arith, nat_tests, (copies h).j_for i c' a' e' s' n' li, (calls h).calls p in_n, sections sh st h p in_n, copy_start sh st h c' a' e' s');
  j_back = λ i c' a' e' s' n' li is inc. grind (arith, nat_tests, (copies h).j_back i c' a' e' s' n' li, (calls h).calls p in_n, sections sh st h p in_n, copy_start sh st h c' a' e' s');
}
