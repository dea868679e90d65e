-- Steps keep the agreement: calls, cancels. Written by tools/laws.py.
use Rattle.std.proofs.Common.{◌≡◌, ℕ, ◌+◌, ◌<◌, Bool, Some, None, subst, arith}
use Rattle.std.proofs.lemmas.Bool.Decides.{nat_tests}
use Rattle.smc_words.specs.declared.dir.Dir.TheVariants as dir
use Rattle.smc_shape.specs.Layout.{Layout}
use Rattle.smc_shape.specs.declared.place.Place.TheVariants as place
use Rattle.smc_core.specs.declared.call.Call.TheVariants as call
use Rattle.smc_core.specs.declared.call.Choice.TheVariants.{Start, Go}
use Rattle.smc_core.specs.declared.op.Op.TheVariants.{Load, Store, Exchange}
use Rattle.smc_core.specs.declared.phase.Phase.TheVariants as phase
use Rattle.smc_core.specs.declared.phase.moves.CancelPhase.TheVariants as cancel
use Rattle.smc_core.specs.declared.section.Section.TheVariants.{Inside}
use Rattle.smc_core.specs.declared.word.State.TheVariants as state
use Rattle.smc_core.specs.declared.word.Word.TheVariants as word
use Rattle.smc_inv_range.specs.Calls.{InPhase}
use Rattle.smc_rules.specs.Reads.{object}
use Rattle.smc_rules.specs.State as S
use Rattle.smc_rules.specs.State.{put_stand}
use Rattle.smc_agreement.specs.Kept.{Nothing}
use Rattle.smc_agreement.specs.Agreement.{CallsAgree}
use Rattle.smc_agreement.proofs.Whole.{Shut, ranges, calls, moves, did, sections, owner_same}
use Rattle.smc_agreement.proofs.CrossLaws.{back_home, unlocked}

-- kind LoadDirectory
pub starts_cancel : (sh : Layout) (st : S.State) (p : ℕ) (x : ℕ) (calm : Bool) (b : ℕ) (c : ℕ) (told : ℕ) → p < sh.passes → (st.stands p).section ≡ Inside x calm → (st.stands p).phase ≡ phase.Idle → (st.stands p).round ≡ Some (record { bound = b; coll = c }) → Shut sh st → Nothing sh st
    → CallsAgree sh (did sh st p (Start call.Cancel) (Inside x calm) phase.Idle told (Load (place.Directory c 0)))
starts_cancel sh st p x calm b c told in_n at_sec at_call pre1 h _ = record {
  calls = λ i li. grind (arith, nat_tests, (calls h).calls i li, (calls h).calls p in_n, sections sh st h p in_n);
  c_slot = λ i c' s' li is. grind (arith, nat_tests, (calls h).c_slot i c' s' li, (calls h).calls p in_n, sections sh st h p in_n);
  c_entry = λ i c' a' e' li is. grind (arith, nat_tests, (calls h).c_entry i c' a' e' li, (calls h).calls p in_n, sections sh st h p in_n);
  c_named = λ i c' s' a' e' li is. grind (arith, nat_tests, (calls h).c_named i c' s' a' e' li, (calls h).calls p in_n, sections sh st h p in_n);
  c_target = λ i c' s' li is. grind (arith, nat_tests, (calls h).c_target i c' s' li, (calls h).calls p in_n, sections sh st h p in_n);
  c_lives = λ i c' s' a' e' li is. grind (arith, nat_tests, (calls h).c_lives i c' s' a' e' li, (calls h).calls p in_n, sections sh st h p in_n);
  c_leads = λ i c' s' t' li is. grind (arith, nat_tests, (calls h).c_leads i c' s' t' li, (calls h).calls p in_n, sections sh st h p in_n);
  c_origin = λ i c' s' a' e' li is. grind (arith, nat_tests, (calls h).c_origin i c' s' a' e' li, (calls h).calls p in_n, sections sh st h p in_n);
  c_source = λ i c' s' a' e' li is. grind (arith, nat_tests, (calls h).c_source i c' s' a' e' li, (calls h).calls p in_n, sections sh st h p in_n);
  c_resting = λ i c' s' a' e' li is. grind (arith, nat_tests, (calls h).c_resting i c' s' a' e' li, (calls h).calls p in_n, sections sh st h p in_n);
  c_loose = λ i c' s' a' e' li is nm. grind (arith, nat_tests, (calls h).c_loose i c' s' a' e' li, (calls h).calls p in_n, sections sh st h p in_n);
  c_tries = λ i c' s' a' e' li is. grind (arith, nat_tests, (calls h).c_tries i c' s' a' e' li, (calls h).calls p in_n, sections sh st h p in_n);
  c_removes = λ i c' a' e' li is. grind (arith, nat_tests, (calls h).c_removes i c' a' e' li, (calls h).calls p in_n, sections sh st h p in_n);
  c_leaving = λ i c' s' a' e' li is. grind (arith, nat_tests, (calls h).c_leaving i c' s' a' e' li, (calls h).calls p in_n, sections sh st h p in_n);
  c_limbos = λ i c' s' a' e' li is. grind (arith, nat_tests, (calls h).c_limbos i c' s' a' e' li, (calls h).calls p in_n, sections sh st h p in_n);
  c_frees = λ i c' s' a' e' li is st'. grind (arith, nat_tests, (calls h).c_frees i c' s' a' e' li, (calls h).calls p in_n, sections sh st h p in_n);
  c_leaves = λ i c' s' li is. grind (arith, nat_tests, (calls h).c_leaves i c' s' li, (calls h).calls p in_n, sections sh st h p in_n);
  c_apart = λ i c' s' a' e' li is nm. grind (arith, nat_tests, (calls h).c_apart i c' s' a' e' li, (calls h).calls p in_n, sections sh st h p in_n);
  c_moved = λ i c' s' a' e' li is nm. grind (arith, nat_tests, (calls h).c_moved i c' s' a' e' li, (calls h).calls p in_n, sections sh st h p in_n);
  c_ends = λ i c' s' t' li is. grind (arith, nat_tests, (calls h).c_ends i c' s' t' li, (calls h).calls p in_n, sections sh st h p in_n);
  c_passed = λ i c' s' li is. grind (arith, nat_tests, (calls h).c_passed i c' s' li, (calls h).calls p in_n, sections sh st h p in_n);
}

-- kind LoadDirectory
pub cancel_dir : (sh : Layout) (st : S.State) (p : ℕ) (x : ℕ) (calm : Bool) (c : ℕ) (t : ℕ) (told : ℕ) → p < sh.passes → (st.stands p).section ≡ Inside x calm → (st.stands p).phase ≡ phase.Cancel (cancel.Directory c t) → Shut sh st → Nothing sh st
    → CallsAgree sh (did sh st p Go (Inside x calm) (phase.Cancel (cancel.Directory c t)) told (Load (place.Directory c t)))
cancel_dir sh st p x calm c t told in_n at_sec at_call h _ = record {
  calls = λ i li. grind (arith, nat_tests, (calls h).calls i li, (calls h).calls p in_n, sections sh st h p in_n);
  c_slot = λ i c' s' li is. grind (arith, nat_tests, (calls h).c_slot i c' s' li, (calls h).calls p in_n, sections sh st h p in_n);
  c_entry = λ i c' a' e' li is. grind (arith, nat_tests, (calls h).c_entry i c' a' e' li, (calls h).calls p in_n, sections sh st h p in_n);
  c_named = λ i c' s' a' e' li is. grind (arith, nat_tests, (calls h).c_named i c' s' a' e' li, (calls h).calls p in_n, sections sh st h p in_n);
  c_target = λ i c' s' li is. grind (arith, nat_tests, (calls h).c_target i c' s' li, (calls h).calls p in_n, sections sh st h p in_n);
  c_lives = λ i c' s' a' e' li is. grind (arith, nat_tests, (calls h).c_lives i c' s' a' e' li, (calls h).calls p in_n, sections sh st h p in_n);
  c_leads = λ i c' s' t' li is. grind (arith, nat_tests, (calls h).c_leads i c' s' t' li, (calls h).calls p in_n, sections sh st h p in_n);
  c_origin = λ i c' s' a' e' li is. grind (arith, nat_tests, (calls h).c_origin i c' s' a' e' li, (calls h).calls p in_n, sections sh st h p in_n);
  c_source = λ i c' s' a' e' li is. grind (arith, nat_tests, (calls h).c_source i c' s' a' e' li, (calls h).calls p in_n, sections sh st h p in_n);
  c_resting = λ i c' s' a' e' li is. grind (arith, nat_tests, (calls h).c_resting i c' s' a' e' li, (calls h).calls p in_n, sections sh st h p in_n);
  c_loose = λ i c' s' a' e' li is nm. grind (arith, nat_tests, (calls h).c_loose i c' s' a' e' li, (calls h).calls p in_n, sections sh st h p in_n);
  c_tries = λ i c' s' a' e' li is. grind (arith, nat_tests, (calls h).c_tries i c' s' a' e' li, (calls h).calls p in_n, sections sh st h p in_n);
  c_removes = λ i c' a' e' li is. grind (arith, nat_tests, (calls h).c_removes i c' a' e' li, (calls h).calls p in_n, sections sh st h p in_n);
  c_leaving = λ i c' s' a' e' li is. grind (arith, nat_tests, (calls h).c_leaving i c' s' a' e' li, (calls h).calls p in_n, sections sh st h p in_n);
  c_limbos = λ i c' s' a' e' li is. grind (arith, nat_tests, (calls h).c_limbos i c' s' a' e' li, (calls h).calls p in_n, sections sh st h p in_n);
  c_frees = λ i c' s' a' e' li is st'. grind (arith, nat_tests, (calls h).c_frees i c' s' a' e' li, (calls h).calls p in_n, sections sh st h p in_n);
  c_leaves = λ i c' s' li is. grind (arith, nat_tests, (calls h).c_leaves i c' s' li, (calls h).calls p in_n, sections sh st h p in_n);
  c_apart = λ i c' s' a' e' li is nm. grind (arith, nat_tests, (calls h).c_apart i c' s' a' e' li, (calls h).calls p in_n, sections sh st h p in_n);
  c_moved = λ i c' s' a' e' li is nm. grind (arith, nat_tests, (calls h).c_moved i c' s' a' e' li, (calls h).calls p in_n, sections sh st h p in_n);
  c_ends = λ i c' s' t' li is. grind (arith, nat_tests, (calls h).c_ends i c' s' t' li, (calls h).calls p in_n, sections sh st h p in_n);
  c_passed = λ i c' s' li is. grind (arith, nat_tests, (calls h).c_passed i c' s' li, (calls h).calls p in_n, sections sh st h p in_n);
}

-- kind LoadBack
pub cancel_back : (sh : Layout) (st : S.State) (p : ℕ) (x : ℕ) (calm : Bool) (c : ℕ) (t : ℕ) (told : ℕ) → p < sh.passes → (st.stands p).section ≡ Inside x calm → (st.stands p).phase ≡ phase.Cancel (cancel.Back c t) → Shut sh st → Nothing sh st
    → CallsAgree sh (did sh st p Go (Inside x calm) (phase.Cancel (cancel.Back c t)) told (Load (place.Back c t)))
cancel_back sh st p x calm c t told in_n at_sec at_call h _ = record {
  calls = λ i li. grind (arith, nat_tests, (calls h).calls i li, (calls h).c_target p c t in_n, (calls h).calls p in_n, sections sh st h p in_n);
  c_slot = λ i c' s' li is. grind (arith, nat_tests, (calls h).c_slot i c' s' li, (calls h).c_target p c t in_n, (calls h).calls p in_n, sections sh st h p in_n);
  c_entry = λ i c' a' e' li is. grind (arith, nat_tests, (calls h).c_entry i c' a' e' li, (calls h).c_target p c t in_n, (calls h).calls p in_n, sections sh st h p in_n);
  c_named = λ i c' s' a' e' li is. grind (arith, nat_tests, (calls h).c_named i c' s' a' e' li, (calls h).c_target p c t in_n, (calls h).calls p in_n, sections sh st h p in_n, back_home sh st h c t a' e' c' (subst (InPhase sh (st.stands p).words) at_call ((ranges h).stands p in_n).phase));
  c_target = λ i c' s' li is. grind (arith, nat_tests, (calls h).c_target i c' s' li, (calls h).c_target p c t in_n, (calls h).calls p in_n, sections sh st h p in_n);
  c_lives = λ i c' s' a' e' li is. grind (arith, nat_tests, (calls h).c_lives i c' s' a' e' li, (calls h).c_target p c t in_n, (calls h).calls p in_n, sections sh st h p in_n);
  c_leads = λ i c' s' t' li is. grind (arith, nat_tests, (calls h).c_leads i c' s' t' li, (calls h).c_target p c t in_n, (calls h).calls p in_n, sections sh st h p in_n);
  c_origin = λ i c' s' a' e' li is. grind (arith, nat_tests, (calls h).c_origin i c' s' a' e' li, (calls h).c_target p c t in_n, (calls h).calls p in_n, sections sh st h p in_n);
  c_source = λ i c' s' a' e' li is. grind (arith, nat_tests, (calls h).c_source i c' s' a' e' li, (calls h).c_target p c t in_n, (calls h).calls p in_n, sections sh st h p in_n);
  c_resting = λ i c' s' a' e' li is. grind (arith, nat_tests, (calls h).c_resting i c' s' a' e' li, (calls h).c_target p c t in_n, (calls h).calls p in_n, sections sh st h p in_n);
  c_loose = λ i c' s' a' e' li is nm. grind (arith, nat_tests, (calls h).c_loose i c' s' a' e' li, (calls h).c_target p c t in_n, (calls h).calls p in_n, sections sh st h p in_n);
  c_tries = λ i c' s' a' e' li is. grind (arith, nat_tests, (calls h).c_tries i c' s' a' e' li, (calls h).c_target p c t in_n, (calls h).calls p in_n, sections sh st h p in_n);
  c_removes = λ i c' a' e' li is. grind (arith, nat_tests, (calls h).c_removes i c' a' e' li, (calls h).c_target p c t in_n, (calls h).calls p in_n, sections sh st h p in_n);
  c_leaving = λ i c' s' a' e' li is. grind (arith, nat_tests, (calls h).c_leaving i c' s' a' e' li, (calls h).c_target p c t in_n, (calls h).calls p in_n, sections sh st h p in_n);
  c_limbos = λ i c' s' a' e' li is. grind (arith, nat_tests, (calls h).c_limbos i c' s' a' e' li, (calls h).c_target p c t in_n, (calls h).calls p in_n, sections sh st h p in_n);
  c_frees = λ i c' s' a' e' li is st'. grind (arith, nat_tests, (calls h).c_frees i c' s' a' e' li, (calls h).c_target p c t in_n, (calls h).calls p in_n, sections sh st h p in_n);
  c_leaves = λ i c' s' li is. grind (arith, nat_tests, (calls h).c_leaves i c' s' li, (calls h).c_target p c t in_n, (calls h).calls p in_n, sections sh st h p in_n);
  c_apart = λ i c' s' a' e' li is nm. grind (arith, nat_tests, (calls h).c_apart i c' s' a' e' li, (calls h).c_target p c t in_n, (calls h).calls p in_n, sections sh st h p in_n);
  c_moved = λ i c' s' a' e' li is nm. grind (arith, nat_tests, (calls h).c_moved i c' s' a' e' li, (calls h).c_target p c t in_n, (calls h).calls p in_n, sections sh st h p in_n);
  c_ends = λ i c' s' t' li is. grind (arith, nat_tests, (calls h).c_ends i c' s' t' li, (calls h).c_target p c t in_n, (calls h).calls p in_n, sections sh st h p in_n);
  c_passed = λ i c' s' li is. grind (arith, nat_tests, (calls h).c_passed i c' s' li, (calls h).c_target p c t in_n, (calls h).calls p in_n, sections sh st h p in_n);
}

-- kind LoadEntry
pub cancel_entry : (sh : Layout) (st : S.State) (p : ℕ) (x : ℕ) (calm : Bool) (c : ℕ) (t : ℕ) (a : ℕ) (e : ℕ) (told : ℕ) → p < sh.passes → (st.stands p).section ≡ Inside x calm → (st.stands p).phase ≡ phase.Cancel (cancel.Entry c t (object a e c)) → Shut sh st → Nothing sh st
    → CallsAgree sh (did sh st p Go (Inside x calm) (phase.Cancel (cancel.Entry c t (object a e c))) told (Load (place.Entry c e)))
cancel_entry sh st p x calm c t a e told in_n at_sec at_call h _ = record {
  calls = λ i li. grind (arith, nat_tests, (calls h).calls i li, (calls h).c_named p c t a e in_n, (calls h).c_target p c t in_n, (calls h).calls p in_n, sections sh st h p in_n);
  c_slot = λ i c' s' li is. grind (arith, nat_tests, (calls h).c_slot i c' s' li, (calls h).c_named p c t a e in_n, (calls h).c_target p c t in_n, (calls h).calls p in_n, sections sh st h p in_n);
  c_entry = λ i c' a' e' li is. grind (arith, nat_tests, (calls h).c_entry i c' a' e' li, (calls h).c_named p c t a e in_n, (calls h).c_target p c t in_n, (calls h).calls p in_n, sections sh st h p in_n);
  c_named = λ i c' s' a' e' li is. grind (arith, nat_tests, (calls h).c_named i c' s' a' e' li, (calls h).c_named p c t a e in_n, (calls h).c_target p c t in_n, (calls h).calls p in_n, sections sh st h p in_n);
  c_target = λ i c' s' li is. grind (arith, nat_tests, (calls h).c_target i c' s' li, (calls h).c_named p c t a e in_n, (calls h).c_target p c t in_n, (calls h).calls p in_n, sections sh st h p in_n);
  c_lives = λ i c' s' a' e' li is. grind (arith, nat_tests, (calls h).c_lives i c' s' a' e' li, (calls h).c_named p c t a e in_n, (calls h).c_target p c t in_n, (calls h).calls p in_n, sections sh st h p in_n);
  c_leads = λ i c' s' t' li is. grind (arith, nat_tests, (calls h).c_leads i c' s' t' li, (calls h).c_named p c t a e in_n, (calls h).c_target p c t in_n, (calls h).calls p in_n, sections sh st h p in_n);
  c_origin = λ i c' s' a' e' li is. grind (arith, nat_tests, (calls h).c_origin i c' s' a' e' li, (calls h).c_named p c t a e in_n, (calls h).c_target p c t in_n, (calls h).calls p in_n, sections sh st h p in_n);
  c_source = λ i c' s' a' e' li is. grind (arith, nat_tests, (calls h).c_source i c' s' a' e' li, (calls h).c_named p c t a e in_n, (calls h).c_target p c t in_n, (calls h).calls p in_n, sections sh st h p in_n);
  c_resting = λ i c' s' a' e' li is. grind (arith, nat_tests, (calls h).c_resting i c' s' a' e' li, (calls h).c_named p c t a e in_n, (calls h).c_target p c t in_n, (calls h).calls p in_n, sections sh st h p in_n);
  c_loose = λ i c' s' a' e' li is nm. grind (arith, nat_tests, (calls h).c_loose i c' s' a' e' li, (calls h).c_named p c t a e in_n, (calls h).c_target p c t in_n, (calls h).calls p in_n, sections sh st h p in_n, unlocked sh st h p c a e);
  c_tries = λ i c' s' a' e' li is. grind (arith, nat_tests, (calls h).c_tries i c' s' a' e' li, (calls h).c_named p c t a e in_n, (calls h).c_target p c t in_n, (calls h).calls p in_n, sections sh st h p in_n);
  c_removes = λ i c' a' e' li is. grind (arith, nat_tests, (calls h).c_removes i c' a' e' li, (calls h).c_named p c t a e in_n, (calls h).c_target p c t in_n, (calls h).calls p in_n, sections sh st h p in_n);
  c_leaving = λ i c' s' a' e' li is. grind (arith, nat_tests, (calls h).c_leaving i c' s' a' e' li, (calls h).c_named p c t a e in_n, (calls h).c_target p c t in_n, (calls h).calls p in_n, sections sh st h p in_n);
  c_limbos = λ i c' s' a' e' li is. grind (arith, nat_tests, (calls h).c_limbos i c' s' a' e' li, (calls h).c_named p c t a e in_n, (calls h).c_target p c t in_n, (calls h).calls p in_n, sections sh st h p in_n);
  c_frees = λ i c' s' a' e' li is st'. grind (arith, nat_tests, (calls h).c_frees i c' s' a' e' li, (calls h).c_named p c t a e in_n, (calls h).c_target p c t in_n, (calls h).calls p in_n, sections sh st h p in_n);
  c_leaves = λ i c' s' li is. grind (arith, nat_tests, (calls h).c_leaves i c' s' li, (calls h).c_named p c t a e in_n, (calls h).c_target p c t in_n, (calls h).calls p in_n, sections sh st h p in_n);
  c_apart = λ i c' s' a' e' li is nm. grind (arith, nat_tests, (calls h).c_apart i c' s' a' e' li, (calls h).c_named p c t a e in_n, (calls h).c_target p c t in_n, (calls h).calls p in_n, sections sh st h p in_n);
  c_moved = λ i c' s' a' e' li is nm. grind (arith, nat_tests, (calls h).c_moved i c' s' a' e' li, (calls h).c_named p c t a e in_n, (calls h).c_target p c t in_n, (calls h).calls p in_n, sections sh st h p in_n);
  c_ends = λ i c' s' t' li is. grind (arith, nat_tests, (calls h).c_ends i c' s' t' li, (calls h).c_named p c t a e in_n, (calls h).c_target p c t in_n, (calls h).calls p in_n, sections sh st h p in_n);
  c_passed = λ i c' s' li is. grind (arith, nat_tests, (calls h).c_passed i c' s' li, (calls h).c_named p c t a e in_n, (calls h).c_target p c t in_n, (calls h).calls p in_n, sections sh st h p in_n);
}

-- kind Unfreeze
pub unfreeze : (sh : Layout) (st : S.State) (p : ℕ) (x : ℕ) (calm : Bool) (c : ℕ) (t : ℕ) (a : ℕ) (e : ℕ) (q : ℕ) (told : ℕ) → p < sh.passes → (st.stands p).section ≡ Inside x calm → (st.stands p).phase ≡ phase.Cancel (cancel.Unfreeze c t (object a e c) q) → Shut sh st → Nothing sh st
    → CallsAgree sh (did sh st p Go (Inside x calm) (phase.Cancel (cancel.Unfreeze c t (object a e c) q)) told (Exchange (place.Entry c e) (word.Entry (state.Frozen a q)) (word.Entry (state.Present a q))))
unfreeze sh st p x calm c t a e q told in_n at_sec at_call h _ = record {
  calls = λ i li. grind (arith, nat_tests, (calls h).calls i li, (calls h).c_named p c t a e in_n, (calls h).c_target p c t in_n, (calls h).c_tries p c q a e in_n, (calls h).calls p in_n, sections sh st h p in_n);
  c_slot = λ i c' s' li is. grind (arith, nat_tests, (calls h).c_slot i c' s' li, (calls h).c_named p c t a e in_n, (calls h).c_target p c t in_n, (calls h).c_tries p c q a e in_n, (calls h).calls p in_n, sections sh st h p in_n);
  c_entry = λ i c' a' e' li is. grind (arith, nat_tests, (calls h).c_entry i c' a' e' li, (calls h).c_named p c t a e in_n, (calls h).c_target p c t in_n, (calls h).c_tries p c q a e in_n, (calls h).calls p in_n, sections sh st h p in_n);
  c_named = λ i c' s' a' e' li is. grind (arith, nat_tests, (calls h).c_named i c' s' a' e' li, (calls h).c_named p c t a e in_n, (calls h).c_target p c t in_n, (calls h).c_tries p c q a e in_n, (calls h).calls p in_n, sections sh st h p in_n);
  c_target = λ i c' s' li is. grind (arith, nat_tests, (calls h).c_target i c' s' li, (calls h).c_named p c t a e in_n, (calls h).c_target p c t in_n, (calls h).c_tries p c q a e in_n, (calls h).calls p in_n, sections sh st h p in_n);
  c_lives = λ i c' s' a' e' li is. grind (arith, nat_tests, (calls h).c_lives i c' s' a' e' li, (calls h).c_named p c t a e in_n, (calls h).c_target p c t in_n, (calls h).c_tries p c q a e in_n, (calls h).calls p in_n, sections sh st h p in_n);
  c_leads = λ i c' s' t' li is. grind (arith, nat_tests, (calls h).c_leads i c' s' t' li, (calls h).c_named p c t a e in_n, (calls h).c_target p c t in_n, (calls h).c_tries p c q a e in_n, (calls h).calls p in_n, sections sh st h p in_n);
  c_origin = λ i c' s' a' e' li is. grind (arith, nat_tests, (calls h).c_origin i c' s' a' e' li, (calls h).c_named p c t a e in_n, (calls h).c_target p c t in_n, (calls h).c_tries p c q a e in_n, (calls h).calls p in_n, sections sh st h p in_n);
  c_source = λ i c' s' a' e' li is. grind (arith, nat_tests, (calls h).c_source i c' s' a' e' li, (calls h).c_named p c t a e in_n, (calls h).c_target p c t in_n, (calls h).c_tries p c q a e in_n, (calls h).calls p in_n, sections sh st h p in_n);
  c_resting = λ i c' s' a' e' li is. grind (arith, nat_tests, (calls h).c_resting i c' s' a' e' li, (calls h).c_named p c t a e in_n, (calls h).c_target p c t in_n, (calls h).c_tries p c q a e in_n, (calls h).calls p in_n, sections sh st h p in_n);
  c_loose = λ i c' s' a' e' li is nm. grind (arith, nat_tests, (calls h).c_loose i c' s' a' e' li, (calls h).c_named p c t a e in_n, (calls h).c_target p c t in_n, (calls h).c_tries p c q a e in_n, (calls h).calls p in_n, sections sh st h p in_n);
  c_tries = λ i c' s' a' e' li is. grind (arith, nat_tests, (calls h).c_tries i c' s' a' e' li, (calls h).c_named p c t a e in_n, (calls h).c_target p c t in_n, (calls h).c_tries p c q a e in_n, (calls h).calls p in_n, sections sh st h p in_n);
  c_removes = λ i c' a' e' li is. grind (arith, nat_tests, (calls h).c_removes i c' a' e' li, (calls h).c_named p c t a e in_n, (calls h).c_target p c t in_n, (calls h).c_tries p c q a e in_n, (calls h).calls p in_n, sections sh st h p in_n);
  c_leaving = λ i c' s' a' e' li is. grind (arith, nat_tests, (calls h).c_leaving i c' s' a' e' li, (calls h).c_named p c t a e in_n, (calls h).c_target p c t in_n, (calls h).c_tries p c q a e in_n, (calls h).calls p in_n, sections sh st h p in_n);
  c_limbos = λ i c' s' a' e' li is. grind (arith, nat_tests, (calls h).c_limbos i c' s' a' e' li, (calls h).c_named p c t a e in_n, (calls h).c_target p c t in_n, (calls h).c_tries p c q a e in_n, (calls h).calls p in_n, sections sh st h p in_n);
  c_frees = λ i c' s' a' e' li is st'. grind (arith, nat_tests, (calls h).c_frees i c' s' a' e' li, (calls h).c_named p c t a e in_n, (calls h).c_target p c t in_n, (calls h).c_tries p c q a e in_n, (calls h).calls p in_n, sections sh st h p in_n);
  c_leaves = λ i c' s' li is. grind (arith, nat_tests, (calls h).c_leaves i c' s' li, (calls h).c_named p c t a e in_n, (calls h).c_target p c t in_n, (calls h).c_tries p c q a e in_n, (calls h).calls p in_n, sections sh st h p in_n);
  c_apart = λ i c' s' a' e' li is nm. grind (arith, nat_tests, (calls h).c_apart i c' s' a' e' li, (calls h).c_named p c t a e in_n, (calls h).c_target p c t in_n, (calls h).c_tries p c q a e in_n, (calls h).calls p in_n, sections sh st h p in_n);
  c_moved = λ i c' s' a' e' li is nm. grind (arith, nat_tests, (calls h).c_moved i c' s' a' e' li, (calls h).c_named p c t a e in_n, (calls h).c_target p c t in_n, (calls h).c_tries p c q a e in_n, (calls h).calls p in_n, sections sh st h p in_n);
  c_ends = λ i c' s' t' li is. grind (arith, nat_tests, (calls h).c_ends i c' s' t' li, (calls h).c_named p c t a e in_n, (calls h).c_target p c t in_n, (calls h).c_tries p c q a e in_n, (calls h).calls p in_n, sections sh st h p in_n);
  c_passed = λ i c' s' li is. grind (arith, nat_tests, (calls h).c_passed i c' s' li, (calls h).c_named p c t a e in_n, (calls h).c_target p c t in_n, (calls h).c_tries p c q a e in_n, (calls h).calls p in_n, sections sh st h p in_n);
}

-- kind LeaveSlot
pub cancel_gives : (sh : Layout) (st : S.State) (p : ℕ) (x : ℕ) (calm : Bool) (c : ℕ) (t : ℕ) (told : ℕ) → p < sh.passes → (st.stands p).section ≡ Inside x calm → (st.stands p).phase ≡ phase.Cancel (cancel.GiveUp c t) → Shut sh st → Nothing sh st
    → CallsAgree sh (did sh st p Go (Inside x calm) (phase.Cancel (cancel.GiveUp c t)) told (Store (place.Directory c t) (word.Directory (dir.Limbo (x + 1)))))
cancel_gives sh st p x calm c t told in_n at_sec at_call h _ = record {
  calls = λ i li. grind (arith, nat_tests, (calls h).calls i li, (calls h).c_target p c t in_n, (calls h).calls p in_n, sections sh st h p in_n);
  c_slot = λ i c' s' li is. grind (arith, nat_tests, (calls h).c_slot i c' s' li, (calls h).c_target p c t in_n, (calls h).calls p in_n, sections sh st h p in_n);
  c_entry = λ i c' a' e' li is. grind (arith, nat_tests, (calls h).c_entry i c' a' e' li, (calls h).c_target p c t in_n, (calls h).c_loose p c t a' e' in_n, (calls h).calls p in_n, sections sh st h p in_n);
  c_named = λ i c' s' a' e' li is. grind (arith, nat_tests, (calls h).c_named i c' s' a' e' li, (calls h).c_target p c t in_n, (calls h).c_loose p c t a' e' in_n, (calls h).calls p in_n, sections sh st h p in_n);
  c_target = λ i c' s' li is. grind (arith, nat_tests, (calls h).c_target i c' s' li, (calls h).c_target p c t in_n, (calls h).calls p in_n, sections sh st h p in_n, owner_same sh st h i p li in_n, (calls h).calls i li);
  c_lives = λ i c' s' a' e' li is. grind (arith, nat_tests, (calls h).c_lives i c' s' a' e' li, (calls h).c_target p c t in_n, (calls h).c_loose p c t a' e' in_n, (calls h).calls p in_n, sections sh st h p in_n);
  c_leads = λ i c' s' t' li is. grind (arith, nat_tests, (calls h).c_leads i c' s' t' li, (calls h).c_target p c t in_n, (calls h).calls p in_n, sections sh st h p in_n);
  c_origin = λ i c' s' a' e' li is. grind (arith, nat_tests, (calls h).c_origin i c' s' a' e' li, (calls h).c_target p c t in_n, (calls h).c_loose p c t a' e' in_n, (calls h).calls p in_n, sections sh st h p in_n);
  c_source = λ i c' s' a' e' li is. grind (arith, nat_tests, (calls h).c_source i c' s' a' e' li, (calls h).c_target p c t in_n, (calls h).c_loose p c t a' e' in_n, (calls h).calls p in_n, sections sh st h p in_n);
  c_resting = λ i c' s' a' e' li is. grind (arith, nat_tests, (calls h).c_resting i c' s' a' e' li, (calls h).c_target p c t in_n, (calls h).c_loose p c t a' e' in_n, (calls h).calls p in_n, sections sh st h p in_n, sections sh st h i li, (calls h).calls i li);
  c_loose = λ i c' s' a' e' li is nm. grind (arith, nat_tests, (calls h).c_loose i c' s' a' e' li, (calls h).c_target p c t in_n, (calls h).c_loose p c t a' e' in_n, (calls h).calls p in_n, sections sh st h p in_n);
  c_tries = λ i c' s' a' e' li is. grind (arith, nat_tests, (calls h).c_tries i c' s' a' e' li, (calls h).c_target p c t in_n, (calls h).c_loose p c t a' e' in_n, (calls h).calls p in_n, sections sh st h p in_n);
  c_removes = λ i c' a' e' li is. grind (arith, nat_tests, (calls h).c_removes i c' a' e' li, (calls h).c_target p c t in_n, (calls h).c_loose p c t a' e' in_n, (calls h).calls p in_n, sections sh st h p in_n);
  c_leaving = λ i c' s' a' e' li is. grind (arith, nat_tests, (calls h).c_leaving i c' s' a' e' li, (calls h).c_target p c t in_n, (calls h).c_loose p c t a' e' in_n, (calls h).calls p in_n, sections sh st h p in_n);
  c_limbos = λ i c' s' a' e' li is. grind (arith, nat_tests, (calls h).c_limbos i c' s' a' e' li, (calls h).c_target p c t in_n, (calls h).c_loose p c t a' e' in_n, (calls h).calls p in_n, sections sh st h p in_n, (calls h).c_leaving i c' s' a' e' li, (moves h).standing_in p c' a' e' s' in_n);
  c_frees = λ i c' s' a' e' li is st'. grind (arith, nat_tests, (calls h).c_frees i c' s' a' e' li, (calls h).c_target p c t in_n, (calls h).c_loose p c t a' e' in_n, (calls h).calls p in_n, sections sh st h p in_n);
  c_leaves = λ i c' s' li is. grind (arith, nat_tests, (calls h).c_leaves i c' s' li, (calls h).c_target p c t in_n, (calls h).calls p in_n, sections sh st h p in_n);
  c_apart = λ i c' s' a' e' li is nm. grind (arith, nat_tests, (calls h).c_apart i c' s' a' e' li, (calls h).c_target p c t in_n, (calls h).c_loose p c t a' e' in_n, (calls h).calls p in_n, sections sh st h p in_n);
  c_moved = λ i c' s' a' e' li is nm. grind (arith, nat_tests, (calls h).c_moved i c' s' a' e' li, (calls h).c_target p c t in_n, (calls h).c_loose p c t a' e' in_n, (calls h).calls p in_n, sections sh st h p in_n);
  c_ends = λ i c' s' t' li is. grind (arith, nat_tests, (calls h).c_ends i c' s' t' li, (calls h).c_target p c t in_n, (calls h).calls p in_n, sections sh st h p in_n, sections sh st h i li, (calls h).calls i li);
  c_passed = λ i c' s' li is. grind (arith, nat_tests, (calls h).c_passed i c' s' li, (calls h).c_target p c t in_n, (calls h).calls p in_n, sections sh st h p in_n);
}

-- kind CloseRound
pub cancel_ends : (sh : Layout) (st : S.State) (p : ℕ) (x : ℕ) (calm : Bool) (told : ℕ) → p < sh.passes → (st.stands p).section ≡ Inside x calm → (st.stands p).phase ≡ phase.Cancel cancel.End → Shut sh st → Nothing sh st
    → CallsAgree sh (did sh st p Go (Inside x calm) (phase.Cancel cancel.End) told (Store place.Round (word.Round None)))
cancel_ends sh st p x calm told in_n at_sec at_call h _ = record {
  calls = λ i li. grind (arith, nat_tests, (calls h).calls i li, (calls h).calls p in_n, sections sh st h p in_n);
  c_slot = λ i c' s' li is. grind (arith, nat_tests, (calls h).c_slot i c' s' li, (calls h).calls p in_n, sections sh st h p in_n);
  c_entry = λ i c' a' e' li is. grind (arith, nat_tests, (calls h).c_entry i c' a' e' li, (calls h).calls p in_n, sections sh st h p in_n);
  c_named = λ i c' s' a' e' li is. grind (arith, nat_tests, (calls h).c_named i c' s' a' e' li, (calls h).calls p in_n, sections sh st h p in_n);
  c_target = λ i c' s' li is. grind (arith, nat_tests, (calls h).c_target i c' s' li, (calls h).calls p in_n, sections sh st h p in_n);
  c_lives = λ i c' s' a' e' li is. grind (arith, nat_tests, (calls h).c_lives i c' s' a' e' li, (calls h).calls p in_n, sections sh st h p in_n);
  c_leads = λ i c' s' t' li is. grind (arith, nat_tests, (calls h).c_leads i c' s' t' li, (calls h).calls p in_n, sections sh st h p in_n);
  c_origin = λ i c' s' a' e' li is. grind (arith, nat_tests, (calls h).c_origin i c' s' a' e' li, (calls h).calls p in_n, sections sh st h p in_n);
  c_source = λ i c' s' a' e' li is. grind (arith, nat_tests, (calls h).c_source i c' s' a' e' li, (calls h).calls p in_n, sections sh st h p in_n);
  c_resting = λ i c' s' a' e' li is. grind (arith, nat_tests, (calls h).c_resting i c' s' a' e' li, (calls h).calls p in_n, sections sh st h p in_n);
  c_loose = λ i c' s' a' e' li is nm. grind (arith, nat_tests, (calls h).c_loose i c' s' a' e' li, (calls h).calls p in_n, sections sh st h p in_n);
  c_tries = λ i c' s' a' e' li is. grind (arith, nat_tests, (calls h).c_tries i c' s' a' e' li, (calls h).calls p in_n, sections sh st h p in_n);
  c_removes = λ i c' a' e' li is. grind (arith, nat_tests, (calls h).c_removes i c' a' e' li, (calls h).calls p in_n, sections sh st h p in_n);
  c_leaving = λ i c' s' a' e' li is. grind (arith, nat_tests, (calls h).c_leaving i c' s' a' e' li, (calls h).calls p in_n, sections sh st h p in_n);
  c_limbos = λ i c' s' a' e' li is. grind (arith, nat_tests, (calls h).c_limbos i c' s' a' e' li, (calls h).calls p in_n, sections sh st h p in_n);
  c_frees = λ i c' s' a' e' li is st'. grind (arith, nat_tests, (calls h).c_frees i c' s' a' e' li, (calls h).calls p in_n, sections sh st h p in_n);
  c_leaves = λ i c' s' li is. grind (arith, nat_tests, (calls h).c_leaves i c' s' li, (calls h).calls p in_n, sections sh st h p in_n);
  c_apart = λ i c' s' a' e' li is nm. grind (arith, nat_tests, (calls h).c_apart i c' s' a' e' li, (calls h).calls p in_n, sections sh st h p in_n);
  c_moved = λ i c' s' a' e' li is nm. grind (arith, nat_tests, (calls h).c_moved i c' s' a' e' li, (calls h).calls p in_n, sections sh st h p in_n);
  c_ends = λ i c' s' t' li is. grind (arith, nat_tests, (calls h).c_ends i c' s' t' li, (calls h).calls p in_n, sections sh st h p in_n);
  c_passed = λ i c' s' li is. grind (arith, nat_tests, (calls h).c_passed i c' s' li, (calls h).calls p in_n, sections sh st h p in_n);
}
