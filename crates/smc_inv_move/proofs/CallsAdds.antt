-- Steps keep the agreement: calls, adds. Written by tools/laws.py.
use Rattle.std.proofs.Common.{◌≡◌, ℕ, ◌+◌, ◌<◌, Bool, true, Some, List, slice_index, arith}
use Rattle.std.proofs.lemmas.Bool.Decides.{nat_tests}
use Rattle.smc_words.specs.declared.dir.Dir.{Dir}
use Rattle.smc_words.specs.declared.dir.Dir.TheVariants as dir
use Rattle.smc_shape.specs.Layout.{Layout}
use Rattle.smc_shape.specs.declared.place.Place.TheVariants as place
use Rattle.smc_core.specs.declared.call.Call.TheVariants as call
use Rattle.smc_core.specs.declared.call.Choice.TheVariants.{Start, Go}
use Rattle.smc_core.specs.declared.op.Op.TheVariants.{Load, Store, Exchange}
use Rattle.smc_core.specs.declared.phase.Phase.TheVariants as phase
use Rattle.smc_core.specs.declared.phase.objects.AddPhase.TheVariants as add
use Rattle.smc_core.specs.declared.section.Section.TheVariants.{Inside}
use Rattle.smc_core.specs.declared.word.State.TheVariants as state
use Rattle.smc_core.specs.declared.word.Word.TheVariants as word
use Rattle.smc_core.specs.Add.{takes}
use Rattle.smc_rules.specs.Reads.{object}
use Rattle.smc_rules.specs.State as S
use Rattle.smc_rules.specs.State.{put_stand}
use Rattle.smc_agreement.specs.Kept.{Nothing}
use Rattle.smc_agreement.specs.Agreement.{CallsAgree}
use Rattle.smc_agreement.proofs.Whole.{Shut, calls, claims, did, sections}
use Rattle.smc_agreement.proofs.CrossLaws.{homes}

-- kind LoadDirectory
pub starts_add : (sh : Layout) (st : S.State) (p : ℕ) (x : ℕ) (calm : Bool) (c : ℕ) (k : ℕ) (ws : List ℕ) (told : ℕ) → p < sh.passes → (st.stands p).section ≡ Inside x calm → (st.stands p).phase ≡ phase.Idle → takes sh c k ws ≡ true → Shut sh st → Nothing sh st
    → CallsAgree sh (did sh st p (Start (call.Add c k ws)) (Inside x calm) phase.Idle told (Load (place.Directory c k)))
starts_add sh st p x calm c k ws told in_n at_sec at_call pre1 h _ = record {
  calls = λ i li. grind (arith, nat_tests, (calls h).calls i li, (calls h).calls p in_n, sections sh st h p in_n);
  c_slot = λ i c' s' li is. grind (arith, nat_tests, (calls h).c_slot i c' s' li, (calls h).calls p in_n, sections sh st h p in_n);
  c_entry = λ i c' a' e' li is. grind (arith, nat_tests, (calls h).c_entry i c' a' e' li, (calls h).calls p in_n, sections sh st h p in_n);
  c_named = λ i c' s' a' e' li is. grind (arith, nat_tests, (calls h).c_named i c' s' a' e' li, (calls h).calls p in_n, sections sh st h p in_n);
  c_target = λ i c' s' li is. grind (arith, nat_tests, (calls h).c_target i c' s' li, (calls h).calls p in_n, sections sh st h p in_n);
  c_lives = λ i c' s' a' e' li is. grind (arith, nat_tests, (calls h).c_lives i c' s' a' e' li, (calls h).calls p in_n, sections sh st h p in_n);
  c_leads = λ i c' s' t' li is. grind (arith, nat_tests, (calls h).c_leads i c' s' t' li, (calls h).calls p in_n, sections sh st h p in_n);
  c_origin = λ i c' s' a' e' li is. grind (arith, nat_tests, (calls h).c_origin i c' s' a' e' li, (calls h).calls p in_n, sections sh st h p in_n);
  c_source = λ i c' s' a' e' li is. grind (arith, nat_tests, (calls h).c_source i c' s' a' e' li, (calls h).calls p in_n, sections sh st h p in_n);
  c_resting = λ i c' s' a' e' li is. grind (arith, nat_tests, (calls h).c_resting i c' s' a' e' li, (calls h).calls p in_n, sections sh st h p in_n);
  c_loose = λ i c' s' a' e' li is nm. grind (arith, nat_tests, (calls h).c_loose i c' s' a' e' li, (calls h).calls p in_n, sections sh st h p in_n);
  c_tries = λ i c' s' a' e' li is. grind (arith, nat_tests, (calls h).c_tries i c' s' a' e' li, (calls h).calls p in_n, sections sh st h p in_n);
  c_removes = λ i c' a' e' li is. grind (arith, nat_tests, (calls h).c_removes i c' a' e' li, (calls h).calls p in_n, sections sh st h p in_n);
  c_leaving = λ i c' s' a' e' li is. grind (arith, nat_tests, (calls h).c_leaving i c' s' a' e' li, (calls h).calls p in_n, sections sh st h p in_n);
  c_limbos = λ i c' s' a' e' li is. grind (arith, nat_tests, (calls h).c_limbos i c' s' a' e' li, (calls h).calls p in_n, sections sh st h p in_n);
  c_frees = λ i c' s' a' e' li is st'. grind (arith, nat_tests, (calls h).c_frees i c' s' a' e' li, (calls h).calls p in_n, sections sh st h p in_n);
  c_leaves = λ i c' s' li is. grind (arith, nat_tests, (calls h).c_leaves i c' s' li, (calls h).calls p in_n, sections sh st h p in_n);
  c_apart = λ i c' s' a' e' li is nm. grind (arith, nat_tests, (calls h).c_apart i c' s' a' e' li, (calls h).calls p in_n, sections sh st h p in_n);
  c_moved = λ i c' s' a' e' li is nm. grind (arith, nat_tests, (calls h).c_moved i c' s' a' e' li, (calls h).calls p in_n, sections sh st h p in_n);
  c_ends = λ i c' s' t' li is. grind (arith, nat_tests, (calls h).c_ends i c' s' t' li, (calls h).calls p in_n, sections sh st h p in_n);
  c_passed = λ i c' s' li is. grind (arith, nat_tests, (calls h).c_passed i c' s' li, (calls h).calls p in_n, sections sh st h p in_n);
}

-- kind LoadDirectory
pub find_slot : (sh : Layout) (st : S.State) (p : ℕ) (x : ℕ) (calm : Bool) (c : ℕ) (k : ℕ) (s : ℕ) (t : ℕ) (told : ℕ) → p < sh.passes → (st.stands p).section ≡ Inside x calm → (st.stands p).phase ≡ phase.Add (add.FindSlot c k s t) → Shut sh st → Nothing sh st
    → CallsAgree sh (did sh st p Go (Inside x calm) (phase.Add (add.FindSlot c k s t)) told (Load (place.Directory c s)))
find_slot sh st p x calm c k s t told in_n at_sec at_call h _ = record {
  calls = λ i li. grind (arith, nat_tests, (calls h).calls i li, (calls h).calls p in_n, sections sh st h p in_n);
  c_slot = λ i c' s' li is. grind (arith, nat_tests, (calls h).c_slot i c' s' li, (calls h).calls p in_n, sections sh st h p in_n);
  c_entry = λ i c' a' e' li is. grind (arith, nat_tests, (calls h).c_entry i c' a' e' li, (calls h).calls p in_n, sections sh st h p in_n);
  c_named = λ i c' s' a' e' li is. grind (arith, nat_tests, (calls h).c_named i c' s' a' e' li, (calls h).calls p in_n, sections sh st h p in_n);
  c_target = λ i c' s' li is. grind (arith, nat_tests, (calls h).c_target i c' s' li, (calls h).calls p in_n, sections sh st h p in_n);
  c_lives = λ i c' s' a' e' li is. grind (arith, nat_tests, (calls h).c_lives i c' s' a' e' li, (calls h).calls p in_n, sections sh st h p in_n);
  c_leads = λ i c' s' t' li is. grind (arith, nat_tests, (calls h).c_leads i c' s' t' li, (calls h).calls p in_n, sections sh st h p in_n);
  c_origin = λ i c' s' a' e' li is. grind (arith, nat_tests, (calls h).c_origin i c' s' a' e' li, (calls h).calls p in_n, sections sh st h p in_n);
  c_source = λ i c' s' a' e' li is. grind (arith, nat_tests, (calls h).c_source i c' s' a' e' li, (calls h).calls p in_n, sections sh st h p in_n);
  c_resting = λ i c' s' a' e' li is. grind (arith, nat_tests, (calls h).c_resting i c' s' a' e' li, (calls h).calls p in_n, sections sh st h p in_n);
  c_loose = λ i c' s' a' e' li is nm. grind (arith, nat_tests, (calls h).c_loose i c' s' a' e' li, (calls h).calls p in_n, sections sh st h p in_n);
  c_tries = λ i c' s' a' e' li is. grind (arith, nat_tests, (calls h).c_tries i c' s' a' e' li, (calls h).calls p in_n, sections sh st h p in_n);
  c_removes = λ i c' a' e' li is. grind (arith, nat_tests, (calls h).c_removes i c' a' e' li, (calls h).calls p in_n, sections sh st h p in_n);
  c_leaving = λ i c' s' a' e' li is. grind (arith, nat_tests, (calls h).c_leaving i c' s' a' e' li, (calls h).calls p in_n, sections sh st h p in_n);
  c_limbos = λ i c' s' a' e' li is. grind (arith, nat_tests, (calls h).c_limbos i c' s' a' e' li, (calls h).calls p in_n, sections sh st h p in_n);
  c_frees = λ i c' s' a' e' li is st'. grind (arith, nat_tests, (calls h).c_frees i c' s' a' e' li, (calls h).calls p in_n, sections sh st h p in_n);
  c_leaves = λ i c' s' li is. grind (arith, nat_tests, (calls h).c_leaves i c' s' li, (calls h).calls p in_n, sections sh st h p in_n);
  c_apart = λ i c' s' a' e' li is nm. grind (arith, nat_tests, (calls h).c_apart i c' s' a' e' li, (calls h).calls p in_n, sections sh st h p in_n);
  c_moved = λ i c' s' a' e' li is nm. grind (arith, nat_tests, (calls h).c_moved i c' s' a' e' li, (calls h).calls p in_n, sections sh st h p in_n);
  c_ends = λ i c' s' t' li is. grind (arith, nat_tests, (calls h).c_ends i c' s' t' li, (calls h).calls p in_n, sections sh st h p in_n);
  c_passed = λ i c' s' li is. grind (arith, nat_tests, (calls h).c_passed i c' s' li, (calls h).calls p in_n, sections sh st h p in_n);
}

-- kind ClaimSlot
pub claim_slot : (sh : Layout) (st : S.State) (p : ℕ) (x : ℕ) (calm : Bool) (c : ℕ) (k : ℕ) (s : ℕ) (t : ℕ) (d : Dir) (told : ℕ) → p < sh.passes → (st.stands p).section ≡ Inside x calm → (st.stands p).phase ≡ phase.Add (add.ClaimSlot c k s t d) → Shut sh st → Nothing sh st
    → CallsAgree sh (did sh st p Go (Inside x calm) (phase.Add (add.ClaimSlot c k s t d)) told (Exchange (place.Directory c s) (word.Directory d) (word.Directory dir.Claimed)))
claim_slot sh st p x calm c k s t d told in_n at_sec at_call h _ = record {
  calls = λ i li. grind (arith, nat_tests, (calls h).calls i li, (calls h).calls p in_n, sections sh st h p in_n);
  c_slot = λ i c' s' li is. grind (arith, nat_tests, (calls h).c_slot i c' s' li, (calls h).calls p in_n, sections sh st h p in_n);
  c_entry = λ i c' a' e' li is. grind (arith, nat_tests, (calls h).c_entry i c' a' e' li, (calls h).calls p in_n, sections sh st h p in_n);
  c_named = λ i c' s' a' e' li is. grind (arith, nat_tests, (calls h).c_named i c' s' a' e' li, (calls h).calls p in_n, sections sh st h p in_n);
  c_target = λ i c' s' li is. grind (arith, nat_tests, (calls h).c_target i c' s' li, (calls h).calls p in_n, sections sh st h p in_n);
  c_lives = λ i c' s' a' e' li is. grind (arith, nat_tests, (calls h).c_lives i c' s' a' e' li, (calls h).calls p in_n, sections sh st h p in_n);
  c_leads = λ i c' s' t' li is. grind (arith, nat_tests, (calls h).c_leads i c' s' t' li, (calls h).calls p in_n, sections sh st h p in_n);
  c_origin = λ i c' s' a' e' li is. grind (arith, nat_tests, (calls h).c_origin i c' s' a' e' li, (calls h).calls p in_n, sections sh st h p in_n);
  c_source = λ i c' s' a' e' li is. grind (arith, nat_tests, (calls h).c_source i c' s' a' e' li, (calls h).calls p in_n, sections sh st h p in_n);
  c_resting = λ i c' s' a' e' li is. grind (arith, nat_tests, (calls h).c_resting i c' s' a' e' li, (calls h).calls p in_n, sections sh st h p in_n, sections sh st h i li, (calls h).calls i li);
  c_loose = λ i c' s' a' e' li is nm. grind (arith, nat_tests, (calls h).c_loose i c' s' a' e' li, (calls h).calls p in_n, sections sh st h p in_n);
  c_tries = λ i c' s' a' e' li is. grind (arith, nat_tests, (calls h).c_tries i c' s' a' e' li, (calls h).calls p in_n, sections sh st h p in_n);
  c_removes = λ i c' a' e' li is. grind (arith, nat_tests, (calls h).c_removes i c' a' e' li, (calls h).calls p in_n, sections sh st h p in_n);
  c_leaving = λ i c' s' a' e' li is. grind (arith, nat_tests, (calls h).c_leaving i c' s' a' e' li, (calls h).calls p in_n, sections sh st h p in_n);
  c_limbos = λ i c' s' a' e' li is. grind (arith, nat_tests, (calls h).c_limbos i c' s' a' e' li, (calls h).calls p in_n, sections sh st h p in_n);
  c_frees = λ i c' s' a' e' li is st'. grind (arith, nat_tests, (calls h).c_frees i c' s' a' e' li, (calls h).calls p in_n, sections sh st h p in_n, sections sh st h i li, (calls h).calls i li);
  c_leaves = λ i c' s' li is. grind (arith, nat_tests, (calls h).c_leaves i c' s' li, (calls h).calls p in_n, sections sh st h p in_n);
  c_apart = λ i c' s' a' e' li is nm. grind (arith, nat_tests, (calls h).c_apart i c' s' a' e' li, (calls h).calls p in_n, sections sh st h p in_n);
  c_moved = λ i c' s' a' e' li is nm. grind (arith, nat_tests, (calls h).c_moved i c' s' a' e' li, (calls h).calls p in_n, sections sh st h p in_n);
  c_ends = λ i c' s' t' li is. grind (arith, nat_tests, (calls h).c_ends i c' s' t' li, (calls h).calls p in_n, sections sh st h p in_n, sections sh st h i li, (calls h).calls i li);
  c_passed = λ i c' s' li is. grind (arith, nat_tests, (calls h).c_passed i c' s' li, (calls h).calls p in_n, sections sh st h p in_n);
}

-- kind LoadEntry
pub find_entry : (sh : Layout) (st : S.State) (p : ℕ) (x : ℕ) (calm : Bool) (c : ℕ) (s : ℕ) (e : ℕ) (t : ℕ) (told : ℕ) → p < sh.passes → (st.stands p).section ≡ Inside x calm → (st.stands p).phase ≡ phase.Add (add.FindEntry c s e t) → Shut sh st → Nothing sh st
    → CallsAgree sh (did sh st p Go (Inside x calm) (phase.Add (add.FindEntry c s e t)) told (Load (place.Entry c e)))
find_entry sh st p x calm c s e t told in_n at_sec at_call h _ = record {
  calls = λ i li. grind (arith, nat_tests, (calls h).calls i li, (calls h).c_slot p c s in_n, (calls h).calls p in_n, sections sh st h p in_n);
  c_slot = λ i c' s' li is. grind (arith, nat_tests, (calls h).c_slot i c' s' li, (calls h).c_slot p c s in_n, (calls h).calls p in_n, sections sh st h p in_n);
  c_entry = λ i c' a' e' li is. grind (arith, nat_tests, (calls h).c_entry i c' a' e' li, (calls h).c_slot p c s in_n, (calls h).calls p in_n, sections sh st h p in_n);
  c_named = λ i c' s' a' e' li is. grind (arith, nat_tests, (calls h).c_named i c' s' a' e' li, (calls h).c_slot p c s in_n, (calls h).calls p in_n, sections sh st h p in_n);
  c_target = λ i c' s' li is. grind (arith, nat_tests, (calls h).c_target i c' s' li, (calls h).c_slot p c s in_n, (calls h).calls p in_n, sections sh st h p in_n);
  c_lives = λ i c' s' a' e' li is. grind (arith, nat_tests, (calls h).c_lives i c' s' a' e' li, (calls h).c_slot p c s in_n, (calls h).calls p in_n, sections sh st h p in_n);
  c_leads = λ i c' s' t' li is. grind (arith, nat_tests, (calls h).c_leads i c' s' t' li, (calls h).c_slot p c s in_n, (calls h).calls p in_n, sections sh st h p in_n);
  c_origin = λ i c' s' a' e' li is. grind (arith, nat_tests, (calls h).c_origin i c' s' a' e' li, (calls h).c_slot p c s in_n, (calls h).calls p in_n, sections sh st h p in_n);
  c_source = λ i c' s' a' e' li is. grind (arith, nat_tests, (calls h).c_source i c' s' a' e' li, (calls h).c_slot p c s in_n, (calls h).calls p in_n, sections sh st h p in_n);
  c_resting = λ i c' s' a' e' li is. grind (arith, nat_tests, (calls h).c_resting i c' s' a' e' li, (calls h).c_slot p c s in_n, (calls h).calls p in_n, sections sh st h p in_n);
  c_loose = λ i c' s' a' e' li is nm. grind (arith, nat_tests, (calls h).c_loose i c' s' a' e' li, (calls h).c_slot p c s in_n, (calls h).calls p in_n, sections sh st h p in_n);
  c_tries = λ i c' s' a' e' li is. grind (arith, nat_tests, (calls h).c_tries i c' s' a' e' li, (calls h).c_slot p c s in_n, (calls h).calls p in_n, sections sh st h p in_n);
  c_removes = λ i c' a' e' li is. grind (arith, nat_tests, (calls h).c_removes i c' a' e' li, (calls h).c_slot p c s in_n, (calls h).calls p in_n, sections sh st h p in_n);
  c_leaving = λ i c' s' a' e' li is. grind (arith, nat_tests, (calls h).c_leaving i c' s' a' e' li, (calls h).c_slot p c s in_n, (calls h).calls p in_n, sections sh st h p in_n);
  c_limbos = λ i c' s' a' e' li is. grind (arith, nat_tests, (calls h).c_limbos i c' s' a' e' li, (calls h).c_slot p c s in_n, (calls h).calls p in_n, sections sh st h p in_n);
  c_frees = λ i c' s' a' e' li is st'. grind (arith, nat_tests, (calls h).c_frees i c' s' a' e' li, (calls h).c_slot p c s in_n, (calls h).calls p in_n, sections sh st h p in_n);
  c_leaves = λ i c' s' li is. grind (arith, nat_tests, (calls h).c_leaves i c' s' li, (calls h).c_slot p c s in_n, (calls h).calls p in_n, sections sh st h p in_n);
  c_apart = λ i c' s' a' e' li is nm. grind (arith, nat_tests, (calls h).c_apart i c' s' a' e' li, (calls h).c_slot p c s in_n, (calls h).calls p in_n, sections sh st h p in_n);
  c_moved = λ i c' s' a' e' li is nm. grind (arith, nat_tests, (calls h).c_moved i c' s' a' e' li, (calls h).c_slot p c s in_n, (calls h).calls p in_n, sections sh st h p in_n);
  c_ends = λ i c' s' t' li is. grind (arith, nat_tests, (calls h).c_ends i c' s' t' li, (calls h).c_slot p c s in_n, (calls h).calls p in_n, sections sh st h p in_n);
  c_passed = λ i c' s' li is. grind (arith, nat_tests, (calls h).c_passed i c' s' li, (calls h).c_slot p c s in_n, (calls h).calls p in_n, sections sh st h p in_n);
}

-- kind ClaimEntry
pub claim_entry : (sh : Layout) (st : S.State) (p : ℕ) (x : ℕ) (calm : Bool) (c : ℕ) (s : ℕ) (e : ℕ) (t : ℕ) (a : ℕ) (z : ℕ) (told : ℕ) → p < sh.passes → (st.stands p).section ≡ Inside x calm → (st.stands p).phase ≡ phase.Add (add.ClaimEntry c s e t a z) → Shut sh st → Nothing sh st
    → CallsAgree sh (did sh st p Go (Inside x calm) (phase.Add (add.ClaimEntry c s e t a z)) told (Exchange (place.Entry c e) (word.Entry (state.Free a z)) (word.Entry (state.Claimed (a + 1)))))
claim_entry sh st p x calm c s e t a z told in_n at_sec at_call h _ = record {
  calls = λ i li. grind (arith, nat_tests, (calls h).calls i li, (calls h).c_slot p c s in_n, (calls h).calls p in_n, sections sh st h p in_n);
  c_slot = λ i c' s' li is. grind (arith, nat_tests, (calls h).c_slot i c' s' li, (calls h).c_slot p c s in_n, (calls h).calls p in_n, sections sh st h p in_n);
  c_entry = λ i c' a' e' li is. grind (arith, nat_tests, (calls h).c_entry i c' a' e' li, (calls h).c_slot p c s in_n, (calls h).calls p in_n, sections sh st h p in_n);
  c_named = λ i c' s' a' e' li is. grind (arith, nat_tests, (calls h).c_named i c' s' a' e' li, (calls h).c_slot p c s in_n, (calls h).calls p in_n, sections sh st h p in_n);
  c_target = λ i c' s' li is. grind (arith, nat_tests, (calls h).c_target i c' s' li, (calls h).c_slot p c s in_n, (calls h).calls p in_n, sections sh st h p in_n);
  c_lives = λ i c' s' a' e' li is. grind (arith, nat_tests, (calls h).c_lives i c' s' a' e' li, (calls h).c_slot p c s in_n, (calls h).calls p in_n, sections sh st h p in_n);
  c_leads = λ i c' s' t' li is. grind (arith, nat_tests, (calls h).c_leads i c' s' t' li, (calls h).c_slot p c s in_n, (calls h).calls p in_n, sections sh st h p in_n);
  c_origin = λ i c' s' a' e' li is. grind (arith, nat_tests, (calls h).c_origin i c' s' a' e' li, (calls h).c_slot p c s in_n, (calls h).calls p in_n, sections sh st h p in_n);
  c_source = λ i c' s' a' e' li is. grind (arith, nat_tests, (calls h).c_source i c' s' a' e' li, (calls h).c_slot p c s in_n, (calls h).calls p in_n, sections sh st h p in_n);
  c_resting = λ i c' s' a' e' li is. grind (arith, nat_tests, (calls h).c_resting i c' s' a' e' li, (calls h).c_slot p c s in_n, (calls h).calls p in_n, sections sh st h p in_n);
  c_loose = λ i c' s' a' e' li is nm. grind (arith, nat_tests, (calls h).c_loose i c' s' a' e' li, (calls h).c_slot p c s in_n, (calls h).calls p in_n, sections sh st h p in_n);
  c_tries = λ i c' s' a' e' li is. grind (arith, nat_tests, (calls h).c_tries i c' s' a' e' li, (calls h).c_slot p c s in_n, (calls h).calls p in_n, sections sh st h p in_n);
  c_removes = λ i c' a' e' li is. grind (arith, nat_tests, (calls h).c_removes i c' a' e' li, (calls h).c_slot p c s in_n, (calls h).calls p in_n, sections sh st h p in_n);
  c_leaving = λ i c' s' a' e' li is. grind (arith, nat_tests, (calls h).c_leaving i c' s' a' e' li, (calls h).c_slot p c s in_n, (calls h).calls p in_n, sections sh st h p in_n);
  c_limbos = λ i c' s' a' e' li is. grind (arith, nat_tests, (calls h).c_limbos i c' s' a' e' li, (calls h).c_slot p c s in_n, (calls h).calls p in_n, sections sh st h p in_n);
  c_frees = λ i c' s' a' e' li is st'. grind (arith, nat_tests, (calls h).c_frees i c' s' a' e' li, (calls h).c_slot p c s in_n, (calls h).calls p in_n, sections sh st h p in_n);
  c_leaves = λ i c' s' li is. grind (arith, nat_tests, (calls h).c_leaves i c' s' li, (calls h).c_slot p c s in_n, (calls h).calls p in_n, sections sh st h p in_n);
  c_apart = λ i c' s' a' e' li is nm. grind (arith, nat_tests, (calls h).c_apart i c' s' a' e' li, (calls h).c_slot p c s in_n, (calls h).calls p in_n, sections sh st h p in_n);
  c_moved = λ i c' s' a' e' li is nm. grind (arith, nat_tests, (calls h).c_moved i c' s' a' e' li, (calls h).c_slot p c s in_n, (calls h).calls p in_n, sections sh st h p in_n, sections sh st h i li, (calls h).calls i li);
  c_ends = λ i c' s' t' li is. grind (arith, nat_tests, (calls h).c_ends i c' s' t' li, (calls h).c_slot p c s in_n, (calls h).calls p in_n, sections sh st h p in_n);
  c_passed = λ i c' s' li is. grind (arith, nat_tests, (calls h).c_passed i c' s' li, (calls h).c_slot p c s in_n, (calls h).calls p in_n, sections sh st h p in_n);
}

-- kind DropSlot
pub drop_slot : (sh : Layout) (st : S.State) (p : ℕ) (x : ℕ) (calm : Bool) (c : ℕ) (s : ℕ) (told : ℕ) → p < sh.passes → (st.stands p).section ≡ Inside x calm → (st.stands p).phase ≡ phase.Add (add.DropSlot c s) → Shut sh st → Nothing sh st
    → CallsAgree sh (did sh st p Go (Inside x calm) (phase.Add (add.DropSlot c s)) told (Store (place.Directory c s) (word.Directory dir.Free)))
drop_slot sh st p x calm c s told in_n at_sec at_call h _ = record {
  calls = λ i li. grind (arith, nat_tests, (calls h).calls i li, (calls h).c_slot p c s in_n, (calls h).calls p in_n, sections sh st h p in_n);
  c_slot = λ i c' s' li is. grind (arith, nat_tests, (calls h).c_slot i c' s' li, (calls h).c_slot p c s in_n, (calls h).calls p in_n, sections sh st h p in_n, (claims h).one_slot i p c' s' li in_n);
  c_entry = λ i c' a' e' li is. grind (arith, nat_tests, (calls h).c_entry i c' a' e' li, (calls h).c_slot p c s in_n, (calls h).calls p in_n, sections sh st h p in_n);
  c_named = λ i c' s' a' e' li is. grind (arith, nat_tests, (calls h).c_named i c' s' a' e' li, (calls h).c_slot p c s in_n, (calls h).calls p in_n, sections sh st h p in_n);
  c_target = λ i c' s' li is. grind (arith, nat_tests, (calls h).c_target i c' s' li, (calls h).c_slot p c s in_n, (calls h).calls p in_n, sections sh st h p in_n);
  c_lives = λ i c' s' a' e' li is. grind (arith, nat_tests, (calls h).c_lives i c' s' a' e' li, (calls h).c_slot p c s in_n, (calls h).calls p in_n, sections sh st h p in_n);
  c_leads = λ i c' s' t' li is. grind (arith, nat_tests, (calls h).c_leads i c' s' t' li, (calls h).c_slot p c s in_n, (calls h).calls p in_n, sections sh st h p in_n);
  c_origin = λ i c' s' a' e' li is. grind (arith, nat_tests, (calls h).c_origin i c' s' a' e' li, (calls h).c_slot p c s in_n, (calls h).calls p in_n, sections sh st h p in_n);
  c_source = λ i c' s' a' e' li is. grind (arith, nat_tests, (calls h).c_source i c' s' a' e' li, (calls h).c_slot p c s in_n, (calls h).calls p in_n, sections sh st h p in_n);
  c_resting = λ i c' s' a' e' li is. grind (arith, nat_tests, (calls h).c_resting i c' s' a' e' li, (calls h).c_slot p c s in_n, (calls h).calls p in_n, sections sh st h p in_n);
  c_loose = λ i c' s' a' e' li is nm. grind (arith, nat_tests, (calls h).c_loose i c' s' a' e' li, (calls h).c_slot p c s in_n, (calls h).calls p in_n, sections sh st h p in_n);
  c_tries = λ i c' s' a' e' li is. grind (arith, nat_tests, (calls h).c_tries i c' s' a' e' li, (calls h).c_slot p c s in_n, (calls h).calls p in_n, sections sh st h p in_n);
  c_removes = λ i c' a' e' li is. grind (arith, nat_tests, (calls h).c_removes i c' a' e' li, (calls h).c_slot p c s in_n, (calls h).calls p in_n, sections sh st h p in_n);
  c_leaving = λ i c' s' a' e' li is. grind (arith, nat_tests, (calls h).c_leaving i c' s' a' e' li, (calls h).c_slot p c s in_n, (calls h).calls p in_n, sections sh st h p in_n);
  c_limbos = λ i c' s' a' e' li is. grind (arith, nat_tests, (calls h).c_limbos i c' s' a' e' li, (calls h).c_slot p c s in_n, (calls h).calls p in_n, sections sh st h p in_n);
  c_frees = λ i c' s' a' e' li is st'. grind (arith, nat_tests, (calls h).c_frees i c' s' a' e' li, (calls h).c_slot p c s in_n, (calls h).calls p in_n, sections sh st h p in_n);
  c_leaves = λ i c' s' li is. grind (arith, nat_tests, (calls h).c_leaves i c' s' li, (calls h).c_slot p c s in_n, (calls h).calls p in_n, sections sh st h p in_n);
  c_apart = λ i c' s' a' e' li is nm. grind (arith, nat_tests, (calls h).c_apart i c' s' a' e' li, (calls h).c_slot p c s in_n, (calls h).calls p in_n, sections sh st h p in_n);
  c_moved = λ i c' s' a' e' li is nm. grind (arith, nat_tests, (calls h).c_moved i c' s' a' e' li, (calls h).c_slot p c s in_n, (calls h).calls p in_n, sections sh st h p in_n);
  c_ends = λ i c' s' t' li is. grind (arith, nat_tests, (calls h).c_ends i c' s' t' li, (calls h).c_slot p c s in_n, (calls h).calls p in_n, sections sh st h p in_n);
  c_passed = λ i c' s' li is. grind (arith, nat_tests, (calls h).c_passed i c' s' li, (calls h).c_slot p c s in_n, (calls h).calls p in_n, sections sh st h p in_n);
}

-- kind StoreBack
pub store_back : (sh : Layout) (st : S.State) (p : ℕ) (x : ℕ) (calm : Bool) (c : ℕ) (s : ℕ) (a : ℕ) (e : ℕ) (told : ℕ) → p < sh.passes → (st.stands p).section ≡ Inside x calm → (st.stands p).phase ≡ phase.Add (add.StoreBack s (object a e c)) → Shut sh st → Nothing sh st
    → CallsAgree sh (did sh st p Go (Inside x calm) (phase.Add (add.StoreBack s (object a e c))) told (Store (place.Back c s) (word.Back (Some (object a e c)))))
store_back sh st p x calm c s a e told in_n at_sec at_call h _ = record {
  calls = λ i li. grind (arith, nat_tests, (calls h).calls i li, (calls h).c_slot p c s in_n, (calls h).c_entry p c a e in_n, (calls h).calls p in_n, sections sh st h p in_n);
  c_slot = λ i c' s' li is. grind (arith, nat_tests, (calls h).c_slot i c' s' li, (calls h).c_slot p c s in_n, (calls h).c_entry p c a e in_n, (calls h).calls p in_n, sections sh st h p in_n);
  c_entry = λ i c' a' e' li is. grind (arith, nat_tests, (calls h).c_entry i c' a' e' li, (calls h).c_slot p c s in_n, (calls h).c_entry p c a e in_n, (calls h).calls p in_n, sections sh st h p in_n);
  c_named = λ i c' s' a' e' li is. grind (arith, nat_tests, (calls h).c_named i c' s' a' e' li, (calls h).c_slot p c s in_n, (calls h).c_entry p c a e in_n, (calls h).calls p in_n, sections sh st h p in_n, (claims h).one_slot i p c' s' li in_n, (calls h).c_slot i c' s' li, (calls h).c_lives i c' s' a' e' li, (calls h).c_target i c' s' li, homes sh st h i li);
  c_target = λ i c' s' li is. grind (arith, nat_tests, (calls h).c_target i c' s' li, (calls h).c_slot p c s in_n, (calls h).c_entry p c a e in_n, (calls h).calls p in_n, sections sh st h p in_n);
  c_lives = λ i c' s' a' e' li is. grind (arith, nat_tests, (calls h).c_lives i c' s' a' e' li, (calls h).c_slot p c s in_n, (calls h).c_entry p c a e in_n, (calls h).calls p in_n, sections sh st h p in_n);
  c_leads = λ i c' s' t' li is. grind (arith, nat_tests, (calls h).c_leads i c' s' t' li, (calls h).c_slot p c s in_n, (calls h).c_entry p c a e in_n, (calls h).calls p in_n, sections sh st h p in_n);
  c_origin = λ i c' s' a' e' li is. grind (arith, nat_tests, (calls h).c_origin i c' s' a' e' li, (calls h).c_slot p c s in_n, (calls h).c_entry p c a e in_n, (calls h).calls p in_n, sections sh st h p in_n);
  c_source = λ i c' s' a' e' li is. grind (arith, nat_tests, (calls h).c_source i c' s' a' e' li, (calls h).c_slot p c s in_n, (calls h).c_entry p c a e in_n, (calls h).calls p in_n, sections sh st h p in_n, (calls h).c_resting i c' s' a' e' li);
  c_resting = λ i c' s' a' e' li is. grind (arith, nat_tests, (calls h).c_resting i c' s' a' e' li, (calls h).c_slot p c s in_n, (calls h).c_entry p c a e in_n, (calls h).calls p in_n, sections sh st h p in_n);
  c_loose = λ i c' s' a' e' li is nm. grind (arith, nat_tests, (calls h).c_loose i c' s' a' e' li, (calls h).c_slot p c s in_n, (calls h).c_entry p c a e in_n, (calls h).calls p in_n, sections sh st h p in_n);
  c_tries = λ i c' s' a' e' li is. grind (arith, nat_tests, (calls h).c_tries i c' s' a' e' li, (calls h).c_slot p c s in_n, (calls h).c_entry p c a e in_n, (calls h).calls p in_n, sections sh st h p in_n);
  c_removes = λ i c' a' e' li is. grind (arith, nat_tests, (calls h).c_removes i c' a' e' li, (calls h).c_slot p c s in_n, (calls h).c_entry p c a e in_n, (calls h).calls p in_n, sections sh st h p in_n);
  c_leaving = λ i c' s' a' e' li is. grind (arith, nat_tests, (calls h).c_leaving i c' s' a' e' li, (calls h).c_slot p c s in_n, (calls h).c_entry p c a e in_n, (calls h).calls p in_n, sections sh st h p in_n);
  c_limbos = λ i c' s' a' e' li is. grind (arith, nat_tests, (calls h).c_limbos i c' s' a' e' li, (calls h).c_slot p c s in_n, (calls h).c_entry p c a e in_n, (calls h).calls p in_n, sections sh st h p in_n);
  c_frees = λ i c' s' a' e' li is st'. grind (arith, nat_tests, (calls h).c_frees i c' s' a' e' li, (calls h).c_slot p c s in_n, (calls h).c_entry p c a e in_n, (calls h).calls p in_n, sections sh st h p in_n);
  c_leaves = λ i c' s' li is. grind (arith, nat_tests, (calls h).c_leaves i c' s' li, (calls h).c_slot p c s in_n, (calls h).c_entry p c a e in_n, (calls h).calls p in_n, sections sh st h p in_n);
  c_apart = λ i c' s' a' e' li is nm. grind (arith, nat_tests, (calls h).c_apart i c' s' a' e' li, (calls h).c_slot p c s in_n, (calls h).c_entry p c a e in_n, (calls h).calls p in_n, sections sh st h p in_n, (calls h).c_leaves i c' s' li);
  c_moved = λ i c' s' a' e' li is nm. grind (arith, nat_tests, (calls h).c_moved i c' s' a' e' li, (calls h).c_slot p c s in_n, (calls h).c_entry p c a e in_n, (calls h).calls p in_n, sections sh st h p in_n, (calls h).c_leaves i c' s' li);
  c_ends = λ i c' s' t' li is. grind (arith, nat_tests, (calls h).c_ends i c' s' t' li, (calls h).c_slot p c s in_n, (calls h).c_entry p c a e in_n, (calls h).calls p in_n, sections sh st h p in_n, (calls h).c_leaves i c' s' li);
  c_passed = λ i c' s' li is. grind (arith, nat_tests, (calls h).c_passed i c' s' li, (calls h).c_slot p c s in_n, (calls h).c_entry p c a e in_n, (calls h).calls p in_n, sections sh st h p in_n);
}

-- kind StoreField
pub store_field : (sh : Layout) (st : S.State) (p : ℕ) (x : ℕ) (calm : Bool) (c : ℕ) (s : ℕ) (a : ℕ) (e : ℕ) (f : ℕ) (told : ℕ) → p < sh.passes → (st.stands p).section ≡ Inside x calm → (st.stands p).phase ≡ phase.Add (add.StoreField s (object a e c) f) → Shut sh st → Nothing sh st
    → CallsAgree sh (did sh st p Go (Inside x calm) (phase.Add (add.StoreField s (object a e c) f)) told (Store (place.Field c s f) (word.Plain (slice_index (st.stands p).words f))))
store_field sh st p x calm c s a e f told in_n at_sec at_call h _ = record {
  calls = λ i li. grind (arith, nat_tests, (calls h).calls i li, (calls h).c_slot p c s in_n, (calls h).c_entry p c a e in_n, (calls h).c_named p c s a e in_n, (calls h).calls p in_n, sections sh st h p in_n);
  c_slot = λ i c' s' li is. grind (arith, nat_tests, (calls h).c_slot i c' s' li, (calls h).c_slot p c s in_n, (calls h).c_entry p c a e in_n, (calls h).c_named p c s a e in_n, (calls h).calls p in_n, sections sh st h p in_n);
  c_entry = λ i c' a' e' li is. grind (arith, nat_tests, (calls h).c_entry i c' a' e' li, (calls h).c_slot p c s in_n, (calls h).c_entry p c a e in_n, (calls h).c_named p c s a e in_n, (calls h).calls p in_n, sections sh st h p in_n);
  c_named = λ i c' s' a' e' li is. grind (arith, nat_tests, (calls h).c_named i c' s' a' e' li, (calls h).c_slot p c s in_n, (calls h).c_entry p c a e in_n, (calls h).c_named p c s a e in_n, (calls h).calls p in_n, sections sh st h p in_n);
  c_target = λ i c' s' li is. grind (arith, nat_tests, (calls h).c_target i c' s' li, (calls h).c_slot p c s in_n, (calls h).c_entry p c a e in_n, (calls h).c_named p c s a e in_n, (calls h).calls p in_n, sections sh st h p in_n);
  c_lives = λ i c' s' a' e' li is. grind (arith, nat_tests, (calls h).c_lives i c' s' a' e' li, (calls h).c_slot p c s in_n, (calls h).c_entry p c a e in_n, (calls h).c_named p c s a e in_n, (calls h).calls p in_n, sections sh st h p in_n);
  c_leads = λ i c' s' t' li is. grind (arith, nat_tests, (calls h).c_leads i c' s' t' li, (calls h).c_slot p c s in_n, (calls h).c_entry p c a e in_n, (calls h).c_named p c s a e in_n, (calls h).calls p in_n, sections sh st h p in_n);
  c_origin = λ i c' s' a' e' li is. grind (arith, nat_tests, (calls h).c_origin i c' s' a' e' li, (calls h).c_slot p c s in_n, (calls h).c_entry p c a e in_n, (calls h).c_named p c s a e in_n, (calls h).calls p in_n, sections sh st h p in_n);
  c_source = λ i c' s' a' e' li is. grind (arith, nat_tests, (calls h).c_source i c' s' a' e' li, (calls h).c_slot p c s in_n, (calls h).c_entry p c a e in_n, (calls h).c_named p c s a e in_n, (calls h).calls p in_n, sections sh st h p in_n);
  c_resting = λ i c' s' a' e' li is. grind (arith, nat_tests, (calls h).c_resting i c' s' a' e' li, (calls h).c_slot p c s in_n, (calls h).c_entry p c a e in_n, (calls h).c_named p c s a e in_n, (calls h).calls p in_n, sections sh st h p in_n);
  c_loose = λ i c' s' a' e' li is nm. grind (arith, nat_tests, (calls h).c_loose i c' s' a' e' li, (calls h).c_slot p c s in_n, (calls h).c_entry p c a e in_n, (calls h).c_named p c s a e in_n, (calls h).calls p in_n, sections sh st h p in_n);
  c_tries = λ i c' s' a' e' li is. grind (arith, nat_tests, (calls h).c_tries i c' s' a' e' li, (calls h).c_slot p c s in_n, (calls h).c_entry p c a e in_n, (calls h).c_named p c s a e in_n, (calls h).calls p in_n, sections sh st h p in_n);
  c_removes = λ i c' a' e' li is. grind (arith, nat_tests, (calls h).c_removes i c' a' e' li, (calls h).c_slot p c s in_n, (calls h).c_entry p c a e in_n, (calls h).c_named p c s a e in_n, (calls h).calls p in_n, sections sh st h p in_n);
  c_leaving = λ i c' s' a' e' li is. grind (arith, nat_tests, (calls h).c_leaving i c' s' a' e' li, (calls h).c_slot p c s in_n, (calls h).c_entry p c a e in_n, (calls h).c_named p c s a e in_n, (calls h).calls p in_n, sections sh st h p in_n);
  c_limbos = λ i c' s' a' e' li is. grind (arith, nat_tests, (calls h).c_limbos i c' s' a' e' li, (calls h).c_slot p c s in_n, (calls h).c_entry p c a e in_n, (calls h).c_named p c s a e in_n, (calls h).calls p in_n, sections sh st h p in_n);
  c_frees = λ i c' s' a' e' li is st'. grind (arith, nat_tests, (calls h).c_frees i c' s' a' e' li, (calls h).c_slot p c s in_n, (calls h).c_entry p c a e in_n, (calls h).c_named p c s a e in_n, (calls h).calls p in_n, sections sh st h p in_n);
  c_leaves = λ i c' s' li is. grind (arith, nat_tests, (calls h).c_leaves i c' s' li, (calls h).c_slot p c s in_n, (calls h).c_entry p c a e in_n, (calls h).c_named p c s a e in_n, (calls h).calls p in_n, sections sh st h p in_n);
  c_apart = λ i c' s' a' e' li is nm. grind (arith, nat_tests, (calls h).c_apart i c' s' a' e' li, (calls h).c_slot p c s in_n, (calls h).c_entry p c a e in_n, (calls h).c_named p c s a e in_n, (calls h).calls p in_n, sections sh st h p in_n);
  c_moved = λ i c' s' a' e' li is nm. grind (arith, nat_tests, (calls h).c_moved i c' s' a' e' li, (calls h).c_slot p c s in_n, (calls h).c_entry p c a e in_n, (calls h).c_named p c s a e in_n, (calls h).calls p in_n, sections sh st h p in_n);
  c_ends = λ i c' s' t' li is. grind (arith, nat_tests, (calls h).c_ends i c' s' t' li, (calls h).c_slot p c s in_n, (calls h).c_entry p c a e in_n, (calls h).c_named p c s a e in_n, (calls h).calls p in_n, sections sh st h p in_n);
  c_passed = λ i c' s' li is. grind (arith, nat_tests, (calls h).c_passed i c' s' li, (calls h).c_slot p c s in_n, (calls h).c_entry p c a e in_n, (calls h).c_named p c s a e in_n, (calls h).calls p in_n, sections sh st h p in_n);
}

-- kind StoreValid
pub store_valid : (sh : Layout) (st : S.State) (p : ℕ) (x : ℕ) (calm : Bool) (c : ℕ) (s : ℕ) (a : ℕ) (e : ℕ) (told : ℕ) → p < sh.passes → (st.stands p).section ≡ Inside x calm → (st.stands p).phase ≡ phase.Add (add.StoreValid s (object a e c)) → Shut sh st → Nothing sh st
    → CallsAgree sh (did sh st p Go (Inside x calm) (phase.Add (add.StoreValid s (object a e c))) told (Store (place.Directory c s) (word.Directory dir.Valid)))
store_valid sh st p x calm c s a e told in_n at_sec at_call h _ = record {
  calls = λ i li. grind (arith, nat_tests, (calls h).calls i li, (calls h).c_slot p c s in_n, (calls h).c_entry p c a e in_n, (calls h).c_named p c s a e in_n, (calls h).calls p in_n, sections sh st h p in_n);
  c_slot = λ i c' s' li is. grind (arith, nat_tests, (calls h).c_slot i c' s' li, (calls h).c_slot p c s in_n, (calls h).c_entry p c a e in_n, (calls h).c_named p c s a e in_n, (calls h).calls p in_n, sections sh st h p in_n, (claims h).one_slot i p c' s' li in_n);
  c_entry = λ i c' a' e' li is. grind (arith, nat_tests, (calls h).c_entry i c' a' e' li, (calls h).c_slot p c s in_n, (calls h).c_entry p c a e in_n, (calls h).c_named p c s a e in_n, (calls h).calls p in_n, sections sh st h p in_n);
  c_named = λ i c' s' a' e' li is. grind (arith, nat_tests, (calls h).c_named i c' s' a' e' li, (calls h).c_slot p c s in_n, (calls h).c_entry p c a e in_n, (calls h).c_named p c s a e in_n, (calls h).calls p in_n, sections sh st h p in_n);
  c_target = λ i c' s' li is. grind (arith, nat_tests, (calls h).c_target i c' s' li, (calls h).c_slot p c s in_n, (calls h).c_entry p c a e in_n, (calls h).c_named p c s a e in_n, (calls h).calls p in_n, sections sh st h p in_n);
  c_lives = λ i c' s' a' e' li is. grind (arith, nat_tests, (calls h).c_lives i c' s' a' e' li, (calls h).c_slot p c s in_n, (calls h).c_entry p c a e in_n, (calls h).c_named p c s a e in_n, (calls h).calls p in_n, sections sh st h p in_n);
  c_leads = λ i c' s' t' li is. grind (arith, nat_tests, (calls h).c_leads i c' s' t' li, (calls h).c_slot p c s in_n, (calls h).c_entry p c a e in_n, (calls h).c_named p c s a e in_n, (calls h).calls p in_n, sections sh st h p in_n);
  c_origin = λ i c' s' a' e' li is. grind (arith, nat_tests, (calls h).c_origin i c' s' a' e' li, (calls h).c_slot p c s in_n, (calls h).c_entry p c a e in_n, (calls h).c_named p c s a e in_n, (calls h).calls p in_n, sections sh st h p in_n);
  c_source = λ i c' s' a' e' li is. grind (arith, nat_tests, (calls h).c_source i c' s' a' e' li, (calls h).c_slot p c s in_n, (calls h).c_entry p c a e in_n, (calls h).c_named p c s a e in_n, (calls h).calls p in_n, sections sh st h p in_n);
  c_resting = λ i c' s' a' e' li is. grind (arith, nat_tests, (calls h).c_resting i c' s' a' e' li, (calls h).c_slot p c s in_n, (calls h).c_entry p c a e in_n, (calls h).c_named p c s a e in_n, (calls h).calls p in_n, sections sh st h p in_n);
  c_loose = λ i c' s' a' e' li is nm. grind (arith, nat_tests, (calls h).c_loose i c' s' a' e' li, (calls h).c_slot p c s in_n, (calls h).c_entry p c a e in_n, (calls h).c_named p c s a e in_n, (calls h).calls p in_n, sections sh st h p in_n);
  c_tries = λ i c' s' a' e' li is. grind (arith, nat_tests, (calls h).c_tries i c' s' a' e' li, (calls h).c_slot p c s in_n, (calls h).c_entry p c a e in_n, (calls h).c_named p c s a e in_n, (calls h).calls p in_n, sections sh st h p in_n);
  c_removes = λ i c' a' e' li is. grind (arith, nat_tests, (calls h).c_removes i c' a' e' li, (calls h).c_slot p c s in_n, (calls h).c_entry p c a e in_n, (calls h).c_named p c s a e in_n, (calls h).calls p in_n, sections sh st h p in_n);
  c_leaving = λ i c' s' a' e' li is. grind (arith, nat_tests, (calls h).c_leaving i c' s' a' e' li, (calls h).c_slot p c s in_n, (calls h).c_entry p c a e in_n, (calls h).c_named p c s a e in_n, (calls h).calls p in_n, sections sh st h p in_n);
  c_limbos = λ i c' s' a' e' li is. grind (arith, nat_tests, (calls h).c_limbos i c' s' a' e' li, (calls h).c_slot p c s in_n, (calls h).c_entry p c a e in_n, (calls h).c_named p c s a e in_n, (calls h).calls p in_n, sections sh st h p in_n);
  c_frees = λ i c' s' a' e' li is st'. grind (arith, nat_tests, (calls h).c_frees i c' s' a' e' li, (calls h).c_slot p c s in_n, (calls h).c_entry p c a e in_n, (calls h).c_named p c s a e in_n, (calls h).calls p in_n, sections sh st h p in_n);
  c_leaves = λ i c' s' li is. grind (arith, nat_tests, (calls h).c_leaves i c' s' li, (calls h).c_slot p c s in_n, (calls h).c_entry p c a e in_n, (calls h).c_named p c s a e in_n, (calls h).calls p in_n, sections sh st h p in_n);
  c_apart = λ i c' s' a' e' li is nm. grind (arith, nat_tests, (calls h).c_apart i c' s' a' e' li, (calls h).c_slot p c s in_n, (calls h).c_entry p c a e in_n, (calls h).c_named p c s a e in_n, (calls h).calls p in_n, sections sh st h p in_n);
  c_moved = λ i c' s' a' e' li is nm. grind (arith, nat_tests, (calls h).c_moved i c' s' a' e' li, (calls h).c_slot p c s in_n, (calls h).c_entry p c a e in_n, (calls h).c_named p c s a e in_n, (calls h).calls p in_n, sections sh st h p in_n);
  c_ends = λ i c' s' t' li is. grind (arith, nat_tests, (calls h).c_ends i c' s' t' li, (calls h).c_slot p c s in_n, (calls h).c_entry p c a e in_n, (calls h).c_named p c s a e in_n, (calls h).calls p in_n, sections sh st h p in_n);
  c_passed = λ i c' s' li is. grind (arith, nat_tests, (calls h).c_passed i c' s' li, (calls h).c_slot p c s in_n, (calls h).c_entry p c a e in_n, (calls h).c_named p c s a e in_n, (calls h).calls p in_n, sections sh st h p in_n);
}

-- kind StoreLive
pub store_live : (sh : Layout) (st : S.State) (p : ℕ) (x : ℕ) (calm : Bool) (c : ℕ) (s : ℕ) (a : ℕ) (e : ℕ) (told : ℕ) → p < sh.passes → (st.stands p).section ≡ Inside x calm → (st.stands p).phase ≡ phase.Add (add.StoreLive s (object a e c)) → Shut sh st → Nothing sh st
    → CallsAgree sh (did sh st p Go (Inside x calm) (phase.Add (add.StoreLive s (object a e c))) told (Store (place.Entry c e) (word.Entry (state.Present a s))))
store_live sh st p x calm c s a e told in_n at_sec at_call h _ = record {
  calls = λ i li. grind (arith, nat_tests, (calls h).calls i li, (calls h).c_entry p c a e in_n, (calls h).c_named p c s a e in_n, (calls h).c_lives p c s a e in_n, (calls h).calls p in_n, sections sh st h p in_n);
  c_slot = λ i c' s' li is. grind (arith, nat_tests, (calls h).c_slot i c' s' li, (calls h).c_entry p c a e in_n, (calls h).c_named p c s a e in_n, (calls h).c_lives p c s a e in_n, (calls h).calls p in_n, sections sh st h p in_n);
  c_entry = λ i c' a' e' li is. grind (arith, nat_tests, (calls h).c_entry i c' a' e' li, (calls h).c_entry p c a e in_n, (calls h).c_named p c s a e in_n, (calls h).c_lives p c s a e in_n, (calls h).calls p in_n, sections sh st h p in_n, (claims h).one_entry i p c' a' a e' li in_n);
  c_named = λ i c' s' a' e' li is. grind (arith, nat_tests, (calls h).c_named i c' s' a' e' li, (calls h).c_entry p c a e in_n, (calls h).c_named p c s a e in_n, (calls h).c_lives p c s a e in_n, (calls h).calls p in_n, sections sh st h p in_n);
  c_target = λ i c' s' li is. grind (arith, nat_tests, (calls h).c_target i c' s' li, (calls h).c_entry p c a e in_n, (calls h).c_named p c s a e in_n, (calls h).c_lives p c s a e in_n, (calls h).calls p in_n, sections sh st h p in_n);
  c_lives = λ i c' s' a' e' li is. grind (arith, nat_tests, (calls h).c_lives i c' s' a' e' li, (calls h).c_entry p c a e in_n, (calls h).c_named p c s a e in_n, (calls h).c_lives p c s a e in_n, (calls h).calls p in_n, sections sh st h p in_n);
  c_leads = λ i c' s' t' li is. grind (arith, nat_tests, (calls h).c_leads i c' s' t' li, (calls h).c_entry p c a e in_n, (calls h).c_named p c s a e in_n, (calls h).c_lives p c s a e in_n, (calls h).calls p in_n, sections sh st h p in_n);
  c_origin = λ i c' s' a' e' li is. grind (arith, nat_tests, (calls h).c_origin i c' s' a' e' li, (calls h).c_entry p c a e in_n, (calls h).c_named p c s a e in_n, (calls h).c_lives p c s a e in_n, (calls h).calls p in_n, sections sh st h p in_n);
  c_source = λ i c' s' a' e' li is. grind (arith, nat_tests, (calls h).c_source i c' s' a' e' li, (calls h).c_entry p c a e in_n, (calls h).c_named p c s a e in_n, (calls h).c_lives p c s a e in_n, (calls h).calls p in_n, sections sh st h p in_n);
  c_resting = λ i c' s' a' e' li is. grind (arith, nat_tests, (calls h).c_resting i c' s' a' e' li, (calls h).c_entry p c a e in_n, (calls h).c_named p c s a e in_n, (calls h).c_lives p c s a e in_n, (calls h).calls p in_n, sections sh st h p in_n);
  c_loose = λ i c' s' a' e' li is nm. grind (arith, nat_tests, (calls h).c_loose i c' s' a' e' li, (calls h).c_entry p c a e in_n, (calls h).c_named p c s a e in_n, (calls h).c_lives p c s a e in_n, (calls h).calls p in_n, sections sh st h p in_n);
  c_tries = λ i c' s' a' e' li is. grind (arith, nat_tests, (calls h).c_tries i c' s' a' e' li, (calls h).c_entry p c a e in_n, (calls h).c_named p c s a e in_n, (calls h).c_lives p c s a e in_n, (calls h).calls p in_n, sections sh st h p in_n);
  c_removes = λ i c' a' e' li is. grind (arith, nat_tests, (calls h).c_removes i c' a' e' li, (calls h).c_entry p c a e in_n, (calls h).c_named p c s a e in_n, (calls h).c_lives p c s a e in_n, (calls h).calls p in_n, sections sh st h p in_n);
  c_leaving = λ i c' s' a' e' li is. grind (arith, nat_tests, (calls h).c_leaving i c' s' a' e' li, (calls h).c_entry p c a e in_n, (calls h).c_named p c s a e in_n, (calls h).c_lives p c s a e in_n, (calls h).calls p in_n, sections sh st h p in_n);
  c_limbos = λ i c' s' a' e' li is. grind (arith, nat_tests, (calls h).c_limbos i c' s' a' e' li, (calls h).c_entry p c a e in_n, (calls h).c_named p c s a e in_n, (calls h).c_lives p c s a e in_n, (calls h).calls p in_n, sections sh st h p in_n);
  c_frees = λ i c' s' a' e' li is st'. grind (arith, nat_tests, (calls h).c_frees i c' s' a' e' li, (calls h).c_entry p c a e in_n, (calls h).c_named p c s a e in_n, (calls h).c_lives p c s a e in_n, (calls h).calls p in_n, sections sh st h p in_n, (calls h).c_removes i c' a' e' li);
  c_leaves = λ i c' s' li is. grind (arith, nat_tests, (calls h).c_leaves i c' s' li, (calls h).c_entry p c a e in_n, (calls h).c_named p c s a e in_n, (calls h).c_lives p c s a e in_n, (calls h).calls p in_n, sections sh st h p in_n);
  c_apart = λ i c' s' a' e' li is nm. grind (arith, nat_tests, (calls h).c_apart i c' s' a' e' li, (calls h).c_entry p c a e in_n, (calls h).c_named p c s a e in_n, (calls h).c_lives p c s a e in_n, (calls h).calls p in_n, sections sh st h p in_n);
  c_moved = λ i c' s' a' e' li is nm. grind (arith, nat_tests, (calls h).c_moved i c' s' a' e' li, (calls h).c_entry p c a e in_n, (calls h).c_named p c s a e in_n, (calls h).c_lives p c s a e in_n, (calls h).calls p in_n, sections sh st h p in_n);
  c_ends = λ i c' s' t' li is. grind (arith, nat_tests, (calls h).c_ends i c' s' t' li, (calls h).c_entry p c a e in_n, (calls h).c_named p c s a e in_n, (calls h).c_lives p c s a e in_n, (calls h).calls p in_n, sections sh st h p in_n);
  c_passed = λ i c' s' li is. grind (arith, nat_tests, (calls h).c_passed i c' s' li, (calls h).c_entry p c a e in_n, (calls h).c_named p c s a e in_n, (calls h).c_lives p c s a e in_n, (calls h).calls p in_n, sections sh st h p in_n);
}
