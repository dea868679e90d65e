-- Steps keep the agreement: calls, begins. Written by tools/laws.py.
use Rattle.std.proofs.Common.{◌≡◌, ℕ, ◌+◌, ◌<◌, Bool, Some, None, subst, arith}
use Rattle.std.proofs.lemmas.Bool.Decides.{nat_tests}
use Rattle.smc_words.specs.declared.dir.Dir.TheVariants as dir
use Rattle.smc_shape.specs.Layout.{Layout}
use Rattle.smc_shape.specs.declared.place.Place.TheVariants as place
use Rattle.smc_core.specs.declared.call.Call.TheVariants as call
use Rattle.smc_core.specs.declared.call.Choice.TheVariants.{Start, Go}
use Rattle.smc_core.specs.declared.op.Op.TheVariants.{Load, Store, Exchange}
use Rattle.smc_core.specs.declared.phase.Phase.TheVariants as phase
use Rattle.smc_core.specs.declared.phase.moves.Count.{Count}
use Rattle.smc_core.specs.declared.phase.moves.BeginPhase.TheVariants as begin
use Rattle.smc_core.specs.declared.phase.moves.CountPhase.TheVariants as walk
use Rattle.smc_core.specs.declared.phase.moves.Walk.{Walk}
use Rattle.smc_core.specs.declared.section.Section.TheVariants.{Inside}
use Rattle.smc_core.specs.declared.word.Word.TheVariants as word
use Rattle.smc_core.specs.declared.local.Stand.{Stand}
use Rattle.smc_rules.specs.Reads.{state_in, dir_in, object}
use Rattle.smc_rules.specs.State as S
use Rattle.smc_rules.specs.State.{put_stand}
use Rattle.smc_rules.proofs.CarryLaws.{put_stand-same}
use Rattle.smc_agreement.specs.Parts.{origin_of}
use Rattle.smc_agreement.specs.Kept.{Nothing}
use Rattle.smc_agreement.specs.Agreement.{CallsAgree}
use Rattle.smc_agreement.proofs.Whole.{Shut, calls, objects, moves, did, sections}
use Rattle.smc_agreement.proofs.CrossLaws.{by_eq, below, at_rest, source_seen}

-- kind OpenRound
pub starts_begin : (sh : Layout) (st : S.State) (p : ℕ) (x : ℕ) (calm : Bool) (c : ℕ) (told : ℕ) → p < sh.passes → (st.stands p).section ≡ Inside x calm → (st.stands p).phase ≡ phase.Idle → Shut sh st → Nothing sh st
    → CallsAgree sh (did sh st p (Start (call.Begin c)) (Inside x calm) phase.Idle told (Exchange place.Round (word.Round None) (word.Round (Some (record { bound = x + 1; pass = p; coll = c })))))
starts_begin sh st p x calm c told in_n at_sec at_call h _ = record {
  calls = λ i li. grind (arith, nat_tests, (calls h).calls i li, (calls h).calls p in_n, sections sh st h p in_n);
  c_slot = λ i c' s' li is. grind (arith, nat_tests, (calls h).c_slot i c' s' li, (calls h).calls p in_n, sections sh st h p in_n);
  c_entry = λ i c' a' e' li is. grind (arith, nat_tests, (calls h).c_entry i c' a' e' li, (calls h).calls p in_n, sections sh st h p in_n);
  c_named = λ i c' s' a' e' li is. grind (arith, nat_tests, (calls h).c_named i c' s' a' e' li, (calls h).calls p in_n, sections sh st h p in_n);
  c_target = λ i c' s' li is. grind (arith, nat_tests, (calls h).c_target i c' s' li, (calls h).calls p in_n, sections sh st h p in_n);
  c_lives = λ i c' s' a' e' li is. grind (arith, nat_tests, (calls h).c_lives i c' s' a' e' li, (calls h).calls p in_n, sections sh st h p in_n);
  c_leads = λ i c' s' t' li is. grind (arith, nat_tests, (calls h).c_leads i c' s' t' li, (calls h).calls p in_n, sections sh st h p in_n);
  c_origin = λ i c' s' a' e' li is. grind (arith, nat_tests, (calls h).c_origin i c' s' a' e' li, (calls h).calls p in_n, sections sh st h p in_n);
  c_source = λ i c' s' a' e' li is. grind (arith, nat_tests, (calls h).c_source i c' s' a' e' li, (calls h).calls p in_n, sections sh st h p in_n);
  c_resting = λ i c' s' a' e' li is. grind (arith, nat_tests, (calls h).c_resting i c' s' a' e' li, (calls h).calls p in_n, sections sh st h p in_n);
  c_loose = λ i c' s' a' e' li is nm. grind (arith, nat_tests, (calls h).c_loose i c' s' a' e' li, (calls h).calls p in_n, sections sh st h p in_n);
  c_tries = λ i c' s' a' e' li is. grind (arith, nat_tests, (calls h).c_tries i c' s' a' e' li, (calls h).calls p in_n, sections sh st h p in_n);
  c_removes = λ i c' a' e' li is. grind (arith, nat_tests, (calls h).c_removes i c' a' e' li, (calls h).calls p in_n, sections sh st h p in_n);
  c_leaving = λ i c' s' a' e' li is. grind (arith, nat_tests, (calls h).c_leaving i c' s' a' e' li, (calls h).calls p in_n, sections sh st h p in_n);
  c_limbos = λ i c' s' a' e' li is. grind (arith, nat_tests, (calls h).c_limbos i c' s' a' e' li, (calls h).calls p in_n, sections sh st h p in_n);
  c_frees = λ i c' s' a' e' li is st'. grind (arith, nat_tests, (calls h).c_frees i c' s' a' e' li, (calls h).calls p in_n, sections sh st h p in_n);
  c_leaves = λ i c' s' li is. grind (arith, nat_tests, (calls h).c_leaves i c' s' li, (calls h).calls p in_n, sections sh st h p in_n);
  c_apart = λ i c' s' a' e' li is nm. grind (arith, nat_tests, (calls h).c_apart i c' s' a' e' li, (calls h).calls p in_n, sections sh st h p in_n);
  c_moved = λ i c' s' a' e' li is nm. grind (arith, nat_tests, (calls h).c_moved i c' s' a' e' li, (calls h).calls p in_n, sections sh st h p in_n);
  c_ends = λ i c' s' t' li is. grind (arith, nat_tests, (calls h).c_ends i c' s' t' li, (calls h).calls p in_n, sections sh st h p in_n);
  c_passed = λ i c' s' li is. grind (arith, nat_tests, (calls h).c_passed i c' s' li, (calls h).calls p in_n, sections sh st h p in_n);
}

-- kind LoadDirectory
pub count_dir : (sh : Layout) (st : S.State) (p : ℕ) (x : ℕ) (calm : Bool) (c : ℕ) (t : ℕ) (cnt : Count) (told : ℕ) → p < sh.passes → (st.stands p).section ≡ Inside x calm → (st.stands p).phase ≡ phase.Begin (begin.Count (walk.Directory c t cnt)) → Shut sh st → Nothing sh st
    → CallsAgree sh (did sh st p Go (Inside x calm) (phase.Begin (begin.Count (walk.Directory c t cnt))) told (Load (place.Directory c t)))
count_dir sh st p x calm c t cnt told in_n at_sec at_call h _ = record {
  calls = λ i li. grind (arith, nat_tests, (calls h).calls i li, (calls h).calls p in_n, sections sh st h p in_n);
  c_slot = λ i c' s' li is. grind (arith, nat_tests, (calls h).c_slot i c' s' li, (calls h).calls p in_n, sections sh st h p in_n);
  c_entry = λ i c' a' e' li is. grind (arith, nat_tests, (calls h).c_entry i c' a' e' li, (calls h).calls p in_n, sections sh st h p in_n);
  c_named = λ i c' s' a' e' li is. grind (arith, nat_tests, (calls h).c_named i c' s' a' e' li, (calls h).calls p in_n, sections sh st h p in_n);
  c_target = λ i c' s' li is. grind (arith, nat_tests, (calls h).c_target i c' s' li, (calls h).calls p in_n, sections sh st h p in_n);
  c_lives = λ i c' s' a' e' li is. grind (arith, nat_tests, (calls h).c_lives i c' s' a' e' li, (calls h).calls p in_n, sections sh st h p in_n);
  c_leads = λ i c' s' t' li is. grind (arith, nat_tests, (calls h).c_leads i c' s' t' li, (calls h).calls p in_n, sections sh st h p in_n);
  c_origin = λ i c' s' a' e' li is. grind (arith, nat_tests, (calls h).c_origin i c' s' a' e' li, (calls h).calls p in_n, sections sh st h p in_n);
  c_source = λ i c' s' a' e' li is. grind (arith, nat_tests, (calls h).c_source i c' s' a' e' li, (calls h).calls p in_n, sections sh st h p in_n);
  c_resting = λ i c' s' a' e' li is. grind (arith, nat_tests, (calls h).c_resting i c' s' a' e' li, (calls h).calls p in_n, sections sh st h p in_n);
  c_loose = λ i c' s' a' e' li is nm. grind (arith, nat_tests, (calls h).c_loose i c' s' a' e' li, (calls h).calls p in_n, sections sh st h p in_n);
  c_tries = λ i c' s' a' e' li is. grind (arith, nat_tests, (calls h).c_tries i c' s' a' e' li, (calls h).calls p in_n, sections sh st h p in_n);
  c_removes = λ i c' a' e' li is. grind (arith, nat_tests, (calls h).c_removes i c' a' e' li, (calls h).calls p in_n, sections sh st h p in_n);
  c_leaving = λ i c' s' a' e' li is. grind (arith, nat_tests, (calls h).c_leaving i c' s' a' e' li, (calls h).calls p in_n, sections sh st h p in_n);
  c_limbos = λ i c' s' a' e' li is. grind (arith, nat_tests, (calls h).c_limbos i c' s' a' e' li, (calls h).calls p in_n, sections sh st h p in_n);
  c_frees = λ i c' s' a' e' li is st'. grind (arith, nat_tests, (calls h).c_frees i c' s' a' e' li, (calls h).calls p in_n, sections sh st h p in_n);
  c_leaves = λ i c' s' li is. grind (arith, nat_tests, (calls h).c_leaves i c' s' li, (calls h).calls p in_n, sections sh st h p in_n);
  c_apart = λ i c' s' a' e' li is nm. grind (arith, nat_tests, (calls h).c_apart i c' s' a' e' li, (calls h).calls p in_n, sections sh st h p in_n);
  c_moved = λ i c' s' a' e' li is nm. grind (arith, nat_tests, (calls h).c_moved i c' s' a' e' li, (calls h).calls p in_n, sections sh st h p in_n);
  c_ends = λ i c' s' t' li is. grind (arith, nat_tests, (calls h).c_ends i c' s' t' li, (calls h).calls p in_n, sections sh st h p in_n);
  c_passed = λ i c' s' li is. grind (arith, nat_tests, (calls h).c_passed i c' s' li, (calls h).calls p in_n, sections sh st h p in_n);
}

-- kind LoadBack
pub count_back : (sh : Layout) (st : S.State) (p : ℕ) (x : ℕ) (calm : Bool) (c : ℕ) (t : ℕ) (cnt : Count) (told : ℕ) → p < sh.passes → (st.stands p).section ≡ Inside x calm → (st.stands p).phase ≡ phase.Begin (begin.Count (walk.Back c t cnt)) → Shut sh st → Nothing sh st
    → CallsAgree sh (did sh st p Go (Inside x calm) (phase.Begin (begin.Count (walk.Back c t cnt))) told (Load (place.Back c t)))
count_back sh st p x calm c t cnt told in_n at_sec at_call h _ = record {
  calls = λ i li. grind (arith, nat_tests, (calls h).calls i li, (calls h).calls p in_n, sections sh st h p in_n);
  c_slot = λ i c' s' li is. grind (arith, nat_tests, (calls h).c_slot i c' s' li, (calls h).calls p in_n, sections sh st h p in_n);
  c_entry = λ i c' a' e' li is. grind (arith, nat_tests, (calls h).c_entry i c' a' e' li, (calls h).calls p in_n, sections sh st h p in_n);
  c_named = λ i c' s' a' e' li is. grind (arith, nat_tests, (calls h).c_named i c' s' a' e' li, (calls h).calls p in_n, sections sh st h p in_n);
  c_target = λ i c' s' li is. grind (arith, nat_tests, (calls h).c_target i c' s' li, (calls h).calls p in_n, sections sh st h p in_n);
  c_lives = λ i c' s' a' e' li is. grind (arith, nat_tests, (calls h).c_lives i c' s' a' e' li, (calls h).calls p in_n, sections sh st h p in_n);
  c_leads = λ i c' s' t' li is. grind (arith, nat_tests, (calls h).c_leads i c' s' t' li, (calls h).calls p in_n, sections sh st h p in_n);
  c_origin = λ i c' s' a' e' li is. grind (arith, nat_tests, (calls h).c_origin i c' s' a' e' li, (calls h).calls p in_n, sections sh st h p in_n);
  c_source = λ i c' s' a' e' li is. grind (arith, nat_tests, (calls h).c_source i c' s' a' e' li, (calls h).calls p in_n, sections sh st h p in_n);
  c_resting = λ i c' s' a' e' li is. grind (arith, nat_tests, (calls h).c_resting i c' s' a' e' li, (calls h).calls p in_n, sections sh st h p in_n);
  c_loose = λ i c' s' a' e' li is nm. grind (arith, nat_tests, (calls h).c_loose i c' s' a' e' li, (calls h).calls p in_n, sections sh st h p in_n);
  c_tries = λ i c' s' a' e' li is. grind (arith, nat_tests, (calls h).c_tries i c' s' a' e' li, (calls h).calls p in_n, sections sh st h p in_n);
  c_removes = λ i c' a' e' li is. grind (arith, nat_tests, (calls h).c_removes i c' a' e' li, (calls h).calls p in_n, sections sh st h p in_n);
  c_leaving = λ i c' s' a' e' li is. grind (arith, nat_tests, (calls h).c_leaving i c' s' a' e' li, (calls h).calls p in_n, sections sh st h p in_n);
  c_limbos = λ i c' s' a' e' li is. grind (arith, nat_tests, (calls h).c_limbos i c' s' a' e' li, (calls h).calls p in_n, sections sh st h p in_n);
  c_frees = λ i c' s' a' e' li is st'. grind (arith, nat_tests, (calls h).c_frees i c' s' a' e' li, (calls h).calls p in_n, sections sh st h p in_n);
  c_leaves = λ i c' s' li is. grind (arith, nat_tests, (calls h).c_leaves i c' s' li, (calls h).calls p in_n, sections sh st h p in_n);
  c_apart = λ i c' s' a' e' li is nm. grind (arith, nat_tests, (calls h).c_apart i c' s' a' e' li, (calls h).calls p in_n, sections sh st h p in_n);
  c_moved = λ i c' s' a' e' li is nm. grind (arith, nat_tests, (calls h).c_moved i c' s' a' e' li, (calls h).calls p in_n, sections sh st h p in_n);
  c_ends = λ i c' s' t' li is. grind (arith, nat_tests, (calls h).c_ends i c' s' t' li, (calls h).calls p in_n, sections sh st h p in_n);
  c_passed = λ i c' s' li is. grind (arith, nat_tests, (calls h).c_passed i c' s' li, (calls h).calls p in_n, sections sh st h p in_n);
}

-- kind LoadEntry
pub count_entry : (sh : Layout) (st : S.State) (p : ℕ) (x : ℕ) (calm : Bool) (c : ℕ) (t : ℕ) (cnt : Count) (c2 : ℕ) (a : ℕ) (e : ℕ) (told : ℕ) → p < sh.passes → (st.stands p).section ≡ Inside x calm → (st.stands p).phase ≡ phase.Begin (begin.Count (walk.Entry c t cnt (object a e c2))) → Shut sh st → Nothing sh st
    → CallsAgree sh (did sh st p Go (Inside x calm) (phase.Begin (begin.Count (walk.Entry c t cnt (object a e c2)))) told (Load (place.Entry c2 e)))
count_entry sh st p x calm c t cnt c2 a e told in_n at_sec at_call h _ = record {
  calls = λ i li. grind (arith, nat_tests, (calls h).calls i li, (calls h).calls p in_n, sections sh st h p in_n);
  c_slot = λ i c' s' li is. grind (arith, nat_tests, (calls h).c_slot i c' s' li, (calls h).calls p in_n, sections sh st h p in_n);
  c_entry = λ i c' a' e' li is. grind (arith, nat_tests, (calls h).c_entry i c' a' e' li, (calls h).calls p in_n, sections sh st h p in_n);
  c_named = λ i c' s' a' e' li is. grind (arith, nat_tests, (calls h).c_named i c' s' a' e' li, (calls h).calls p in_n, sections sh st h p in_n);
  c_target = λ i c' s' li is. grind (arith, nat_tests, (calls h).c_target i c' s' li, (calls h).calls p in_n, sections sh st h p in_n);
  c_lives = λ i c' s' a' e' li is. grind (arith, nat_tests, (calls h).c_lives i c' s' a' e' li, (calls h).calls p in_n, sections sh st h p in_n);
  c_leads = λ i c' s' t' li is. grind (arith, nat_tests, (calls h).c_leads i c' s' t' li, (calls h).calls p in_n, sections sh st h p in_n);
  c_origin = λ i c' s' a' e' li is. grind (arith, nat_tests, (calls h).c_origin i c' s' a' e' li, (calls h).calls p in_n, sections sh st h p in_n);
  c_source = λ i c' s' a' e' li is. grind (arith, nat_tests, (calls h).c_source i c' s' a' e' li, (calls h).calls p in_n, sections sh st h p in_n);
  c_resting = λ i c' s' a' e' li is. grind (arith, nat_tests, (calls h).c_resting i c' s' a' e' li, (calls h).calls p in_n, sections sh st h p in_n);
  c_loose = λ i c' s' a' e' li is nm. grind (arith, nat_tests, (calls h).c_loose i c' s' a' e' li, (calls h).calls p in_n, sections sh st h p in_n);
  c_tries = λ i c' s' a' e' li is. grind (arith, nat_tests, (calls h).c_tries i c' s' a' e' li, (calls h).calls p in_n, sections sh st h p in_n);
  c_removes = λ i c' a' e' li is. grind (arith, nat_tests, (calls h).c_removes i c' a' e' li, (calls h).calls p in_n, sections sh st h p in_n);
  c_leaving = λ i c' s' a' e' li is. grind (arith, nat_tests, (calls h).c_leaving i c' s' a' e' li, (calls h).calls p in_n, sections sh st h p in_n);
  c_limbos = λ i c' s' a' e' li is. grind (arith, nat_tests, (calls h).c_limbos i c' s' a' e' li, (calls h).calls p in_n, sections sh st h p in_n);
  c_frees = λ i c' s' a' e' li is st'. grind (arith, nat_tests, (calls h).c_frees i c' s' a' e' li, (calls h).calls p in_n, sections sh st h p in_n);
  c_leaves = λ i c' s' li is. grind (arith, nat_tests, (calls h).c_leaves i c' s' li, (calls h).calls p in_n, sections sh st h p in_n);
  c_apart = λ i c' s' a' e' li is nm. grind (arith, nat_tests, (calls h).c_apart i c' s' a' e' li, (calls h).calls p in_n, sections sh st h p in_n);
  c_moved = λ i c' s' a' e' li is nm. grind (arith, nat_tests, (calls h).c_moved i c' s' a' e' li, (calls h).calls p in_n, sections sh st h p in_n);
  c_ends = λ i c' s' t' li is. grind (arith, nat_tests, (calls h).c_ends i c' s' t' li, (calls h).calls p in_n, sections sh st h p in_n);
  c_passed = λ i c' s' li is. grind (arith, nat_tests, (calls h).c_passed i c' s' li, (calls h).calls p in_n, sections sh st h p in_n);
}

-- kind CloseRound
pub nothing : (sh : Layout) (st : S.State) (p : ℕ) (x : ℕ) (calm : Bool) (c : ℕ) (told : ℕ) → p < sh.passes → (st.stands p).section ≡ Inside x calm → (st.stands p).phase ≡ phase.Begin (begin.Nothing c) → Shut sh st → Nothing sh st
    → CallsAgree sh (did sh st p Go (Inside x calm) (phase.Begin (begin.Nothing c)) told (Store place.Round (word.Round None)))
nothing sh st p x calm c told in_n at_sec at_call h _ = record {
  calls = λ i li. grind (arith, nat_tests, (calls h).calls i li, (calls h).calls p in_n, sections sh st h p in_n);
  c_slot = λ i c' s' li is. grind (arith, nat_tests, (calls h).c_slot i c' s' li, (calls h).calls p in_n, sections sh st h p in_n);
  c_entry = λ i c' a' e' li is. grind (arith, nat_tests, (calls h).c_entry i c' a' e' li, (calls h).calls p in_n, sections sh st h p in_n);
  c_named = λ i c' s' a' e' li is. grind (arith, nat_tests, (calls h).c_named i c' s' a' e' li, (calls h).calls p in_n, sections sh st h p in_n);
  c_target = λ i c' s' li is. grind (arith, nat_tests, (calls h).c_target i c' s' li, (calls h).calls p in_n, sections sh st h p in_n);
  c_lives = λ i c' s' a' e' li is. grind (arith, nat_tests, (calls h).c_lives i c' s' a' e' li, (calls h).calls p in_n, sections sh st h p in_n);
  c_leads = λ i c' s' t' li is. grind (arith, nat_tests, (calls h).c_leads i c' s' t' li, (calls h).calls p in_n, sections sh st h p in_n);
  c_origin = λ i c' s' a' e' li is. grind (arith, nat_tests, (calls h).c_origin i c' s' a' e' li, (calls h).calls p in_n, sections sh st h p in_n);
  c_source = λ i c' s' a' e' li is. grind (arith, nat_tests, (calls h).c_source i c' s' a' e' li, (calls h).calls p in_n, sections sh st h p in_n);
  c_resting = λ i c' s' a' e' li is. grind (arith, nat_tests, (calls h).c_resting i c' s' a' e' li, (calls h).calls p in_n, sections sh st h p in_n);
  c_loose = λ i c' s' a' e' li is nm. grind (arith, nat_tests, (calls h).c_loose i c' s' a' e' li, (calls h).calls p in_n, sections sh st h p in_n);
  c_tries = λ i c' s' a' e' li is. grind (arith, nat_tests, (calls h).c_tries i c' s' a' e' li, (calls h).calls p in_n, sections sh st h p in_n);
  c_removes = λ i c' a' e' li is. grind (arith, nat_tests, (calls h).c_removes i c' a' e' li, (calls h).calls p in_n, sections sh st h p in_n);
  c_leaving = λ i c' s' a' e' li is. grind (arith, nat_tests, (calls h).c_leaving i c' s' a' e' li, (calls h).calls p in_n, sections sh st h p in_n);
  c_limbos = λ i c' s' a' e' li is. grind (arith, nat_tests, (calls h).c_limbos i c' s' a' e' li, (calls h).calls p in_n, sections sh st h p in_n);
  c_frees = λ i c' s' a' e' li is st'. grind (arith, nat_tests, (calls h).c_frees i c' s' a' e' li, (calls h).calls p in_n, sections sh st h p in_n);
  c_leaves = λ i c' s' li is. grind (arith, nat_tests, (calls h).c_leaves i c' s' li, (calls h).calls p in_n, sections sh st h p in_n);
  c_apart = λ i c' s' a' e' li is nm. grind (arith, nat_tests, (calls h).c_apart i c' s' a' e' li, (calls h).calls p in_n, sections sh st h p in_n);
  c_moved = λ i c' s' a' e' li is nm. grind (arith, nat_tests, (calls h).c_moved i c' s' a' e' li, (calls h).calls p in_n, sections sh st h p in_n);
  c_ends = λ i c' s' t' li is. grind (arith, nat_tests, (calls h).c_ends i c' s' t' li, (calls h).calls p in_n, sections sh st h p in_n);
  c_passed = λ i c' s' li is. grind (arith, nat_tests, (calls h).c_passed i c' s' li, (calls h).calls p in_n, sections sh st h p in_n);
}

-- kind LoadDirectory
pub source_dir : (sh : Layout) (st : S.State) (p : ℕ) (x : ℕ) (calm : Bool) (m : Walk) (told : ℕ) → p < sh.passes → (st.stands p).section ≡ Inside x calm → (st.stands p).phase ≡ phase.Begin (begin.SourceDirectory m) → Shut sh st → Nothing sh st
    → CallsAgree sh (did sh st p Go (Inside x calm) (phase.Begin (begin.SourceDirectory m)) told (Load (place.Directory m.coll m.source)))
source_dir sh st p x calm m told in_n at_sec at_call h _ = record {
  calls = λ i li. grind (arith, nat_tests, (calls h).calls i li, below sh st h p in_n (begin.SourceDirectory m) at_call, (calls h).calls p in_n, sections sh st h p in_n);
  c_slot = λ i c' s' li is. grind (arith, nat_tests, (calls h).c_slot i c' s' li, below sh st h p in_n (begin.SourceDirectory m) at_call, (calls h).calls p in_n, sections sh st h p in_n);
  c_entry = λ i c' a' e' li is. grind (arith, nat_tests, (calls h).c_entry i c' a' e' li, below sh st h p in_n (begin.SourceDirectory m) at_call, (calls h).calls p in_n, sections sh st h p in_n);
  c_named = λ i c' s' a' e' li is. grind (arith, nat_tests, (calls h).c_named i c' s' a' e' li, below sh st h p in_n (begin.SourceDirectory m) at_call, (calls h).calls p in_n, sections sh st h p in_n);
  c_target = λ i c' s' li is. grind (arith, nat_tests, (calls h).c_target i c' s' li, below sh st h p in_n (begin.SourceDirectory m) at_call, (calls h).calls p in_n, sections sh st h p in_n);
  c_lives = λ i c' s' a' e' li is. grind (arith, nat_tests, (calls h).c_lives i c' s' a' e' li, below sh st h p in_n (begin.SourceDirectory m) at_call, (calls h).calls p in_n, sections sh st h p in_n);
  c_leads = λ i c' s' t' li is. grind (arith, nat_tests, (calls h).c_leads i c' s' t' li, below sh st h p in_n (begin.SourceDirectory m) at_call, (calls h).calls p in_n, sections sh st h p in_n);
  c_origin = λ i c' s' a' e' li is. grind (arith, nat_tests, (calls h).c_origin i c' s' a' e' li, below sh st h p in_n (begin.SourceDirectory m) at_call, (calls h).calls p in_n, sections sh st h p in_n);
  c_source = λ i c' s' a' e' li is. grind (arith, nat_tests, (calls h).c_source i c' s' a' e' li, below sh st h p in_n (begin.SourceDirectory m) at_call, (calls h).calls p in_n, sections sh st h p in_n);
  c_resting = λ i c' s' a' e' li is. grind (arith, nat_tests, (calls h).c_resting i c' s' a' e' li, below sh st h p in_n (begin.SourceDirectory m) at_call, (calls h).calls p in_n, sections sh st h p in_n);
  c_loose = λ i c' s' a' e' li is nm. grind (arith, nat_tests, (calls h).c_loose i c' s' a' e' li, below sh st h p in_n (begin.SourceDirectory m) at_call, (calls h).calls p in_n, sections sh st h p in_n);
  c_tries = λ i c' s' a' e' li is. grind (arith, nat_tests, (calls h).c_tries i c' s' a' e' li, below sh st h p in_n (begin.SourceDirectory m) at_call, (calls h).calls p in_n, sections sh st h p in_n);
  c_removes = λ i c' a' e' li is. grind (arith, nat_tests, (calls h).c_removes i c' a' e' li, below sh st h p in_n (begin.SourceDirectory m) at_call, (calls h).calls p in_n, sections sh st h p in_n);
  c_leaving = λ i c' s' a' e' li is. grind (arith, nat_tests, (calls h).c_leaving i c' s' a' e' li, below sh st h p in_n (begin.SourceDirectory m) at_call, (calls h).calls p in_n, sections sh st h p in_n);
  c_limbos = λ i c' s' a' e' li is. grind (arith, nat_tests, (calls h).c_limbos i c' s' a' e' li, below sh st h p in_n (begin.SourceDirectory m) at_call, (calls h).calls p in_n, sections sh st h p in_n);
  c_frees = λ i c' s' a' e' li is st'. grind (arith, nat_tests, (calls h).c_frees i c' s' a' e' li, below sh st h p in_n (begin.SourceDirectory m) at_call, (calls h).calls p in_n, sections sh st h p in_n);
  c_leaves = λ i c' s' li is. grind (arith, nat_tests, (calls h).c_leaves i c' s' li, below sh st h p in_n (begin.SourceDirectory m) at_call, (calls h).calls p in_n, sections sh st h p in_n);
  c_apart = λ i c' s' a' e' li is nm. grind (arith, nat_tests, (calls h).c_apart i c' s' a' e' li, below sh st h p in_n (begin.SourceDirectory m) at_call, (calls h).calls p in_n, sections sh st h p in_n);
  c_moved = λ i c' s' a' e' li is nm. grind (arith, nat_tests, (calls h).c_moved i c' s' a' e' li, below sh st h p in_n (begin.SourceDirectory m) at_call, (calls h).calls p in_n, sections sh st h p in_n);
  c_ends = λ i c' s' t' li is. grind (arith, nat_tests, (calls h).c_ends i c' s' t' li, below sh st h p in_n (begin.SourceDirectory m) at_call, (calls h).calls p in_n, sections sh st h p in_n);
  c_passed = λ i c' s' li is. grind (arith, nat_tests, (calls h).c_passed i c' s' li, below sh st h p in_n (begin.SourceDirectory m) at_call, (calls h).calls p in_n, sections sh st h p in_n);
}

-- kind LoadBack
pub source_back : (sh : Layout) (st : S.State) (p : ℕ) (x : ℕ) (calm : Bool) (m : Walk) (told : ℕ) → p < sh.passes → (st.stands p).section ≡ Inside x calm → (st.stands p).phase ≡ phase.Begin (begin.SourceBack m) → Shut sh st → Nothing sh st
    → CallsAgree sh (did sh st p Go (Inside x calm) (phase.Begin (begin.SourceBack m)) told (Load (place.Back m.coll m.source)))
source_back sh st p x calm m told in_n at_sec at_call h _ = record {
  calls = λ i li. grind (arith, nat_tests, (calls h).calls i li, below sh st h p in_n (begin.SourceBack m) at_call, (calls h).calls p in_n, sections sh st h p in_n);
  c_slot = λ i c' s' li is. grind (arith, nat_tests, (calls h).c_slot i c' s' li, below sh st h p in_n (begin.SourceBack m) at_call, (calls h).calls p in_n, sections sh st h p in_n);
  c_entry = λ i c' a' e' li is. grind (arith, nat_tests, (calls h).c_entry i c' a' e' li, below sh st h p in_n (begin.SourceBack m) at_call, (calls h).calls p in_n, sections sh st h p in_n);
  c_named = λ i c' s' a' e' li is. grind (arith, nat_tests, (calls h).c_named i c' s' a' e' li, below sh st h p in_n (begin.SourceBack m) at_call, (calls h).calls p in_n, sections sh st h p in_n);
  c_target = λ i c' s' li is. grind (arith, nat_tests, (calls h).c_target i c' s' li, below sh st h p in_n (begin.SourceBack m) at_call, (calls h).calls p in_n, sections sh st h p in_n);
  c_lives = λ i c' s' a' e' li is. grind (arith, nat_tests, (calls h).c_lives i c' s' a' e' li, below sh st h p in_n (begin.SourceBack m) at_call, (calls h).calls p in_n, sections sh st h p in_n);
  c_leads = λ i c' s' t' li is. grind (arith, nat_tests, (calls h).c_leads i c' s' t' li, below sh st h p in_n (begin.SourceBack m) at_call, (calls h).calls p in_n, sections sh st h p in_n);
  c_origin = λ i c' s' a' e' li is. grind (arith, nat_tests, (calls h).c_origin i c' s' a' e' li, below sh st h p in_n (begin.SourceBack m) at_call, (calls h).calls p in_n, sections sh st h p in_n);
  c_source = λ i c' s' a' e' li is. grind (arith, nat_tests, (calls h).c_source i c' s' a' e' li, below sh st h p in_n (begin.SourceBack m) at_call, (calls h).calls p in_n, sections sh st h p in_n);
  c_resting = λ i c' s' a' e' li is. grind (arith, nat_tests, (calls h).c_resting i c' s' a' e' li, below sh st h p in_n (begin.SourceBack m) at_call, (calls h).calls p in_n, sections sh st h p in_n);
  c_loose = λ i c' s' a' e' li is nm. grind (arith, nat_tests, (calls h).c_loose i c' s' a' e' li, below sh st h p in_n (begin.SourceBack m) at_call, (calls h).calls p in_n, sections sh st h p in_n);
  c_tries = λ i c' s' a' e' li is. grind (arith, nat_tests, (calls h).c_tries i c' s' a' e' li, below sh st h p in_n (begin.SourceBack m) at_call, (calls h).calls p in_n, sections sh st h p in_n);
  c_removes = λ i c' a' e' li is. grind (arith, nat_tests, (calls h).c_removes i c' a' e' li, below sh st h p in_n (begin.SourceBack m) at_call, (calls h).calls p in_n, sections sh st h p in_n);
  c_leaving = λ i c' s' a' e' li is. grind (arith, nat_tests, (calls h).c_leaving i c' s' a' e' li, below sh st h p in_n (begin.SourceBack m) at_call, (calls h).calls p in_n, sections sh st h p in_n);
  c_limbos = λ i c' s' a' e' li is. grind (arith, nat_tests, (calls h).c_limbos i c' s' a' e' li, below sh st h p in_n (begin.SourceBack m) at_call, (calls h).calls p in_n, sections sh st h p in_n);
  c_frees = λ i c' s' a' e' li is st'. grind (arith, nat_tests, (calls h).c_frees i c' s' a' e' li, below sh st h p in_n (begin.SourceBack m) at_call, (calls h).calls p in_n, sections sh st h p in_n);
  c_leaves = λ i c' s' li is. grind (arith, nat_tests, (calls h).c_leaves i c' s' li, below sh st h p in_n (begin.SourceBack m) at_call, (calls h).calls p in_n, sections sh st h p in_n);
  c_apart = λ i c' s' a' e' li is nm. grind (arith, nat_tests, (calls h).c_apart i c' s' a' e' li, below sh st h p in_n (begin.SourceBack m) at_call, (calls h).calls p in_n, sections sh st h p in_n);
  c_moved = λ i c' s' a' e' li is nm. grind (arith, nat_tests, (calls h).c_moved i c' s' a' e' li, below sh st h p in_n (begin.SourceBack m) at_call, (calls h).calls p in_n, sections sh st h p in_n);
  c_ends = λ i c' s' t' li is. grind (arith, nat_tests, (calls h).c_ends i c' s' t' li, below sh st h p in_n (begin.SourceBack m) at_call, (calls h).calls p in_n, sections sh st h p in_n);
  c_passed = λ i c' s' li is. grind (arith, nat_tests, (calls h).c_passed i c' s' li, below sh st h p in_n (begin.SourceBack m) at_call, (calls h).calls p in_n, sections sh st h p in_n);
}

-- kind LoadEntry
pub source_entry : (sh : Layout) (st : S.State) (p : ℕ) (x : ℕ) (calm : Bool) (m : Walk) (a : ℕ) (e : ℕ) (told : ℕ) → p < sh.passes → (st.stands p).section ≡ Inside x calm → (st.stands p).phase ≡ phase.Begin (begin.SourceEntry m (object a e m.coll)) → Shut sh st → Nothing sh st
    → CallsAgree sh (did sh st p Go (Inside x calm) (phase.Begin (begin.SourceEntry m (object a e m.coll))) told (Load (place.Entry m.coll e)))
source_entry sh st p x calm m a e told in_n at_sec at_call h _ = record {
  calls = λ i li. grind (arith, nat_tests, (calls h).calls i li, below sh st h p in_n (begin.SourceEntry m (object a e m.coll)) at_call, (calls h).calls p in_n, sections sh st h p in_n);
  c_slot = λ i c' s' li is. grind (arith, nat_tests, (calls h).c_slot i c' s' li, below sh st h p in_n (begin.SourceEntry m (object a e m.coll)) at_call, (calls h).calls p in_n, sections sh st h p in_n);
  c_entry = λ i c' a' e' li is. grind (arith, nat_tests, (calls h).c_entry i c' a' e' li, below sh st h p in_n (begin.SourceEntry m (object a e m.coll)) at_call, (calls h).calls p in_n, sections sh st h p in_n);
  c_named = λ i c' s' a' e' li is. grind (arith, nat_tests, (calls h).c_named i c' s' a' e' li, below sh st h p in_n (begin.SourceEntry m (object a e m.coll)) at_call, (calls h).calls p in_n, sections sh st h p in_n);
  c_target = λ i c' s' li is. grind (arith, nat_tests, (calls h).c_target i c' s' li, below sh st h p in_n (begin.SourceEntry m (object a e m.coll)) at_call, (calls h).calls p in_n, sections sh st h p in_n);
  c_lives = λ i c' s' a' e' li is. grind (arith, nat_tests, (calls h).c_lives i c' s' a' e' li, below sh st h p in_n (begin.SourceEntry m (object a e m.coll)) at_call, (calls h).calls p in_n, sections sh st h p in_n);
  c_leads = λ i c' s' t' li is. grind (arith, nat_tests, (calls h).c_leads i c' s' t' li, below sh st h p in_n (begin.SourceEntry m (object a e m.coll)) at_call, (calls h).calls p in_n, sections sh st h p in_n);
  c_origin = λ i c' s' a' e' li is. grind (arith, nat_tests, (calls h).c_origin i c' s' a' e' li, below sh st h p in_n (begin.SourceEntry m (object a e m.coll)) at_call, (calls h).calls p in_n, sections sh st h p in_n, (objects h).standing m.coll a e m.source, (objects h).placed m.coll a e m.source, (moves h).standing_in p m.coll a e m.source in_n);
  c_source = λ i c' s' a' e' li is. by_eq i p (λ y. grind (arith, nat_tests, below sh st h p in_n (begin.SourceEntry m (object a e m.coll)) at_call, (calls h).calls p in_n, sections sh st h p in_n, (objects h).standing m.coll a e m.source)) (λ n. grind (arith, nat_tests, (calls h).c_source i c' s' a' e' li));
  c_resting = λ i c' s' a' e' li is. by_eq i p (λ y. let seen = source_seen sh x m (object a e m.coll) (state_in st.memory m.coll e) s' (object a' e' c') (subst (λ (l : Stand). origin_of l.phase ≡ Some (s', object a' e' c')) (put_stand-same st.stands p i _ y) is) in let rest : dir_in st.memory m.coll m.source ≡ dir.Valid = at_rest sh st h p m.coll a e m.source in_n (grind (arith, (calls h).calls p in_n)) (grind (arith, at_call)) (grind (arith, seen.0)) in grind (arith, nat_tests, seen, rest)) (λ n. grind (arith, nat_tests, (calls h).c_resting i c' s' a' e' li));
  c_loose = λ i c' s' a' e' li is nm. grind (arith, nat_tests, (calls h).c_loose i c' s' a' e' li, below sh st h p in_n (begin.SourceEntry m (object a e m.coll)) at_call, (calls h).calls p in_n, sections sh st h p in_n);
  c_tries = λ i c' s' a' e' li is. grind (arith, nat_tests, (calls h).c_tries i c' s' a' e' li, below sh st h p in_n (begin.SourceEntry m (object a e m.coll)) at_call, (calls h).calls p in_n, sections sh st h p in_n);
  c_removes = λ i c' a' e' li is. grind (arith, nat_tests, (calls h).c_removes i c' a' e' li, below sh st h p in_n (begin.SourceEntry m (object a e m.coll)) at_call, (calls h).calls p in_n, sections sh st h p in_n);
  c_leaving = λ i c' s' a' e' li is. grind (arith, nat_tests, (calls h).c_leaving i c' s' a' e' li, below sh st h p in_n (begin.SourceEntry m (object a e m.coll)) at_call, (calls h).calls p in_n, sections sh st h p in_n);
  c_limbos = λ i c' s' a' e' li is. grind (arith, nat_tests, (calls h).c_limbos i c' s' a' e' li, below sh st h p in_n (begin.SourceEntry m (object a e m.coll)) at_call, (calls h).calls p in_n, sections sh st h p in_n);
  c_frees = λ i c' s' a' e' li is st'. grind (arith, nat_tests, (calls h).c_frees i c' s' a' e' li, below sh st h p in_n (begin.SourceEntry m (object a e m.coll)) at_call, (calls h).calls p in_n, sections sh st h p in_n);
  c_leaves = λ i c' s' li is. grind (arith, nat_tests, (calls h).c_leaves i c' s' li, below sh st h p in_n (begin.SourceEntry m (object a e m.coll)) at_call, (calls h).calls p in_n, sections sh st h p in_n);
  c_apart = λ i c' s' a' e' li is nm. grind (arith, nat_tests, (calls h).c_apart i c' s' a' e' li, below sh st h p in_n (begin.SourceEntry m (object a e m.coll)) at_call, (calls h).calls p in_n, sections sh st h p in_n);
  c_moved = λ i c' s' a' e' li is nm. grind (arith, nat_tests, (calls h).c_moved i c' s' a' e' li, below sh st h p in_n (begin.SourceEntry m (object a e m.coll)) at_call, (calls h).calls p in_n, sections sh st h p in_n);
  c_ends = λ i c' s' t' li is. grind (arith, nat_tests, (calls h).c_ends i c' s' t' li, below sh st h p in_n (begin.SourceEntry m (object a e m.coll)) at_call, (calls h).calls p in_n, sections sh st h p in_n);
  c_passed = λ i c' s' li is. grind (arith, nat_tests, (calls h).c_passed i c' s' li, below sh st h p in_n (begin.SourceEntry m (object a e m.coll)) at_call, (calls h).calls p in_n, sections sh st h p in_n);
}
