-- Steps keep the agreement: calls, holds. Written by tools/laws.py.
use Rattle.std.proofs.Common.{◌≡◌, ℕ, ◌+◌, ◌<◌, ◌&&◌, Bool, true, Some, arith}
use Rattle.std.proofs.lemmas.Bool.Decides.{nat_tests}
use Rattle.smc_words.specs.declared.dir.Dir.TheVariants as dir
use Rattle.smc_shape.specs.Layout.{Layout, width_of}
use Rattle.smc_shape.specs.declared.place.Place.TheVariants as place
use Rattle.smc_core.specs.declared.call.Call.TheVariants as call
use Rattle.smc_core.specs.declared.call.Choice.TheVariants.{Start, Go}
use Rattle.smc_core.specs.declared.op.Op.TheVariants.{Load, Store, MarkGone}
use Rattle.smc_core.specs.declared.phase.Phase.TheVariants as phase
use Rattle.smc_core.specs.declared.phase.objects.RemovePhase.TheVariants as remove
use Rattle.smc_core.specs.declared.section.Section.TheVariants.{Inside}
use Rattle.smc_core.specs.declared.word.State.TheVariants as state
use Rattle.smc_core.specs.declared.word.Word.TheVariants as word
use Rattle.std.specs.Prelude.{nat_lt}
use Rattle.smc_core.specs.Add.{is_value}
use Rattle.smc_core.specs.Offer.{held_slot}
use Rattle.smc_rules.specs.Reads.{object}
use Rattle.smc_rules.specs.State as S
use Rattle.smc_rules.specs.State.{put_stand}
use Rattle.smc_agreement.specs.Kept.{Nothing}
use Rattle.smc_agreement.specs.Agreement.{CallsAgree}
use Rattle.smc_agreement.proofs.Whole.{Shut, calls, claims, objects, moves, did, sections}

-- kind LoadField
pub read : (sh : Layout) (st : S.State) (p : ℕ) (x : ℕ) (calm : Bool) (c : ℕ) (a : ℕ) (e : ℕ) (q : ℕ) (f : ℕ) (told : ℕ) → p < sh.passes → (st.stands p).section ≡ Inside x calm → (st.stands p).phase ≡ phase.Idle → held_slot (st.stands p).held (object a e c) ≡ Some q → nat_lt f (width_of sh c) ≡ true → Shut sh st → Nothing sh st
    → CallsAgree sh (did sh st p (Start (call.Read (object a e c) f)) (Inside x calm) phase.Idle told (Load (place.Field c q f)))
read sh st p x calm c a e q f told in_n at_sec at_call pre1 pre2 h _ = record {
  calls = λ i li. grind (arith, nat_tests, (calls h).calls i li, (calls h).calls p in_n, sections sh st h p in_n);
  c_slot = λ i c' s' li is. grind (arith, nat_tests, (calls h).c_slot i c' s' li, (calls h).calls p in_n, sections sh st h p in_n);
  c_entry = λ i c' a' e' li is. grind (arith, nat_tests, (calls h).c_entry i c' a' e' li, (calls h).calls p in_n, sections sh st h p in_n);
  c_named = λ i c' s' a' e' li is. grind (arith, nat_tests, (calls h).c_named i c' s' a' e' li, (calls h).calls p in_n, sections sh st h p in_n);
  c_target = λ i c' s' li is. grind (arith, nat_tests, (calls h).c_target i c' s' li, (calls h).calls p in_n, sections sh st h p in_n);
  c_lives = λ i c' s' a' e' li is. grind (arith, nat_tests, (calls h).c_lives i c' s' a' e' li, (calls h).calls p in_n, sections sh st h p in_n);
  c_leads = λ i c' s' t' li is. grind (arith, nat_tests, (calls h).c_leads i c' s' t' li, (calls h).calls p in_n, sections sh st h p in_n);
  c_origin = λ i c' s' a' e' li is. grind (arith, nat_tests, (calls h).c_origin i c' s' a' e' li, (calls h).calls p in_n, sections sh st h p in_n);
  c_source = λ i c' s' a' e' li is. grind (arith, nat_tests, (calls h).c_source i c' s' a' e' li, (calls h).calls p in_n, sections sh st h p in_n);
  c_resting = λ i c' s' a' e' li is. grind (arith, nat_tests, (calls h).c_resting i c' s' a' e' li, (calls h).calls p in_n, sections sh st h p in_n);
  c_loose = λ i c' s' a' e' li is nm. grind (arith, nat_tests, (calls h).c_loose i c' s' a' e' li, (calls h).calls p in_n, sections sh st h p in_n);
  c_tries = λ i c' s' a' e' li is. grind (arith, nat_tests, (calls h).c_tries i c' s' a' e' li, (calls h).calls p in_n, sections sh st h p in_n);
  c_removes = λ i c' a' e' li is. grind (arith, nat_tests, (calls h).c_removes i c' a' e' li, (calls h).calls p in_n, sections sh st h p in_n);
  c_leaving = λ i c' s' a' e' li is. grind (arith, nat_tests, (calls h).c_leaving i c' s' a' e' li, (calls h).calls p in_n, sections sh st h p in_n);
  c_limbos = λ i c' s' a' e' li is. grind (arith, nat_tests, (calls h).c_limbos i c' s' a' e' li, (calls h).calls p in_n, sections sh st h p in_n);
  c_frees = λ i c' s' a' e' li is st'. grind (arith, nat_tests, (calls h).c_frees i c' s' a' e' li, (calls h).calls p in_n, sections sh st h p in_n);
  c_leaves = λ i c' s' li is. grind (arith, nat_tests, (calls h).c_leaves i c' s' li, (calls h).calls p in_n, sections sh st h p in_n);
  c_apart = λ i c' s' a' e' li is nm. grind (arith, nat_tests, (calls h).c_apart i c' s' a' e' li, (calls h).calls p in_n, sections sh st h p in_n);
  c_moved = λ i c' s' a' e' li is nm. grind (arith, nat_tests, (calls h).c_moved i c' s' a' e' li, (calls h).calls p in_n, sections sh st h p in_n);
  c_ends = λ i c' s' t' li is. grind (arith, nat_tests, (calls h).c_ends i c' s' t' li, (calls h).calls p in_n, sections sh st h p in_n);
  c_passed = λ i c' s' li is. grind (arith, nat_tests, (calls h).c_passed i c' s' li, (calls h).calls p in_n, sections sh st h p in_n);
}

-- kind WriteField
pub write : (sh : Layout) (st : S.State) (p : ℕ) (x : ℕ) (calm : Bool) (c : ℕ) (a : ℕ) (e : ℕ) (q : ℕ) (f : ℕ) (w : ℕ) (told : ℕ) → p < sh.passes → (st.stands p).section ≡ Inside x calm → (st.stands p).phase ≡ phase.Idle → held_slot (st.stands p).held (object a e c) ≡ Some q → (nat_lt f (width_of sh c) && is_value w) ≡ true → Shut sh st → Nothing sh st
    → CallsAgree sh (did sh st p (Start (call.Write (object a e c) f w)) (Inside x calm) phase.Idle told (Store (place.Field c q f) (word.Plain w)))
write sh st p x calm c a e q f w told in_n at_sec at_call pre1 pre2 h _ = record {
  calls = λ i li. grind (arith, nat_tests, (calls h).calls i li, (objects h).held p c a e q in_n pre1, (calls h).calls p in_n, sections sh st h p in_n);
  c_slot = λ i c' s' li is. grind (arith, nat_tests, (calls h).c_slot i c' s' li, (objects h).held p c a e q in_n pre1, (calls h).calls p in_n, sections sh st h p in_n);
  c_entry = λ i c' a' e' li is. grind (arith, nat_tests, (calls h).c_entry i c' a' e' li, (objects h).held p c a e q in_n pre1, (calls h).calls p in_n, sections sh st h p in_n);
  c_named = λ i c' s' a' e' li is. grind (arith, nat_tests, (calls h).c_named i c' s' a' e' li, (objects h).held p c a e q in_n pre1, (calls h).calls p in_n, sections sh st h p in_n);
  c_target = λ i c' s' li is. grind (arith, nat_tests, (calls h).c_target i c' s' li, (objects h).held p c a e q in_n pre1, (calls h).calls p in_n, sections sh st h p in_n);
  c_lives = λ i c' s' a' e' li is. grind (arith, nat_tests, (calls h).c_lives i c' s' a' e' li, (objects h).held p c a e q in_n pre1, (calls h).calls p in_n, sections sh st h p in_n);
  c_leads = λ i c' s' t' li is. grind (arith, nat_tests, (calls h).c_leads i c' s' t' li, (objects h).held p c a e q in_n pre1, (calls h).calls p in_n, sections sh st h p in_n);
  c_origin = λ i c' s' a' e' li is. grind (arith, nat_tests, (calls h).c_origin i c' s' a' e' li, (objects h).held p c a e q in_n pre1, (calls h).calls p in_n, sections sh st h p in_n);
  c_source = λ i c' s' a' e' li is. grind (arith, nat_tests, (calls h).c_source i c' s' a' e' li, (objects h).held p c a e q in_n pre1, (calls h).calls p in_n, sections sh st h p in_n);
  c_resting = λ i c' s' a' e' li is. grind (arith, nat_tests, (calls h).c_resting i c' s' a' e' li, (objects h).held p c a e q in_n pre1, (calls h).calls p in_n, sections sh st h p in_n);
  c_loose = λ i c' s' a' e' li is nm. grind (arith, nat_tests, (calls h).c_loose i c' s' a' e' li, (objects h).held p c a e q in_n pre1, (calls h).calls p in_n, sections sh st h p in_n);
  c_tries = λ i c' s' a' e' li is. grind (arith, nat_tests, (calls h).c_tries i c' s' a' e' li, (objects h).held p c a e q in_n pre1, (calls h).calls p in_n, sections sh st h p in_n);
  c_removes = λ i c' a' e' li is. grind (arith, nat_tests, (calls h).c_removes i c' a' e' li, (objects h).held p c a e q in_n pre1, (calls h).calls p in_n, sections sh st h p in_n);
  c_leaving = λ i c' s' a' e' li is. grind (arith, nat_tests, (calls h).c_leaving i c' s' a' e' li, (objects h).held p c a e q in_n pre1, (calls h).calls p in_n, sections sh st h p in_n);
  c_limbos = λ i c' s' a' e' li is. grind (arith, nat_tests, (calls h).c_limbos i c' s' a' e' li, (objects h).held p c a e q in_n pre1, (calls h).calls p in_n, sections sh st h p in_n);
  c_frees = λ i c' s' a' e' li is st'. grind (arith, nat_tests, (calls h).c_frees i c' s' a' e' li, (objects h).held p c a e q in_n pre1, (calls h).calls p in_n, sections sh st h p in_n);
  c_leaves = λ i c' s' li is. grind (arith, nat_tests, (calls h).c_leaves i c' s' li, (objects h).held p c a e q in_n pre1, (calls h).calls p in_n, sections sh st h p in_n);
  c_apart = λ i c' s' a' e' li is nm. grind (arith, nat_tests, (calls h).c_apart i c' s' a' e' li, (objects h).held p c a e q in_n pre1, (calls h).calls p in_n, sections sh st h p in_n);
  c_moved = λ i c' s' a' e' li is nm. grind (arith, nat_tests, (calls h).c_moved i c' s' a' e' li, (objects h).held p c a e q in_n pre1, (calls h).calls p in_n, sections sh st h p in_n);
  c_ends = λ i c' s' t' li is. grind (arith, nat_tests, (calls h).c_ends i c' s' t' li, (objects h).held p c a e q in_n pre1, (calls h).calls p in_n, sections sh st h p in_n);
  c_passed = λ i c' s' li is. grind (arith, nat_tests, (calls h).c_passed i c' s' li, (objects h).held p c a e q in_n pre1, (calls h).calls p in_n, sections sh st h p in_n);
}

-- kind MarkGone
pub starts_remove : (sh : Layout) (st : S.State) (p : ℕ) (x : ℕ) (calm : Bool) (c : ℕ) (a : ℕ) (e : ℕ) (q : ℕ) (told : ℕ) → p < sh.passes → (st.stands p).section ≡ Inside x calm → (st.stands p).phase ≡ phase.Idle → held_slot (st.stands p).held (object a e c) ≡ Some q → Shut sh st → Nothing sh st
    → CallsAgree sh (did sh st p (Start (call.Remove (object a e c))) (Inside x calm) phase.Idle told (MarkGone c e))
starts_remove sh st p x calm c a e q told in_n at_sec at_call pre1 h _ = record {
  calls = λ i li. grind (arith, nat_tests, (calls h).calls i li, (objects h).held p c a e q in_n pre1, (calls h).calls p in_n, sections sh st h p in_n);
  c_slot = λ i c' s' li is. grind (arith, nat_tests, (calls h).c_slot i c' s' li, (objects h).held p c a e q in_n pre1, (calls h).calls p in_n, sections sh st h p in_n);
  c_entry = λ i c' a' e' li is. grind (arith, nat_tests, (calls h).c_entry i c' a' e' li, (objects h).held p c a e q in_n pre1, (calls h).calls p in_n, sections sh st h p in_n);
  c_named = λ i c' s' a' e' li is. grind (arith, nat_tests, (calls h).c_named i c' s' a' e' li, (objects h).held p c a e q in_n pre1, (calls h).calls p in_n, sections sh st h p in_n);
  c_target = λ i c' s' li is. grind (arith, nat_tests, (calls h).c_target i c' s' li, (objects h).held p c a e q in_n pre1, (calls h).calls p in_n, sections sh st h p in_n);
  c_lives = λ i c' s' a' e' li is. grind (arith, nat_tests, (calls h).c_lives i c' s' a' e' li, (objects h).held p c a e q in_n pre1, (calls h).calls p in_n, sections sh st h p in_n);
  c_leads = λ i c' s' t' li is. grind (arith, nat_tests, (calls h).c_leads i c' s' t' li, (objects h).held p c a e q in_n pre1, (calls h).calls p in_n, sections sh st h p in_n);
  c_origin = λ i c' s' a' e' li is. grind (arith, nat_tests, (calls h).c_origin i c' s' a' e' li, (objects h).held p c a e q in_n pre1, (calls h).calls p in_n, sections sh st h p in_n);
  c_source = λ i c' s' a' e' li is. grind (arith, nat_tests, (calls h).c_source i c' s' a' e' li, (objects h).held p c a e q in_n pre1, (calls h).calls p in_n, sections sh st h p in_n);
  c_resting = λ i c' s' a' e' li is. grind (arith, nat_tests, (calls h).c_resting i c' s' a' e' li, (objects h).held p c a e q in_n pre1, (calls h).calls p in_n, sections sh st h p in_n);
  c_loose = λ i c' s' a' e' li is nm. grind (arith, nat_tests, (calls h).c_loose i c' s' a' e' li, (objects h).held p c a e q in_n pre1, (calls h).calls p in_n, sections sh st h p in_n);
  c_tries = λ i c' s' a' e' li is. grind (arith, nat_tests, (calls h).c_tries i c' s' a' e' li, (objects h).held p c a e q in_n pre1, (calls h).calls p in_n, sections sh st h p in_n);
  c_removes = λ i c' a' e' li is. grind (arith, nat_tests, (calls h).c_removes i c' a' e' li, (objects h).held p c a e q in_n pre1, (calls h).calls p in_n, sections sh st h p in_n);
  c_leaving = λ i c' s' a' e' li is. grind (arith, nat_tests, (calls h).c_leaving i c' s' a' e' li, (objects h).held p c a e q in_n pre1, (calls h).calls p in_n, sections sh st h p in_n);
  c_limbos = λ i c' s' a' e' li is. grind (arith, nat_tests, (calls h).c_limbos i c' s' a' e' li, (objects h).held p c a e q in_n pre1, (calls h).calls p in_n, sections sh st h p in_n, (objects h).placed c a e q);
  c_frees = λ i c' s' a' e' li is st'. grind (arith, nat_tests, (calls h).c_frees i c' s' a' e' li, (objects h).held p c a e q in_n pre1, (calls h).calls p in_n, sections sh st h p in_n);
  c_leaves = λ i c' s' li is. grind (arith, nat_tests, (calls h).c_leaves i c' s' li, (objects h).held p c a e q in_n pre1, (calls h).calls p in_n, sections sh st h p in_n);
  c_apart = λ i c' s' a' e' li is nm. grind (arith, nat_tests, (calls h).c_apart i c' s' a' e' li, (objects h).held p c a e q in_n pre1, (calls h).calls p in_n, sections sh st h p in_n);
  c_moved = λ i c' s' a' e' li is nm. grind (arith, nat_tests, (calls h).c_moved i c' s' a' e' li, (objects h).held p c a e q in_n pre1, (calls h).calls p in_n, sections sh st h p in_n);
  c_ends = λ i c' s' t' li is. grind (arith, nat_tests, (calls h).c_ends i c' s' t' li, (objects h).held p c a e q in_n pre1, (calls h).calls p in_n, sections sh st h p in_n);
  c_passed = λ i c' s' li is. grind (arith, nat_tests, (calls h).c_passed i c' s' li, (objects h).held p c a e q in_n pre1, (calls h).calls p in_n, sections sh st h p in_n);
}

-- kind LeaveSlot
pub leave_slot : (sh : Layout) (st : S.State) (p : ℕ) (x : ℕ) (calm : Bool) (c : ℕ) (a : ℕ) (e : ℕ) (q : ℕ) (told : ℕ) → p < sh.passes → (st.stands p).section ≡ Inside x calm → (st.stands p).phase ≡ phase.Remove (remove.LeaveSlot q (object a e c)) → Shut sh st → Nothing sh st
    → CallsAgree sh (did sh st p Go (Inside x calm) (phase.Remove (remove.LeaveSlot q (object a e c))) told (Store (place.Directory c q) (word.Directory (dir.Limbo (x + 1)))))
leave_slot sh st p x calm c a e q told in_n at_sec at_call h _ = record {
  calls = λ i li. grind (arith, nat_tests, (calls h).calls i li, (calls h).c_removes p c a e in_n, (calls h).c_leaving p c q a e in_n, (calls h).c_limbos p c q a e in_n, (calls h).calls p in_n, sections sh st h p in_n);
  c_slot = λ i c' s' li is. grind (arith, nat_tests, (calls h).c_slot i c' s' li, (calls h).c_removes p c a e in_n, (calls h).c_leaving p c q a e in_n, (calls h).c_limbos p c q a e in_n, (calls h).calls p in_n, sections sh st h p in_n);
  c_entry = λ i c' a' e' li is. grind (arith, nat_tests, (calls h).c_entry i c' a' e' li, (calls h).c_removes p c a e in_n, (calls h).c_leaving p c q a e in_n, (calls h).c_limbos p c q a e in_n, (calls h).calls p in_n, sections sh st h p in_n);
  c_named = λ i c' s' a' e' li is. grind (arith, nat_tests, (calls h).c_named i c' s' a' e' li, (calls h).c_removes p c a e in_n, (calls h).c_leaving p c q a e in_n, (calls h).c_limbos p c q a e in_n, (calls h).calls p in_n, sections sh st h p in_n);
  c_target = λ i c' s' li is. grind (arith, nat_tests, (calls h).c_target i c' s' li, (calls h).c_removes p c a e in_n, (calls h).c_leaving p c q a e in_n, (calls h).c_limbos p c q a e in_n, (calls h).calls p in_n, sections sh st h p in_n, (moves h).standing_in i c a e q li, (calls h).calls i li);
  c_lives = λ i c' s' a' e' li is. grind (arith, nat_tests, (calls h).c_lives i c' s' a' e' li, (calls h).c_removes p c a e in_n, (calls h).c_leaving p c q a e in_n, (calls h).c_limbos p c q a e in_n, (calls h).calls p in_n, sections sh st h p in_n, (calls h).c_named i c' s' a' e' li, (calls h).c_entry i c' a' e' li, (objects h).standing c a e q);
  c_leads = λ i c' s' t' li is. grind (arith, nat_tests, (calls h).c_leads i c' s' t' li, (calls h).c_removes p c a e in_n, (calls h).c_leaving p c q a e in_n, (calls h).c_limbos p c q a e in_n, (calls h).calls p in_n, sections sh st h p in_n);
  c_origin = λ i c' s' a' e' li is. grind (arith, nat_tests, (calls h).c_origin i c' s' a' e' li, (calls h).c_removes p c a e in_n, (calls h).c_leaving p c q a e in_n, (calls h).c_limbos p c q a e in_n, (calls h).calls p in_n, sections sh st h p in_n);
  c_source = λ i c' s' a' e' li is. grind (arith, nat_tests, (calls h).c_source i c' s' a' e' li, (calls h).c_removes p c a e in_n, (calls h).c_leaving p c q a e in_n, (calls h).c_limbos p c q a e in_n, (calls h).calls p in_n, sections sh st h p in_n);
  c_resting = λ i c' s' a' e' li is. grind (arith, nat_tests, (calls h).c_resting i c' s' a' e' li, (calls h).c_removes p c a e in_n, (calls h).c_leaving p c q a e in_n, (calls h).c_limbos p c q a e in_n, (calls h).calls p in_n, sections sh st h p in_n, sections sh st h i li, (calls h).calls i li);
  c_loose = λ i c' s' a' e' li is nm. grind (arith, nat_tests, (calls h).c_loose i c' s' a' e' li, (calls h).c_removes p c a e in_n, (calls h).c_leaving p c q a e in_n, (calls h).c_limbos p c q a e in_n, (calls h).calls p in_n, sections sh st h p in_n);
  c_tries = λ i c' s' a' e' li is. grind (arith, nat_tests, (calls h).c_tries i c' s' a' e' li, (calls h).c_removes p c a e in_n, (calls h).c_leaving p c q a e in_n, (calls h).c_limbos p c q a e in_n, (calls h).calls p in_n, sections sh st h p in_n);
  c_removes = λ i c' a' e' li is. grind (arith, nat_tests, (calls h).c_removes i c' a' e' li, (calls h).c_removes p c a e in_n, (calls h).c_leaving p c q a e in_n, (calls h).c_limbos p c q a e in_n, (calls h).calls p in_n, sections sh st h p in_n);
  c_leaving = λ i c' s' a' e' li is. grind (arith, nat_tests, (calls h).c_leaving i c' s' a' e' li, (calls h).c_removes p c a e in_n, (calls h).c_leaving p c q a e in_n, (calls h).c_limbos p c q a e in_n, (calls h).calls p in_n, sections sh st h p in_n);
  c_limbos = λ i c' s' a' e' li is. grind (arith, nat_tests, (calls h).c_limbos i c' s' a' e' li, (calls h).c_removes p c a e in_n, (calls h).c_leaving p c q a e in_n, (calls h).c_limbos p c q a e in_n, (calls h).calls p in_n, sections sh st h p in_n, (calls h).c_leaving i c' s' a' e' li, (objects h).standing c' a' e' s', (objects h).standing c a e q, (claims h).one_gone i p c' a' a e' li in_n);
  c_frees = λ i c' s' a' e' li is st'. grind (arith, nat_tests, (calls h).c_frees i c' s' a' e' li, (calls h).c_removes p c a e in_n, (calls h).c_leaving p c q a e in_n, (calls h).c_limbos p c q a e in_n, (calls h).calls p in_n, sections sh st h p in_n);
  c_leaves = λ i c' s' li is. grind (arith, nat_tests, (calls h).c_leaves i c' s' li, (calls h).c_removes p c a e in_n, (calls h).c_leaving p c q a e in_n, (calls h).c_limbos p c q a e in_n, (calls h).calls p in_n, sections sh st h p in_n, (objects h).standing c a e q, (calls h).c_apart i c' s' a e li);
  c_apart = λ i c' s' a' e' li is nm. grind (arith, nat_tests, (calls h).c_apart i c' s' a' e' li, (calls h).c_removes p c a e in_n, (calls h).c_leaving p c q a e in_n, (calls h).c_limbos p c q a e in_n, (calls h).calls p in_n, sections sh st h p in_n, (objects h).standing c a e q);
  c_moved = λ i c' s' a' e' li is nm. grind (arith, nat_tests, (calls h).c_moved i c' s' a' e' li, (calls h).c_removes p c a e in_n, (calls h).c_leaving p c q a e in_n, (calls h).c_limbos p c q a e in_n, (calls h).calls p in_n, sections sh st h p in_n);
  c_ends = λ i c' s' t' li is. grind (arith, nat_tests, (calls h).c_ends i c' s' t' li, (calls h).c_removes p c a e in_n, (calls h).c_leaving p c q a e in_n, (calls h).c_limbos p c q a e in_n, (calls h).calls p in_n, sections sh st h p in_n, sections sh st h i li, (calls h).calls i li);
  c_passed = λ i c' s' li is. grind (arith, nat_tests, (calls h).c_passed i c' s' li, (calls h).c_removes p c a e in_n, (calls h).c_leaving p c q a e in_n, (calls h).c_limbos p c q a e in_n, (calls h).calls p in_n, sections sh st h p in_n);
}

-- kind FreeEntry
pub free_entry : (sh : Layout) (st : S.State) (p : ℕ) (x : ℕ) (calm : Bool) (c : ℕ) (a : ℕ) (e : ℕ) (told : ℕ) → p < sh.passes → (st.stands p).section ≡ Inside x calm → (st.stands p).phase ≡ phase.Remove (remove.FreeEntry (object a e c)) → Shut sh st → Nothing sh st
    → CallsAgree sh (did sh st p Go (Inside x calm) (phase.Remove (remove.FreeEntry (object a e c))) told (Store (place.Entry c e) (word.Entry (state.Free a (x + 1)))))
free_entry sh st p x calm c a e told in_n at_sec at_call h _ = record {
  calls = λ i li. grind (arith, nat_tests, (calls h).calls i li, (calls h).c_removes p c a e in_n, (calls h).calls p in_n, sections sh st h p in_n);
  c_slot = λ i c' s' li is. grind (arith, nat_tests, (calls h).c_slot i c' s' li, (calls h).c_removes p c a e in_n, (calls h).c_frees p c s' a e in_n, (calls h).calls p in_n, sections sh st h p in_n);
  c_entry = λ i c' a' e' li is. grind (arith, nat_tests, (calls h).c_entry i c' a' e' li, (calls h).c_removes p c a e in_n, (calls h).calls p in_n, sections sh st h p in_n);
  c_named = λ i c' s' a' e' li is. grind (arith, nat_tests, (calls h).c_named i c' s' a' e' li, (calls h).c_removes p c a e in_n, (calls h).c_frees p c s' a e in_n, (calls h).calls p in_n, sections sh st h p in_n);
  c_target = λ i c' s' li is. grind (arith, nat_tests, (calls h).c_target i c' s' li, (calls h).c_removes p c a e in_n, (calls h).c_frees p c s' a e in_n, (calls h).calls p in_n, sections sh st h p in_n);
  c_lives = λ i c' s' a' e' li is. grind (arith, nat_tests, (calls h).c_lives i c' s' a' e' li, (calls h).c_removes p c a e in_n, (calls h).c_frees p c s' a e in_n, (calls h).calls p in_n, sections sh st h p in_n);
  c_leads = λ i c' s' t' li is. grind (arith, nat_tests, (calls h).c_leads i c' s' t' li, (calls h).c_removes p c a e in_n, (calls h).c_frees p c s' a e in_n, (calls h).calls p in_n, sections sh st h p in_n);
  c_origin = λ i c' s' a' e' li is. grind (arith, nat_tests, (calls h).c_origin i c' s' a' e' li, (calls h).c_removes p c a e in_n, (calls h).c_frees p c s' a e in_n, (calls h).calls p in_n, sections sh st h p in_n);
  c_source = λ i c' s' a' e' li is. grind (arith, nat_tests, (calls h).c_source i c' s' a' e' li, (calls h).c_removes p c a e in_n, (calls h).c_frees p c s' a e in_n, (calls h).calls p in_n, sections sh st h p in_n);
  c_resting = λ i c' s' a' e' li is. grind (arith, nat_tests, (calls h).c_resting i c' s' a' e' li, (calls h).c_removes p c a e in_n, (calls h).c_frees p c s' a e in_n, (calls h).calls p in_n, sections sh st h p in_n);
  c_loose = λ i c' s' a' e' li is nm. grind (arith, nat_tests, (calls h).c_loose i c' s' a' e' li, (calls h).c_removes p c a e in_n, (calls h).c_frees p c s' a e in_n, (calls h).calls p in_n, sections sh st h p in_n);
  c_tries = λ i c' s' a' e' li is. grind (arith, nat_tests, (calls h).c_tries i c' s' a' e' li, (calls h).c_removes p c a e in_n, (calls h).c_frees p c s' a e in_n, (calls h).calls p in_n, sections sh st h p in_n);
  c_removes = λ i c' a' e' li is. grind (arith, nat_tests, (calls h).c_removes i c' a' e' li, (calls h).c_removes p c a e in_n, (calls h).calls p in_n, sections sh st h p in_n, (claims h).one_gone i p c' a' a e' li in_n);
  c_leaving = λ i c' s' a' e' li is. grind (arith, nat_tests, (calls h).c_leaving i c' s' a' e' li, (calls h).c_removes p c a e in_n, (calls h).c_frees p c s' a e in_n, (calls h).calls p in_n, sections sh st h p in_n, (claims h).one_gone i p c' a' a e' li in_n);
  c_limbos = λ i c' s' a' e' li is. grind (arith, nat_tests, (calls h).c_limbos i c' s' a' e' li, (calls h).c_removes p c a e in_n, (calls h).c_frees p c s' a e in_n, (calls h).calls p in_n, sections sh st h p in_n);
  c_frees = λ i c' s' a' e' li is st'. grind (arith, nat_tests, (calls h).c_frees i c' s' a' e' li, (calls h).c_removes p c a e in_n, (calls h).c_frees p c s' a e in_n, (calls h).calls p in_n, sections sh st h p in_n);
  c_leaves = λ i c' s' li is. grind (arith, nat_tests, (calls h).c_leaves i c' s' li, (calls h).c_removes p c a e in_n, (calls h).c_frees p c s' a e in_n, (calls h).calls p in_n, sections sh st h p in_n);
  c_apart = λ i c' s' a' e' li is nm. grind (arith, nat_tests, (calls h).c_apart i c' s' a' e' li, (calls h).c_removes p c a e in_n, (calls h).c_frees p c s' a e in_n, (calls h).calls p in_n, sections sh st h p in_n);
  c_moved = λ i c' s' a' e' li is nm. grind (arith, nat_tests, (calls h).c_moved i c' s' a' e' li, (calls h).c_removes p c a e in_n, (calls h).c_frees p c s' a e in_n, (calls h).calls p in_n, sections sh st h p in_n, sections sh st h i li, (calls h).calls i li);
  c_ends = λ i c' s' t' li is. grind (arith, nat_tests, (calls h).c_ends i c' s' t' li, (calls h).c_removes p c a e in_n, (calls h).c_frees p c s' a e in_n, (calls h).calls p in_n, sections sh st h p in_n);
  c_passed = λ i c' s' li is. grind (arith, nat_tests, (calls h).c_passed i c' s' li, (calls h).c_removes p c a e in_n, (calls h).c_frees p c s' a e in_n, (calls h).calls p in_n, sections sh st h p in_n);
}
