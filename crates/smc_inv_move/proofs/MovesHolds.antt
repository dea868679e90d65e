-- Steps keep the agreement: moves, holds. Written by tools/laws.py.
use Rattle.std.proofs.Common.{◌≡◌, ℕ, ◌+◌, ◌<◌, ◌&&◌, Bool, true, Some, arith}
use Rattle.std.proofs.lemmas.Bool.Decides.{nat_tests}
use Rattle.smc_words.specs.declared.dir.Dir.TheVariants as dir
use Rattle.smc_shape.specs.Layout.{Layout, width_of}
use Rattle.smc_shape.specs.declared.place.Place.TheVariants as place
use Rattle.smc_core.specs.declared.call.Call.TheVariants as call
use Rattle.smc_core.specs.declared.call.Choice.TheVariants.{Start, Go}
use Rattle.smc_core.specs.declared.op.Op.TheVariants.{Load, Store, MarkGone}
use Rattle.smc_core.specs.declared.phase.Phase.TheVariants as phase
use Rattle.smc_core.specs.declared.phase.objects.RemovePhase.TheVariants as remove
use Rattle.smc_core.specs.declared.section.Section.TheVariants.{Inside}
use Rattle.smc_core.specs.declared.word.State.TheVariants as state
use Rattle.smc_core.specs.declared.word.Word.TheVariants as word
use Rattle.std.specs.Prelude.{nat_lt}
use Rattle.smc_core.specs.Add.{is_value}
use Rattle.smc_core.specs.Offer.{held_slot}
use Rattle.smc_rules.specs.Reads.{object}
use Rattle.smc_rules.specs.State as S
use Rattle.smc_rules.specs.State.{put_stand}
use Rattle.smc_agreement.specs.Kept.{Nothing}
use Rattle.smc_agreement.specs.Agreement.{MovesAgree}
use Rattle.smc_agreement.proofs.Whole.{Shut, calls, objects, moves, did, sections}

-- kind LoadField
pub read : (sh : Layout) (st : S.State) (p : ℕ) (x : ℕ) (calm : Bool) (c : ℕ) (a : ℕ) (e : ℕ) (q : ℕ) (f : ℕ) (told : ℕ) → p < sh.passes → (st.stands p).section ≡ Inside x calm → (st.stands p).phase ≡ phase.Idle → held_slot (st.stands p).held (object a e c) ≡ Some q → nat_lt f (width_of sh c) ≡ true → Shut sh st → Nothing sh st
    → MovesAgree sh (did sh st p (Start (call.Read (object a e c) f)) (Inside x calm) phase.Idle told (Load (place.Field c q f)))
read sh st p x calm c a e q f told in_n at_sec at_call pre1 pre2 h _ = record {
  standing_in = λ i c' a' e' s' li o is inc. grind (arith, nat_tests, (moves h).standing_in i c' a' e' s' li, (calls h).calls p in_n, sections sh st h p in_n);
  incoming_round = (moves h).incoming_round;
  incoming_in = (moves h).incoming_in;
  incoming_known = (moves h).incoming_known;
  incoming_fwd = (moves h).incoming_fwd;
  unpassed = λ i c' s' li o inc. grind (arith, nat_tests, (moves h).unpassed i c' s' li, (calls h).calls p in_n, sections sh st h p in_n);
  ahead = λ i c' t' a' e' s' li inc nm is. grind (arith, nat_tests, (moves h).ahead i c' t' a' e' s' li, (calls h).calls p in_n, sections sh st h p in_n);
  frozen = (moves h).frozen;
  frozen_held = λ i c' a' e' s' t' r' li is r hd. grind (arith, nat_tests, (moves h).frozen_held i c' a' e' s' t' r' li, (calls h).calls p in_n, sections sh st h p in_n);
  frozen_copy = λ i c' a' e' s' r' li is r cp. grind (arith, nat_tests, (moves h).frozen_copy i c' a' e' s' r' li, (calls h).calls p in_n, sections sh st h p in_n);
  abandon = λ i c' a' e' s' t' r' li ab is r. grind (arith, nat_tests, (moves h).abandon i c' a' e' s' t' r' li, (calls h).calls p in_n, sections sh st h p in_n);
  locked = (moves h).locked;
  locked_owner = λ i c' a' e' s' li o is. grind (arith, nat_tests, (moves h).locked_owner i c' a' e' s' li, (calls h).calls p in_n, sections sh st h p in_n);
  begin_copy = λ i j c' s' a' e' t' n' li lj sr cp. grind (arith, nat_tests, (moves h).begin_copy i j c' s' a' e' t' n' li lj, (calls h).calls p in_n, sections sh st h p in_n);
}

-- kind WriteField
pub write : (sh : Layout) (st : S.State) (p : ℕ) (x : ℕ) (calm : Bool) (c : ℕ) (a : ℕ) (e : ℕ) (q : ℕ) (f : ℕ) (w : ℕ) (told : ℕ) → p < sh.passes → (st.stands p).section ≡ Inside x calm → (st.stands p).phase ≡ phase.Idle → held_slot (st.stands p).held (object a e c) ≡ Some q → (nat_lt f (width_of sh c) && is_value w) ≡ true → Shut sh st → Nothing sh st
    → MovesAgree sh (did sh st p (Start (call.Write (object a e c) f w)) (Inside x calm) phase.Idle told (Store (place.Field c q f) (word.Plain w)))
write sh st p x calm c a e q f w told in_n at_sec at_call pre1 pre2 h _ = record {
  standing_in = λ i c' a' e' s' li o is inc. grind (arith, nat_tests, (moves h).standing_in i c' a' e' s' li, (objects h).held p c a e q in_n pre1, (calls h).calls p in_n, sections sh st h p in_n);
  incoming_round = (moves h).incoming_round;
  incoming_in = (moves h).incoming_in;
  incoming_known = (moves h).incoming_known;
  incoming_fwd = (moves h).incoming_fwd;
  unpassed = λ i c' s' li o inc. grind (arith, nat_tests, (moves h).unpassed i c' s' li, (objects h).held p c a e q in_n pre1, (calls h).calls p in_n, sections sh st h p in_n);
  ahead = λ i c' t' a' e' s' li inc nm is. grind (arith, nat_tests, (moves h).ahead i c' t' a' e' s' li, (objects h).held p c a e q in_n pre1, (calls h).calls p in_n, sections sh st h p in_n);
  frozen = (moves h).frozen;
  frozen_held = λ i c' a' e' s' t' r' li is r hd. grind (arith, nat_tests, (moves h).frozen_held i c' a' e' s' t' r' li, (objects h).held p c a e q in_n pre1, (calls h).calls p in_n, sections sh st h p in_n);
  frozen_copy = λ i c' a' e' s' r' li is r cp. grind (arith, nat_tests, (moves h).frozen_copy i c' a' e' s' r' li, (objects h).held p c a e q in_n pre1, (calls h).calls p in_n, sections sh st h p in_n);
  abandon = λ i c' a' e' s' t' r' li ab is r. grind (arith, nat_tests, (moves h).abandon i c' a' e' s' t' r' li, (objects h).held p c a e q in_n pre1, (calls h).calls p in_n, sections sh st h p in_n);
  locked = (moves h).locked;
  locked_owner = λ i c' a' e' s' li o is. grind (arith, nat_tests, (moves h).locked_owner i c' a' e' s' li, (objects h).held p c a e q in_n pre1, (calls h).calls p in_n, sections sh st h p in_n);
  begin_copy = λ i j c' s' a' e' t' n' li lj sr cp. grind (arith, nat_tests, (moves h).begin_copy i j c' s' a' e' t' n' li lj, (objects h).held p c a e q in_n pre1, (calls h).calls p in_n, sections sh st h p in_n);
}

-- kind MarkGone
pub starts_remove : (sh : Layout) (st : S.State) (p : ℕ) (x : ℕ) (calm : Bool) (c : ℕ) (a : ℕ) (e : ℕ) (q : ℕ) (told : ℕ) → p < sh.passes → (st.stands p).section ≡ Inside x calm → (st.stands p).phase ≡ phase.Idle → held_slot (st.stands p).held (object a e c) ≡ Some q → Shut sh st → Nothing sh st
    → MovesAgree sh (did sh st p (Start (call.Remove (object a e c))) (Inside x calm) phase.Idle told (MarkGone c e))
starts_remove sh st p x calm c a e q told in_n at_sec at_call pre1 h _ = record {
  standing_in = λ i c' a' e' s' li o is inc. grind (arith, nat_tests, (moves h).standing_in i c' a' e' s' li, (objects h).held p c a e q in_n pre1, (calls h).calls p in_n, sections sh st h p in_n);
  incoming_round = (moves h).incoming_round;
  incoming_in = (moves h).incoming_in;
  incoming_known = λ c' s' a' e' inc nm. grind (arith, nat_tests, (moves h).incoming_known c' s' a' e', (objects h).held p c a e q in_n pre1, (calls h).calls p in_n, sections sh st h p in_n);
  incoming_fwd = λ c' t' a' e' s' inc nm is. grind (arith, nat_tests, (moves h).incoming_fwd c' t' a' e' s', (objects h).held p c a e q in_n pre1, (calls h).calls p in_n, sections sh st h p in_n);
  unpassed = λ i c' s' li o inc. grind (arith, nat_tests, (moves h).unpassed i c' s' li, (objects h).held p c a e q in_n pre1, (calls h).calls p in_n, sections sh st h p in_n);
  ahead = λ i c' t' a' e' s' li inc nm is. grind (arith, nat_tests, (moves h).ahead i c' t' a' e' s' li, (objects h).held p c a e q in_n pre1, (calls h).calls p in_n, sections sh st h p in_n);
  frozen = λ c' a' e' s' is. grind (arith, nat_tests, (moves h).frozen c' a' e' s', (objects h).held p c a e q in_n pre1, (calls h).calls p in_n, sections sh st h p in_n);
  frozen_held = λ i c' a' e' s' t' r' li is r hd. grind (arith, nat_tests, (moves h).frozen_held i c' a' e' s' t' r' li, (objects h).held p c a e q in_n pre1, (calls h).calls p in_n, sections sh st h p in_n);
  frozen_copy = λ i c' a' e' s' r' li is r cp. grind (arith, nat_tests, (moves h).frozen_copy i c' a' e' s' r' li, (objects h).held p c a e q in_n pre1, (calls h).calls p in_n, sections sh st h p in_n);
  abandon = λ i c' a' e' s' t' r' li ab is r. grind (arith, nat_tests, (moves h).abandon i c' a' e' s' t' r' li, (objects h).held p c a e q in_n pre1, (calls h).calls p in_n, sections sh st h p in_n);
  locked = λ c' a' e' s' is. grind (arith, nat_tests, (moves h).locked c' a' e' s', (objects h).held p c a e q in_n pre1, (calls h).calls p in_n, sections sh st h p in_n);
  locked_owner = λ i c' a' e' s' li o is. grind (arith, nat_tests, (moves h).locked_owner i c' a' e' s' li, (objects h).held p c a e q in_n pre1, (calls h).calls p in_n, sections sh st h p in_n);
  begin_copy = λ i j c' s' a' e' t' n' li lj sr cp. grind (arith, nat_tests, (moves h).begin_copy i j c' s' a' e' t' n' li lj, (objects h).held p c a e q in_n pre1, (calls h).calls p in_n, sections sh st h p in_n);
}

-- kind LeaveSlot
pub leave_slot : (sh : Layout) (st : S.State) (p : ℕ) (x : ℕ) (calm : Bool) (c : ℕ) (a : ℕ) (e : ℕ) (q : ℕ) (told : ℕ) → p < sh.passes → (st.stands p).section ≡ Inside x calm → (st.stands p).phase ≡ phase.Remove (remove.LeaveSlot q (object a e c)) → Shut sh st → Nothing sh st
    → MovesAgree sh (did sh st p Go (Inside x calm) (phase.Remove (remove.LeaveSlot q (object a e c))) told (Store (place.Directory c q) (word.Directory (dir.Limbo (x + 1)))))
leave_slot sh st p x calm c a e q told in_n at_sec at_call h _ = record {
  standing_in = λ i c' a' e' s' li o is inc. grind (arith, nat_tests, (moves h).standing_in i c' a' e' s' li, (calls h).c_removes p c a e in_n, (calls h).c_leaving p c q a e in_n, (calls h).c_limbos p c q a e in_n, (calls h).calls p in_n, sections sh st h p in_n);
  incoming_round = λ c' s' inc. grind (arith, nat_tests, (moves h).incoming_round c' s', (calls h).c_removes p c a e in_n, (calls h).c_leaving p c q a e in_n, (calls h).c_limbos p c q a e in_n, (calls h).calls p in_n, sections sh st h p in_n);
  incoming_in = λ c' s' inc. grind (arith, nat_tests, (moves h).incoming_in c' s', (calls h).c_removes p c a e in_n, (calls h).c_leaving p c q a e in_n, (calls h).c_limbos p c q a e in_n, (calls h).calls p in_n, sections sh st h p in_n);
  incoming_known = λ c' s' a' e' inc nm. grind (arith, nat_tests, (moves h).incoming_known c' s' a' e', (calls h).c_removes p c a e in_n, (calls h).c_leaving p c q a e in_n, (calls h).c_limbos p c q a e in_n, (calls h).calls p in_n, sections sh st h p in_n);
  incoming_fwd = λ c' t' a' e' s' inc nm is. grind (arith, nat_tests, (moves h).incoming_fwd c' t' a' e' s', (calls h).c_removes p c a e in_n, (calls h).c_leaving p c q a e in_n, (calls h).c_limbos p c q a e in_n, (calls h).calls p in_n, sections sh st h p in_n);
  unpassed = λ i c' s' li o inc. grind (arith, nat_tests, (moves h).unpassed i c' s' li, (calls h).c_removes p c a e in_n, (calls h).c_leaving p c q a e in_n, (calls h).c_limbos p c q a e in_n, (calls h).calls p in_n, sections sh st h p in_n);
  ahead = λ i c' t' a' e' s' li inc nm is. grind (arith, nat_tests, (moves h).ahead i c' t' a' e' s' li, (calls h).c_removes p c a e in_n, (calls h).c_leaving p c q a e in_n, (calls h).c_limbos p c q a e in_n, (calls h).calls p in_n, sections sh st h p in_n);
  frozen = λ c' a' e' s' is. grind (arith, nat_tests, (moves h).frozen c' a' e' s', (calls h).c_removes p c a e in_n, (calls h).c_leaving p c q a e in_n, (calls h).c_limbos p c q a e in_n, (calls h).calls p in_n, sections sh st h p in_n, (objects h).standing c a e q);
  frozen_held = λ i c' a' e' s' t' r' li is r hd. grind (arith, nat_tests, (moves h).frozen_held i c' a' e' s' t' r' li, (calls h).c_removes p c a e in_n, (calls h).c_leaving p c q a e in_n, (calls h).c_limbos p c q a e in_n, (calls h).calls p in_n, sections sh st h p in_n);
  frozen_copy = λ i c' a' e' s' r' li is r cp. grind (arith, nat_tests, (moves h).frozen_copy i c' a' e' s' r' li, (calls h).c_removes p c a e in_n, (calls h).c_leaving p c q a e in_n, (calls h).c_limbos p c q a e in_n, (calls h).calls p in_n, sections sh st h p in_n);
  abandon = λ i c' a' e' s' t' r' li ab is r. grind (arith, nat_tests, (moves h).abandon i c' a' e' s' t' r' li, (calls h).c_removes p c a e in_n, (calls h).c_leaving p c q a e in_n, (calls h).c_limbos p c q a e in_n, (calls h).calls p in_n, sections sh st h p in_n);
  locked = λ c' a' e' s' is. grind (arith, nat_tests, (moves h).locked c' a' e' s', (calls h).c_removes p c a e in_n, (calls h).c_leaving p c q a e in_n, (calls h).c_limbos p c q a e in_n, (calls h).calls p in_n, sections sh st h p in_n, (objects h).standing c a e q);
  locked_owner = λ i c' a' e' s' li o is. grind (arith, nat_tests, (moves h).locked_owner i c' a' e' s' li, (calls h).c_removes p c a e in_n, (calls h).c_leaving p c q a e in_n, (calls h).c_limbos p c q a e in_n, (calls h).calls p in_n, sections sh st h p in_n);
  begin_copy = λ i j c' s' a' e' t' n' li lj sr cp. grind (arith, nat_tests, (moves h).begin_copy i j c' s' a' e' t' n' li lj, (calls h).c_removes p c a e in_n, (calls h).c_leaving p c q a e in_n, (calls h).c_limbos p c q a e in_n, (calls h).calls p in_n, sections sh st h p in_n);
}

-- kind FreeEntry
pub free_entry : (sh : Layout) (st : S.State) (p : ℕ) (x : ℕ) (calm : Bool) (c : ℕ) (a : ℕ) (e : ℕ) (told : ℕ) → p < sh.passes → (st.stands p).section ≡ Inside x calm → (st.stands p).phase ≡ phase.Remove (remove.FreeEntry (object a e c)) → Shut sh st → Nothing sh st
    → MovesAgree sh (did sh st p Go (Inside x calm) (phase.Remove (remove.FreeEntry (object a e c))) told (Store (place.Entry c e) (word.Entry (state.Free a (x + 1)))))
free_entry sh st p x calm c a e told in_n at_sec at_call h _ = record {
  standing_in = λ i c' a' e' s' li o is inc. grind (arith, nat_tests, (moves h).standing_in i c' a' e' s' li, (calls h).c_removes p c a e in_n, (calls h).c_frees p c s' a e in_n, (calls h).calls p in_n, sections sh st h p in_n);
  incoming_round = (moves h).incoming_round;
  incoming_in = (moves h).incoming_in;
  incoming_known = λ c' s' a' e' inc nm. grind (arith, nat_tests, (moves h).incoming_known c' s' a' e', (calls h).c_removes p c a e in_n, (calls h).c_frees p c s' a e in_n, (calls h).calls p in_n, sections sh st h p in_n);
  incoming_fwd = λ c' t' a' e' s' inc nm is. grind (arith, nat_tests, (moves h).incoming_fwd c' t' a' e' s', (calls h).c_removes p c a e in_n, (calls h).c_frees p c s' a e in_n, (calls h).calls p in_n, sections sh st h p in_n);
  unpassed = λ i c' s' li o inc. grind (arith, nat_tests, (moves h).unpassed i c' s' li, (calls h).c_removes p c a e in_n, (calls h).c_frees p c s' a e in_n, (calls h).calls p in_n, sections sh st h p in_n);
  ahead = λ i c' t' a' e' s' li inc nm is. grind (arith, nat_tests, (moves h).ahead i c' t' a' e' s' li, (calls h).c_removes p c a e in_n, (calls h).c_frees p c s' a e in_n, (calls h).calls p in_n, sections sh st h p in_n);
  frozen = λ c' a' e' s' is. grind (arith, nat_tests, (moves h).frozen c' a' e' s', (calls h).c_removes p c a e in_n, (calls h).c_frees p c s' a e in_n, (calls h).calls p in_n, sections sh st h p in_n);
  frozen_held = λ i c' a' e' s' t' r' li is r hd. grind (arith, nat_tests, (moves h).frozen_held i c' a' e' s' t' r' li, (calls h).c_removes p c a e in_n, (calls h).c_frees p c s' a e in_n, (calls h).calls p in_n, sections sh st h p in_n);
  frozen_copy = λ i c' a' e' s' r' li is r cp. grind (arith, nat_tests, (moves h).frozen_copy i c' a' e' s' r' li, (calls h).c_removes p c a e in_n, (calls h).c_frees p c s' a e in_n, (calls h).calls p in_n, sections sh st h p in_n);
  abandon = λ i c' a' e' s' t' r' li ab is r. grind (arith, nat_tests, (moves h).abandon i c' a' e' s' t' r' li, (calls h).c_removes p c a e in_n, (calls h).c_frees p c s' a e in_n, (calls h).calls p in_n, sections sh st h p in_n);
  locked = λ c' a' e' s' is. grind (arith, nat_tests, (moves h).locked c' a' e' s', (calls h).c_removes p c a e in_n, (calls h).c_frees p c s' a e in_n, (calls h).calls p in_n, sections sh st h p in_n);
  locked_owner = λ i c' a' e' s' li o is. grind (arith, nat_tests, (moves h).locked_owner i c' a' e' s' li, (calls h).c_removes p c a e in_n, (calls h).c_frees p c s' a e in_n, (calls h).calls p in_n, sections sh st h p in_n);
  begin_copy = λ i j c' s' a' e' t' n' li lj sr cp. grind (arith, nat_tests, (moves h).begin_copy i j c' s' a' e' t' n' li lj, (calls h).c_removes p c a e in_n, (calls h).c_frees p c s' a e in_n, (calls h).calls p in_n, sections sh st h p in_n);
}
