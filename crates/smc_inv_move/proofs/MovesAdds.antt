-- Steps keep the agreement: moves, adds. Written by tools/laws.py.
use Rattle.std.proofs.Common.{◌≡◌, ℕ, ◌+◌, ◌<◌, Bool, true, Some, List, slice_index, arith}
use Rattle.std.proofs.lemmas.Bool.Decides.{nat_tests}
use Rattle.smc_words.specs.declared.dir.Dir.{Dir}
use Rattle.smc_words.specs.declared.dir.Dir.TheVariants as dir
use Rattle.smc_shape.specs.Layout.{Layout}
use Rattle.smc_shape.specs.declared.place.Place.TheVariants as place
use Rattle.smc_core.specs.declared.call.Call.TheVariants as call
use Rattle.smc_core.specs.declared.call.Choice.TheVariants.{Start, Go}
use Rattle.smc_core.specs.declared.op.Op.TheVariants.{Load, Store, Exchange}
use Rattle.smc_core.specs.declared.phase.Phase.TheVariants as phase
use Rattle.smc_core.specs.declared.phase.objects.AddPhase.TheVariants as add
use Rattle.smc_core.specs.declared.section.Section.TheVariants.{Inside}
use Rattle.smc_core.specs.declared.word.State.TheVariants as state
use Rattle.smc_core.specs.declared.word.Word.TheVariants as word
use Rattle.smc_core.specs.Add.{takes}
use Rattle.smc_rules.specs.Reads.{object}
use Rattle.smc_rules.specs.State as S
use Rattle.smc_rules.specs.State.{put_stand}
use Rattle.smc_agreement.specs.Kept.{Nothing}
use Rattle.smc_agreement.specs.Agreement.{MovesAgree}
use Rattle.smc_agreement.proofs.Whole.{Shut, calls, moves, did, sections}

-- kind LoadDirectory
pub starts_add : (sh : Layout) (st : S.State) (p : ℕ) (x : ℕ) (calm : Bool) (c : ℕ) (k : ℕ) (ws : List ℕ) (told : ℕ) → p < sh.passes → (st.stands p).section ≡ Inside x calm → (st.stands p).phase ≡ phase.Idle → takes sh c k ws ≡ true → Shut sh st → Nothing sh st
    → MovesAgree sh (did sh st p (Start (call.Add c k ws)) (Inside x calm) phase.Idle told (Load (place.Directory c k)))
starts_add sh st p x calm c k ws told in_n at_sec at_call pre1 h _ = record {
  standing_in = λ i c' a' e' s' li o is inc. grind (arith, nat_tests, (moves h).standing_in i c' a' e' s' li, (calls h).calls p in_n, sections sh st h p in_n);
  incoming_round = (moves h).incoming_round;
  incoming_in = (moves h).incoming_in;
  incoming_known = (moves h).incoming_known;
  incoming_fwd = (moves h).incoming_fwd;
  unpassed = λ i c' s' li o inc. grind (arith, nat_tests, (moves h).unpassed i c' s' li, (calls h).calls p in_n, sections sh st h p in_n);
  ahead = λ i c' t' a' e' s' li inc nm is. grind (arith, nat_tests, (moves h).ahead i c' t' a' e' s' li, (calls h).calls p in_n, sections sh st h p in_n);
  frozen = (moves h).frozen;
  frozen_held = λ i c' a' e' s' t' r' li is r hd. grind (arith, nat_tests, (moves h).frozen_held i c' a' e' s' t' r' li, (calls h).calls p in_n, sections sh st h p in_n);
  frozen_copy = λ i c' a' e' s' r' li is r cp. grind (arith, nat_tests, (moves h).frozen_copy i c' a' e' s' r' li, (calls h).calls p in_n, sections sh st h p in_n);
  abandon = λ i c' a' e' s' t' r' li ab is r. grind (arith, nat_tests, (moves h).abandon i c' a' e' s' t' r' li, (calls h).calls p in_n, sections sh st h p in_n);
  locked = (moves h).locked;
  locked_owner = λ i c' a' e' s' li o is. grind (arith, nat_tests, (moves h).locked_owner i c' a' e' s' li, (calls h).calls p in_n, sections sh st h p in_n);
  begin_copy = λ i j c' s' a' e' t' n' li lj sr cp. grind (arith, nat_tests, (moves h).begin_copy i j c' s' a' e' t' n' li lj, (calls h).calls p in_n, sections sh st h p in_n);
}

-- kind LoadDirectory
pub find_slot : (sh : Layout) (st : S.State) (p : ℕ) (x : ℕ) (calm : Bool) (c : ℕ) (k : ℕ) (s : ℕ) (t : ℕ) (told : ℕ) → p < sh.passes → (st.stands p).section ≡ Inside x calm → (st.stands p).phase ≡ phase.Add (add.FindSlot c k s t) → Shut sh st → Nothing sh st
    → MovesAgree sh (did sh st p Go (Inside x calm) (phase.Add (add.FindSlot c k s t)) told (Load (place.Directory c s)))
find_slot sh st p x calm c k s t told in_n at_sec at_call h _ = record {
  standing_in = λ i c' a' e' s' li o is inc. grind (arith, nat_tests, (moves h).standing_in i c' a' e' s' li, (calls h).calls p in_n, sections sh st h p in_n);
  incoming_round = (moves h).incoming_round;
  incoming_in = (moves h).incoming_in;
  incoming_known = (moves h).incoming_known;
  incoming_fwd = (moves h).incoming_fwd;
  unpassed = λ i c' s' li o inc. grind (arith, nat_tests, (moves h).unpassed i c' s' li, (calls h).calls p in_n, sections sh st h p in_n);
  ahead = λ i c' t' a' e' s' li inc nm is. grind (arith, nat_tests, (moves h).ahead i c' t' a' e' s' li, (calls h).calls p in_n, sections sh st h p in_n);
  frozen = (moves h).frozen;
  frozen_held = λ i c' a' e' s' t' r' li is r hd. grind (arith, nat_tests, (moves h).frozen_held i c' a' e' s' t' r' li, (calls h).calls p in_n, sections sh st h p in_n);
  frozen_copy = λ i c' a' e' s' r' li is r cp. grind (arith, nat_tests, (moves h).frozen_copy i c' a' e' s' r' li, (calls h).calls p in_n, sections sh st h p in_n);
  abandon = λ i c' a' e' s' t' r' li ab is r. grind (arith, nat_tests, (moves h).abandon i c' a' e' s' t' r' li, (calls h).calls p in_n, sections sh st h p in_n);
  locked = (moves h).locked;
  locked_owner = λ i c' a' e' s' li o is. grind (arith, nat_tests, (moves h).locked_owner i c' a' e' s' li, (calls h).calls p in_n, sections sh st h p in_n);
  begin_copy = λ i j c' s' a' e' t' n' li lj sr cp. grind (arith, nat_tests, (moves h).begin_copy i j c' s' a' e' t' n' li lj, (calls h).calls p in_n, sections sh st h p in_n);
}

-- kind ClaimSlot
pub claim_slot : (sh : Layout) (st : S.State) (p : ℕ) (x : ℕ) (calm : Bool) (c : ℕ) (k : ℕ) (s : ℕ) (t : ℕ) (d : Dir) (told : ℕ) → p < sh.passes → (st.stands p).section ≡ Inside x calm → (st.stands p).phase ≡ phase.Add (add.ClaimSlot c k s t d) → Shut sh st → Nothing sh st
    → MovesAgree sh (did sh st p Go (Inside x calm) (phase.Add (add.ClaimSlot c k s t d)) told (Exchange (place.Directory c s) (word.Directory d) (word.Directory dir.Claimed)))
claim_slot sh st p x calm c k s t d told in_n at_sec at_call h _ = record {
  standing_in = λ i c' a' e' s' li o is inc. grind (arith, nat_tests, (moves h).standing_in i c' a' e' s' li, (calls h).calls p in_n, sections sh st h p in_n);
  incoming_round = λ c' s' inc. grind (arith, nat_tests, (moves h).incoming_round c' s', (calls h).calls p in_n, sections sh st h p in_n);
  incoming_in = λ c' s' inc. grind (arith, nat_tests, (moves h).incoming_in c' s', (calls h).calls p in_n, sections sh st h p in_n);
  incoming_known = λ c' s' a' e' inc nm. grind (arith, nat_tests, (moves h).incoming_known c' s' a' e', (calls h).calls p in_n, sections sh st h p in_n);
  incoming_fwd = λ c' t' a' e' s' inc nm is. grind (arith, nat_tests, (moves h).incoming_fwd c' t' a' e' s', (calls h).calls p in_n, sections sh st h p in_n);
  unpassed = λ i c' s' li o inc. grind (arith, nat_tests, (moves h).unpassed i c' s' li, (calls h).calls p in_n, sections sh st h p in_n);
  ahead = λ i c' t' a' e' s' li inc nm is. grind (arith, nat_tests, (moves h).ahead i c' t' a' e' s' li, (calls h).calls p in_n, sections sh st h p in_n);
  frozen = λ c' a' e' s' is. grind (arith, nat_tests, (moves h).frozen c' a' e' s', (calls h).calls p in_n, sections sh st h p in_n);
  frozen_held = λ i c' a' e' s' t' r' li is r hd. grind (arith, nat_tests, (moves h).frozen_held i c' a' e' s' t' r' li, (calls h).calls p in_n, sections sh st h p in_n);
  frozen_copy = λ i c' a' e' s' r' li is r cp. grind (arith, nat_tests, (moves h).frozen_copy i c' a' e' s' r' li, (calls h).calls p in_n, sections sh st h p in_n);
  abandon = λ i c' a' e' s' t' r' li ab is r. grind (arith, nat_tests, (moves h).abandon i c' a' e' s' t' r' li, (calls h).calls p in_n, sections sh st h p in_n);
  locked = λ c' a' e' s' is. grind (arith, nat_tests, (moves h).locked c' a' e' s', (calls h).calls p in_n, sections sh st h p in_n);
  locked_owner = λ i c' a' e' s' li o is. grind (arith, nat_tests, (moves h).locked_owner i c' a' e' s' li, (calls h).calls p in_n, sections sh st h p in_n);
  begin_copy = λ i j c' s' a' e' t' n' li lj sr cp. grind (arith, nat_tests, (moves h).begin_copy i j c' s' a' e' t' n' li lj, (calls h).calls p in_n, sections sh st h p in_n);
}

-- kind LoadEntry
pub find_entry : (sh : Layout) (st : S.State) (p : ℕ) (x : ℕ) (calm : Bool) (c : ℕ) (s : ℕ) (e : ℕ) (t : ℕ) (told : ℕ) → p < sh.passes → (st.stands p).section ≡ Inside x calm → (st.stands p).phase ≡ phase.Add (add.FindEntry c s e t) → Shut sh st → Nothing sh st
    → MovesAgree sh (did sh st p Go (Inside x calm) (phase.Add (add.FindEntry c s e t)) told (Load (place.Entry c e)))
find_entry sh st p x calm c s e t told in_n at_sec at_call h _ = record {
  standing_in = λ i c' a' e' s' li o is inc. grind (arith, nat_tests, (moves h).standing_in i c' a' e' s' li, (calls h).c_slot p c s in_n, (calls h).calls p in_n, sections sh st h p in_n);
  incoming_round = (moves h).incoming_round;
  incoming_in = (moves h).incoming_in;
  incoming_known = (moves h).incoming_known;
  incoming_fwd = (moves h).incoming_fwd;
  unpassed = λ i c' s' li o inc. grind (arith, nat_tests, (moves h).unpassed i c' s' li, (calls h).c_slot p c s in_n, (calls h).calls p in_n, sections sh st h p in_n);
  ahead = λ i c' t' a' e' s' li inc nm is. grind (arith, nat_tests, (moves h).ahead i c' t' a' e' s' li, (calls h).c_slot p c s in_n, (calls h).calls p in_n, sections sh st h p in_n);
  frozen = (moves h).frozen;
  frozen_held = λ i c' a' e' s' t' r' li is r hd. grind (arith, nat_tests, (moves h).frozen_held i c' a' e' s' t' r' li, (calls h).c_slot p c s in_n, (calls h).calls p in_n, sections sh st h p in_n);
  frozen_copy = λ i c' a' e' s' r' li is r cp. grind (arith, nat_tests, (moves h).frozen_copy i c' a' e' s' r' li, (calls h).c_slot p c s in_n, (calls h).calls p in_n, sections sh st h p in_n);
  abandon = λ i c' a' e' s' t' r' li ab is r. grind (arith, nat_tests, (moves h).abandon i c' a' e' s' t' r' li, (calls h).c_slot p c s in_n, (calls h).calls p in_n, sections sh st h p in_n);
  locked = (moves h).locked;
  locked_owner = λ i c' a' e' s' li o is. grind (arith, nat_tests, (moves h).locked_owner i c' a' e' s' li, (calls h).c_slot p c s in_n, (calls h).calls p in_n, sections sh st h p in_n);
  begin_copy = λ i j c' s' a' e' t' n' li lj sr cp. grind (arith, nat_tests, (moves h).begin_copy i j c' s' a' e' t' n' li lj, (calls h).c_slot p c s in_n, (calls h).calls p in_n, sections sh st h p in_n);
}

-- kind ClaimEntry
pub claim_entry : (sh : Layout) (st : S.State) (p : ℕ) (x : ℕ) (calm : Bool) (c : ℕ) (s : ℕ) (e : ℕ) (t : ℕ) (a : ℕ) (z : ℕ) (told : ℕ) → p < sh.passes → (st.stands p).section ≡ Inside x calm → (st.stands p).phase ≡ phase.Add (add.ClaimEntry c s e t a z) → Shut sh st → Nothing sh st
    → MovesAgree sh (did sh st p Go (Inside x calm) (phase.Add (add.ClaimEntry c s e t a z)) told (Exchange (place.Entry c e) (word.Entry (state.Free a z)) (word.Entry (state.Claimed (a + 1)))))
claim_entry sh st p x calm c s e t a z told in_n at_sec at_call h _ = record {
  standing_in = λ i c' a' e' s' li o is inc. grind (arith, nat_tests, (moves h).standing_in i c' a' e' s' li, (calls h).c_slot p c s in_n, (calls h).calls p in_n, sections sh st h p in_n);
  incoming_round = (moves h).incoming_round;
  incoming_in = (moves h).incoming_in;
  incoming_known = λ c' s' a' e' inc nm. grind (arith, nat_tests, (moves h).incoming_known c' s' a' e', (calls h).c_slot p c s in_n, (calls h).calls p in_n, sections sh st h p in_n);
  incoming_fwd = λ c' t' a' e' s' inc nm is. grind (arith, nat_tests, (moves h).incoming_fwd c' t' a' e' s', (calls h).c_slot p c s in_n, (calls h).calls p in_n, sections sh st h p in_n);
  unpassed = λ i c' s' li o inc. grind (arith, nat_tests, (moves h).unpassed i c' s' li, (calls h).c_slot p c s in_n, (calls h).calls p in_n, sections sh st h p in_n);
  ahead = λ i c' t' a' e' s' li inc nm is. grind (arith, nat_tests, (moves h).ahead i c' t' a' e' s' li, (calls h).c_slot p c s in_n, (calls h).calls p in_n, sections sh st h p in_n);
  frozen = λ c' a' e' s' is. grind (arith, nat_tests, (moves h).frozen c' a' e' s', (calls h).c_slot p c s in_n, (calls h).calls p in_n, sections sh st h p in_n);
  frozen_held = λ i c' a' e' s' t' r' li is r hd. grind (arith, nat_tests, (moves h).frozen_held i c' a' e' s' t' r' li, (calls h).c_slot p c s in_n, (calls h).calls p in_n, sections sh st h p in_n);
  frozen_copy = λ i c' a' e' s' r' li is r cp. grind (arith, nat_tests, (moves h).frozen_copy i c' a' e' s' r' li, (calls h).c_slot p c s in_n, (calls h).calls p in_n, sections sh st h p in_n);
  abandon = λ i c' a' e' s' t' r' li ab is r. grind (arith, nat_tests, (moves h).abandon i c' a' e' s' t' r' li, (calls h).c_slot p c s in_n, (calls h).calls p in_n, sections sh st h p in_n);
  locked = λ c' a' e' s' is. grind (arith, nat_tests, (moves h).locked c' a' e' s', (calls h).c_slot p c s in_n, (calls h).calls p in_n, sections sh st h p in_n);
  locked_owner = λ i c' a' e' s' li o is. grind (arith, nat_tests, (moves h).locked_owner i c' a' e' s' li, (calls h).c_slot p c s in_n, (calls h).calls p in_n, sections sh st h p in_n);
  begin_copy = λ i j c' s' a' e' t' n' li lj sr cp. grind (arith, nat_tests, (moves h).begin_copy i j c' s' a' e' t' n' li lj, (calls h).c_slot p c s in_n, (calls h).calls p in_n, sections sh st h p in_n);
}

-- kind DropSlot
pub drop_slot : (sh : Layout) (st : S.State) (p : ℕ) (x : ℕ) (calm : Bool) (c : ℕ) (s : ℕ) (told : ℕ) → p < sh.passes → (st.stands p).section ≡ Inside x calm → (st.stands p).phase ≡ phase.Add (add.DropSlot c s) → Shut sh st → Nothing sh st
    → MovesAgree sh (did sh st p Go (Inside x calm) (phase.Add (add.DropSlot c s)) told (Store (place.Directory c s) (word.Directory dir.Free)))
drop_slot sh st p x calm c s told in_n at_sec at_call h _ = record {
  standing_in = λ i c' a' e' s' li o is inc. grind (arith, nat_tests, (moves h).standing_in i c' a' e' s' li, (calls h).c_slot p c s in_n, (calls h).calls p in_n, sections sh st h p in_n);
  incoming_round = λ c' s' inc. grind (arith, nat_tests, (moves h).incoming_round c' s', (calls h).c_slot p c s in_n, (calls h).calls p in_n, sections sh st h p in_n);
  incoming_in = λ c' s' inc. grind (arith, nat_tests, (moves h).incoming_in c' s', (calls h).c_slot p c s in_n, (calls h).calls p in_n, sections sh st h p in_n);
  incoming_known = λ c' s' a' e' inc nm. grind (arith, nat_tests, (moves h).incoming_known c' s' a' e', (calls h).c_slot p c s in_n, (calls h).calls p in_n, sections sh st h p in_n);
  incoming_fwd = λ c' t' a' e' s' inc nm is. grind (arith, nat_tests, (moves h).incoming_fwd c' t' a' e' s', (calls h).c_slot p c s in_n, (calls h).calls p in_n, sections sh st h p in_n);
  unpassed = λ i c' s' li o inc. grind (arith, nat_tests, (moves h).unpassed i c' s' li, (calls h).c_slot p c s in_n, (calls h).calls p in_n, sections sh st h p in_n);
  ahead = λ i c' t' a' e' s' li inc nm is. grind (arith, nat_tests, (moves h).ahead i c' t' a' e' s' li, (calls h).c_slot p c s in_n, (calls h).calls p in_n, sections sh st h p in_n);
  frozen = λ c' a' e' s' is. grind (arith, nat_tests, (moves h).frozen c' a' e' s', (calls h).c_slot p c s in_n, (calls h).calls p in_n, sections sh st h p in_n);
  frozen_held = λ i c' a' e' s' t' r' li is r hd. grind (arith, nat_tests, (moves h).frozen_held i c' a' e' s' t' r' li, (calls h).c_slot p c s in_n, (calls h).calls p in_n, sections sh st h p in_n);
  frozen_copy = λ i c' a' e' s' r' li is r cp. grind (arith, nat_tests, (moves h).frozen_copy i c' a' e' s' r' li, (calls h).c_slot p c s in_n, (calls h).calls p in_n, sections sh st h p in_n);
  abandon = λ i c' a' e' s' t' r' li ab is r. grind (arith, nat_tests, (moves h).abandon i c' a' e' s' t' r' li, (calls h).c_slot p c s in_n, (calls h).calls p in_n, sections sh st h p in_n);
  locked = λ c' a' e' s' is. grind (arith, nat_tests, (moves h).locked c' a' e' s', (calls h).c_slot p c s in_n, (calls h).calls p in_n, sections sh st h p in_n);
  locked_owner = λ i c' a' e' s' li o is. grind (arith, nat_tests, (moves h).locked_owner i c' a' e' s' li, (calls h).c_slot p c s in_n, (calls h).calls p in_n, sections sh st h p in_n);
  begin_copy = λ i j c' s' a' e' t' n' li lj sr cp. grind (arith, nat_tests, (moves h).begin_copy i j c' s' a' e' t' n' li lj, (calls h).c_slot p c s in_n, (calls h).calls p in_n, sections sh st h p in_n);
}

-- kind StoreBack
pub store_back : (sh : Layout) (st : S.State) (p : ℕ) (x : ℕ) (calm : Bool) (c : ℕ) (s : ℕ) (a : ℕ) (e : ℕ) (told : ℕ) → p < sh.passes → (st.stands p).section ≡ Inside x calm → (st.stands p).phase ≡ phase.Add (add.StoreBack s (object a e c)) → Shut sh st → Nothing sh st
    → MovesAgree sh (did sh st p Go (Inside x calm) (phase.Add (add.StoreBack s (object a e c))) told (Store (place.Back c s) (word.Back (Some (object a e c)))))
store_back sh st p x calm c s a e told in_n at_sec at_call h _ = record {
  standing_in = λ i c' a' e' s' li o is inc. grind (arith, nat_tests, (moves h).standing_in i c' a' e' s' li, (calls h).c_slot p c s in_n, (calls h).c_entry p c a e in_n, (calls h).calls p in_n, sections sh st h p in_n);
  incoming_round = (moves h).incoming_round;
  incoming_in = (moves h).incoming_in;
  incoming_known = λ c' s' a' e' inc nm. grind (arith, nat_tests, (moves h).incoming_known c' s' a' e', (calls h).c_slot p c s in_n, (calls h).c_entry p c a e in_n, (calls h).calls p in_n, sections sh st h p in_n);
  incoming_fwd = λ c' t' a' e' s' inc nm is. grind (arith, nat_tests, (moves h).incoming_fwd c' t' a' e' s', (calls h).c_slot p c s in_n, (calls h).c_entry p c a e in_n, (calls h).calls p in_n, sections sh st h p in_n);
  unpassed = λ i c' s' li o inc. grind (arith, nat_tests, (moves h).unpassed i c' s' li, (calls h).c_slot p c s in_n, (calls h).c_entry p c a e in_n, (calls h).calls p in_n, sections sh st h p in_n);
  ahead = λ i c' t' a' e' s' li inc nm is. grind (arith, nat_tests, (moves h).ahead i c' t' a' e' s' li, (calls h).c_slot p c s in_n, (calls h).c_entry p c a e in_n, (calls h).calls p in_n, sections sh st h p in_n);
  frozen = λ c' a' e' s' is. grind (arith, nat_tests, (moves h).frozen c' a' e' s', (calls h).c_slot p c s in_n, (calls h).c_entry p c a e in_n, (calls h).calls p in_n, sections sh st h p in_n);
  frozen_held = λ i c' a' e' s' t' r' li is r hd. grind (arith, nat_tests, (moves h).frozen_held i c' a' e' s' t' r' li, (calls h).c_slot p c s in_n, (calls h).c_entry p c a e in_n, (calls h).calls p in_n, sections sh st h p in_n);
  frozen_copy = λ i c' a' e' s' r' li is r cp. grind (arith, nat_tests, (moves h).frozen_copy i c' a' e' s' r' li, (calls h).c_slot p c s in_n, (calls h).c_entry p c a e in_n, (calls h).calls p in_n, sections sh st h p in_n);
  abandon = λ i c' a' e' s' t' r' li ab is r. grind (arith, nat_tests, (moves h).abandon i c' a' e' s' t' r' li, (calls h).c_slot p c s in_n, (calls h).c_entry p c a e in_n, (calls h).calls p in_n, sections sh st h p in_n);
  locked = λ c' a' e' s' is. grind (arith, nat_tests, (moves h).locked c' a' e' s', (calls h).c_slot p c s in_n, (calls h).c_entry p c a e in_n, (calls h).calls p in_n, sections sh st h p in_n);
  locked_owner = λ i c' a' e' s' li o is. grind (arith, nat_tests, (moves h).locked_owner i c' a' e' s' li, (calls h).c_slot p c s in_n, (calls h).c_entry p c a e in_n, (calls h).calls p in_n, sections sh st h p in_n);
  begin_copy = λ i j c' s' a' e' t' n' li lj sr cp. grind (arith, nat_tests, (moves h).begin_copy i j c' s' a' e' t' n' li lj, (calls h).c_slot p c s in_n, (calls h).c_entry p c a e in_n, (calls h).calls p in_n, sections sh st h p in_n);
}

-- kind StoreField
pub store_field : (sh : Layout) (st : S.State) (p : ℕ) (x : ℕ) (calm : Bool) (c : ℕ) (s : ℕ) (a : ℕ) (e : ℕ) (f : ℕ) (told : ℕ) → p < sh.passes → (st.stands p).section ≡ Inside x calm → (st.stands p).phase ≡ phase.Add (add.StoreField s (object a e c) f) → Shut sh st → Nothing sh st
    → MovesAgree sh (did sh st p Go (Inside x calm) (phase.Add (add.StoreField s (object a e c) f)) told (Store (place.Field c s f) (word.Plain (slice_index (st.stands p).words f))))
store_field sh st p x calm c s a e f told in_n at_sec at_call h _ = record {
  standing_in = λ i c' a' e' s' li o is inc. grind (arith, nat_tests, (moves h).standing_in i c' a' e' s' li, (calls h).c_slot p c s in_n, (calls h).c_entry p c a e in_n, (calls h).c_named p c s a e in_n, (calls h).calls p in_n, sections sh st h p in_n);
  incoming_round = (moves h).incoming_round;
  incoming_in = (moves h).incoming_in;
  incoming_known = (moves h).incoming_known;
  incoming_fwd = (moves h).incoming_fwd;
  unpassed = λ i c' s' li o inc. grind (arith, nat_tests, (moves h).unpassed i c' s' li, (calls h).c_slot p c s in_n, (calls h).c_entry p c a e in_n, (calls h).c_named p c s a e in_n, (calls h).calls p in_n, sections sh st h p in_n);
  ahead = λ i c' t' a' e' s' li inc nm is. grind (arith, nat_tests, (moves h).ahead i c' t' a' e' s' li, (calls h).c_slot p c s in_n, (calls h).c_entry p c a e in_n, (calls h).c_named p c s a e in_n, (calls h).calls p in_n, sections sh st h p in_n);
  frozen = (moves h).frozen;
  frozen_held = λ i c' a' e' s' t' r' li is r hd. grind (arith, nat_tests, (moves h).frozen_held i c' a' e' s' t' r' li, (calls h).c_slot p c s in_n, (calls h).c_entry p c a e in_n, (calls h).c_named p c s a e in_n, (calls h).calls p in_n, sections sh st h p in_n);
  frozen_copy = λ i c' a' e' s' r' li is r cp. grind (arith, nat_tests, (moves h).frozen_copy i c' a' e' s' r' li, (calls h).c_slot p c s in_n, (calls h).c_entry p c a e in_n, (calls h).c_named p c s a e in_n, (calls h).calls p in_n, sections sh st h p in_n);
  abandon = λ i c' a' e' s' t' r' li ab is r. grind (arith, nat_tests, (moves h).abandon i c' a' e' s' t' r' li, (calls h).c_slot p c s in_n, (calls h).c_entry p c a e in_n, (calls h).c_named p c s a e in_n, (calls h).calls p in_n, sections sh st h p in_n);
  locked = (moves h).locked;
  locked_owner = λ i c' a' e' s' li o is. grind (arith, nat_tests, (moves h).locked_owner i c' a' e' s' li, (calls h).c_slot p c s in_n, (calls h).c_entry p c a e in_n, (calls h).c_named p c s a e in_n, (calls h).calls p in_n, sections sh st h p in_n);
  begin_copy = λ i j c' s' a' e' t' n' li lj sr cp. grind (arith, nat_tests, (moves h).begin_copy i j c' s' a' e' t' n' li lj, (calls h).c_slot p c s in_n, (calls h).c_entry p c a e in_n, (calls h).c_named p c s a e in_n, (calls h).calls p in_n, sections sh st h p in_n);
}

-- kind StoreValid
pub store_valid : (sh : Layout) (st : S.State) (p : ℕ) (x : ℕ) (calm : Bool) (c : ℕ) (s : ℕ) (a : ℕ) (e : ℕ) (told : ℕ) → p < sh.passes → (st.stands p).section ≡ Inside x calm → (st.stands p).phase ≡ phase.Add (add.StoreValid s (object a e c)) → Shut sh st → Nothing sh st
    → MovesAgree sh (did sh st p Go (Inside x calm) (phase.Add (add.StoreValid s (object a e c))) told (Store (place.Directory c s) (word.Directory dir.Valid)))
store_valid sh st p x calm c s a e told in_n at_sec at_call h _ = record {
  standing_in = λ i c' a' e' s' li o is inc. grind (arith, nat_tests, (moves h).standing_in i c' a' e' s' li, (calls h).c_slot p c s in_n, (calls h).c_entry p c a e in_n, (calls h).c_named p c s a e in_n, (calls h).calls p in_n, sections sh st h p in_n);
  incoming_round = λ c' s' inc. grind (arith, nat_tests, (moves h).incoming_round c' s', (calls h).c_slot p c s in_n, (calls h).c_entry p c a e in_n, (calls h).c_named p c s a e in_n, (calls h).calls p in_n, sections sh st h p in_n);
  incoming_in = λ c' s' inc. grind (arith, nat_tests, (moves h).incoming_in c' s', (calls h).c_slot p c s in_n, (calls h).c_entry p c a e in_n, (calls h).c_named p c s a e in_n, (calls h).calls p in_n, sections sh st h p in_n);
  incoming_known = λ c' s' a' e' inc nm. grind (arith, nat_tests, (moves h).incoming_known c' s' a' e', (calls h).c_slot p c s in_n, (calls h).c_entry p c a e in_n, (calls h).c_named p c s a e in_n, (calls h).calls p in_n, sections sh st h p in_n);
  incoming_fwd = λ c' t' a' e' s' inc nm is. grind (arith, nat_tests, (moves h).incoming_fwd c' t' a' e' s', (calls h).c_slot p c s in_n, (calls h).c_entry p c a e in_n, (calls h).c_named p c s a e in_n, (calls h).calls p in_n, sections sh st h p in_n);
  unpassed = λ i c' s' li o inc. grind (arith, nat_tests, (moves h).unpassed i c' s' li, (calls h).c_slot p c s in_n, (calls h).c_entry p c a e in_n, (calls h).c_named p c s a e in_n, (calls h).calls p in_n, sections sh st h p in_n);
  ahead = λ i c' t' a' e' s' li inc nm is. grind (arith, nat_tests, (moves h).ahead i c' t' a' e' s' li, (calls h).c_slot p c s in_n, (calls h).c_entry p c a e in_n, (calls h).c_named p c s a e in_n, (calls h).calls p in_n, sections sh st h p in_n);
  frozen = λ c' a' e' s' is. grind (arith, nat_tests, (moves h).frozen c' a' e' s', (calls h).c_slot p c s in_n, (calls h).c_entry p c a e in_n, (calls h).c_named p c s a e in_n, (calls h).calls p in_n, sections sh st h p in_n);
  frozen_held = λ i c' a' e' s' t' r' li is r hd. grind (arith, nat_tests, (moves h).frozen_held i c' a' e' s' t' r' li, (calls h).c_slot p c s in_n, (calls h).c_entry p c a e in_n, (calls h).c_named p c s a e in_n, (calls h).calls p in_n, sections sh st h p in_n);
  frozen_copy = λ i c' a' e' s' r' li is r cp. grind (arith, nat_tests, (moves h).frozen_copy i c' a' e' s' r' li, (calls h).c_slot p c s in_n, (calls h).c_entry p c a e in_n, (calls h).c_named p c s a e in_n, (calls h).calls p in_n, sections sh st h p in_n);
  abandon = λ i c' a' e' s' t' r' li ab is r. grind (arith, nat_tests, (moves h).abandon i c' a' e' s' t' r' li, (calls h).c_slot p c s in_n, (calls h).c_entry p c a e in_n, (calls h).c_named p c s a e in_n, (calls h).calls p in_n, sections sh st h p in_n);
  locked = λ c' a' e' s' is. grind (arith, nat_tests, (moves h).locked c' a' e' s', (calls h).c_slot p c s in_n, (calls h).c_entry p c a e in_n, (calls h).c_named p c s a e in_n, (calls h).calls p in_n, sections sh st h p in_n);
  locked_owner = λ i c' a' e' s' li o is. grind (arith, nat_tests, (moves h).locked_owner i c' a' e' s' li, (calls h).c_slot p c s in_n, (calls h).c_entry p c a e in_n, (calls h).c_named p c s a e in_n, (calls h).calls p in_n, sections sh st h p in_n);
  begin_copy = λ i j c' s' a' e' t' n' li lj sr cp. grind (arith, nat_tests, (moves h).begin_copy i j c' s' a' e' t' n' li lj, (calls h).c_slot p c s in_n, (calls h).c_entry p c a e in_n, (calls h).c_named p c s a e in_n, (calls h).calls p in_n, sections sh st h p in_n);
}

-- kind StoreLive
pub store_live : (sh : Layout) (st : S.State) (p : ℕ) (x : ℕ) (calm : Bool) (c : ℕ) (s : ℕ) (a : ℕ) (e : ℕ) (told : ℕ) → p < sh.passes → (st.stands p).section ≡ Inside x calm → (st.stands p).phase ≡ phase.Add (add.StoreLive s (object a e c)) → Shut sh st → Nothing sh st
    → MovesAgree sh (did sh st p Go (Inside x calm) (phase.Add (add.StoreLive s (object a e c))) told (Store (place.Entry c e) (word.Entry (state.Present a s))))
store_live sh st p x calm c s a e told in_n at_sec at_call h _ = record {
  standing_in = λ i c' a' e' s' li o is inc. grind (arith, nat_tests, (moves h).standing_in i c' a' e' s' li, (calls h).c_entry p c a e in_n, (calls h).c_named p c s a e in_n, (calls h).c_lives p c s a e in_n, (calls h).calls p in_n, sections sh st h p in_n);
  incoming_round = (moves h).incoming_round;
  incoming_in = (moves h).incoming_in;
  incoming_known = λ c' s' a' e' inc nm. grind (arith, nat_tests, (moves h).incoming_known c' s' a' e', (calls h).c_entry p c a e in_n, (calls h).c_named p c s a e in_n, (calls h).c_lives p c s a e in_n, (calls h).calls p in_n, sections sh st h p in_n);
  incoming_fwd = λ c' t' a' e' s' inc nm is. grind (arith, nat_tests, (moves h).incoming_fwd c' t' a' e' s', (calls h).c_entry p c a e in_n, (calls h).c_named p c s a e in_n, (calls h).c_lives p c s a e in_n, (calls h).calls p in_n, sections sh st h p in_n, (moves h).incoming_known c' t' a' e');
  unpassed = λ i c' s' li o inc. grind (arith, nat_tests, (moves h).unpassed i c' s' li, (calls h).c_entry p c a e in_n, (calls h).c_named p c s a e in_n, (calls h).c_lives p c s a e in_n, (calls h).calls p in_n, sections sh st h p in_n);
  ahead = λ i c' t' a' e' s' li inc nm is. grind (arith, nat_tests, (moves h).ahead i c' t' a' e' s' li, (calls h).c_entry p c a e in_n, (calls h).c_named p c s a e in_n, (calls h).c_lives p c s a e in_n, (calls h).calls p in_n, sections sh st h p in_n, (moves h).incoming_known c' t' a' e');
  frozen = λ c' a' e' s' is. grind (arith, nat_tests, (moves h).frozen c' a' e' s', (calls h).c_entry p c a e in_n, (calls h).c_named p c s a e in_n, (calls h).c_lives p c s a e in_n, (calls h).calls p in_n, sections sh st h p in_n);
  frozen_held = λ i c' a' e' s' t' r' li is r hd. grind (arith, nat_tests, (moves h).frozen_held i c' a' e' s' t' r' li, (calls h).c_entry p c a e in_n, (calls h).c_named p c s a e in_n, (calls h).c_lives p c s a e in_n, (calls h).calls p in_n, sections sh st h p in_n);
  frozen_copy = λ i c' a' e' s' r' li is r cp. grind (arith, nat_tests, (moves h).frozen_copy i c' a' e' s' r' li, (calls h).c_entry p c a e in_n, (calls h).c_named p c s a e in_n, (calls h).c_lives p c s a e in_n, (calls h).calls p in_n, sections sh st h p in_n);
  abandon = λ i c' a' e' s' t' r' li ab is r. grind (arith, nat_tests, (moves h).abandon i c' a' e' s' t' r' li, (calls h).c_entry p c a e in_n, (calls h).c_named p c s a e in_n, (calls h).c_lives p c s a e in_n, (calls h).calls p in_n, sections sh st h p in_n);
  locked = λ c' a' e' s' is. grind (arith, nat_tests, (moves h).locked c' a' e' s', (calls h).c_entry p c a e in_n, (calls h).c_named p c s a e in_n, (calls h).c_lives p c s a e in_n, (calls h).calls p in_n, sections sh st h p in_n);
  locked_owner = λ i c' a' e' s' li o is. grind (arith, nat_tests, (moves h).locked_owner i c' a' e' s' li, (calls h).c_entry p c a e in_n, (calls h).c_named p c s a e in_n, (calls h).c_lives p c s a e in_n, (calls h).calls p in_n, sections sh st h p in_n);
  begin_copy = λ i j c' s' a' e' t' n' li lj sr cp. grind (arith, nat_tests, (moves h).begin_copy i j c' s' a' e' t' n' li lj, (calls h).c_entry p c a e in_n, (calls h).c_named p c s a e in_n, (calls h).c_lives p c s a e in_n, (calls h).calls p in_n, sections sh st h p in_n);
}
