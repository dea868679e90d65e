-- Steps keep the agreement: objects, cancels. Written by tools/laws.py.
use Rattle.std.proofs.Common.{◌≡◌, ℕ, ◌+◌, ◌<◌, Bool, Some, None, arith}
use Rattle.std.proofs.lemmas.Bool.Decides.{nat_tests}
use Rattle.smc_words.specs.declared.dir.Dir.TheVariants as dir
use Rattle.smc_shape.specs.Layout.{Layout}
use Rattle.smc_shape.specs.declared.place.Place.TheVariants as place
use Rattle.smc_core.specs.declared.call.Call.TheVariants as call
use Rattle.smc_core.specs.declared.call.Choice.TheVariants.{Start, Go}
use Rattle.smc_core.specs.declared.op.Op.TheVariants.{Load, Store, Exchange}
use Rattle.smc_core.specs.declared.phase.Phase.TheVariants as phase
use Rattle.smc_core.specs.declared.phase.moves.CancelPhase.TheVariants as cancel
use Rattle.smc_core.specs.declared.section.Section.TheVariants.{Inside}
use Rattle.smc_core.specs.declared.word.State.TheVariants as state
use Rattle.smc_core.specs.declared.word.Word.TheVariants as word
use Rattle.smc_rules.specs.Reads.{object}
use Rattle.smc_rules.specs.State as S
use Rattle.smc_rules.specs.State.{put_stand}
use Rattle.smc_agreement.specs.Kept.{Nothing}
use Rattle.smc_agreement.specs.Agreement.{ObjectsAgree}
use Rattle.smc_agreement.proofs.Whole.{Shut, calls, objects, moves, did, sections}

-- kind LoadDirectory
pub starts_cancel : (sh : Layout) (st : S.State) (p : ℕ) (x : ℕ) (calm : Bool) (b : ℕ) (c : ℕ) (told : ℕ) → p < sh.passes → (st.stands p).section ≡ Inside x calm → (st.stands p).phase ≡ phase.Idle → (st.stands p).round ≡ Some (record { bound = b; coll = c }) → Shut sh st → Nothing sh st
    → ObjectsAgree sh (did sh st p (Start call.Cancel) (Inside x calm) phase.Idle told (Load (place.Directory c 0)))
starts_cancel sh st p x calm b c told in_n at_sec at_call pre1 h _ = record {
  standing = (objects h).standing;
  placed = (objects h).placed;
  held = λ i c' a' e' s' li is. grind (arith, nat_tests, (objects h).held i c' a' e' s' li, (calls h).calls p in_n, sections sh st h p in_n);
  one_held = λ i j c' a' e' s' t' li lj hi hj. grind (arith, nat_tests, (objects h).one_held i j c' a' e' s' t' li lj, (calls h).calls p in_n, sections sh st h p in_n);
  stamp_dir = (objects h).stamp_dir;
  stamp_entry = (objects h).stamp_entry;
}

-- kind LoadDirectory
pub cancel_dir : (sh : Layout) (st : S.State) (p : ℕ) (x : ℕ) (calm : Bool) (c : ℕ) (t : ℕ) (told : ℕ) → p < sh.passes → (st.stands p).section ≡ Inside x calm → (st.stands p).phase ≡ phase.Cancel (cancel.Directory c t) → Shut sh st → Nothing sh st
    → ObjectsAgree sh (did sh st p Go (Inside x calm) (phase.Cancel (cancel.Directory c t)) told (Load (place.Directory c t)))
cancel_dir sh st p x calm c t told in_n at_sec at_call h _ = record {
  standing = (objects h).standing;
  placed = (objects h).placed;
  held = λ i c' a' e' s' li is. grind (arith, nat_tests, (objects h).held i c' a' e' s' li, (calls h).calls p in_n, sections sh st h p in_n);
  one_held = λ i j c' a' e' s' t' li lj hi hj. grind (arith, nat_tests, (objects h).one_held i j c' a' e' s' t' li lj, (calls h).calls p in_n, sections sh st h p in_n);
  stamp_dir = (objects h).stamp_dir;
  stamp_entry = (objects h).stamp_entry;
}

-- kind LoadBack
pub cancel_back : (sh : Layout) (st : S.State) (p : ℕ) (x : ℕ) (calm : Bool) (c : ℕ) (t : ℕ) (told : ℕ) → p < sh.passes → (st.stands p).section ≡ Inside x calm → (st.stands p).phase ≡ phase.Cancel (cancel.Back c t) → Shut sh st → Nothing sh st
    → ObjectsAgree sh (did sh st p Go (Inside x calm) (phase.Cancel (cancel.Back c t)) told (Load (place.Back c t)))
cancel_back sh st p x calm c t told in_n at_sec at_call h _ = record {
  standing = (objects h).standing;
  placed = (objects h).placed;
  held = λ i c' a' e' s' li is. grind (arith, nat_tests, (objects h).held i c' a' e' s' li, (calls h).c_target p c t in_n, (calls h).calls p in_n, sections sh st h p in_n);
  one_held = λ i j c' a' e' s' t' li lj hi hj. grind (arith, nat_tests, (objects h).one_held i j c' a' e' s' t' li lj, (calls h).c_target p c t in_n, (calls h).calls p in_n, sections sh st h p in_n);
  stamp_dir = (objects h).stamp_dir;
  stamp_entry = (objects h).stamp_entry;
}

-- kind LoadEntry
pub cancel_entry : (sh : Layout) (st : S.State) (p : ℕ) (x : ℕ) (calm : Bool) (c : ℕ) (t : ℕ) (a : ℕ) (e : ℕ) (told : ℕ) → p < sh.passes → (st.stands p).section ≡ Inside x calm → (st.stands p).phase ≡ phase.Cancel (cancel.Entry c t (object a e c)) → Shut sh st → Nothing sh st
    → ObjectsAgree sh (did sh st p Go (Inside x calm) (phase.Cancel (cancel.Entry c t (object a e c))) told (Load (place.Entry c e)))
cancel_entry sh st p x calm c t a e told in_n at_sec at_call h _ = record {
  standing = (objects h).standing;
  placed = (objects h).placed;
  held = λ i c' a' e' s' li is. grind (arith, nat_tests, (objects h).held i c' a' e' s' li, (calls h).c_named p c t a e in_n, (calls h).c_target p c t in_n, (calls h).calls p in_n, sections sh st h p in_n);
  one_held = λ i j c' a' e' s' t' li lj hi hj. grind (arith, nat_tests, (objects h).one_held i j c' a' e' s' t' li lj, (calls h).c_named p c t a e in_n, (calls h).c_target p c t in_n, (calls h).calls p in_n, sections sh st h p in_n);
  stamp_dir = (objects h).stamp_dir;
  stamp_entry = (objects h).stamp_entry;
}

-- kind Unfreeze
pub unfreeze : (sh : Layout) (st : S.State) (p : ℕ) (x : ℕ) (calm : Bool) (c : ℕ) (t : ℕ) (a : ℕ) (e : ℕ) (q : ℕ) (told : ℕ) → p < sh.passes → (st.stands p).section ≡ Inside x calm → (st.stands p).phase ≡ phase.Cancel (cancel.Unfreeze c t (object a e c) q) → Shut sh st → Nothing sh st
    → ObjectsAgree sh (did sh st p Go (Inside x calm) (phase.Cancel (cancel.Unfreeze c t (object a e c) q)) told (Exchange (place.Entry c e) (word.Entry (state.Frozen a q)) (word.Entry (state.Present a q))))
unfreeze sh st p x calm c t a e q told in_n at_sec at_call h _ = record {
  standing = λ c' a' e' s' is. grind (arith, nat_tests, (objects h).standing c' a' e' s', (calls h).c_named p c t a e in_n, (calls h).c_target p c t in_n, (calls h).c_tries p c q a e in_n, (calls h).calls p in_n, sections sh st h p in_n);
  placed = λ c' a' e' s' is. grind (arith, nat_tests, (objects h).placed c' a' e' s', (calls h).c_named p c t a e in_n, (calls h).c_target p c t in_n, (calls h).c_tries p c q a e in_n, (calls h).calls p in_n, sections sh st h p in_n);
  held = λ i c' a' e' s' li is. grind (arith, nat_tests, (objects h).held i c' a' e' s' li, (calls h).c_named p c t a e in_n, (calls h).c_target p c t in_n, (calls h).c_tries p c q a e in_n, (calls h).calls p in_n, sections sh st h p in_n);
  one_held = λ i j c' a' e' s' t' li lj hi hj. grind (arith, nat_tests, (objects h).one_held i j c' a' e' s' t' li lj, (calls h).c_named p c t a e in_n, (calls h).c_target p c t in_n, (calls h).c_tries p c q a e in_n, (calls h).calls p in_n, sections sh st h p in_n);
  stamp_dir = (objects h).stamp_dir;
  stamp_entry = λ c' e' a' z' is. grind (arith, nat_tests, (objects h).stamp_entry c' e' a' z', (calls h).c_named p c t a e in_n, (calls h).c_target p c t in_n, (calls h).c_tries p c q a e in_n, (calls h).calls p in_n, sections sh st h p in_n);
}

-- kind LeaveSlot
pub cancel_gives : (sh : Layout) (st : S.State) (p : ℕ) (x : ℕ) (calm : Bool) (c : ℕ) (t : ℕ) (told : ℕ) → p < sh.passes → (st.stands p).section ≡ Inside x calm → (st.stands p).phase ≡ phase.Cancel (cancel.GiveUp c t) → Shut sh st → Nothing sh st
    → ObjectsAgree sh (did sh st p Go (Inside x calm) (phase.Cancel (cancel.GiveUp c t)) told (Store (place.Directory c t) (word.Directory (dir.Limbo (x + 1)))))
cancel_gives sh st p x calm c t told in_n at_sec at_call h _ = record {
  standing = (objects h).standing;
  placed = λ c' a' e' s' is. grind (arith, nat_tests, (objects h).placed c' a' e' s', (calls h).c_target p c t in_n, (calls h).c_loose p c t a' e' in_n, (calls h).calls p in_n, sections sh st h p in_n, (moves h).standing_in p c' a' e' s' in_n);
  held = λ i c' a' e' s' li is. grind (arith, nat_tests, (objects h).held i c' a' e' s' li, (calls h).c_target p c t in_n, (calls h).c_loose p c t a' e' in_n, (calls h).calls p in_n, sections sh st h p in_n, sections sh st h i li);
  one_held = λ i j c' a' e' s' t' li lj hi hj. grind (arith, nat_tests, (objects h).one_held i j c' a' e' s' t' li lj, (calls h).c_target p c t in_n, (calls h).c_loose p c t a' e' in_n, (calls h).calls p in_n, sections sh st h p in_n);
  stamp_dir = λ c' s' z' is. grind (arith, nat_tests, (objects h).stamp_dir c' s' z', (calls h).c_target p c t in_n, (calls h).calls p in_n, sections sh st h p in_n);
  stamp_entry = (objects h).stamp_entry;
}

-- kind CloseRound
pub cancel_ends : (sh : Layout) (st : S.State) (p : ℕ) (x : ℕ) (calm : Bool) (told : ℕ) → p < sh.passes → (st.stands p).section ≡ Inside x calm → (st.stands p).phase ≡ phase.Cancel cancel.End → Shut sh st → Nothing sh st
    → ObjectsAgree sh (did sh st p Go (Inside x calm) (phase.Cancel cancel.End) told (Store place.Round (word.Round None)))
cancel_ends sh st p x calm told in_n at_sec at_call h _ = record {
  standing = (objects h).standing;
  placed = (objects h).placed;
  held = λ i c' a' e' s' li is. grind (arith, nat_tests, (objects h).held i c' a' e' s' li, (calls h).calls p in_n, sections sh st h p in_n);
  one_held = λ i j c' a' e' s' t' li lj hi hj. grind (arith, nat_tests, (objects h).one_held i j c' a' e' s' t' li lj, (calls h).calls p in_n, sections sh st h p in_n);
  stamp_dir = (objects h).stamp_dir;
  stamp_entry = (objects h).stamp_entry;
}
