-- Steps keep the agreement: uses, cancels. Written by tools/laws.py.
use Rattle.std.proofs.Common.{◌≡◌, ℕ, ◌+◌, ◌<◌, Bool, Some, None, inl, arith}
use Rattle.std.proofs.lemmas.Bool.Decides.{nat_tests}
use Rattle.smc_words.specs.declared.dir.Dir.TheVariants as dir
use Rattle.smc_shape.specs.Layout.{Layout}
use Rattle.smc_shape.specs.declared.place.Place.TheVariants as place
use Rattle.smc_core.specs.declared.call.Call.TheVariants as call
use Rattle.smc_core.specs.declared.call.Choice.TheVariants.{Start, Go}
use Rattle.smc_core.specs.declared.op.Op.TheVariants.{Load, Store, Exchange}
use Rattle.smc_core.specs.declared.phase.Phase.TheVariants as phase
use Rattle.smc_core.specs.declared.phase.moves.CancelPhase.TheVariants as cancel
use Rattle.smc_core.specs.declared.section.Section.TheVariants.{Inside}
use Rattle.smc_core.specs.declared.word.State.TheVariants as state
use Rattle.smc_core.specs.declared.word.Word.TheVariants as word
use Rattle.smc_rules.specs.Reads.{object}
use Rattle.smc_rules.specs.State as S
use Rattle.smc_rules.specs.State.{put_stand}
use Rattle.smc_agreement.proofs.Whole.{Shut, calls, did, moved, sections}
use Rattle.smc_rules.specs.Memory.{apply, seen}
use Rattle.smc_inv_use.specs.Uses.{UsesAgree}
use Rattle.smc_inv_use.proofs.UseLaws.{kept_use}

-- kind LoadDirectory
pub starts_cancel : (sh : Layout) (st : S.State) (p : ℕ) (x : ℕ) (calm : Bool) (b : ℕ) (c : ℕ) (told : ℕ) → p < sh.passes → (st.stands p).section ≡ Inside x calm → (st.stands p).phase ≡ phase.Idle → (st.stands p).round ≡ Some (record { bound = b; coll = c }) → Shut sh st → UsesAgree sh st
    → UsesAgree sh (did sh st p (Start call.Cancel) (Inside x calm) phase.Idle told (Load (place.Directory c 0)))
starts_cancel sh st p x calm b c told in_n at_sec at_call pre1 h r = record {
  u_slot = λ c' s' is. kept_use sh st.memory (apply (Load (place.Directory c 0)) st.memory) st.stands p (moved sh p (st.stands p) (Inside x calm) phase.Idle (Start call.Cancel) told (seen (Load (place.Directory c 0)) st.memory)) phase.Idle c' s' at_call (λ y0. let (a1, e1, y) = y0 in inl (a1, e1, y)) (λ y0. let (a1, e1, y) = y0 in (absurd (cc))) (λ y. (absurd (cc))) (r.u_slot c' s' is);
  u_named = λ i c' s' li is. grind (arith, nat_tests, r.u_named i c' s' li, (calls h).calls p in_n, sections sh st h p in_n);
  u_moves = λ i c' s' t' a' e' li is nm inc. grind (arith, nat_tests, r.u_moves i c' s' t' a' e' li, (calls h).calls p in_n, sections sh st h p in_n);
}

-- kind LoadDirectory
pub cancel_dir : (sh : Layout) (st : S.State) (p : ℕ) (x : ℕ) (calm : Bool) (c : ℕ) (t : ℕ) (told : ℕ) → p < sh.passes → (st.stands p).section ≡ Inside x calm → (st.stands p).phase ≡ phase.Cancel (cancel.Directory c t) → Shut sh st → UsesAgree sh st
    → UsesAgree sh (did sh st p Go (Inside x calm) (phase.Cancel (cancel.Directory c t)) told (Load (place.Directory c t)))
cancel_dir sh st p x calm c t told in_n at_sec at_call h r = record {
  u_slot = λ c' s' is. kept_use sh st.memory (apply (Load (place.Directory c t)) st.memory) st.stands p (moved sh p (st.stands p) (Inside x calm) (phase.Cancel (cancel.Directory c t)) Go told (seen (Load (place.Directory c t)) st.memory)) (phase.Cancel (cancel.Directory c t)) c' s' at_call (λ y0. let (a1, e1, y) = y0 in inl (a1, e1, y)) (λ y0. let (a1, e1, y) = y0 in (absurd (cc))) (λ y. (absurd (cc))) (r.u_slot c' s' is);
  u_named = λ i c' s' li is. grind (arith, nat_tests, r.u_named i c' s' li, (calls h).calls p in_n, sections sh st h p in_n);
  u_moves = λ i c' s' t' a' e' li is nm inc. grind (arith, nat_tests, r.u_moves i c' s' t' a' e' li, (calls h).calls p in_n, sections sh st h p in_n);
}

-- kind LoadBack
pub cancel_back : (sh : Layout) (st : S.State) (p : ℕ) (x : ℕ) (calm : Bool) (c : ℕ) (t : ℕ) (told : ℕ) → p < sh.passes → (st.stands p).section ≡ Inside x calm → (st.stands p).phase ≡ phase.Cancel (cancel.Back c t) → Shut sh st → UsesAgree sh st
    → UsesAgree sh (did sh st p Go (Inside x calm) (phase.Cancel (cancel.Back c t)) told (Load (place.Back c t)))
cancel_back sh st p x calm c t told in_n at_sec at_call h r = record {
  u_slot = λ c' s' is. kept_use sh st.memory (apply (Load (place.Back c t)) st.memory) st.stands p (moved sh p (st.stands p) (Inside x calm) (phase.Cancel (cancel.Back c t)) Go told (seen (Load (place.Back c t)) st.memory)) (phase.Cancel (cancel.Back c t)) c' s' at_call (λ y0. let (a1, e1, y) = y0 in inl (a1, e1, y)) (λ y0. let (a1, e1, y) = y0 in (absurd (cc))) (λ y. (absurd (cc))) (r.u_slot c' s' is);
  u_named = λ i c' s' li is. grind (arith, nat_tests, r.u_named i c' s' li, (calls h).c_target p c t in_n, (calls h).calls p in_n, sections sh st h p in_n);
  u_moves = λ i c' s' t' a' e' li is nm inc. grind (arith, nat_tests, r.u_moves i c' s' t' a' e' li, (calls h).c_target p c t in_n, (calls h).calls p in_n, sections sh st h p in_n);
}

-- kind LoadEntry
pub cancel_entry : (sh : Layout) (st : S.State) (p : ℕ) (x : ℕ) (calm : Bool) (c : ℕ) (t : ℕ) (a : ℕ) (e : ℕ) (told : ℕ) → p < sh.passes → (st.stands p).section ≡ Inside x calm → (st.stands p).phase ≡ phase.Cancel (cancel.Entry c t (object a e c)) → Shut sh st → UsesAgree sh st
    → UsesAgree sh (did sh st p Go (Inside x calm) (phase.Cancel (cancel.Entry c t (object a e c))) told (Load (place.Entry c e)))
cancel_entry sh st p x calm c t a e told in_n at_sec at_call h r = record {
  u_slot = λ c' s' is. kept_use sh st.memory (apply (Load (place.Entry c e)) st.memory) st.stands p (moved sh p (st.stands p) (Inside x calm) (phase.Cancel (cancel.Entry c t (object a e c))) Go told (seen (Load (place.Entry c e)) st.memory)) (phase.Cancel (cancel.Entry c t (object a e c))) c' s' at_call (λ y0. let (a1, e1, y) = y0 in inl (a1, e1, y)) (λ y0. let (a1, e1, y) = y0 in (absurd (cc))) (λ y. (absurd (cc))) (r.u_slot c' s' is);
  u_named = λ i c' s' li is. grind (arith, nat_tests, r.u_named i c' s' li, (calls h).c_named p c t a e in_n, (calls h).c_target p c t in_n, (calls h).calls p in_n, sections sh st h p in_n);
  u_moves = λ i c' s' t' a' e' li is nm inc. grind (arith, nat_tests, r.u_moves i c' s' t' a' e' li, (calls h).c_named p c t a e in_n, (calls h).c_target p c t in_n, (calls h).calls p in_n, sections sh st h p in_n);
}

-- kind Unfreeze
pub unfreeze : (sh : Layout) (st : S.State) (p : ℕ) (x : ℕ) (calm : Bool) (c : ℕ) (t : ℕ) (a : ℕ) (e : ℕ) (q : ℕ) (told : ℕ) → p < sh.passes → (st.stands p).section ≡ Inside x calm → (st.stands p).phase ≡ phase.Cancel (cancel.Unfreeze c t (object a e c) q) → Shut sh st → UsesAgree sh st
    → UsesAgree sh (did sh st p Go (Inside x calm) (phase.Cancel (cancel.Unfreeze c t (object a e c) q)) told (Exchange (place.Entry c e) (word.Entry (state.Frozen a q)) (word.Entry (state.Present a q))))
unfreeze sh st p x calm c t a e q told in_n at_sec at_call h r = record {
  u_slot = λ c' s' is. kept_use sh st.memory (apply (Exchange (place.Entry c e) (word.Entry (state.Frozen a q)) (word.Entry (state.Present a q))) st.memory) st.stands p (moved sh p (st.stands p) (Inside x calm) (phase.Cancel (cancel.Unfreeze c t (object a e c) q)) Go told (seen (Exchange (place.Entry c e) (word.Entry (state.Frozen a q)) (word.Entry (state.Present a q))) st.memory)) (phase.Cancel (cancel.Unfreeze c t (object a e c) q)) c' s' at_call (λ y0. let (a1, e1, y) = y0 in inl (a1, e1, grind (arith, nat_tests))) (λ y0. let (a1, e1, y) = y0 in (absurd (cc))) (λ y. (absurd (cc))) (r.u_slot c' s' is);
  u_named = λ i c' s' li is. grind (arith, nat_tests, r.u_named i c' s' li, (calls h).c_named p c t a e in_n, (calls h).c_target p c t in_n, (calls h).c_tries p c q a e in_n, (calls h).calls p in_n, sections sh st h p in_n);
  u_moves = λ i c' s' t' a' e' li is nm inc. grind (arith, nat_tests, r.u_moves i c' s' t' a' e' li, (calls h).c_named p c t a e in_n, (calls h).c_target p c t in_n, (calls h).c_tries p c q a e in_n, (calls h).calls p in_n, sections sh st h p in_n);
}

-- kind LeaveSlot
pub cancel_gives : (sh : Layout) (st : S.State) (p : ℕ) (x : ℕ) (calm : Bool) (c : ℕ) (t : ℕ) (told : ℕ) → p < sh.passes → (st.stands p).section ≡ Inside x calm → (st.stands p).phase ≡ phase.Cancel (cancel.GiveUp c t) → Shut sh st → UsesAgree sh st
    → UsesAgree sh (did sh st p Go (Inside x calm) (phase.Cancel (cancel.GiveUp c t)) told (Store (place.Directory c t) (word.Directory (dir.Limbo (x + 1)))))
cancel_gives sh st p x calm c t told in_n at_sec at_call h r = record {
  u_slot = λ c' s' is. kept_use sh st.memory (apply (Store (place.Directory c t) (word.Directory (dir.Limbo (x + 1)))) st.memory) st.stands p (moved sh p (st.stands p) (Inside x calm) (phase.Cancel (cancel.GiveUp c t)) Go told (seen (Store (place.Directory c t) (word.Directory (dir.Limbo (x + 1)))) st.memory)) (phase.Cancel (cancel.GiveUp c t)) c' s' at_call (λ y0. let (a1, e1, y) = y0 in inl (a1, e1, y)) (λ y0. let (a1, e1, y) = y0 in (absurd (cc))) (λ y. (absurd (cc))) (r.u_slot c' s' (grind (arith, nat_tests)));
  u_named = λ i c' s' li is. grind (arith, nat_tests, r.u_named i c' s' li, (calls h).c_target p c t in_n, (calls h).calls p in_n, sections sh st h p in_n);
  u_moves = λ i c' s' t' a' e' li is nm inc. grind (arith, nat_tests, r.u_moves i c' s' t' a' e' li, (calls h).c_target p c t in_n, (calls h).c_loose p c t a' e' in_n, (calls h).calls p in_n, sections sh st h p in_n);
}

-- kind CloseRound
pub cancel_ends : (sh : Layout) (st : S.State) (p : ℕ) (x : ℕ) (calm : Bool) (told : ℕ) → p < sh.passes → (st.stands p).section ≡ Inside x calm → (st.stands p).phase ≡ phase.Cancel cancel.End → Shut sh st → UsesAgree sh st
    → UsesAgree sh (did sh st p Go (Inside x calm) (phase.Cancel cancel.End) told (Store place.Round (word.Round None)))
cancel_ends sh st p x calm told in_n at_sec at_call h r = record {
  u_slot = λ c' s' is. kept_use sh st.memory (apply (Store place.Round (word.Round None)) st.memory) st.stands p (moved sh p (st.stands p) (Inside x calm) (phase.Cancel cancel.End) Go told (seen (Store place.Round (word.Round None)) st.memory)) (phase.Cancel cancel.End) c' s' at_call (λ y0. let (a1, e1, y) = y0 in inl (a1, e1, y)) (λ y0. let (a1, e1, y) = y0 in (absurd (cc))) (λ y. (absurd (cc))) (r.u_slot c' s' is);
  u_named = λ i c' s' li is. grind (arith, nat_tests, r.u_named i c' s' li, (calls h).calls p in_n, sections sh st h p in_n);
  u_moves = λ i c' s' t' a' e' li is nm inc. grind (arith, nat_tests, r.u_moves i c' s' t' a' e' li, (calls h).calls p in_n, sections sh st h p in_n);
}
