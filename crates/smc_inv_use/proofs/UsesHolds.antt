-- Steps keep the agreement: uses, holds. Written by tools/laws.py.
use Rattle.std.proofs.Common.{◌≡◌, ℕ, ◌+◌, ◌<◌, ◌&&◌, Bool, true, Some, inl, arith}
use Rattle.std.proofs.lemmas.Bool.Decides.{nat_tests}
use Rattle.smc_words.specs.declared.dir.Dir.TheVariants as dir
use Rattle.smc_shape.specs.Layout.{Layout, width_of}
use Rattle.smc_shape.specs.declared.place.Place.TheVariants as place
use Rattle.smc_core.specs.declared.call.Call.TheVariants as call
use Rattle.smc_core.specs.declared.call.Choice.TheVariants.{Start, Go}
use Rattle.smc_core.specs.declared.op.Op.TheVariants.{Load, Store, MarkGone}
use Rattle.smc_core.specs.declared.phase.Phase.TheVariants as phase
use Rattle.smc_core.specs.declared.phase.objects.RemovePhase.TheVariants as remove
use Rattle.smc_core.specs.declared.section.Section.TheVariants.{Inside}
use Rattle.smc_core.specs.declared.word.State.TheVariants as state
use Rattle.smc_core.specs.declared.word.Word.TheVariants as word
use Rattle.std.specs.Prelude.{nat_lt}
use Rattle.smc_core.specs.Add.{is_value}
use Rattle.smc_core.specs.Offer.{held_slot}
use Rattle.smc_rules.specs.Reads.{state_in, object}
use Rattle.smc_rules.specs.State as S
use Rattle.smc_rules.specs.State.{put_stand}
use Rattle.smc_agreement.proofs.Whole.{Shut, calls, objects, did, moved, sections}
use Rattle.smc_rules.specs.Memory.{apply, seen}
use Rattle.smc_inv_use.specs.Uses.{UsesAgree}
use Rattle.smc_inv_use.proofs.UseLaws.{kept_use, gone-stands}

-- kind LoadField
pub read : (sh : Layout) (st : S.State) (p : ℕ) (x : ℕ) (calm : Bool) (c : ℕ) (a : ℕ) (e : ℕ) (q : ℕ) (f : ℕ) (told : ℕ) → p < sh.passes → (st.stands p).section ≡ Inside x calm → (st.stands p).phase ≡ phase.Idle → held_slot (st.stands p).held (object a e c) ≡ Some q → nat_lt f (width_of sh c) ≡ true → Shut sh st → UsesAgree sh st
    → UsesAgree sh (did sh st p (Start (call.Read (object a e c) f)) (Inside x calm) phase.Idle told (Load (place.Field c q f)))
read sh st p x calm c a e q f told in_n at_sec at_call pre1 pre2 h r = record {
  u_slot = λ c' s' is. kept_use sh st.memory (apply (Load (place.Field c q f)) st.memory) st.stands p (moved sh p (st.stands p) (Inside x calm) phase.Idle (Start (call.Read (object a e c) f)) told (seen (Load (place.Field c q f)) st.memory)) phase.Idle c' s' at_call (λ y0. let (a1, e1, y) = y0 in inl (a1, e1, y)) (λ y0. let (a1, e1, y) = y0 in (absurd (cc))) (λ y. (absurd (cc))) (r.u_slot c' s' is);
  u_named = λ i c' s' li is. grind (arith, nat_tests, r.u_named i c' s' li, (calls h).calls p in_n, sections sh st h p in_n);
  u_moves = λ i c' s' t' a' e' li is nm inc. grind (arith, nat_tests, r.u_moves i c' s' t' a' e' li, (calls h).calls p in_n, sections sh st h p in_n);
}

-- kind WriteField
pub write : (sh : Layout) (st : S.State) (p : ℕ) (x : ℕ) (calm : Bool) (c : ℕ) (a : ℕ) (e : ℕ) (q : ℕ) (f : ℕ) (w : ℕ) (told : ℕ) → p < sh.passes → (st.stands p).section ≡ Inside x calm → (st.stands p).phase ≡ phase.Idle → held_slot (st.stands p).held (object a e c) ≡ Some q → (nat_lt f (width_of sh c) && is_value w) ≡ true → Shut sh st → UsesAgree sh st
    → UsesAgree sh (did sh st p (Start (call.Write (object a e c) f w)) (Inside x calm) phase.Idle told (Store (place.Field c q f) (word.Plain w)))
write sh st p x calm c a e q f w told in_n at_sec at_call pre1 pre2 h r = record {
  u_slot = λ c' s' is. kept_use sh st.memory (apply (Store (place.Field c q f) (word.Plain w)) st.memory) st.stands p (moved sh p (st.stands p) (Inside x calm) phase.Idle (Start (call.Write (object a e c) f w)) told (seen (Store (place.Field c q f) (word.Plain w)) st.memory)) phase.Idle c' s' at_call (λ y0. let (a1, e1, y) = y0 in inl (a1, e1, y)) (λ y0. let (a1, e1, y) = y0 in (absurd (cc))) (λ y. (absurd (cc))) (r.u_slot c' s' is);
  u_named = λ i c' s' li is. grind (arith, nat_tests, r.u_named i c' s' li, (objects h).held p c a e q in_n pre1, (calls h).calls p in_n, sections sh st h p in_n);
  u_moves = λ i c' s' t' a' e' li is nm inc. grind (arith, nat_tests, r.u_moves i c' s' t' a' e' li, (objects h).held p c a e q in_n pre1, (calls h).calls p in_n, sections sh st h p in_n);
}

-- kind MarkGone
pub starts_remove : (sh : Layout) (st : S.State) (p : ℕ) (x : ℕ) (calm : Bool) (c : ℕ) (a : ℕ) (e : ℕ) (q : ℕ) (told : ℕ) → p < sh.passes → (st.stands p).section ≡ Inside x calm → (st.stands p).phase ≡ phase.Idle → held_slot (st.stands p).held (object a e c) ≡ Some q → Shut sh st → UsesAgree sh st
    → UsesAgree sh (did sh st p (Start (call.Remove (object a e c))) (Inside x calm) phase.Idle told (MarkGone c e))
starts_remove sh st p x calm c a e q told in_n at_sec at_call pre1 h r = record {
  u_slot = λ c' s' is. kept_use sh st.memory (apply (MarkGone c e) st.memory) st.stands p (moved sh p (st.stands p) (Inside x calm) phase.Idle (Start (call.Remove (object a e c))) told (seen (MarkGone c e) st.memory)) phase.Idle c' s' at_call (λ y0. let (a1, e1, y) = y0 in inl (a1, e1, grind (arith, nat_tests, gone-stands (state_in st.memory c e)))) (λ y0. let (a1, e1, y) = y0 in (absurd (cc))) (λ y. (absurd (cc))) (r.u_slot c' s' is);
  u_named = λ i c' s' li is. grind (arith, nat_tests, r.u_named i c' s' li, (objects h).held p c a e q in_n pre1, (calls h).calls p in_n, sections sh st h p in_n);
  u_moves = λ i c' s' t' a' e' li is nm inc. grind (arith, nat_tests, r.u_moves i c' s' t' a' e' li, (objects h).held p c a e q in_n pre1, (calls h).calls p in_n, sections sh st h p in_n, gone-stands (state_in st.memory c e));
}

-- kind LeaveSlot
pub leave_slot : (sh : Layout) (st : S.State) (p : ℕ) (x : ℕ) (calm : Bool) (c : ℕ) (a : ℕ) (e : ℕ) (q : ℕ) (told : ℕ) → p < sh.passes → (st.stands p).section ≡ Inside x calm → (st.stands p).phase ≡ phase.Remove (remove.LeaveSlot q (object a e c)) → Shut sh st → UsesAgree sh st
    → UsesAgree sh (did sh st p Go (Inside x calm) (phase.Remove (remove.LeaveSlot q (object a e c))) told (Store (place.Directory c q) (word.Directory (dir.Limbo (x + 1)))))
leave_slot sh st p x calm c a e q told in_n at_sec at_call h r = record {
  u_slot = λ c' s' is. kept_use sh st.memory (apply (Store (place.Directory c q) (word.Directory (dir.Limbo (x + 1)))) st.memory) st.stands p (moved sh p (st.stands p) (Inside x calm) (phase.Remove (remove.LeaveSlot q (object a e c))) Go told (seen (Store (place.Directory c q) (word.Directory (dir.Limbo (x + 1)))) st.memory)) (phase.Remove (remove.LeaveSlot q (object a e c))) c' s' at_call (λ y0. let (a1, e1, y) = y0 in inl (a1, e1, y)) (λ y0. let (a1, e1, y) = y0 in (absurd (cc))) (λ y. (absurd (cc))) (r.u_slot c' s' (grind (arith, nat_tests)));
  u_named = λ i c' s' li is. grind (arith, nat_tests, r.u_named i c' s' li, (calls h).c_removes p c a e in_n, (calls h).c_leaving p c q a e in_n, (calls h).c_limbos p c q a e in_n, (calls h).calls p in_n, sections sh st h p in_n);
  u_moves = λ i c' s' t' a' e' li is nm inc. grind (arith, nat_tests, r.u_moves i c' s' t' a' e' li, (calls h).c_removes p c a e in_n, (calls h).c_leaving p c q a e in_n, (calls h).c_limbos p c q a e in_n, (calls h).calls p in_n, sections sh st h p in_n);
}

-- kind FreeEntry
pub free_entry : (sh : Layout) (st : S.State) (p : ℕ) (x : ℕ) (calm : Bool) (c : ℕ) (a : ℕ) (e : ℕ) (told : ℕ) → p < sh.passes → (st.stands p).section ≡ Inside x calm → (st.stands p).phase ≡ phase.Remove (remove.FreeEntry (object a e c)) → Shut sh st → UsesAgree sh st
    → UsesAgree sh (did sh st p Go (Inside x calm) (phase.Remove (remove.FreeEntry (object a e c))) told (Store (place.Entry c e) (word.Entry (state.Free a (x + 1)))))
free_entry sh st p x calm c a e told in_n at_sec at_call h r = record {
  u_slot = λ c' s' is. kept_use sh st.memory (apply (Store (place.Entry c e) (word.Entry (state.Free a (x + 1)))) st.memory) st.stands p (moved sh p (st.stands p) (Inside x calm) (phase.Remove (remove.FreeEntry (object a e c))) Go told (seen (Store (place.Entry c e) (word.Entry (state.Free a (x + 1)))) st.memory)) (phase.Remove (remove.FreeEntry (object a e c))) c' s' at_call (λ y0. let (a1, e1, y) = y0 in inl (a1, e1, grind (arith, nat_tests, (calls h).c_removes p c a e in_n, (calls h).c_frees p c s' a e in_n))) (λ y0. let (a1, e1, y) = y0 in (absurd (cc))) (λ y. (absurd (cc))) (r.u_slot c' s' is);
  u_named = λ i c' s' li is. grind (arith, nat_tests, r.u_named i c' s' li, (calls h).c_removes p c a e in_n, (calls h).c_frees p c s' a e in_n, (calls h).calls p in_n, sections sh st h p in_n);
  u_moves = λ i c' s' t' a' e' li is nm inc. grind (arith, nat_tests, r.u_moves i c' s' t' a' e' li, (calls h).c_removes p c a e in_n, (calls h).c_frees p c s' a e in_n, (calls h).calls p in_n, sections sh st h p in_n, (calls h).c_frees p c t' a e in_n);
}
