-- Steps keep the agreement: claims, holds. Written by tools/laws.py.
use Rattle.std.proofs.Common.{◌≡◌, ℕ, ◌+◌, ◌<◌, ◌==◌, ◌&&◌, Bool, true, not, Some, arith}
use Rattle.std.proofs.lemmas.Bool.Decides.{nat_tests}
use Rattle.smc_words.specs.declared.dir.Dir.TheVariants as dir
use Rattle.smc_shape.specs.Layout.{Layout, width_of}
use Rattle.smc_shape.specs.declared.place.Place.TheVariants as place
use Rattle.smc_core.specs.declared.call.Call.TheVariants as call
use Rattle.smc_core.specs.declared.call.Choice.TheVariants.{Start, Go}
use Rattle.smc_core.specs.declared.op.Op.TheVariants.{Load, Store, MarkGone}
use Rattle.smc_core.specs.declared.phase.Phase.TheVariants as phase
use Rattle.smc_core.specs.declared.phase.objects.RemovePhase.TheVariants as remove
use Rattle.smc_core.specs.declared.section.Section.TheVariants.{Inside}
use Rattle.smc_core.specs.declared.word.State.TheVariants as state
use Rattle.smc_core.specs.declared.word.Word.TheVariants as word
use Rattle.std.specs.Prelude.{nat_lt}
use Rattle.smc_core.specs.Add.{is_value}
use Rattle.smc_core.specs.Offer.{held_slot}
use Rattle.smc_core.specs.Words.{is_gone}
use Rattle.smc_rules.specs.Reads.{state_in, object}
use Rattle.smc_rules.specs.State as S
use Rattle.smc_rules.specs.State.{put_stand}
use Rattle.smc_agreement.specs.Entries.{IsRemoved}
use Rattle.smc_agreement.specs.Kept.{Nothing}
use Rattle.smc_agreement.specs.Agreement.{ClaimsAgree}
use Rattle.smc_agreement.proofs.Whole.{Shut, calls, claims, objects, did, sections}
use Rattle.smc_agreement.proofs.CrossLaws.{by_true}

-- kind LoadField
pub read : (sh : Layout) (st : S.State) (p : ℕ) (x : ℕ) (calm : Bool) (c : ℕ) (a : ℕ) (e : ℕ) (q : ℕ) (f : ℕ) (told : ℕ) → p < sh.passes → (st.stands p).section ≡ Inside x calm → (st.stands p).phase ≡ phase.Idle → held_slot (st.stands p).held (object a e c) ≡ Some q → nat_lt f (width_of sh c) ≡ true → Shut sh st → Nothing sh st
    → ClaimsAgree sh (did sh st p (Start (call.Read (object a e c) f)) (Inside x calm) phase.Idle told (Load (place.Field c q f)))
read sh st p x calm c a e q f told in_n at_sec at_call pre1 pre2 h _ = record {
  one_slot = λ i j c' s' li lj ei ej. grind (arith, nat_tests, (claims h).one_slot i j c' s' li lj, (calls h).calls p in_n, sections sh st h p in_n);
  one_entry = λ i j c' a' b' e' li lj ei ej. grind (arith, nat_tests, (claims h).one_entry i j c' a' b' e' li lj, (calls h).calls p in_n, sections sh st h p in_n);
  one_gone = λ i j c' a' b' e' li lj ei ej. grind (arith, nat_tests, (claims h).one_gone i j c' a' b' e' li lj, (calls h).calls p in_n, sections sh st h p in_n);
  claimed = λ c' s' is. grind (arith, nat_tests, (claims h).claimed c' s', (calls h).calls p in_n, sections sh st h p in_n);
  taken = λ c' a' e' is. grind (arith, nat_tests, (claims h).taken c' a' e', (calls h).calls p in_n, sections sh st h p in_n);
  removed = λ c' a' e' is. grind (arith, nat_tests, (claims h).removed c' a' e', (calls h).calls p in_n, sections sh st h p in_n);
}

-- kind WriteField
pub write : (sh : Layout) (st : S.State) (p : ℕ) (x : ℕ) (calm : Bool) (c : ℕ) (a : ℕ) (e : ℕ) (q : ℕ) (f : ℕ) (w : ℕ) (told : ℕ) → p < sh.passes → (st.stands p).section ≡ Inside x calm → (st.stands p).phase ≡ phase.Idle → held_slot (st.stands p).held (object a e c) ≡ Some q → (nat_lt f (width_of sh c) && is_value w) ≡ true → Shut sh st → Nothing sh st
    → ClaimsAgree sh (did sh st p (Start (call.Write (object a e c) f w)) (Inside x calm) phase.Idle told (Store (place.Field c q f) (word.Plain w)))
write sh st p x calm c a e q f w told in_n at_sec at_call pre1 pre2 h _ = record {
  one_slot = λ i j c' s' li lj ei ej. grind (arith, nat_tests, (claims h).one_slot i j c' s' li lj, (objects h).held p c a e q in_n pre1, (calls h).calls p in_n, sections sh st h p in_n);
  one_entry = λ i j c' a' b' e' li lj ei ej. grind (arith, nat_tests, (claims h).one_entry i j c' a' b' e' li lj, (objects h).held p c a e q in_n pre1, (calls h).calls p in_n, sections sh st h p in_n);
  one_gone = λ i j c' a' b' e' li lj ei ej. grind (arith, nat_tests, (claims h).one_gone i j c' a' b' e' li lj, (objects h).held p c a e q in_n pre1, (calls h).calls p in_n, sections sh st h p in_n);
  claimed = λ c' s' is. grind (arith, nat_tests, (claims h).claimed c' s', (objects h).held p c a e q in_n pre1, (calls h).calls p in_n, sections sh st h p in_n);
  taken = λ c' a' e' is. grind (arith, nat_tests, (claims h).taken c' a' e', (objects h).held p c a e q in_n pre1, (calls h).calls p in_n, sections sh st h p in_n);
  removed = λ c' a' e' is. grind (arith, nat_tests, (claims h).removed c' a' e', (objects h).held p c a e q in_n pre1, (calls h).calls p in_n, sections sh st h p in_n);
}

-- kind MarkGone
pub starts_remove : (sh : Layout) (st : S.State) (p : ℕ) (x : ℕ) (calm : Bool) (c : ℕ) (a : ℕ) (e : ℕ) (q : ℕ) (told : ℕ) → p < sh.passes → (st.stands p).section ≡ Inside x calm → (st.stands p).phase ≡ phase.Idle → held_slot (st.stands p).held (object a e c) ≡ Some q → Shut sh st → Nothing sh st
    → ClaimsAgree sh (did sh st p (Start (call.Remove (object a e c))) (Inside x calm) phase.Idle told (MarkGone c e))
starts_remove sh st p x calm c a e q told in_n at_sec at_call pre1 h _ = record {
  one_slot = λ i j c' s' li lj ei ej. grind (arith, nat_tests, (claims h).one_slot i j c' s' li lj, (objects h).held p c a e q in_n pre1, (calls h).calls p in_n, sections sh st h p in_n);
  one_entry = λ i j c' a' b' e' li lj ei ej. grind (arith, nat_tests, (claims h).one_entry i j c' a' b' e' li lj, (objects h).held p c a e q in_n pre1, (calls h).calls p in_n, sections sh st h p in_n);
  one_gone = λ i j c' a' b' e' li lj ei ej. grind (arith, nat_tests, (claims h).one_gone i j c' a' b' e' li lj, (objects h).held p c a e q in_n pre1, (calls h).calls p in_n, sections sh st h p in_n, (calls h).c_removes i c' a' e' li, (calls h).c_removes j c' b' e' lj);
  claimed = λ c' s' is. grind (arith, nat_tests, (claims h).claimed c' s', (objects h).held p c a e q in_n pre1, (calls h).calls p in_n, sections sh st h p in_n);
  taken = λ c' a' e' is. grind (arith, nat_tests, (claims h).taken c' a' e', (objects h).held p c a e q in_n pre1, (calls h).calls p in_n, sections sh st h p in_n);
  removed = λ c' a' e' is. by_true (not (is_gone (state_in st.memory c e)) && (e' == e && c' == c)) (λ y. (p, in_n, grind (arith, nat_tests, (objects h).held p c a e q in_n pre1))) (λ n. let w : IsRemoved a' (state_in st.memory c' e') = grind (arith, nat_tests, (objects h).held p c a e q in_n pre1) in let (i, lt, is') = (claims h).removed c' a' e' w in (i, lt, grind (arith, nat_tests)));
}

-- kind LeaveSlot
pub leave_slot : (sh : Layout) (st : S.State) (p : ℕ) (x : ℕ) (calm : Bool) (c : ℕ) (a : ℕ) (e : ℕ) (q : ℕ) (told : ℕ) → p < sh.passes → (st.stands p).section ≡ Inside x calm → (st.stands p).phase ≡ phase.Remove (remove.LeaveSlot q (object a e c)) → Shut sh st → Nothing sh st
    → ClaimsAgree sh (did sh st p Go (Inside x calm) (phase.Remove (remove.LeaveSlot q (object a e c))) told (Store (place.Directory c q) (word.Directory (dir.Limbo (x + 1)))))
leave_slot sh st p x calm c a e q told in_n at_sec at_call h _ = record {
  one_slot = λ i j c' s' li lj ei ej. grind (arith, nat_tests, (claims h).one_slot i j c' s' li lj, (calls h).c_removes p c a e in_n, (calls h).c_leaving p c q a e in_n, (calls h).c_limbos p c q a e in_n, (calls h).calls p in_n, sections sh st h p in_n);
  one_entry = λ i j c' a' b' e' li lj ei ej. grind (arith, nat_tests, (claims h).one_entry i j c' a' b' e' li lj, (calls h).c_removes p c a e in_n, (calls h).c_leaving p c q a e in_n, (calls h).c_limbos p c q a e in_n, (calls h).calls p in_n, sections sh st h p in_n);
  one_gone = λ i j c' a' b' e' li lj ei ej. grind (arith, nat_tests, (claims h).one_gone i j c' a' b' e' li lj, (calls h).c_removes p c a e in_n, (calls h).c_leaving p c q a e in_n, (calls h).c_limbos p c q a e in_n, (calls h).calls p in_n, sections sh st h p in_n);
  claimed = λ c' s' is. grind (arith, nat_tests, (claims h).claimed c' s', (calls h).c_removes p c a e in_n, (calls h).c_leaving p c q a e in_n, (calls h).c_limbos p c q a e in_n, (calls h).calls p in_n, sections sh st h p in_n);
  taken = λ c' a' e' is. grind (arith, nat_tests, (claims h).taken c' a' e', (calls h).c_removes p c a e in_n, (calls h).c_leaving p c q a e in_n, (calls h).c_limbos p c q a e in_n, (calls h).calls p in_n, sections sh st h p in_n);
  removed = λ c' a' e' is. grind (arith, nat_tests, (claims h).removed c' a' e', (calls h).c_removes p c a e in_n, (calls h).c_leaving p c q a e in_n, (calls h).c_limbos p c q a e in_n, (calls h).calls p in_n, sections sh st h p in_n);
}

-- kind FreeEntry
pub free_entry : (sh : Layout) (st : S.State) (p : ℕ) (x : ℕ) (calm : Bool) (c : ℕ) (a : ℕ) (e : ℕ) (told : ℕ) → p < sh.passes → (st.stands p).section ≡ Inside x calm → (st.stands p).phase ≡ phase.Remove (remove.FreeEntry (object a e c)) → Shut sh st → Nothing sh st
    → ClaimsAgree sh (did sh st p Go (Inside x calm) (phase.Remove (remove.FreeEntry (object a e c))) told (Store (place.Entry c e) (word.Entry (state.Free a (x + 1)))))
free_entry sh st p x calm c a e told in_n at_sec at_call h _ = record {
  one_slot = λ i j c' s' li lj ei ej. grind (arith, nat_tests, (claims h).one_slot i j c' s' li lj, (calls h).c_removes p c a e in_n, (calls h).c_frees p c s' a e in_n, (calls h).calls p in_n, sections sh st h p in_n);
  one_entry = λ i j c' a' b' e' li lj ei ej. grind (arith, nat_tests, (claims h).one_entry i j c' a' b' e' li lj, (calls h).c_removes p c a e in_n, (calls h).calls p in_n, sections sh st h p in_n);
  one_gone = λ i j c' a' b' e' li lj ei ej. grind (arith, nat_tests, (claims h).one_gone i j c' a' b' e' li lj, (calls h).c_removes p c a e in_n, (calls h).calls p in_n, sections sh st h p in_n);
  claimed = λ c' s' is. grind (arith, nat_tests, (claims h).claimed c' s', (calls h).c_removes p c a e in_n, (calls h).c_frees p c s' a e in_n, (calls h).calls p in_n, sections sh st h p in_n);
  taken = λ c' a' e' is. grind (arith, nat_tests, (claims h).taken c' a' e', (calls h).c_removes p c a e in_n, (calls h).calls p in_n, sections sh st h p in_n);
  removed = λ c' a' e' is. grind (arith, nat_tests, (claims h).removed c' a' e', (calls h).c_removes p c a e in_n, (calls h).calls p in_n, sections sh st h p in_n);
}
