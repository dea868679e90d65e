-- Steps keep the agreement: uses, sections. Written by tools/laws.py.
use Rattle.std.proofs.Common.{◌≡◌, ℕ, ◌+◌, ◌<◌, Bool, inl, arith}
use Rattle.std.proofs.lemmas.Bool.Decides.{nat_tests}
use Rattle.smc_shape.specs.Layout.{Layout}
use Rattle.smc_shape.specs.declared.place.Place.TheVariants as place
use Rattle.smc_core.specs.declared.call.Call.TheVariants as call
use Rattle.smc_core.specs.declared.call.Choice.TheVariants.{Start, Go}
use Rattle.smc_core.specs.declared.op.Op.TheVariants.{Load, Store, Exchange}
use Rattle.smc_core.specs.declared.phase.Phase.TheVariants as phase
use Rattle.smc_core.specs.declared.section.Section.{Section}
use Rattle.smc_core.specs.declared.section.Section.TheVariants.{Outside, Loaded, Announced, Again, Lasting, Inside}
use Rattle.smc_core.specs.declared.word.Word.TheVariants as word
use Rattle.smc_rules.specs.State as S
use Rattle.smc_rules.specs.State.{put_stand}
use Rattle.smc_agreement.proofs.Whole.{Shut, calls, did, moved, sections}
use Rattle.smc_rules.specs.Memory.{apply, seen}
use Rattle.smc_inv_use.specs.Uses.{UsesAgree}
use Rattle.smc_inv_use.proofs.UseLaws.{kept_use}

-- kind LoadEpoch
pub enter : (sh : Layout) (st : S.State) (p : ℕ) (told : ℕ) → p < sh.passes → (st.stands p).section ≡ Outside → (st.stands p).phase ≡ phase.Idle → Shut sh st → UsesAgree sh st
    → UsesAgree sh (did sh st p (Start call.Enter) Outside phase.Idle told (Load place.Epoch))
enter sh st p told in_n at_sec at_call h r = record {
  u_slot = λ c' s' is. kept_use sh st.memory (apply (Load place.Epoch) st.memory) st.stands p (moved sh p (st.stands p) Outside phase.Idle (Start call.Enter) told (seen (Load place.Epoch) st.memory)) phase.Idle c' s' at_call (λ y0. let (a1, e1, y) = y0 in inl (a1, e1, y)) (λ y0. let (a1, e1, y) = y0 in (absurd (cc))) (λ y. (absurd (cc))) (r.u_slot c' s' is);
  u_named = λ i c' s' li is. grind (arith, nat_tests, r.u_named i c' s' li);
  u_moves = λ i c' s' t' a' e' li is nm inc. grind (arith, nat_tests, r.u_moves i c' s' t' a' e' li);
}

-- kind Announce
pub announce : (sh : Layout) (st : S.State) (p : ℕ) (v : ℕ) (told : ℕ) → p < sh.passes → (st.stands p).section ≡ Loaded v → (st.stands p).phase ≡ phase.Entering → Shut sh st → UsesAgree sh st
    → UsesAgree sh (did sh st p Go (Loaded v) phase.Entering told (Store (place.Section p) (word.Plain v)))
announce sh st p v told in_n at_sec at_call h r = record {
  u_slot = λ c' s' is. kept_use sh st.memory (apply (Store (place.Section p) (word.Plain v)) st.memory) st.stands p (moved sh p (st.stands p) (Loaded v) phase.Entering Go told (seen (Store (place.Section p) (word.Plain v)) st.memory)) phase.Entering c' s' at_call (λ y0. let (a1, e1, y) = y0 in inl (a1, e1, y)) (λ y0. let (a1, e1, y) = y0 in (absurd (cc))) (λ y. (absurd (cc))) (r.u_slot c' s' is);
  u_named = λ i c' s' li is. grind (arith, nat_tests, r.u_named i c' s' li, (calls h).calls p in_n, sections sh st h p in_n);
  u_moves = λ i c' s' t' a' e' li is nm inc. grind (arith, nat_tests, r.u_moves i c' s' t' a' e' li, (calls h).calls p in_n, sections sh st h p in_n);
}

-- kind LoadEpochAgain
pub again : (sh : Layout) (st : S.State) (p : ℕ) (v : ℕ) (told : ℕ) → p < sh.passes → (st.stands p).section ≡ Announced v → (st.stands p).phase ≡ phase.Entering → Shut sh st → UsesAgree sh st
    → UsesAgree sh (did sh st p Go (Announced v) phase.Entering told (Load place.Epoch))
again sh st p v told in_n at_sec at_call h r = record {
  u_slot = λ c' s' is. kept_use sh st.memory (apply (Load place.Epoch) st.memory) st.stands p (moved sh p (st.stands p) (Announced v) phase.Entering Go told (seen (Load place.Epoch) st.memory)) phase.Entering c' s' at_call (λ y0. let (a1, e1, y) = y0 in inl (a1, e1, y)) (λ y0. let (a1, e1, y) = y0 in (absurd (cc))) (λ y. (absurd (cc))) (r.u_slot c' s' is);
  u_named = λ i c' s' li is. grind (arith, nat_tests, r.u_named i c' s' li, (calls h).calls p in_n, sections sh st h p in_n);
  u_moves = λ i c' s' t' a' e' li is nm inc. grind (arith, nat_tests, r.u_moves i c' s' t' a' e' li, (calls h).calls p in_n, sections sh st h p in_n);
}

-- kind AnnounceAgain
pub lasting : (sh : Layout) (st : S.State) (p : ℕ) (v : ℕ) (z : ℕ) (told : ℕ) → p < sh.passes → (st.stands p).section ≡ Again v z → (st.stands p).phase ≡ phase.Entering → Shut sh st → UsesAgree sh st
    → UsesAgree sh (did sh st p Go (Again v z) phase.Entering told (Store (place.Section p) (word.Plain z)))
lasting sh st p v z told in_n at_sec at_call h r = record {
  u_slot = λ c' s' is. kept_use sh st.memory (apply (Store (place.Section p) (word.Plain z)) st.memory) st.stands p (moved sh p (st.stands p) (Again v z) phase.Entering Go told (seen (Store (place.Section p) (word.Plain z)) st.memory)) phase.Entering c' s' at_call (λ y0. let (a1, e1, y) = y0 in inl (a1, e1, y)) (λ y0. let (a1, e1, y) = y0 in (absurd (cc))) (λ y. (absurd (cc))) (r.u_slot c' s' is);
  u_named = λ i c' s' li is. grind (arith, nat_tests, r.u_named i c' s' li, (calls h).calls p in_n, sections sh st h p in_n);
  u_moves = λ i c' s' t' a' e' li is nm inc. grind (arith, nat_tests, r.u_moves i c' s' t' a' e' li, (calls h).calls p in_n, sections sh st h p in_n);
}

-- kind LoadRound
pub entered : (sh : Layout) (st : S.State) (p : ℕ) (z : ℕ) (told : ℕ) → p < sh.passes → (st.stands p).section ≡ Lasting z → (st.stands p).phase ≡ phase.Entering → Shut sh st → UsesAgree sh st
    → UsesAgree sh (did sh st p Go (Lasting z) phase.Entering told (Load place.Round))
entered sh st p z told in_n at_sec at_call h r = record {
  u_slot = λ c' s' is. kept_use sh st.memory (apply (Load place.Round) st.memory) st.stands p (moved sh p (st.stands p) (Lasting z) phase.Entering Go told (seen (Load place.Round) st.memory)) phase.Entering c' s' at_call (λ y0. let (a1, e1, y) = y0 in inl (a1, e1, y)) (λ y0. let (a1, e1, y) = y0 in (absurd (cc))) (λ y. (absurd (cc))) (r.u_slot c' s' is);
  u_named = λ i c' s' li is. grind (arith, nat_tests, r.u_named i c' s' li, (calls h).calls p in_n, sections sh st h p in_n);
  u_moves = λ i c' s' t' a' e' li is nm inc. grind (arith, nat_tests, r.u_moves i c' s' t' a' e' li, (calls h).calls p in_n, sections sh st h p in_n);
}

-- kind Leave
pub leave : (sh : Layout) (st : S.State) (p : ℕ) (x : ℕ) (calm : Bool) (told : ℕ) → p < sh.passes → (st.stands p).section ≡ Inside x calm → (st.stands p).phase ≡ phase.Idle → Shut sh st → UsesAgree sh st
    → UsesAgree sh (did sh st p (Start call.Leave) (Inside x calm) phase.Idle told (Store (place.Section p) (word.Plain 0)))
leave sh st p x calm told in_n at_sec at_call h r = record {
  u_slot = λ c' s' is. kept_use sh st.memory (apply (Store (place.Section p) (word.Plain 0)) st.memory) st.stands p (moved sh p (st.stands p) (Inside x calm) phase.Idle (Start call.Leave) told (seen (Store (place.Section p) (word.Plain 0)) st.memory)) phase.Idle c' s' at_call (λ y0. let (a1, e1, y) = y0 in inl (a1, e1, y)) (λ y0. let (a1, e1, y) = y0 in (absurd (cc))) (λ y. (absurd (cc))) (r.u_slot c' s' is);
  u_named = λ i c' s' li is. grind (arith, nat_tests, r.u_named i c' s' li, (calls h).calls p in_n, sections sh st h p in_n);
  u_moves = λ i c' s' t' a' e' li is nm inc. grind (arith, nat_tests, r.u_moves i c' s' t' a' e' li, (calls h).calls p in_n, sections sh st h p in_n);
}

-- kind StartAdvance
pub advance : (sh : Layout) (st : S.State) (p : ℕ) (told : ℕ) → p < sh.passes → (st.stands p).section ≡ Outside → (st.stands p).phase ≡ phase.Idle → Shut sh st → UsesAgree sh st
    → UsesAgree sh (did sh st p (Start call.Advance) Outside phase.Idle told (Load place.Epoch))
advance sh st p told in_n at_sec at_call h r = record {
  u_slot = λ c' s' is. kept_use sh st.memory (apply (Load place.Epoch) st.memory) st.stands p (moved sh p (st.stands p) Outside phase.Idle (Start call.Advance) told (seen (Load place.Epoch) st.memory)) phase.Idle c' s' at_call (λ y0. let (a1, e1, y) = y0 in inl (a1, e1, y)) (λ y0. let (a1, e1, y) = y0 in (absurd (cc))) (λ y. (absurd (cc))) (r.u_slot c' s' is);
  u_named = λ i c' s' li is. grind (arith, nat_tests, r.u_named i c' s' li);
  u_moves = λ i c' s' t' a' e' li is nm inc. grind (arith, nat_tests, r.u_moves i c' s' t' a' e' li);
}

-- kind LoadSection
pub advancing : (sh : Layout) (st : S.State) (p : ℕ) (sec : Section) (z : ℕ) (k : ℕ) (told : ℕ) → p < sh.passes → (st.stands p).section ≡ sec → (st.stands p).phase ≡ phase.Advancing z k → Shut sh st → UsesAgree sh st
    → UsesAgree sh (did sh st p Go sec (phase.Advancing z k) told (Load (place.Section k)))
advancing sh st p sec z k told in_n at_sec at_call h r = record {
  u_slot = λ c' s' is. kept_use sh st.memory (apply (Load (place.Section k)) st.memory) st.stands p (moved sh p (st.stands p) sec (phase.Advancing z k) Go told (seen (Load (place.Section k)) st.memory)) (phase.Advancing z k) c' s' at_call (λ y0. let (a1, e1, y) = y0 in inl (a1, e1, y)) (λ y0. let (a1, e1, y) = y0 in (absurd (cc))) (λ y. (absurd (cc))) (r.u_slot c' s' is);
  u_named = λ i c' s' li is. grind (arith, nat_tests, r.u_named i c' s' li, (calls h).calls p in_n, sections sh st h p in_n);
  u_moves = λ i c' s' t' a' e' li is nm inc. grind (arith, nat_tests, r.u_moves i c' s' t' a' e' li, (calls h).calls p in_n, sections sh st h p in_n);
}

-- kind AdvanceEpoch
pub ready : (sh : Layout) (st : S.State) (p : ℕ) (sec : Section) (z : ℕ) (told : ℕ) → p < sh.passes → (st.stands p).section ≡ sec → (st.stands p).phase ≡ phase.Ready z → Shut sh st → UsesAgree sh st
    → UsesAgree sh (did sh st p Go sec (phase.Ready z) told (Exchange place.Epoch (word.Plain z) (word.Plain (z + 1))))
ready sh st p sec z told in_n at_sec at_call h r = record {
  u_slot = λ c' s' is. kept_use sh st.memory (apply (Exchange place.Epoch (word.Plain z) (word.Plain (z + 1))) st.memory) st.stands p (moved sh p (st.stands p) sec (phase.Ready z) Go told (seen (Exchange place.Epoch (word.Plain z) (word.Plain (z + 1))) st.memory)) (phase.Ready z) c' s' at_call (λ y0. let (a1, e1, y) = y0 in inl (a1, e1, y)) (λ y0. let (a1, e1, y) = y0 in (absurd (cc))) (λ y. (absurd (cc))) (r.u_slot c' s' is);
  u_named = λ i c' s' li is. grind (arith, nat_tests, r.u_named i c' s' li, (calls h).calls p in_n, sections sh st h p in_n);
  u_moves = λ i c' s' t' a' e' li is nm inc. grind (arith, nat_tests, r.u_moves i c' s' t' a' e' li, (calls h).calls p in_n, sections sh st h p in_n);
}

-- kind LoadEpoch
pub note : (sh : Layout) (st : S.State) (p : ℕ) (told : ℕ) → p < sh.passes → (st.stands p).section ≡ Outside → (st.stands p).phase ≡ phase.Idle → Shut sh st → UsesAgree sh st
    → UsesAgree sh (did sh st p (Start call.Note) Outside phase.Idle told (Load place.Epoch))
note sh st p told in_n at_sec at_call h r = record {
  u_slot = λ c' s' is. kept_use sh st.memory (apply (Load place.Epoch) st.memory) st.stands p (moved sh p (st.stands p) Outside phase.Idle (Start call.Note) told (seen (Load place.Epoch) st.memory)) phase.Idle c' s' at_call (λ y0. let (a1, e1, y) = y0 in inl (a1, e1, y)) (λ y0. let (a1, e1, y) = y0 in (absurd (cc))) (λ y. (absurd (cc))) (r.u_slot c' s' is);
  u_named = λ i c' s' li is. grind (arith, nat_tests, r.u_named i c' s' li);
  u_moves = λ i c' s' t' a' e' li is nm inc. grind (arith, nat_tests, r.u_moves i c' s' t' a' e' li);
}

-- kind LoadEpoch
pub learn : (sh : Layout) (st : S.State) (p : ℕ) (k : ℕ) (z : ℕ) (told : ℕ) → p < sh.passes → (st.stands p).section ≡ Outside → (st.stands p).phase ≡ phase.Idle → Shut sh st → UsesAgree sh st
    → UsesAgree sh (did sh st p (Start (call.Learn k z)) Outside phase.Idle told (Load place.Epoch))
learn sh st p k z told in_n at_sec at_call h r = record {
  u_slot = λ c' s' is. kept_use sh st.memory (apply (Load place.Epoch) st.memory) st.stands p (moved sh p (st.stands p) Outside phase.Idle (Start (call.Learn k z)) told (seen (Load place.Epoch) st.memory)) phase.Idle c' s' at_call (λ y0. let (a1, e1, y) = y0 in inl (a1, e1, y)) (λ y0. let (a1, e1, y) = y0 in (absurd (cc))) (λ y. (absurd (cc))) (r.u_slot c' s' is);
  u_named = λ i c' s' li is. grind (arith, nat_tests, r.u_named i c' s' li);
  u_moves = λ i c' s' t' a' e' li is nm inc. grind (arith, nat_tests, r.u_moves i c' s' t' a' e' li);
}
