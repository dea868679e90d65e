-- Steps keep the agreement: claims, sections. Written by tools/laws.py.
use Rattle.std.proofs.Common.{◌≡◌, ℕ, ◌+◌, ◌<◌, Bool, arith}
use Rattle.std.proofs.lemmas.Bool.Decides.{nat_tests}
use Rattle.smc_shape.specs.Layout.{Layout}
use Rattle.smc_shape.specs.declared.place.Place.TheVariants as place
use Rattle.smc_core.specs.declared.call.Call.TheVariants as call
use Rattle.smc_core.specs.declared.call.Choice.TheVariants.{Start, Go}
use Rattle.smc_core.specs.declared.op.Op.TheVariants.{Load, Store, Exchange}
use Rattle.smc_core.specs.declared.phase.Phase.TheVariants as phase
use Rattle.smc_core.specs.declared.section.Section.{Section}
use Rattle.smc_core.specs.declared.section.Section.TheVariants.{Outside, Loaded, Announced, Again, Lasting, Inside}
use Rattle.smc_core.specs.declared.word.Word.TheVariants as word
use Rattle.smc_rules.specs.State as S
use Rattle.smc_rules.specs.State.{put_stand}
use Rattle.smc_agreement.specs.Kept.{Nothing}
use Rattle.smc_agreement.specs.Agreement.{ClaimsAgree}
use Rattle.smc_agreement.proofs.Whole.{Shut, calls, claims, did, sections}

-- kind LoadEpoch
pub enter : (sh : Layout) (st : S.State) (p : ℕ) (told : ℕ) → p < sh.passes → (st.stands p).section ≡ Outside → (st.stands p).phase ≡ phase.Idle → Shut sh st → Nothing sh st
    → ClaimsAgree sh (did sh st p (Start call.Enter) Outside phase.Idle told (Load place.Epoch))
enter sh st p told in_n at_sec at_call h _ = record {
  one_slot = λ i j c' s' li lj ei ej. grind (arith, nat_tests, (claims h).one_slot i j c' s' li lj);
  one_entry = λ i j c' a' b' e' li lj ei ej. grind (arith, nat_tests, (claims h).one_entry i j c' a' b' e' li lj);
  one_gone = λ i j c' a' b' e' li lj ei ej. grind (arith, nat_tests, (claims h).one_gone i j c' a' b' e' li lj);
  claimed = λ c' s' is. grind (arith, nat_tests, (claims h).claimed c' s');
  taken = λ c' a' e' is. grind (arith, nat_tests, (claims h).taken c' a' e');
  removed = λ c' a' e' is. grind (arith, nat_tests, (claims h).removed c' a' e');
}

-- kind Announce
pub announce : (sh : Layout) (st : S.State) (p : ℕ) (v : ℕ) (told : ℕ) → p < sh.passes → (st.stands p).section ≡ Loaded v → (st.stands p).phase ≡ phase.Entering → Shut sh st → Nothing sh st
    → ClaimsAgree sh (did sh st p Go (Loaded v) phase.Entering told (Store (place.Section p) (word.Plain v)))
announce sh st p v told in_n at_sec at_call h _ = record {
  one_slot = λ i j c' s' li lj ei ej. grind (arith, nat_tests, (claims h).one_slot i j c' s' li lj, (calls h).calls p in_n, sections sh st h p in_n);
  one_entry = λ i j c' a' b' e' li lj ei ej. grind (arith, nat_tests, (claims h).one_entry i j c' a' b' e' li lj, (calls h).calls p in_n, sections sh st h p in_n);
  one_gone = λ i j c' a' b' e' li lj ei ej. grind (arith, nat_tests, (claims h).one_gone i j c' a' b' e' li lj, (calls h).calls p in_n, sections sh st h p in_n);
  claimed = λ c' s' is. grind (arith, nat_tests, (claims h).claimed c' s', (calls h).calls p in_n, sections sh st h p in_n);
  taken = λ c' a' e' is. grind (arith, nat_tests, (claims h).taken c' a' e', (calls h).calls p in_n, sections sh st h p in_n);
  removed = λ c' a' e' is. grind (arith, nat_tests, (claims h).removed c' a' e', (calls h).calls p in_n, sections sh st h p in_n);
}

-- kind LoadEpochAgain
pub again : (sh : Layout) (st : S.State) (p : ℕ) (v : ℕ) (told : ℕ) → p < sh.passes → (st.stands p).section ≡ Announced v → (st.stands p).phase ≡ phase.Entering → Shut sh st → Nothing sh st
    → ClaimsAgree sh (did sh st p Go (Announced v) phase.Entering told (Load place.Epoch))
again sh st p v told in_n at_sec at_call h _ = record {
  one_slot = λ i j c' s' li lj ei ej. grind (arith, nat_tests, (claims h).one_slot i j c' s' li lj, (calls h).calls p in_n, sections sh st h p in_n);
  one_entry = λ i j c' a' b' e' li lj ei ej. grind (arith, nat_tests, (claims h).one_entry i j c' a' b' e' li lj, (calls h).calls p in_n, sections sh st h p in_n);
  one_gone = λ i j c' a' b' e' li lj ei ej. grind (arith, nat_tests, (claims h).one_gone i j c' a' b' e' li lj, (calls h).calls p in_n, sections sh st h p in_n);
  claimed = λ c' s' is. grind (arith, nat_tests, (claims h).claimed c' s', (calls h).calls p in_n, sections sh st h p in_n);
  taken = λ c' a' e' is. grind (arith, nat_tests, (claims h).taken c' a' e', (calls h).calls p in_n, sections sh st h p in_n);
  removed = λ c' a' e' is. grind (arith, nat_tests, (claims h).removed c' a' e', (calls h).calls p in_n, sections sh st h p in_n);
}

-- kind AnnounceAgain
pub lasting : (sh : Layout) (st : S.State) (p : ℕ) (v : ℕ) (z : ℕ) (told : ℕ) → p < sh.passes → (st.stands p).section ≡ Again v z → (st.stands p).phase ≡ phase.Entering → Shut sh st → Nothing sh st
    → ClaimsAgree sh (did sh st p Go (Again v z) phase.Entering told (Store (place.Section p) (word.Plain z)))
lasting sh st p v z told in_n at_sec at_call h _ = record {
  one_slot = λ i j c' s' li lj ei ej. grind (arith, nat_tests, (claims h).one_slot i j c' s' li lj, (calls h).calls p in_n, sections sh st h p in_n);
  one_entry = λ i j c' a' b' e' li lj ei ej. grind (arith, nat_tests, (claims h).one_entry i j c' a' b' e' li lj, (calls h).calls p in_n, sections sh st h p in_n);
  one_gone = λ i j c' a' b' e' li lj ei ej. grind (arith, nat_tests, (claims h).one_gone i j c' a' b' e' li lj, (calls h).calls p in_n, sections sh st h p in_n);
  claimed = λ c' s' is. grind (arith, nat_tests, (claims h).claimed c' s', (calls h).calls p in_n, sections sh st h p in_n);
  taken = λ c' a' e' is. grind (arith, nat_tests, (claims h).taken c' a' e', (calls h).calls p in_n, sections sh st h p in_n);
  removed = λ c' a' e' is. grind (arith, nat_tests, (claims h).removed c' a' e', (calls h).calls p in_n, sections sh st h p in_n);
}

-- kind LoadRound
pub entered : (sh : Layout) (st : S.State) (p : ℕ) (z : ℕ) (told : ℕ) → p < sh.passes → (st.stands p).section ≡ Lasting z → (st.stands p).phase ≡ phase.Entering → Shut sh st → Nothing sh st
    → ClaimsAgree sh (did sh st p Go (Lasting z) phase.Entering told (Load place.Round))
entered sh st p z told in_n at_sec at_call h _ = record {
  one_slot = λ i j c' s' li lj ei ej. grind (arith, nat_tests, (claims h).one_slot i j c' s' li lj, (calls h).calls p in_n, sections sh st h p in_n);
  one_entry = λ i j c' a' b' e' li lj ei ej. grind (arith, nat_tests, (claims h).one_entry i j c' a' b' e' li lj, (calls h).calls p in_n, sections sh st h p in_n);
  one_gone = λ i j c' a' b' e' li lj ei ej. grind (arith, nat_tests, (claims h).one_gone i j c' a' b' e' li lj, (calls h).calls p in_n, sections sh st h p in_n);
  claimed = λ c' s' is. grind (arith, nat_tests, (claims h).claimed c' s', (calls h).calls p in_n, sections sh st h p in_n);
  taken = λ c' a' e' is. grind (arith, nat_tests, (claims h).taken c' a' e', (calls h).calls p in_n, sections sh st h p in_n);
  removed = λ c' a' e' is. grind (arith, nat_tests, (claims h).removed c' a' e', (calls h).calls p in_n, sections sh st h p in_n);
}

-- kind Leave
pub leave : (sh : Layout) (st : S.State) (p : ℕ) (x : ℕ) (calm : Bool) (told : ℕ) → p < sh.passes → (st.stands p).section ≡ Inside x calm → (st.stands p).phase ≡ phase.Idle → Shut sh st → Nothing sh st
    → ClaimsAgree sh (did sh st p (Start call.Leave) (Inside x calm) phase.Idle told (Store (place.Section p) (word.Plain 0)))
leave sh st p x calm told in_n at_sec at_call h _ = record {
  one_slot = λ i j c' s' li lj ei ej. grind (arith, nat_tests, (claims h).one_slot i j c' s' li lj, (calls h).calls p in_n, sections sh st h p in_n);
  one_entry = λ i j c' a' b' e' li lj ei ej. grind (arith, nat_tests, (claims h).one_entry i j c' a' b' e' li lj, (calls h).calls p in_n, sections sh st h p in_n);
  one_gone = λ i j c' a' b' e' li lj ei ej. grind (arith, nat_tests, (claims h).one_gone i j c' a' b' e' li lj, (calls h).calls p in_n, sections sh st h p in_n);
  claimed = λ c' s' is. grind (arith, nat_tests, (claims h).claimed c' s', (calls h).calls p in_n, sections sh st h p in_n);
  taken = λ c' a' e' is. grind (arith, nat_tests, (claims h).taken c' a' e', (calls h).calls p in_n, sections sh st h p in_n);
  removed = λ c' a' e' is. grind (arith, nat_tests, (claims h).removed c' a' e', (calls h).calls p in_n, sections sh st h p in_n);
}

-- kind StartAdvance
pub advance : (sh : Layout) (st : S.State) (p : ℕ) (told : ℕ) → p < sh.passes → (st.stands p).section ≡ Outside → (st.stands p).phase ≡ phase.Idle → Shut sh st → Nothing sh st
    → ClaimsAgree sh (did sh st p (Start call.Advance) Outside phase.Idle told (Load place.Epoch))
advance sh st p told in_n at_sec at_call h _ = record {
  one_slot = λ i j c' s' li lj ei ej. grind (arith, nat_tests, (claims h).one_slot i j c' s' li lj);
  one_entry = λ i j c' a' b' e' li lj ei ej. grind (arith, nat_tests, (claims h).one_entry i j c' a' b' e' li lj);
  one_gone = λ i j c' a' b' e' li lj ei ej. grind (arith, nat_tests, (claims h).one_gone i j c' a' b' e' li lj);
  claimed = λ c' s' is. grind (arith, nat_tests, (claims h).claimed c' s');
  taken = λ c' a' e' is. grind (arith, nat_tests, (claims h).taken c' a' e');
  removed = λ c' a' e' is. grind (arith, nat_tests, (claims h).removed c' a' e');
}

-- kind LoadSection
pub advancing : (sh : Layout) (st : S.State) (p : ℕ) (sec : Section) (z : ℕ) (k : ℕ) (told : ℕ) → p < sh.passes → (st.stands p).section ≡ sec → (st.stands p).phase ≡ phase.Advancing z k → Shut sh st → Nothing sh st
    → ClaimsAgree sh (did sh st p Go sec (phase.Advancing z k) told (Load (place.Section k)))
advancing sh st p sec z k told in_n at_sec at_call h _ = record {
  one_slot = λ i j c' s' li lj ei ej. grind (arith, nat_tests, (claims h).one_slot i j c' s' li lj, (calls h).calls p in_n, sections sh st h p in_n);
  one_entry = λ i j c' a' b' e' li lj ei ej. grind (arith, nat_tests, (claims h).one_entry i j c' a' b' e' li lj, (calls h).calls p in_n, sections sh st h p in_n);
  one_gone = λ i j c' a' b' e' li lj ei ej. grind (arith, nat_tests, (claims h).one_gone i j c' a' b' e' li lj, (calls h).calls p in_n, sections sh st h p in_n);
  claimed = λ c' s' is. grind (arith, nat_tests, (claims h).claimed c' s', (calls h).calls p in_n, sections sh st h p in_n);
  taken = λ c' a' e' is. grind (arith, nat_tests, (claims h).taken c' a' e', (calls h).calls p in_n, sections sh st h p in_n);
  removed = λ c' a' e' is. grind (arith, nat_tests, (claims h).removed c' a' e', (calls h).calls p in_n, sections sh st h p in_n);
}

-- kind AdvanceEpoch
pub ready : (sh : Layout) (st : S.State) (p : ℕ) (sec : Section) (z : ℕ) (told : ℕ) → p < sh.passes → (st.stands p).section ≡ sec → (st.stands p).phase ≡ phase.Ready z → Shut sh st → Nothing sh st
    → ClaimsAgree sh (did sh st p Go sec (phase.Ready z) told (Exchange place.Epoch (word.Plain z) (word.Plain (z + 1))))
ready sh st p sec z told in_n at_sec at_call h _ = record {
  one_slot = λ i j c' s' li lj ei ej. grind (arith, nat_tests, (claims h).one_slot i j c' s' li lj, (calls h).calls p in_n, sections sh st h p in_n);
  one_entry = λ i j c' a' b' e' li lj ei ej. grind (arith, nat_tests, (claims h).one_entry i j c' a' b' e' li lj, (calls h).calls p in_n, sections sh st h p in_n);
  one_gone = λ i j c' a' b' e' li lj ei ej. grind (arith, nat_tests, (claims h).one_gone i j c' a' b' e' li lj, (calls h).calls p in_n, sections sh st h p in_n);
  claimed = λ c' s' is. grind (arith, nat_tests, (claims h).claimed c' s', (calls h).calls p in_n, sections sh st h p in_n);
  taken = λ c' a' e' is. grind (arith, nat_tests, (claims h).taken c' a' e', (calls h).calls p in_n, sections sh st h p in_n);
  removed = λ c' a' e' is. grind (arith, nat_tests, (claims h).removed c' a' e', (calls h).calls p in_n, sections sh st h p in_n);
}

-- kind LoadEpoch
pub note : (sh : Layout) (st : S.State) (p : ℕ) (told : ℕ) → p < sh.passes → (st.stands p).section ≡ Outside → (st.stands p).phase ≡ phase.Idle → Shut sh st → Nothing sh st
    → ClaimsAgree sh (did sh st p (Start call.Note) Outside phase.Idle told (Load place.Epoch))
note sh st p told in_n at_sec at_call h _ = record {
  one_slot = λ i j c' s' li lj ei ej. grind (arith, nat_tests, (claims h).one_slot i j c' s' li lj);
  one_entry = λ i j c' a' b' e' li lj ei ej. grind (arith, nat_tests, (claims h).one_entry i j c' a' b' e' li lj);
  one_gone = λ i j c' a' b' e' li lj ei ej. grind (arith, nat_tests, (claims h).one_gone i j c' a' b' e' li lj);
  claimed = λ c' s' is. grind (arith, nat_tests, (claims h).claimed c' s');
  taken = λ c' a' e' is. grind (arith, nat_tests, (claims h).taken c' a' e');
  removed = λ c' a' e' is. grind (arith, nat_tests, (claims h).removed c' a' e');
}

-- kind LoadEpoch
pub learn : (sh : Layout) (st : S.State) (p : ℕ) (k : ℕ) (z : ℕ) (told : ℕ) → p < sh.passes → (st.stands p).section ≡ Outside → (st.stands p).phase ≡ phase.Idle → Shut sh st → Nothing sh st
    → ClaimsAgree sh (did sh st p (Start (call.Learn k z)) Outside phase.Idle told (Load place.Epoch))
learn sh st p k z told in_n at_sec at_call h _ = record {
  one_slot = λ i j c' s' li lj ei ej. grind (arith, nat_tests, (claims h).one_slot i j c' s' li lj);
  one_entry = λ i j c' a' b' e' li lj ei ej. grind (arith, nat_tests, (claims h).one_entry i j c' a' b' e' li lj);
  one_gone = λ i j c' a' b' e' li lj ei ej. grind (arith, nat_tests, (claims h).one_gone i j c' a' b' e' li lj);
  claimed = λ c' s' is. grind (arith, nat_tests, (claims h).claimed c' s');
  taken = λ c' a' e' is. grind (arith, nat_tests, (claims h).taken c' a' e');
  removed = λ c' a' e' is. grind (arith, nat_tests, (claims h).removed c' a' e');
}
