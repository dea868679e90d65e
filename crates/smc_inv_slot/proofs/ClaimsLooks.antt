-- Steps keep the agreement: claims, looks. Written by tools/laws.py.
use Rattle.std.proofs.Common.{◌≡◌, ℕ, ◌<◌, Bool, true, false, arith}
use Rattle.std.proofs.lemmas.Bool.Decides.{nat_tests}
use Rattle.smc_shape.specs.Layout.{Layout}
use Rattle.smc_shape.specs.declared.place.Place.TheVariants as place
use Rattle.smc_core.specs.declared.call.Call.TheVariants as call
use Rattle.smc_core.specs.declared.call.Choice.TheVariants.{Start, Go}
use Rattle.smc_core.specs.declared.op.Op.TheVariants.{Load, Exchange}
use Rattle.smc_core.specs.declared.phase.Phase.TheVariants as phase
use Rattle.smc_core.specs.declared.phase.objects.LookPhase.TheVariants as look
use Rattle.smc_core.specs.declared.phase.objects.Seeker.{Seeker}
use Rattle.smc_core.specs.declared.section.Section.TheVariants.{Inside}
use Rattle.smc_core.specs.declared.word.State.TheVariants as state
use Rattle.smc_core.specs.declared.word.Word.TheVariants as word
use Rattle.smc_core.specs.Row.{has_place}
use Rattle.smc_rules.specs.Reads.{object}
use Rattle.smc_rules.specs.State as S
use Rattle.smc_rules.specs.State.{put_stand}
use Rattle.smc_agreement.specs.Kept.{Nothing}
use Rattle.smc_agreement.specs.Agreement.{ClaimsAgree}
use Rattle.smc_agreement.proofs.Whole.{Shut, calls, claims, did, sections}

-- kind LookUp
pub starts_look : (sh : Layout) (st : S.State) (p : ℕ) (x : ℕ) (calm : Bool) (c : ℕ) (a : ℕ) (e : ℕ) (told : ℕ) → p < sh.passes → (st.stands p).section ≡ Inside x calm → (st.stands p).phase ≡ phase.Idle → has_place sh (place.Entry c e) ≡ true → Shut sh st → Nothing sh st
    → ClaimsAgree sh (did sh st p (Start (call.Look (object a e c))) (Inside x calm) phase.Idle told (Load (place.Entry c e)))
starts_look sh st p x calm c a e told in_n at_sec at_call pre1 h _ = record {
  one_slot = λ i j c' s' li lj ei ej. grind (arith, nat_tests, (claims h).one_slot i j c' s' li lj, (calls h).calls p in_n, sections sh st h p in_n);
  one_entry = λ i j c' a' b' e' li lj ei ej. grind (arith, nat_tests, (claims h).one_entry i j c' a' b' e' li lj, (calls h).calls p in_n, sections sh st h p in_n);
  one_gone = λ i j c' a' b' e' li lj ei ej. grind (arith, nat_tests, (claims h).one_gone i j c' a' b' e' li lj, (calls h).calls p in_n, sections sh st h p in_n);
  claimed = λ c' s' is. grind (arith, nat_tests, (claims h).claimed c' s', (calls h).calls p in_n, sections sh st h p in_n);
  taken = λ c' a' e' is. grind (arith, nat_tests, (claims h).taken c' a' e', (calls h).calls p in_n, sections sh st h p in_n);
  removed = λ c' a' e' is. grind (arith, nat_tests, (claims h).removed c' a' e', (calls h).calls p in_n, sections sh st h p in_n);
}

-- kind LoadSection
pub look_out : (sh : Layout) (st : S.State) (p : ℕ) (x : ℕ) (calm : Bool) (c : ℕ) (a : ℕ) (e : ℕ) (told : ℕ) → p < sh.passes → (st.stands p).section ≡ Inside x calm → (st.stands p).phase ≡ phase.Idle → has_place sh (place.Entry c e) ≡ false → Shut sh st → Nothing sh st
    → ClaimsAgree sh (did sh st p (Start (call.Look (object a e c))) (Inside x calm) phase.Idle told (Load (place.Section p)))
look_out sh st p x calm c a e told in_n at_sec at_call pre1 h _ = record {
  one_slot = λ i j c' s' li lj ei ej. grind (arith, nat_tests, (claims h).one_slot i j c' s' li lj, (calls h).calls p in_n, sections sh st h p in_n);
  one_entry = λ i j c' a' b' e' li lj ei ej. grind (arith, nat_tests, (claims h).one_entry i j c' a' b' e' li lj, (calls h).calls p in_n, sections sh st h p in_n);
  one_gone = λ i j c' a' b' e' li lj ei ej. grind (arith, nat_tests, (claims h).one_gone i j c' a' b' e' li lj, (calls h).calls p in_n, sections sh st h p in_n);
  claimed = λ c' s' is. grind (arith, nat_tests, (claims h).claimed c' s', (calls h).calls p in_n, sections sh st h p in_n);
  taken = λ c' a' e' is. grind (arith, nat_tests, (claims h).taken c' a' e', (calls h).calls p in_n, sections sh st h p in_n);
  removed = λ c' a' e' is. grind (arith, nat_tests, (claims h).removed c' a' e', (calls h).calls p in_n, sections sh st h p in_n);
}

-- kind LookUp
pub look_load : (sh : Layout) (st : S.State) (p : ℕ) (x : ℕ) (calm : Bool) (who : Seeker) (c : ℕ) (a : ℕ) (e : ℕ) (told : ℕ) → p < sh.passes → (st.stands p).section ≡ Inside x calm → (st.stands p).phase ≡ phase.Look (look.Load who (object a e c)) → Shut sh st → Nothing sh st
    → ClaimsAgree sh (did sh st p Go (Inside x calm) (phase.Look (look.Load who (object a e c))) told (Load (place.Entry c e)))
look_load sh st p x calm who c a e told in_n at_sec at_call h _ = record {
  one_slot = λ i j c' s' li lj ei ej. grind (arith, nat_tests, (claims h).one_slot i j c' s' li lj, (calls h).calls p in_n, sections sh st h p in_n);
  one_entry = λ i j c' a' b' e' li lj ei ej. grind (arith, nat_tests, (claims h).one_entry i j c' a' b' e' li lj, (calls h).calls p in_n, sections sh st h p in_n);
  one_gone = λ i j c' a' b' e' li lj ei ej. grind (arith, nat_tests, (claims h).one_gone i j c' a' b' e' li lj, (calls h).calls p in_n, sections sh st h p in_n);
  claimed = λ c' s' is. grind (arith, nat_tests, (claims h).claimed c' s', (calls h).calls p in_n, sections sh st h p in_n);
  taken = λ c' a' e' is. grind (arith, nat_tests, (claims h).taken c' a' e', (calls h).calls p in_n, sections sh st h p in_n);
  removed = λ c' a' e' is. grind (arith, nat_tests, (claims h).removed c' a' e', (calls h).calls p in_n, sections sh st h p in_n);
}

-- kind Unfreeze
pub abandon : (sh : Layout) (st : S.State) (p : ℕ) (x : ℕ) (calm : Bool) (who : Seeker) (c : ℕ) (a : ℕ) (e : ℕ) (q : ℕ) (told : ℕ) → p < sh.passes → (st.stands p).section ≡ Inside x calm → (st.stands p).phase ≡ phase.Look (look.Abandon who (object a e c) q) → Shut sh st → Nothing sh st
    → ClaimsAgree sh (did sh st p Go (Inside x calm) (phase.Look (look.Abandon who (object a e c) q)) told (Exchange (place.Entry c e) (word.Entry (state.Frozen a q)) (word.Entry (state.Present a q))))
abandon sh st p x calm who c a e q told in_n at_sec at_call h _ = record {
  one_slot = λ i j c' s' li lj ei ej. grind (arith, nat_tests, (claims h).one_slot i j c' s' li lj, (calls h).calls p in_n, sections sh st h p in_n);
  one_entry = λ i j c' a' b' e' li lj ei ej. grind (arith, nat_tests, (claims h).one_entry i j c' a' b' e' li lj, (calls h).calls p in_n, sections sh st h p in_n);
  one_gone = λ i j c' a' b' e' li lj ei ej. grind (arith, nat_tests, (claims h).one_gone i j c' a' b' e' li lj, (calls h).calls p in_n, sections sh st h p in_n);
  claimed = λ c' s' is. grind (arith, nat_tests, (claims h).claimed c' s', (calls h).calls p in_n, sections sh st h p in_n);
  taken = λ c' a' e' is. grind (arith, nat_tests, (claims h).taken c' a' e', (calls h).calls p in_n, sections sh st h p in_n);
  removed = λ c' a' e' is. grind (arith, nat_tests, (claims h).removed c' a' e', (calls h).calls p in_n, sections sh st h p in_n);
}
