-- A begin finds nothing to do, or leaves each object above the kept slots frozen.
use Rattle.std.proofs.Common.{◌≡◌, ℕ, Bool, true, false, Option, Some, None, refl, sym, subst, arith}
use Rattle.std.specs.Prelude.{nat_lt, IfSome, length}
use Rattle.smc_words.specs.declared.round.RoundWord.{RoundWord}
use Rattle.std.proofs.lemmas.Bool.Decides.{nat_tests}
use Rattle.smc_shape.specs.Layout.{Layout, IsShape}
use Rattle.smc_shape.specs.declared.place.Place.TheVariants as place
use Rattle.smc_model.specs.World.{World}
use Rattle.smc_core.specs.declared.call.Call.TheVariants as call
use Rattle.smc_core.specs.declared.call.Choice.TheVariants.{Start, Go}
use Rattle.smc_core.specs.declared.local.Opening.{Opening}
use Rattle.smc_core.specs.declared.local.Owned.{Owned}
use Rattle.smc_core.specs.declared.phase.Phase.TheVariants as phase
use Rattle.smc_core.specs.declared.phase.moves.BeginPhase.{BeginPhase}
use Rattle.smc_core.specs.declared.phase.moves.BeginPhase.TheVariants as begin
use Rattle.smc_core.specs.declared.phase.moves.CountPhase.TheVariants as walk
use Rattle.smc_core.specs.declared.section.Section.{Section}
use Rattle.smc_core.specs.declared.section.Section.TheVariants.{Inside}
use Rattle.smc_core.specs.declared.word.Word.{Word}
use Rattle.smc_core.specs.Begin.{begin_change, begin_offer, round_offer, round_seen}
use Rattle.smc_core.specs.Section.{epoch_of}
use Rattle.smc_core.specs.Local.{round_begun}
use Rattle.smc_core.specs.Step.{when}
use Rattle.smc_core.specs.Words.{round_of}
use Rattle.smc_rules.specs.Memory.{Memory, apply, seen}
use Rattle.smc_rules.specs.Reads.{round_in}
use Rattle.smc_aside.proofs.Runs.{IsKeptBy, Carries}
use Rattle.smc_aside.proofs.Waiting.{AfterChange}
use Rattle.smc_agreement.proofs.CrossLaws.{below}
use Rattle.smc_agreement.proofs.Whole.{shut}
use Rattle.smc_census.specs.Census.{is_home}
use Rattle.smc_census.proofs.Always.{slots-whole}
use Rattle.smc_census.proofs.WalkLaws.{counts-none}
use Rattle.smc_packing.proofs.Known.{Known}
use Rattle.smc_packing.proofs.Sources as sources
use Rattle.smc_packing.proofs.Targets as targets
use Rattle.smc_packing.proofs.Walks.{Beginning, begin-stable, begin-idle}

module _ (opening : Opening) (shape : Layout) (valid : IsShape shape) (coll epoch many : ℕ) (w0 : World) (pass : ℕ) where
  -- the round word is exchanged, and the count begins
  begin-starts : IsKeptBy (Beginning shape coll epoch many w0) (Known opening shape) shape pass (Start (call.Begin coll))
  begin-starts s e aside within (Inside x calm) owned phase.Idle at_sec at_round at_call p = may (nat_lt coll (length shape.colls)) refl
    where
      counts : (round : Option RoundWord) → nat_lt coll (length shape.colls) ≡ true → (owned : Option Owned) → AfterChange (Beginning shape coll epoch many w0) (apply (round_offer pass x coll).op s.memory) s.world (Inside x calm) owned (round_seen coll round)
      counts (Some round) t owned = record { in_world = p.in_world; at_epoch = p.at_epoch; part = (refl, tt) }
      counts None t owned = record {
        in_world = p.in_world;
        at_epoch = p.at_epoch;
        part = record {
          rested = record { valid_home = p.part.valid_home; home_valid = p.part.home_valid; ripe = p.part.ripe; present = p.part.present };
          of_it = refl;
          within = (valid.coll coll (grind (arith, nat_tests, t))).some_slots;
          counted = counts-none (is_home s.memory coll);
        };
      }

      may : (b : Bool) → nat_lt coll (length shape.colls) ≡ b → IfSome (when b (round_offer pass x coll)) (λ o. (told : ℕ)
          → AfterChange (Beginning shape coll epoch many w0) (apply o.op s.memory) s.world (Inside x calm) (round_begun x coll (round_of (seen o.op s.memory)) owned) (round_seen coll (round_of (seen o.op s.memory))))
      may true t = λ told. counts (round_in s.memory) t (round_begun x coll (round_in s.memory) owned)
      may false n = tt
  begin-starts s e aside within section owned phase.Idle at_sec at_round at_call p = tt
  begin-starts s e aside within section owned next at_sec at_round at_call p = tt

  -- a step of a begin, at the section's epoch, in the world of before
  lift : (memory : Memory) (world : World) (section : Section) (owned : Option Owned) (next : BeginPhase) (w : Word) → world ≡ w0 → epoch_of section ≡ epoch
      → AfterChange (Beginning shape coll epoch many w0) memory w0 section owned (begin_change shape epoch next w)
      → AfterChange (Beginning shape coll epoch many w0) memory world section owned (begin_change shape (epoch_of section) next w)
  lift memory world section owned next w same at holds =
      subst (λ (z : World). AfterChange (Beginning shape coll epoch many w0) memory z section owned (begin_change shape (epoch_of section) next w)) (sym same)
      (subst (λ (x : ℕ). AfterChange (Beginning shape coll epoch many w0) memory w0 section owned (begin_change shape x next w)) (sym at) holds)

  begin-goes : IsKeptBy (Beginning shape coll epoch many w0) (Known opening shape) shape pass Go
  begin-goes s e aside within section owned phase.Idle at_sec at_round at_call p = tt
  begin-goes s e aside within section owned (phase.Begin (begin.Count (walk.Directory of slot count))) at_sec at_round at_call p = λ told.
      lift s.memory s.world section owned (begin.Count (walk.Directory of slot count)) (s.memory (place.Directory of slot)) p.in_world p.at_epoch
      (sources.count-directory opening shape coll epoch many w0 (slots-whole shape coll valid) s e.all pass within section owned p.at_epoch of slot count p.part)
  begin-goes s e aside within section owned (phase.Begin (begin.Count (walk.Back of slot count))) at_sec at_round at_call p = λ told.
      lift s.memory s.world section owned (begin.Count (walk.Back of slot count)) (s.memory (place.Back of slot)) p.in_world p.at_epoch
      (sources.count-back opening shape coll epoch many w0 (slots-whole shape coll valid) s e.all pass within section owned p.at_epoch of slot count p.part)
  begin-goes s e aside within section owned (phase.Begin (begin.Count (walk.Entry of slot count number))) at_sec at_round at_call p = λ told.
      lift s.memory s.world section owned (begin.Count (walk.Entry of slot count number)) (s.memory (place.Entry number.coll number.entry)) p.in_world p.at_epoch
      (sources.count-entry opening shape coll epoch many w0 (slots-whole shape coll valid) s e.all pass within section owned p.at_epoch of slot count p.part.0 number p.part.1)
  begin-goes s e aside within section owned (phase.Begin (begin.Nothing of)) at_sec at_round at_call p = λ told. record { in_world = p.in_world; at_epoch = p.at_epoch; part = (refl, (p.part.0, p.part.1, refl)) }
  begin-goes s e aside within section owned (phase.Begin (begin.SourceDirectory moves)) at_sec at_round at_call p = λ told.
      let where_it_is = below shape s (shut e.all.whole) pass within (begin.SourceDirectory moves) at_call in
      lift s.memory s.world section owned (begin.SourceDirectory moves) (s.memory (place.Directory moves.coll moves.source)) p.in_world p.at_epoch
      (sources.source-directory opening shape coll epoch many w0 (slots-whole shape coll valid) s e.all pass within section owned p.at_epoch moves p.part.0 p.part.1 where_it_is.0)
  begin-goes s e aside within section owned (phase.Begin (begin.SourceBack moves)) at_sec at_round at_call p = λ told.
      let where_it_is = below shape s (shut e.all.whole) pass within (begin.SourceBack moves) at_call in
      lift s.memory s.world section owned (begin.SourceBack moves) (s.memory (place.Back moves.coll moves.source)) p.in_world p.at_epoch
      (sources.source-back opening shape coll epoch many w0 (slots-whole shape coll valid) s e.all pass within section owned p.at_epoch moves p.part.0 p.part.1 where_it_is.0 where_it_is.1 p.part.2)
  begin-goes s e aside within section owned (phase.Begin (begin.SourceEntry moves number)) at_sec at_round at_call p = λ told.
      let where_it_is = below shape s (shut e.all.whole) pass within (begin.SourceEntry moves number) at_call in
      lift s.memory s.world section owned (begin.SourceEntry moves number) (s.memory (place.Entry number.coll number.entry)) p.in_world p.at_epoch
      (sources.source-entry opening shape coll epoch many w0 (slots-whole shape coll valid) s e.all pass within section owned p.at_epoch moves p.part.0 p.part.1 where_it_is.0 number where_it_is.1 p.part.2 p.part.3 p.part.4)
  begin-goes s e aside within section owned (phase.Begin (begin.TargetDirectory moves number)) at_sec at_round at_call p = λ told.
      let at = below shape s (shut e.all.whole) pass within (begin.TargetDirectory moves number) at_call in
      lift s.memory s.world section owned (begin.TargetDirectory moves number) (s.memory (place.Directory moves.coll moves.target)) p.in_world p.at_epoch
      (targets.target-directory opening shape coll epoch many w0 s e.all section owned p.at_epoch moves number p.part.0 p.part.1 at.1 at.0 at.2 p.part.2)
  begin-goes s e aside within section owned (phase.Begin (begin.ClaimTarget moves number d)) at_sec at_round at_call p = λ told.
      let at = below shape s (shut e.all.whole) pass within (begin.ClaimTarget moves number d) at_call in
      lift (apply (begin_offer epoch (begin.ClaimTarget moves number d)).op s.memory) s.world section owned (begin.ClaimTarget moves number d) (s.memory (place.Directory moves.coll moves.target)) p.in_world p.at_epoch
      (targets.claim-target opening shape coll epoch many w0 s e.all section owned p.at_epoch moves number p.part.0 p.part.1 at.1 at.0 at.2 d p.part.2 p.part.3 p.part.4)
  begin-goes s e aside within section owned (phase.Begin (begin.BlankField moves number field)) at_sec at_round at_call p = λ told.
      let at = below shape s (shut e.all.whole) pass within (begin.BlankField moves number field) at_call in
      lift (apply (begin_offer epoch (begin.BlankField moves number field)).op s.memory) s.world section owned (begin.BlankField moves number field) (seen (begin_offer epoch (begin.BlankField moves number field)).op s.memory) p.in_world p.at_epoch
      (targets.blank-field opening shape coll epoch many w0 s e.all section owned p.at_epoch moves number p.part.0 p.part.1 at.1 at.0 at.2 p.part.2 field)
  begin-goes s e aside within section owned (phase.Begin (begin.StoreBack moves number)) at_sec at_round at_call p = λ told.
      let at = below shape s (shut e.all.whole) pass within (begin.StoreBack moves number) at_call in
      lift (apply (begin_offer epoch (begin.StoreBack moves number)).op s.memory) s.world section owned (begin.StoreBack moves number) (seen (begin_offer epoch (begin.StoreBack moves number)).op s.memory) p.in_world p.at_epoch
      (targets.store-back opening shape coll epoch many w0 s e.all section owned p.at_epoch moves number p.part.0 p.part.1 at.1 at.0 at.2 p.part.2)
  begin-goes s e aside within section owned (phase.Begin (begin.StoreForward moves number)) at_sec at_round at_call p = λ told.
      let at = below shape s (shut e.all.whole) pass within (begin.StoreForward moves number) at_call in
      lift (apply (begin_offer epoch (begin.StoreForward moves number)).op s.memory) s.world section owned (begin.StoreForward moves number) (seen (begin_offer epoch (begin.StoreForward moves number)).op s.memory) p.in_world p.at_epoch
      (targets.store-forward opening shape coll epoch many w0 s e.all section owned p.at_epoch moves number p.part.0 p.part.1 at.1 at.0 at.2 p.part.2)
  begin-goes s e aside within section owned (phase.Begin (begin.StoreIncoming moves number)) at_sec at_round at_call p = λ told.
      let at = below shape s (shut e.all.whole) pass within (begin.StoreIncoming moves number) at_call in
      lift (apply (begin_offer epoch (begin.StoreIncoming moves number)).op s.memory) s.world section owned (begin.StoreIncoming moves number) (seen (begin_offer epoch (begin.StoreIncoming moves number)).op s.memory) p.in_world p.at_epoch
      (targets.store-incoming opening shape coll epoch many w0 s e.all section owned p.at_epoch moves number p.part.0 p.part.1 at.1 at.0 at.2 p.part.2)
  begin-goes s e aside within section owned (phase.Begin (begin.Freeze moves number)) at_sec at_round at_call p = λ told.
      let at = below shape s (shut e.all.whole) pass within (begin.Freeze moves number) at_call in
      lift (apply (begin_offer epoch (begin.Freeze moves number)).op s.memory) s.world section owned (begin.Freeze moves number) (seen (begin_offer epoch (begin.Freeze moves number)).op s.memory) p.in_world p.at_epoch
      (targets.freeze opening shape coll epoch many w0 s e.all section owned p.at_epoch moves number p.part.0 p.part.1 at.1 at.0 at.2 p.part.2)
  begin-goes s e aside within section owned next at_sec at_round at_call p = absurd p.part

  pub begin-carries : Carries (Beginning shape coll epoch many w0) (Known opening shape) shape pass (call.Begin coll)
  begin-carries = record { stable = begin-stable shape coll epoch many w0; idle = begin-idle shape coll epoch many w0; starts = begin-starts; goes = begin-goes }
