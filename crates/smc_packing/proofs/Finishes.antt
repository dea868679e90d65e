-- A finish brings no object above the kept slots, and leaves none frozen or locked.
use Rattle.std.proofs.Common.{◌≡◌, ℕ, ◌<◌, Bool, true, false, Option, Some, None, refl, sym, ap, ◌∙◌, subst, arith}
use Rattle.std.specs.Prelude.{IfSome, if◌then◌else◌}
use Rattle.std.proofs.lemmas.Bool.Decides.{nat_tests}
use Rattle.smc_words.specs.declared.dir.Dir.TheVariants as dir
use Rattle.smc_words.specs.declared.number.Number.{Number}
use Rattle.smc_shape.specs.Layout.{Layout}
use Rattle.smc_shape.specs.declared.place.Place.TheVariants as place
use Rattle.smc_model.specs.World.{World}
use Rattle.smc_core.specs.declared.call.Call.TheVariants as call
use Rattle.smc_core.specs.declared.call.Choice.TheVariants.{Start, Go}
use Rattle.smc_core.specs.declared.done.Done.{Done}
use Rattle.smc_core.specs.declared.done.Done.TheVariants as done
use Rattle.smc_core.specs.declared.kind.Kind.TheVariants as kind
use Rattle.smc_core.specs.declared.local.Opening.{Opening}
use Rattle.smc_core.specs.declared.local.Owned.{Owned}
use Rattle.smc_core.specs.declared.op.Op.TheVariants.{Load, Exchange}
use Rattle.smc_core.specs.declared.phase.Phase.{Phase}
use Rattle.smc_core.specs.declared.phase.Phase.TheVariants as phase
use Rattle.smc_core.specs.declared.phase.moves.FinishPhase.TheVariants as finish
use Rattle.smc_core.specs.declared.phase.moves.Targets.{Targets}
use Rattle.smc_core.specs.declared.phase.objects.CopyPhase.TheVariants as copy
use Rattle.smc_core.specs.declared.section.Section.{Section}
use Rattle.smc_core.specs.declared.section.Section.TheVariants.{Inside}
use Rattle.smc_core.specs.declared.word.State.TheVariants as state
use Rattle.smc_core.specs.declared.word.Word.TheVariants as word
use Rattle.smc_core.specs.Change.{finish_owned}
use Rattle.smc_core.specs.Finish.{is_early, finish_start, finish_change, finish_offer, first_target}
use Rattle.smc_core.specs.Offer.{when_owned}
use Rattle.smc_core.specs.Step.{step, ends}
use Rattle.smc_core.specs.Words.{dir_of, state_of}
use Rattle.smc_rules.specs.Calls.{copying_of}
use Rattle.smc_rules.specs.Memory.{Memory, apply, seen}
use Rattle.smc_rules.specs.Reads.{round_in, state_in, dir_in}
use Rattle.smc_rules.specs.State as S
use Rattle.smc_aside.proofs.Runs.{IsStable, IsKeptBy, Carries}
use Rattle.smc_aside.proofs.Stillness.{Still}
use Rattle.smc_aside.proofs.Waiting.{AfterChange}
use Rattle.smc_laws.proofs.Everything.{Everything}
use Rattle.smc_packing.proofs.Known.{Known}

-- each present object of the collection without a mark is in a kept slot
abbrev pub AreLow : ℕ → ℕ → Memory → Type 0
AreLow coll kept memory = (a e slot : ℕ) → state_in memory coll e ≡ state.Present a slot → slot < kept

-- each slot of it to which an object is to move is a kept one
abbrev pub TargetsAreLow : ℕ → ℕ → Memory → Type 0
TargetsAreLow coll kept memory = (slot : ℕ) → dir_in memory coll slot ≡ dir.Incoming → slot < kept

-- so they are where nothing but the epoch and section words has changed
pub low-still : (coll kept : ℕ) (before after : Memory) → Still before after → AreLow coll kept before → AreLow coll kept after
low-still coll kept before after still low a e slot is = low a e slot (sym (ap state_of (still (place.Entry coll e) refl)) ∙ is)

pub targets-still : (coll kept : ℕ) (before after : Memory) → Still before after → TargetsAreLow coll kept before → TargetsAreLow coll kept after
targets-still coll kept before after still low slot is = low slot (sym (ap dir_of (still (place.Directory coll slot) refl)) ∙ is)

-- how far a finish has come: once it has finished the round, there is none
abbrev FinishPart : Memory → Phase → Option Done → Type 0
FinishPart memory phase.Idle None = Unit {0}
FinishPart memory (phase.Finish next) None = Unit {0}
FinishPart memory phase.Idle (Some (done.Finished moved abandoned gone)) = round_in memory ≡ None
FinishPart memory phase.Idle (Some answer) = Unit {0}
FinishPart memory _ _ = ⊥

module _ (coll kept : ℕ) (w0 : World) where
  pub record Finishing (memory : Memory) (world : World) (section : Section) (owned : Option Owned) (next : Phase) (answer : Option Done) : Type 0 where
    pub low : AreLow coll kept memory
    pub targets : TargetsAreLow coll kept memory
    pub in_world : world ≡ w0
    pub part : FinishPart memory next answer

  finish-stable : IsStable Finishing
  finish-stable memory (Load here) world section owned next answer quiet p = p
  finish-stable memory (Exchange place.Epoch (word.Plain from) (word.Plain to)) world section owned next answer quiet p = record {
    low = p.low;
    targets = p.targets;
    in_world = p.in_world;
    part = part next answer p.part;
  }
    where
      part : (next : Phase) (answer : Option Done) → FinishPart memory next answer → FinishPart (apply (Exchange place.Epoch (word.Plain from) (word.Plain to)) memory) next answer
      part phase.Idle None k = tt
      part (phase.Finish y) None k = tt
      part phase.Idle (Some (done.Finished moved abandoned gone)) k = k
      part phase.Idle (Some answer) k = tt
      part next answer k = absurd k
  finish-stable memory op world section owned next answer quiet p = absurd quiet

  finish-idle : (memory : Memory) (world : World) (section : Section) (owned : Option Owned) (next : Phase) (answer : Done) → Finishing memory world section owned next (Some answer) → next ≡ phase.Idle
  finish-idle memory world section owned next answer p = go next p.part
    where
      go : (next : Phase) → FinishPart memory next (Some answer) → next ≡ phase.Idle
      go phase.Idle k = refl
      go next k = absurd k

  module _ (opening : Opening) (shape : Layout) (pass : ℕ) where
    finish-starts : IsKeptBy Finishing (Known opening shape) shape pass (Start call.Finish)
    finish-starts s e aside within (Inside x calm) owned phase.Idle at_sec at_round at_call p = has (s.stands pass).round
      where
        early : (own : Owned) (b : Bool) (told : ℕ) → AfterChange Finishing (apply (if b then step kind.LoadSection (Load (place.Section pass)) else finish_offer x (finish.Directory (first_target own.coll))).op s.memory) s.world (Inside x calm) owned
            (if b then ends (done.Early x own.bound) else finish_change shape (finish.Directory (first_target own.coll)) (seen (if b then step kind.LoadSection (Load (place.Section pass)) else finish_offer x (finish.Directory (first_target own.coll))).op s.memory))
        early own true told = record { low = p.low; targets = p.targets; in_world = p.in_world; part = tt }
        early own false told = record { low = p.low; targets = p.targets; in_world = p.in_world; part = tt }

        has : (round : Option Owned) → IfSome (when_owned round (λ own. finish_start pass x own)) (λ o. (told : ℕ) → AfterChange Finishing (apply o.op s.memory) s.world (Inside x calm) owned (finish_owned shape x round (seen o.op s.memory)))
        has None = tt
        has (Some own) = early own (is_early x own.bound)
    finish-starts s e aside within section owned phase.Idle at_sec at_round at_call p = tt
    finish-starts s e aside within section owned next at_sec at_round at_call p = tt

    -- an object that swings is then in a slot to which one was to move
    swings : (s : S.State) → Everything opening shape s → pass < shape.passes → (targets : Targets) (number : Number) (source target : ℕ)
        → (s.stands pass).phase ≡ phase.Finish (finish.Move targets number source (copy.Swing target)) → TargetsAreLow coll kept s.memory
        → number.coll ≡ coll → state_in s.memory number.coll number.entry ≡ state.Locked number.incarnation source → target < kept
    swings s e within targets number source target at_call low home locked =
        let is : copying_of (s.stands pass).phase ≡ Some (record { number = number; source = source; next = copy.Swing target }) = ap copying_of at_call in
        let to = (e.whole.agrees.copies.j_led pass number.coll number.incarnation number.entry source (copy.Swing target) within is).0 in
        let incoming = (e.whole.agrees.copies.j_locked pass number.coll number.incarnation number.entry source (copy.Swing target) within is locked).1 in
        low target (subst (λ (c : ℕ). dir_in s.memory c target ≡ dir.Incoming) home (subst (λ (t : ℕ). dir_in s.memory number.coll t ≡ dir.Incoming) to incoming))

    finish-goes : IsKeptBy Finishing (Known opening shape) shape pass Go
    finish-goes s e aside within section owned phase.Idle at_sec at_round at_call p = tt
    finish-goes s e aside within section owned (phase.Finish (finish.Directory targets)) at_sec at_round at_call p = λ told. record { low = p.low; targets = p.targets; in_world = p.in_world; part = tt }
    finish-goes s e aside within section owned (phase.Finish (finish.Back targets)) at_sec at_round at_call p = λ told. record { low = p.low; targets = p.targets; in_world = p.in_world; part = tt }
    finish-goes s e aside within section owned (phase.Finish (finish.Entry targets number)) at_sec at_round at_call p = λ told. record { low = p.low; targets = p.targets; in_world = p.in_world; part = tt }
    finish-goes s e aside within section owned (phase.Finish (finish.Lock targets number source)) at_sec at_round at_call p = λ told. record {
      low = λ a f slot is. grind (arith, nat_tests, p.low a f slot);
      targets = p.targets;
      in_world = p.in_world;
      part = tt;
    }
    finish-goes s e aside within section owned (phase.Finish (finish.Move targets number source copy.Target)) at_sec at_round at_call p = λ told. record { low = p.low; targets = p.targets; in_world = p.in_world; part = tt }
    finish-goes s e aside within section owned (phase.Finish (finish.Move targets number source (copy.Load target field))) at_sec at_round at_call p = λ told. record { low = p.low; targets = p.targets; in_world = p.in_world; part = tt }
    finish-goes s e aside within section owned (phase.Finish (finish.Move targets number source (copy.Put target field value))) at_sec at_round at_call p = λ told. record { low = p.low; targets = p.targets; in_world = p.in_world; part = tt }
    finish-goes s e aside within section owned (phase.Finish (finish.Move targets number source (copy.Swing target))) at_sec at_round at_call p = λ told. record {
      low = λ a f slot is. grind (arith, nat_tests, p.low a f slot, swings s e.all within targets number source target at_call p.targets);
      targets = p.targets;
      in_world = p.in_world;
      part = tt;
    }
    finish-goes s e aside within section owned (phase.Finish (finish.Settle targets source)) at_sec at_round at_call p = λ told. record {
      low = p.low;
      targets = λ slot is. grind (arith, nat_tests, p.targets slot);
      in_world = p.in_world;
      part = tt;
    }
    finish-goes s e aside within section owned (phase.Finish (finish.LeaveSource targets source)) at_sec at_round at_call p = λ told. record {
      low = p.low;
      targets = λ slot is. grind (arith, nat_tests, p.targets slot);
      in_world = p.in_world;
      part = tt;
    }
    finish-goes s e aside within section owned (phase.Finish (finish.GiveUp targets gone)) at_sec at_round at_call p = λ told. record {
      low = p.low;
      targets = λ slot is. grind (arith, nat_tests, p.targets slot);
      in_world = p.in_world;
      part = tt;
    }
    finish-goes s e aside within section owned (phase.Finish (finish.End targets)) at_sec at_round at_call p = λ told. record { low = p.low; targets = p.targets; in_world = p.in_world; part = refl }
    finish-goes s e aside within section owned next at_sec at_round at_call p = absurd p.part

    pub finish-carries : Carries Finishing (Known opening shape) shape pass call.Finish
    finish-carries = record { stable = finish-stable; idle = finish-idle; starts = finish-starts; goes = finish-goes }
