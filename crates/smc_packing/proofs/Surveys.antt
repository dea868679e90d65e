-- A survey tells how many slots have a present object, and how many blocks they occupy.
use Rattle.std.proofs.Common.{◌≡◌, ℕ, ◌<◌, Bool, true, false, Option, Some, None, refl, sym, ap, ◌∙◌, subst, arith}
use Rattle.std.specs.Prelude.{nat_lt, IfSome, length}
use Rattle.std.proofs.lemmas.Bool.Decides.{nat_tests}
use Rattle.smc_words.specs.declared.number.Number.{Number}
use Rattle.smc_shape.specs.Layout.{Layout, IsShape, slots_of}
use Rattle.smc_shape.specs.declared.place.Place.TheVariants as place
use Rattle.smc_model.specs.World.{World}
use Rattle.smc_core.specs.declared.call.Call.TheVariants as call
use Rattle.smc_core.specs.declared.call.Choice.TheVariants.{Start, Go}
use Rattle.smc_core.specs.declared.done.Done.{Done}
use Rattle.smc_core.specs.declared.done.Done.TheVariants as done
use Rattle.smc_core.specs.declared.local.Opening.{Opening}
use Rattle.smc_core.specs.declared.local.Owned.{Owned}
use Rattle.smc_core.specs.declared.op.Op.TheVariants.{Load, Exchange}
use Rattle.smc_core.specs.declared.phase.Phase.{Phase}
use Rattle.smc_core.specs.declared.phase.Phase.TheVariants as phase
use Rattle.smc_core.specs.declared.phase.moves.Count.{Count}
use Rattle.smc_core.specs.declared.phase.moves.CountPhase.TheVariants as walk
use Rattle.smc_core.specs.declared.phase.moves.Counting.{Counting}
use Rattle.smc_core.specs.declared.phase.moves.Counting.TheVariants.{Walks, Counted}
use Rattle.smc_core.specs.declared.section.Section.{Section}
use Rattle.smc_core.specs.declared.section.Section.TheVariants.{Inside}
use Rattle.smc_core.specs.declared.word.Word.TheVariants as word
use Rattle.smc_core.specs.Count.{count_offer, counting, no_count, survey_change}
use Rattle.smc_core.specs.Step.{when}
use Rattle.smc_rules.specs.Memory.{Memory, apply, seen}
use Rattle.smc_rules.specs.Reads.{back_in}
use Rattle.smc_aside.proofs.Runs.{IsStable, IsKeptBy, Carries}
use Rattle.smc_aside.proofs.Stillness.{Still, quiet-still}
use Rattle.smc_aside.proofs.Waiting.{AfterChange}
use Rattle.smc_census.specs.Census.{is_home, homes, occupied}
use Rattle.smc_census.proofs.Always.{slots-whole}
use Rattle.smc_census.proofs.WalkLaws.{CountsBelow, counts-none, counts-all}
use Rattle.smc_packing.proofs.CountSteps.{HomesAreValid, steps-directory, steps-back, steps-entry}
use Rattle.smc_packing.proofs.Known.{Known}

module _ (opening : Opening) (shape : Layout) (valid : IsShape shape) (coll : ℕ) (m0 : Memory) (w0 : World) (pass : ℕ) where
  -- a survey has counted the slots before this one
  pub record IsSurveying (memory : Memory) (of slot : ℕ) (count : Count) : Type 0 where
    pub of_it : of ≡ coll
    pub within : slot < slots_of shape coll
    pub counted : CountsBelow (is_home memory coll) slot count

  -- how far it has come
  abbrev SurveyPart : Memory → Phase → Option Done → Type 0
  SurveyPart memory next (Some answer) = (next ≡ phase.Idle) × (answer ≡ done.Surveyed coll (homes shape memory coll) (occupied shape memory coll))
  SurveyPart memory phase.Idle None = Unit {0}
  SurveyPart memory (phase.Survey (walk.Directory of slot count)) None = IsSurveying memory of slot count
  SurveyPart memory (phase.Survey (walk.Back of slot count)) None = IsSurveying memory of slot count
  SurveyPart memory (phase.Survey (walk.Entry of slot count number)) None = IsSurveying memory of slot count × (back_in memory coll slot ≡ Some number)
  SurveyPart memory _ None = ⊥

  pub record Surveying (memory : Memory) (world : World) (section : Section) (owned : Option Owned) (next : Phase) (answer : Option Done) : Type 0 where
    pub still : Still m0 memory
    pub in_world : world ≡ w0
    pub valid_homes : HomesAreValid shape memory coll
    pub part : SurveyPart memory next answer

  survey-moved : (memory : Memory) (from to : ℕ) (next : Phase) (answer : Option Done) → SurveyPart memory next answer → SurveyPart (apply (Exchange place.Epoch (word.Plain from) (word.Plain to)) memory) next answer
  survey-moved memory from to next (Some answer) k = k
  survey-moved memory from to phase.Idle None k = tt
  survey-moved memory from to (phase.Survey (walk.Directory of slot count)) None k = record { of_it = k.of_it; within = k.within; counted = k.counted }
  survey-moved memory from to (phase.Survey (walk.Back of slot count)) None k = record { of_it = k.of_it; within = k.within; counted = k.counted }
  survey-moved memory from to (phase.Survey (walk.Entry of slot count number)) None k = (record { of_it = k.0.of_it; within = k.0.within; counted = k.0.counted }, k.1)
  survey-moved memory from to next None k = absurd k

  survey-stable : IsStable Surveying
  survey-stable memory (Load here) world section owned next answer quiet p = p
  survey-stable memory (Exchange place.Epoch (word.Plain from) (word.Plain to)) world section owned next answer quiet p =
      record { still = quiet-still m0 memory (Exchange place.Epoch (word.Plain from) (word.Plain to)) quiet p.still; in_world = p.in_world; valid_homes = p.valid_homes; part = survey-moved memory from to next answer p.part }
  survey-stable memory op world section owned next answer quiet p = absurd quiet

  module _ (memory : Memory) (world : World) (section : Section) (owned : Option Owned) (still : Still m0 memory) (same : world ≡ w0) (homes_valid : HomesAreValid shape memory coll) where
    -- what holds once the walk has come here
    abbrev After : Counting → Type 0
    After c = AfterChange Surveying memory world section owned (survey_change c)

    walks : (slot : ℕ) (count : Count) → slot < slots_of shape coll → CountsBelow (is_home memory coll) slot count → After (Walks (walk.Directory coll slot count))
    walks slot count lt counts = record { still = still; in_world = same; valid_homes = homes_valid; part = record { of_it = refl; within = lt; counted = counts } }

    ends : (count : Count) → CountsBelow (is_home memory coll) (slots_of shape coll) count → After (Counted coll count)
    ends count counts =
        let all = counts-all (is_home memory coll) (slots_of shape coll) count (slots-whole shape coll valid) counts in
        record { still = still; in_world = same; valid_homes = homes_valid; part = (refl, ap (λ (n : ℕ). done.Surveyed coll n count.blocks) all.0 ∙ ap (λ (n : ℕ). done.Surveyed coll (homes shape memory coll) n) all.1) }

    survey-directory : (of slot : ℕ) (count : Count) → IsSurveying memory of slot count → After (counting shape (walk.Directory of slot count) (memory (place.Directory of slot)))
    survey-directory of slot count k = subst (λ (c : ℕ). After (counting shape (walk.Directory c slot count) (memory (place.Directory c slot)))) (sym k.of_it)
        (steps-directory shape memory coll homes_valid After walks ends slot count k.within k.counted (record { still = still; in_world = same; valid_homes = homes_valid; part = record { of_it = refl; within = k.within; counted = k.counted } }))

    survey-back : (of slot : ℕ) (count : Count) → IsSurveying memory of slot count → After (counting shape (walk.Back of slot count) (memory (place.Back of slot)))
    survey-back of slot count k = subst (λ (c : ℕ). After (counting shape (walk.Back c slot count) (memory (place.Back c slot)))) (sym k.of_it)
        (steps-back shape memory coll homes_valid After walks ends slot count k.within k.counted
        (λ number is. record { still = still; in_world = same; valid_homes = homes_valid; part = (record { of_it = refl; within = k.within; counted = k.counted }, is) }))

    survey-entry : (of slot : ℕ) (count : Count) (number : Number) → IsSurveying memory of slot count → back_in memory coll slot ≡ Some number
        → After (counting shape (walk.Entry of slot count number) (memory (place.Entry number.coll number.entry)))
    survey-entry of slot count number k back = subst (λ (c : ℕ). After (counting shape (walk.Entry c slot count number) (memory (place.Entry number.coll number.entry)))) (sym k.of_it)
        (steps-entry shape memory coll homes_valid After walks ends slot count number k.within k.counted back)

  survey-starts : IsKeptBy Surveying (Known opening shape) shape pass (Start (call.Survey coll))
  survey-starts s e aside within (Inside x calm) owned phase.Idle at_sec at_round at_call p = may (nat_lt coll (length shape.colls)) refl
    where
      may : (b : Bool) → nat_lt coll (length shape.colls) ≡ b → IfSome (when b (count_offer (walk.Directory coll 0 no_count))) (λ o. (told : ℕ)
          → AfterChange Surveying (apply o.op s.memory) s.world (Inside x calm) owned (survey_change (counting shape (walk.Directory coll 0 no_count) (seen o.op s.memory))))
      may true t = λ told. survey-directory s.memory s.world (Inside x calm) owned p.still p.in_world p.valid_homes coll 0 no_count
          (record { of_it = refl; within = (valid.coll coll (grind (arith, nat_tests, t))).some_slots; counted = counts-none (is_home s.memory coll) })
      may false n = tt
  survey-starts s e aside within section owned phase.Idle at_sec at_round at_call p = tt
  survey-starts s e aside within section owned next at_sec at_round at_call p = tt

  survey-goes : IsKeptBy Surveying (Known opening shape) shape pass Go
  survey-goes s e aside within section owned phase.Idle at_sec at_round at_call p = tt
  survey-goes s e aside within section owned (phase.Survey (walk.Directory of slot count)) at_sec at_round at_call p = λ told. survey-directory s.memory s.world section owned p.still p.in_world p.valid_homes of slot count p.part
  survey-goes s e aside within section owned (phase.Survey (walk.Back of slot count)) at_sec at_round at_call p = λ told. survey-back s.memory s.world section owned p.still p.in_world p.valid_homes of slot count p.part
  survey-goes s e aside within section owned (phase.Survey (walk.Entry of slot count number)) at_sec at_round at_call p = λ told. survey-entry s.memory s.world section owned p.still p.in_world p.valid_homes of slot count number p.part.0 p.part.1
  survey-goes s e aside within section owned next at_sec at_round at_call p = absurd p.part

  pub survey-carries : Carries Surveying (Known opening shape) shape pass (call.Survey coll)
  survey-carries = record { stable = survey-stable; idle = λ memory world section owned next answer p. p.part.0; starts = survey-starts; goes = survey-goes }
