-- What a call on an object leaves of its pass, as what it does.
use Rattle.std.proofs.Common.{◌≡◌, ℕ, List, Some, [], ◌∷◌, refl, ap}
use Rattle.std.specs.Prelude.{Result, Ok, Err, IfOk, IfErr}
use Rattle.smc_words.specs.declared.number.Number.{Number}
use Rattle.smc_model.specs.declared.event.Event.{Event}
use Rattle.smc_core.specs.declared.done.Done.{Done}
use Rattle.smc_core.specs.declared.local.Local.{Local}
use Rattle.smc_core.specs.Add.{refuses}
use Rattle.smc_region.specs.Callers.{Caller, IsSame}
use Rattle.smc_does.specs.Does.{Does, Stays}
use Rattle.smc_does.proofs.Bridges.{does-by, stays-by, tells-one}
use Rattle.smc_objects.specs.declared.adding.Full.{Full}
use Rattle.smc_objects.specs.Adding.{adding, made}
use Rattle.smc_objects.specs.Fulls.{Made, TakesFirst, adds, cause_of}
use Rattle.smc_objects.specs.Telling.{telling}

pub told-does : (old new : Caller) (steps : ℕ) (e : Event) (d : Done) → IsSame old new → new.local ≡ telling old.local steps e d → Does old new (record { event = Some e; done = d } ∷ [])
told-does old new steps e d same is = does-by old new (telling old.local steps e d) (record { event = Some e; done = d } ∷ []) same is (tells-one old.local (telling old.local steps e d) e d refl refl) refl

pub told-stays : (old new : Caller) (steps : ℕ) (e : Event) (d : Done) → new.local ≡ telling old.local steps e d → Stays old new
told-stays old new steps e d is = stays-by old new (telling old.local steps e d) is refl refl (λ x has. has)

-- an add, by its answer
abbrev pub Left : Caller → Caller → ℕ → List ℕ → Result Number Full → Type 0
Left old new coll words answer = IfOk answer (Made old new coll words) × IfErr answer (λ full. new.local ≡ adding old.local words new.local.steps (refuses coll (cause_of full)))

pub add-does : (old new : Caller) (coll : ℕ) (words : List ℕ) (answer : Result Number Full) → IsSame old new → IfOk answer (λ number. number.coll ≡ coll) → Left old new coll words answer
    → (slot : ℕ) × Does old new (adds coll words answer slot) × IfOk answer (TakesFirst old new coll slot)
add-does old new coll words (Ok number) same home is = (
  is.0.slot,
  does-by old new (made old.shape old.local number words is.0.slot new.local.steps) (adds coll words (Ok number) is.0.slot) same is.0.told
      (tells-one old.local (made old.shape old.local number words is.0.slot new.local.steps) _ _ refl refl) refl,
  is.0.first,
)
add-does old new coll words (Err full) same home is = (
  0,
  does-by old new (adding old.local words new.local.steps (refuses coll (cause_of full))) (adds coll words (Err full) 0) same is.1
      (tells-one old.local (adding old.local words new.local.steps (refuses coll (cause_of full))) _ _ refl refl) refl,
  tt,
)

pub add-stays : (old new : Caller) (coll : ℕ) (words : List ℕ) (answer : Result Number Full) → Left old new coll words answer → Stays old new
add-stays old new coll words (Ok number) is = stays-by old new (made old.shape old.local number words is.0.slot new.local.steps) is.0.told refl refl (λ x has. has)
add-stays old new coll words (Err full) is = stays-by old new (adding old.local words new.local.steps (refuses coll (cause_of full))) is.1 refl refl (λ x has. has)

pub add-scans : (old new : Caller) (coll : ℕ) (words : List ℕ) (answer : Result Number Full) → Left old new coll words answer → new.local.stand.scans ≡ old.local.stand.scans
add-scans old new coll words (Ok number) is = ap (λ (l : Local). l.stand.scans) is.0.told
add-scans old new coll words (Err full) is = ap (λ (l : Local). l.stand.scans) is.1
