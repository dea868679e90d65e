-- What the calls of a region leave of a pass, as what they do.
use Rattle.std.proofs.Common.{◌≡◌, ℕ, ◌+◌, Bool, Option, Some, None, List, [], ◌∷◌, ◌++◌, length, refl, sym, subst, ap, ◌∙◌, append-nil, arith}
use Rattle.std.specs.Prelude.{Contains}
use Rattle.std.proofs.lemmas.Grind.{common_steps}
use Rattle.std.proofs.lemmas.List.{length-append}
use Rattle.smc_words.specs.declared.number.Number.{Number}
use Rattle.smc_model.specs.declared.event.Event.{Event}
use Rattle.smc_core.specs.declared.done.Done.{Done}
use Rattle.smc_core.specs.declared.local.Held.{Held}
use Rattle.smc_core.specs.declared.local.Local.{Local}
use Rattle.smc_core.specs.declared.phase.Phase.TheVariants.{Idle}
use Rattle.smc_region.specs.Callers.{Caller, IsSame, entered, left, answered_by}
use Rattle.smc_region.specs.Looks.{LooksUp, found, missed}
use Rattle.smc_region.specs.Notes.{Noted, with_learnt, with_note}
use Rattle.smc_trace.specs.Named.{advances, enters, leaves, learns, looks, notes}
use Rattle.smc_trace.specs.Trace.{CallEnd, Tells}
use Rattle.smc_region.specs.declared.held.Held as F
use Rattle.smc_does.specs.Does.{Does, IsHeld, Stays}
use Rattle.smc_does.proofs.Holdings.{contains-first, contains-later}

-- one event and one answer more
pub tells-one : (old new : Local) (e : Event) (d : Done) → new.log ≡ old.log ++ e ∷ [] → new.answers ≡ old.answers ++ record { length = length (old.log ++ e ∷ []); done = d } ∷ []
    → Tells old new (record { event = Some e; done = d } ∷ [])
tells-one old new e d log answers =
    let long : length (old.log ++ e ∷ []) ≡ length old.log + 1 = length-append old.log (e ∷ []) in
    record { log = log; answers = grind (arith, common_steps, answers, long) }

-- one answer more
pub tells-none : (old new : Local) (d : Done) → new.log ≡ old.log → new.answers ≡ old.answers ++ record { length = length old.log; done = d } ∷ []
    → Tells old new (record { event = None; done = d } ∷ [])
tells-none old new d log answers = record { log = log ∙ sym (append-nil old.log); answers = grind (arith, common_steps, answers) }

-- ---- from what is left of a pass

pub does-by : (old new : Caller) (l : Local) (calls : List CallEnd) → IsSame old new → new.local ≡ l → Tells old.local l calls → l.stand.round ≡ old.local.stand.round → Does old new calls
does-by old new l calls same is tells round = record {
  same = same;
  tells = subst (λ (k : Local). Tells old.local k calls) (sym is) tells;
  free = λ none. ap (λ (k : Local). k.stand.round) is ∙ (round ∙ none);
}

pub stays-by : (old new : Caller) (l : Local) → new.local ≡ l → l.stand.section ≡ old.local.stand.section → l.stand.phase ≡ Idle
    → ((x : Held) → Contains old.local.stand.held x → Contains l.stand.held x) → Stays old new
stays-by old new l is section idle held = record {
  section = ap (λ (k : Local). k.stand.section) is ∙ section;
  idle = ap (λ (k : Local). k.stand.phase) is ∙ idle;
  held = λ x has. subst (λ (k : Local). Contains k.stand.held x) (sym is) (held x has);
}

-- ---- the calls of a region

pub enter-does : (old new : Caller) (epoch : ℕ) (calm : Bool) → IsSame old new → new.local ≡ entered old.local epoch calm → Does old new (enters epoch)
enter-does old new epoch calm same is = does-by old new (entered old.local epoch calm) (enters epoch) same is (tells-one old.local (entered old.local epoch calm) _ _ refl refl) refl

pub leave-does : (old new : Caller) → IsSame old new → new.local ≡ left old.local → Does old new leaves
leave-does old new same is = does-by old new (left old.local) leaves same is (tells-one old.local (left old.local) _ _ refl refl) refl

-- a call that adds no event, as an advance
pub answer-does : (old new : Caller) (steps : ℕ) (answer : Done) → IsSame old new → new.local ≡ answered_by old.local steps answer → Does old new (advances answer)
answer-does old new steps answer same is =
    does-by old new (answered_by old.local steps answer) (advances answer) same is (tells-none old.local (answered_by old.local steps answer) answer refl refl) refl

pub note-does : (old new : Caller) → IsSame old new → new.local ≡ with_note old.local → Does old new (notes old.local.stand.noted)
note-does old new same is = does-by old new (with_note old.local) (notes old.local.stand.noted) same is (tells-none old.local (with_note old.local) _ refl refl) refl

pub learn-does : (old new : Caller) (note : Noted) → IsSame old new → new.local ≡ with_learnt old.local note → Does old new (learns note.pass (length note.log))
learn-does old new note same is =
    does-by old new (with_learnt old.local note) (learns note.pass (length note.log)) same is (tells-one old.local (with_learnt old.local note) _ _ refl refl) refl

pub look-does : (old new : Caller) (number : Number) (slot : Option ℕ) → IsSame old new → LooksUp slot number old.local new.local → Does old new (looks number slot)
look-does old new number None same is =
    does-by old new (missed old.local number new.local.steps) (looks number None) same is (tells-one old.local (missed old.local number new.local.steps) _ _ refl refl) refl
look-does old new number (Some slot) same is =
    does-by old new (found old.local number slot new.local.steps) (looks number (Some slot)) same is (tells-one old.local (found old.local number slot new.local.steps) _ _ refl refl) refl

-- a look-up lets nothing go
pub look-stays : (old new : Caller) (number : Number) (slot : Option ℕ) → LooksUp slot number old.local new.local → Stays old new
look-stays old new number None is = stays-by old new (missed old.local number new.local.steps) is refl refl (λ x has. has)
look-stays old new number (Some slot) is =
    stays-by old new (found old.local number slot new.local.steps) is refl refl (λ x has. contains-later old.local.stand.held (record { number = number; slot = slot }) x has)

-- what it found is held
pub look-holds : (old new : Caller) (number : Number) (held : F.Held) → held.number ≡ number → LooksUp (Some held.place) number old.local new.local → IsHeld new held
look-holds old new number held same is =
    subst (λ (n : Number). Contains new.local.stand.held (record { number = n; slot = held.place })) (sym same)
    (subst (λ (k : Local). Contains k.stand.held (record { number = number; slot = held.place })) (sym is) (contains-first old.local.stand.held (record { number = number; slot = held.place })))
