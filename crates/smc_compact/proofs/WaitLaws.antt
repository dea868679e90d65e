-- One advance more of a waiting.
use Rattle.std.proofs.Common.{◌≡◌, ℕ, ◌-◌, ◌≤◌, ◌<◌, true, false, Option, Some, None, List, [], ◌∷◌, ◌++◌, length, refl, sym, subst, ap, ◌∙◌, arith}
use Rattle.std.specs.Prelude.{max, nat_lt, if◌then◌else◌, flat_map}
use Rattle.std.proofs.lemmas.Bool.Decides.{nat_tests}
use Rattle.std.proofs.lemmas.List.Concat.{flat_map-append}
use Rattle.smc_core.specs.declared.done.Done.{Done}
use Rattle.smc_core.specs.declared.done.Done.TheVariants as done
use Rattle.smc_core.specs.declared.local.Answer.{Answer}
use Rattle.smc_core.specs.declared.local.Local.{Local}
use Rattle.smc_core.specs.declared.section.TheConstants.{LAST_EPOCH}
use Rattle.smc_region.specs.declared.advance.Advance.{Advance}
use Rattle.smc_region.specs.declared.advance.Advance.TheVariants as advance
use Rattle.smc_region.specs.Advances.{Advances, done_of}
use Rattle.smc_region.specs.Callers.{Caller, IsSame, answered_by}
use Rattle.smc_region.specs.Named.{IsLow, Rises, latest, named}
use Rattle.smc_trace.specs.Named.{advances}
use Rattle.smc_trace.specs.Trace.{CallEnd}
use Rattle.smc_does.specs.Does.{Does}
use Rattle.smc_does.proofs.Bridges.{answer-does}
use Rattle.smc_does.proofs.DoesLaws.{does-then}
use Rattle.smc_compact.specs.declared.outcome.Waited.{Waited}
use Rattle.smc_compact.specs.declared.outcome.Waited.TheVariants as waited
use Rattle.smc_compact.specs.declared.outcome.Waiting.{Waiting}
use Rattle.smc_compact.specs.declared.outcome.Waiting.TheVariants as waiting
use Rattle.smc_compact.specs.Calls.{Keeps}
use Rattle.smc_compact.specs.Paces.{HasCome, IsBy, IsFor, Reaches, WaitCause}
use Rattle.smc_compact.specs.Waits.{after_all, names, next, told, waiting_by}

pub latest-more : (answers : List Answer) (one : Answer) → latest (answers ++ one ∷ []) ≡ max (latest answers) (named one.done)
latest-more [] one = omega arith
latest-more (first ∷ later) one = ap (λ (n : ℕ). max (named first.done) n) (latest-more later one) ∙ omega arith

-- the latest epoch after an answer more
latest-after : (now new : Local) (one : Done) → new ≡ answered_by now new.steps one → latest new.answers ≡ max (latest now.answers) (named one)
latest-after now new one e = ap (λ (l : Local). latest l.answers) e ∙ latest-more now.answers (record { length = length now.log; done = one })

-- a waiting that has been told one answer more
after-more : (now : Option Waiting) (answers : List Done) (one : Done) → after_all now (answers ++ one ∷ []) ≡ next (after_all now answers) one
after-more now [] one = refl
after-more now (first ∷ later) one = after-more (next now first) later one

-- an epoch is named that is later than all that were
names-come : (until : Option ℕ) (left before epoch after : ℕ) → 0 < left → before < epoch → epoch ≤ LAST_EPOCH → after ≡ max before epoch
    → HasCome until left before after (names until left epoch)
names-come None left before epoch after some rises low is = (some, omega (arith, rises, is), omega (arith, rises, low, is), tt)
names-come (Some until) left before epoch after some rises low is =
    elim (nat_lt epoch until) as (λ b. nat_lt epoch until ≡ b → HasCome (Some until) left before after (if b then waiting.GoesOn (Some until) left else waiting.Ends (waited.Named left))) [
      | true ↦ λ e. (some, grind (arith, nat_tests, e, rises, is), omega (arith, rises, low, is), refl)
      | false ↦ λ e. (omega arith, some, grind (arith, nat_tests, e, rises, is))
    ] refl

some-same : (a b : Waiting) → (let x : Option Waiting = Some a in x) ≡ Some b → a ≡ b
some-same a b same = cc

pub is-for : (until : Option ℕ) → IsFor until until
is-for None = tt
is-for (Some until) = refl

-- a section is in the way
turn-comes : (until : Option ℕ) (left before pass seen : ℕ) → 0 < left
    → HasCome until left before before (if nat_lt 1 left then waiting.GoesOn until (left - 1) else waiting.Ends (waited.Later pass seen))
turn-comes until left before pass seen some =
    elim (nat_lt 1 left) as (λ b. nat_lt 1 left ≡ b → HasCome until left before before (if b then waiting.GoesOn until (left - 1) else waiting.Ends (waited.Later pass seen))) [
      | true ↦ λ e. let two : 1 < left = grind (arith, nat_tests, e) in (omega (arith, two), omega (arith, two), omega (arith, two), is-for until)
      | false ↦ λ e. (omega arith, tt, reaches-nothing until)
    ] refl
  where
    reaches-nothing : (until : Option ℕ) → Reaches until before (waited.Later pass seen)
    reaches-nothing None = tt
    reaches-nothing (Some until) = tt

no-turn : (until : Option ℕ) (left before : ℕ) → HasCome until left before before (waiting.Ends waited.Spent)
no-turn None left before = (omega arith, tt, tt)
no-turn (Some until) left before = (omega arith, tt, tt)

-- an answer takes a waiting so far
pub told-comes : (old new : Local) (until : Option ℕ) (left : ℕ) (answer : Advance) (w : Waiting) → 0 < left → Rises old answer → IsLow answer
    → new ≡ answered_by old new.steps (done_of answer) → told until left (done_of answer) ≡ Some w → HasCome until left (latest old.answers) (latest new.answers) w
told-comes old new until left (advance.Advanced epoch) w some rises low e is =
    subst (HasCome until left (latest old.answers) (latest new.answers)) (some-same (names until left epoch) w is)
    (names-come until left (latest old.answers) epoch (latest new.answers) some rises low (latest-after old new (done.Advanced epoch) e))
told-comes old new until left (advance.Overtaken epoch) w some rises low e is =
    subst (HasCome until left (latest old.answers) (latest new.answers)) (some-same (names until left epoch) w is)
    (names-come until left (latest old.answers) epoch (latest new.answers) some rises low (latest-after old new (done.Overtaken epoch) e))
told-comes old new until left (advance.NotYet pass seen) w some rises low e is =
    let after = latest-after old new (done.NotYet pass seen) e in
    let same : latest old.answers ≡ latest new.answers = omega (arith, after) in
    subst (λ (k : ℕ). HasCome until left (latest old.answers) k w) same
    (subst (HasCome until left (latest old.answers) (latest old.answers)) (some-same _ w is) (turn-comes until left (latest old.answers) pass seen some))
told-comes old new until left advance.Spent w some rises low e is =
    let after = latest-after old new done.Spent e in
    let same : latest old.answers ≡ latest new.answers = omega (arith, after) in
    subst (λ (k : ℕ). HasCome until left (latest old.answers) k w) same
    (subst (HasCome until left (latest old.answers) (latest old.answers)) (some-same _ w is) (no-turn until left (latest old.answers)))

-- the waiting goes on behind these answers as one answer more says
pub waits-on : (until : Option ℕ) (turns : ℕ) (answers : List Done) (one : Done) (now : Option ℕ) (left : ℕ) (w : Waiting)
    → waiting_by until turns answers ≡ Some (waiting.GoesOn now left) → told now left one ≡ Some w → waiting_by until turns (answers ++ one ∷ []) ≡ Some w
waits-on until turns answers one now left w is step =
    after-more (Some (waiting.GoesOn until turns)) answers one ∙ ap (λ (k : Option Waiting). next k one) is ∙ step

pub is-for-then : (until now later : Option ℕ) → IsFor until now → IsFor now later → IsFor until later
is-for-then None now later one two = tt
is-for-then (Some until) now later one two = let same : IsFor (Some until) later = subst (λ (k : Option ℕ). IsFor k later) one two in same

-- what is waited for at last was waited for at first
pub reaches-first : (until now : Option ℕ) (after : ℕ) (ended : Waited) → IsFor until now → Reaches now after ended → Reaches until after ended
reaches-first None now after ended is reaches = reaches-any after ended
  where
    reaches-any : (after : ℕ) (ended : Waited) → Reaches None after ended
    reaches-any after (waited.Named left) = tt
    reaches-any after (waited.Later pass seen) = tt
    reaches-any after waited.Spent = tt
reaches-first (Some until) now after ended is reaches = subst (λ (k : Option ℕ). Reaches k after ended) is reaches

-- an advance more
pub does-more : (old now new : Caller) (answers : List Done) (one : Done) → Does old now (flat_map advances answers) → IsSame now new
    → new.local ≡ answered_by now.local new.local.steps one → Does old new (flat_map advances (answers ++ one ∷ []))
does-more old now new answers one does same is =
    subst (λ (calls : List CallEnd). Does old new calls) (sym (flat_map-append advances answers (one ∷ []))) (does-then does (answer-does now new new.local.steps one same is))

pub keeps-more : (old now new : Local) (one : Done) → Keeps old now → new ≡ answered_by now new.steps one → Keeps old new
keeps-more old now new one keeps is = record {
  notes = ap (λ (l : Local). l.notes) is ∙ keeps.notes;
  learnt = ap (λ (l : Local). l.learnt) is ∙ keeps.learnt;
  cursors = ap (λ (l : Local). l.cursors) is ∙ keeps.cursors;
}

pub round-more : (now new : Local) (one : Done) → new ≡ answered_by now new.steps one → new.stand.round ≡ now.stand.round
round-more now new one is = ap (λ (l : Local). l.stand.round) is

-- why a waiting ended with this answer
pub wait-cause : (old new before : Caller) (front : List Done) (answer : Advance) (ended : Waited) → Does old before (flat_map advances front)
    → Advances before new answer → IsBy answer (waiting.Ends ended) → WaitCause old new (front ++ done_of answer ∷ []) ended
wait-cause old new before front answer (waited.Named left) does cause by = tt
wait-cause old new before front answer (waited.Later pass seen) does cause by = record {
  front = front;
  before = before;
  is = ap (λ (a : Advance). front ++ done_of a ∷ []) by;
  does = does;
  cause = subst (Advances before new) by cause;
}
wait-cause old new before front answer waited.Spent does cause by = record {
  front = front;
  before = before;
  is = ap (λ (a : Advance). front ++ done_of a ∷ []) by;
  does = does;
  cause = subst (Advances before new) by cause;
}
