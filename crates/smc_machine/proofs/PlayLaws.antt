-- One more step of a schedule.
use Rattle.std.proofs.Common.{◌≡◌, ℕ, zero, suc, ◌+◌, ◌<◌, Option, List, length, take, get_or, [], ◌∷◌, ◌++◌, refl, sym, ap, ◌∙◌, subst, append_assoc}
use Rattle.std.specs.Option.{option_to_list}
use Rattle.std.specs.List.{slice_get}
use Rattle.std.proofs.lemmas.List.{append-nil, take_more}
use Rattle.std.proofs.lemmas.Option.{slice_get_read}
use Rattle.smc_shape.specs.Layout.{Layout}
use Rattle.smc_model.specs.declared.event.Event.{Event}
use Rattle.smc_core.specs.declared.call.Choice.{Choice}
use Rattle.smc_core.specs.Machine.{Machine, Steps, Leads, Reach, started}
use Rattle.std.specs.Prelude.{slice_set, None, Some}
use Rattle.smc_model.specs.Order.{events_of}
use Rattle.smc_core.specs.declared.local.Local.{Local}
use Rattle.smc_core.specs.Local.{after}
use Rattle.smc_core.specs.Row.{row_shows}
use Rattle.smc_core.specs.Told.{adds, told_along, told_by_step}
use Rattle.smc_machine.proofs.AddedLaws.{logged-event}
use Rattle.std.proofs.lemmas.List.{append_cancel_left}
use Rattle.smc_machine.specs.declared.step.StepFault.{StepFault}
use Rattle.smc_machine.specs.Running.{Running}
use Rattle.smc_machine.specs.Plays.{Plays, PlaysOne, IsStopped, IsStoppedAt, StopsAt}

-- one more step leads on
pub Leads-one : (shape : Layout) (first : Machine) (steps : List (ℕ × Choice)) (middle last : Machine) (pass : ℕ) (choice : Choice)
    → Leads shape first steps middle → Steps shape middle pass choice last → Leads shape first (steps ++ (pass, choice) ∷ []) last
Leads-one shape first [] middle last pass choice leads step = (last, subst (λ (m : Machine). Steps shape m pass choice last) (sym leads) step, refl)
Leads-one shape first (one ∷ later) middle last pass choice leads step =
    (leads.0, leads.1, Leads-one shape leads.0 later middle last pass choice leads.2 step)

-- the events before a step do not matter to what it tells
only-told : (shape : Layout) (m : Machine) (pass : ℕ) (choice : Choice) (old new : List Event) (next : Machine)
    → (one : PlaysOne shape m pass choice old new next) → PlaysOne shape m pass choice [] (option_to_list one.step.event) next
only-told shape m pass choice old new next one = record { step = one.step; leads = one.leads; tells = one.tells; events = refl }

-- one more step is played
pub Plays-one : (shape : Layout) (first : Machine) (steps : List (ℕ × Choice)) (old new : List Event) (middle last : Machine) (pass : ℕ) (choice : Choice)
    → Plays shape first steps old middle → PlaysOne shape middle pass choice old new last → Plays shape first (steps ++ (pass, choice) ∷ []) new last
Plays-one shape first [] old new middle last pass choice played one = (
  last,
  option_to_list one.step.event,
  [],
  subst (λ (m : Machine). PlaysOne shape m pass choice [] (option_to_list one.step.event) last) (sym played.0) (only-told shape middle pass choice old new last one),
  (refl, refl),
  one.events ∙ ap (λ (l : List Event). l ++ option_to_list one.step.event) played.1 ∙ sym (append-nil (option_to_list one.step.event)),
)
Plays-one shape first (line ∷ later) old new middle last pass choice played one =
    let rest : List Event = played.2 in
    let more : PlaysOne shape middle pass choice rest (rest ++ option_to_list one.step.event) last =
    record { step = one.step; leads = one.leads; tells = one.tells; events = refl } in (
      played.0,
      played.1,
      rest ++ option_to_list one.step.event,
      played.3,
      Plays-one shape played.0 later rest (rest ++ option_to_list one.step.event) middle last pass choice played.4 more,
      one.events ∙ ap (λ (l : List Event). l ++ option_to_list one.step.event) played.5 ∙ append_assoc played.1 rest (option_to_list one.step.event),
    )

-- what is played leads on
pub Plays-leads : (shape : Layout) (first : Machine) (steps : List (ℕ × Choice)) (events : List Event) (last : Machine)
    → Plays shape first steps events last → Leads shape first steps last
Plays-leads shape first [] events last played = played.0
Plays-leads shape first (line ∷ later) events last played =
    (played.0, played.3.leads, Plays-leads shape played.0 later played.2 last played.4)

-- what is put at a place of a list is there
get-set : (xs : List Local) (i : ℕ) (x y : Local) → slice_get xs i ≡ Some x → slice_get (slice_set xs i y) i ≡ Some y
get-set [] i x y e = cc
get-set (a ∷ xs) zero x y e = refl
get-set (a ∷ xs) (suc i) x y e = get-set xs i x y e

-- the events of what a step adds
adds-events : (pass : ℕ) (e : Option Event) (rest : List (ℕ × Event)) → events_of (adds pass e ++ rest) ≡ option_to_list e ++ events_of rest
adds-events pass None rest = refl
adds-events pass (Some event) rest = refl

-- a step that is played tells what the steps of the definitions tell
one-told : (shape : Layout) (m : Machine) (pass : ℕ) (choice : Choice) (old new : List Event) (next : Machine) (one : PlaysOne shape m pass choice old new next)
    → option_to_list (told_by_step shape m pass choice next one.leads) ≡ option_to_list one.step.event
one-told shape m pass choice old new next one =
    let l : Local = one.leads.local in
    let l' : Local = after shape pass l choice one.leads.told (row_shows shape one.leads.offered.op m.row) in
    let there : slice_get next.locals pass ≡ Some l' = ap (λ (k : Machine). slice_get k.locals pass) one.leads.leads ∙ get-set m.locals pass l l' one.leads.here in
    append_cancel_left l.log (option_to_list (told_by_step shape m pass choice next one.leads)) (option_to_list one.step.event)
    (logged-event l.log (told_by_step shape m pass choice next one.leads) ∙ ((one.tells l l' one.leads.here there).log ∙ sym (logged-event l.log one.step.event)))

-- so what is played leads on, and tells the events of its steps
pub Plays-told : (shape : Layout) (first : Machine) (steps : List (ℕ × Choice)) (events : List Event) (last : Machine)
    → Plays shape first steps events last → (leads : Leads shape first steps last) × (events_of (told_along shape first steps last leads) ≡ events)
Plays-told shape first [] events last played = (played.0, sym played.1)
Plays-told shape first (line ∷ later) events last played =
    let (leads, same) = Plays-told shape played.0 later played.2 last played.4 in
    let e : Option Event = told_by_step shape first line.0 line.1 played.0 played.3.leads in (
      (played.0, played.3.leads, leads),
      adds-events line.0 e (told_along shape played.0 later last leads)
          ∙ (ap (λ (es : List Event). option_to_list e ++ es) same
          ∙ (ap (λ (es : List Event). es ++ played.2) (one-told shape first line.0 line.1 [] played.1 played.0 played.3 ∙ sym played.3.events) ∙ sym played.5)),
    )

-- a step from where steps reach leads to where they reach
pub Reach-step : (shape : Layout) (start : List ℕ) (m next : Machine) (pass : ℕ) (choice : Choice)
    → Reach shape start m.row m.locals → Steps shape m pass choice next → Reach shape start next.row next.locals
Reach-step shape start m next pass choice reached step =
    (reached.0 ++ (pass, choice) ∷ [], Leads-one shape (started shape start) reached.0 m next pass choice reached.1 step)

-- the step of the schedule that was read is played
pub Plays-next : (shape : Layout) (first middle last : Machine) (schedule : List (ℕ × Choice)) (at : ℕ) (line : ℕ × Choice) (old new : List Event)
    → at < length schedule → line ≡ get_or schedule at line → Plays shape first (take at schedule) old middle
    → PlaysOne shape middle line.0 line.1 old new last → Plays shape first (take (at + 1) schedule) new last
Plays-next shape first middle last schedule at line old new within read played one =
    let more : take (at + 1) schedule ≡ take at schedule ++ line ∷ [] =
    take_more schedule at line within ∙ ap (λ (l : ℕ × Choice). take at schedule ++ l ∷ []) (sym read) in
    subst (λ (steps : List (ℕ × Choice)). Plays shape first steps new last) (sym more)
    (Plays-one shape first (take at schedule) old new middle last line.0 line.1 played one)

-- the step that was read is the one that stops the schedule
pub StopsAt-next : (old middle new : Running) (schedule : List (ℕ × Choice)) (at : ℕ) (line : ℕ × Choice) (events : List Event) (fault : StepFault)
    → at < length schedule → line ≡ get_or schedule at line → Plays old.shape old.machine (take at schedule) events middle.machine
    → new ≡ middle → IsStopped middle line.0 line.1 fault → StopsAt old new schedule (record { at = at; fault = fault })
StopsAt-next old middle new schedule at line events fault within read played same stopped = record {
  leads = subst (λ (m : Running). Leads old.shape old.machine (take at schedule) m.machine) (sym same)
      (Plays-leads old.shape old.machine (take at schedule) events middle.machine played);
  refused = subst (λ (m : Running). IsStoppedAt m (slice_get schedule at) fault) (sym same)
      (subst (λ (found : Option (ℕ × Choice)). IsStoppedAt middle found fault) (sym (slice_get_read schedule (length schedule) at line refl within read)) stopped);
}
