-- What one step of a schedule plays: what the machine does, which names are known after it, and what is printed.
use Rattle.std.specs.Prelude.{◌≡◌, ℕ, Option, Some, None, List, [], ◌++◌, slice_get, slice_set, unwrap_or, option_and_then}
use Rattle.std.specs.Option.{option_map}
use Rattle.smc_words.specs.declared.number.Number.{Number}
use Rattle.smc_model.specs.declared.event.Event.{Event}
use Rattle.smc_model.specs.declared.event.Event.TheVariants as event
use Rattle.smc_core.specs.declared.call.Choice.{Choice}
use Rattle.smc_core.specs.declared.done.Done.{Done}
use Rattle.smc_core.specs.declared.done.Done.TheVariants as done
use Rattle.smc_core.specs.declared.local.Local.{Local}
use Rattle.smc_core.specs.Machine.{Steps}
use Rattle.smc_machine.specs.declared.step.Step.{Step}
use Rattle.smc_machine.specs.declared.step.StepFault.{StepFault}
use Rattle.smc_machine.specs.Faults.{IsAllowed, IsRefusedFirst}
use Rattle.smc_machine.specs.Running.{Running, Tells}
use Rattle.smc_schedule.specs.Answers.{answer_of, line_with}
use Rattle.smc_schedule.specs.Known.{known_as, name_at, SetsKnown, SetsNumber, KeepsNumbers}
use Rattle.smc_schedule.specs.declared.names.Known.{Known}
use Rattle.smc_schedule.specs.declared.names.Known.TheVariants.{Object, Full, Pending}
use Rattle.smc_schedule.specs.declared.names.Names.{Names}
use Rattle.smc_play.specs.declared.begun.Progress.{Progress}
use Rattle.smc_play.specs.declared.player.Seat.{Seat}

-- a schedule that was played so far: the machine, the names, what is known of each pass, and what was printed
pub record Playing : Type 0 where
  pub running : Running
  pub names : Names
  pub seats : List Seat
  pub text : List ℕ

-- the name of the object that an answer visits
abbrev pub visited : Names → Done → List ℕ
visited names (done.Visit number slot) = unwrap_or (name_at names number) []
visited names _ = []

-- what is printed where a call of this pass ends, or does not
abbrev pub printed : ℕ → Names → Option Progress → Option Done → List ℕ
printed pass names (Some progress) (Some answer) = line_with pass progress.verb (answer_of (visited names answer) answer)
printed pass names _ _ = []

-- the name that a call gives, if it gives one
abbrev pub name_given : Option Progress → Option (List ℕ)
name_given call = option_and_then (λ progress. progress.name) call

-- the number that an event adds
abbrev pub number_added : Option Event → Option Number
number_added (Some (event.Add number coll words)) = Some number
number_added _ = None

-- what the name of an add stands for once the add has ended: the object that was made, or none
abbrev pub settled : Option Event → Done → Option Known
settled happened (done.Made slot) = option_map Object (number_added happened)
settled happened (done.Full cause) = Some Full
settled happened _ = None

-- names after one of them was settled so
abbrev pub SettlesAs : Names → Names → List ℕ → Option Known → Type 0
SettlesAs old new name None = new ≡ old
SettlesAs old new name (Some (Object number)) = SetsKnown old new name (Object number) × SetsNumber old new number name
SettlesAs old new name (Some Full) = SetsKnown old new name Full × KeepsNumbers old new
SettlesAs old new name (Some Pending) = new ≡ old

-- the same, where the name was given
abbrev pub SettlesGiven : Names → Names → List ℕ → Option Known → Option Known → Type 0
SettlesGiven old new name None known = new ≡ old
SettlesGiven old new name (Some given) known = SettlesAs old new name known

-- an add that ends settles its name; no other step changes names
abbrev pub Settles : Names → Names → Option (List ℕ) → Option Event → Option Done → Type 0
Settles old new None happened answer = new ≡ old
Settles old new (Some name) happened None = new ≡ old
Settles old new (Some name) happened (Some answer) = SettlesGiven old new name (known_as old name) (settled happened answer)

-- a name that a call gives stands for nothing yet
abbrev pub GivesName : Names → Names → Option (List ℕ) → Type 0
GivesName old new None = new ≡ old
GivesName old new (Some name) = SetsKnown old new name Pending × KeepsNumbers old new

-- the call in progress after a step with this answer, or none
abbrev pub call_after : Option Progress → Option Done → Option Progress
call_after call None = call
call_after call (Some answer) = None

-- the latest scan of the section after a step with this event
abbrev pub scan_after : Option ℕ → Option Event → Option ℕ
scan_after scan (Some (event.Begin number coll)) = Some number
scan_after scan (Some event.Leave) = None
scan_after scan _ = scan

-- what is known of a pass after a step
abbrev pub seat_after : Seat → Step → Seat
seat_after seat step = record { call = call_after seat.call step.done; scan = scan_after seat.scan step.event }

-- the pass takes the step that it offers for the choice; where its call ends, its answer is printed
pub record Turn (old : Playing) (pass : ℕ) (choice : Choice) (new : Playing) : Type 0 where
  pub step : Step
  pub seat : Seat
  pub here : slice_get old.seats pass ≡ Some seat
  pub shape : new.running.shape ≡ old.running.shape
  pub steps : Steps old.running.shape old.running.machine pass choice new.running.machine
  pub allowed : IsAllowed old.running pass choice
  pub told : (before after : Local) → slice_get old.running.machine.locals pass ≡ Some before → slice_get new.running.machine.locals pass ≡ Some after → Tells before after step
  pub names : Settles old.names new.names (name_given seat.call) step.event step.done
  pub seats : new.seats ≡ slice_set old.seats pass (seat_after seat step)
  pub text : new.text ≡ old.text ++ printed pass new.names seat.call step.done

-- the pass may not take such a step
abbrev pub IsRefused : Playing → ℕ → Choice → Type 0
IsRefused old pass choice = (fault : StepFault) × IsRefusedFirst old.running pass choice fault
