-- What it means to play a schedule.
use Rattle.std.specs.Prelude.{◌≡◌, ⊤, ℕ, Option, Some, None, List, [], ◌∷◌, ◌++◌, take, slice_get}
use Rattle.std.specs.Option.{option_to_list}
use Rattle.smc_shape.specs.Layout.{Layout}
use Rattle.smc_model.specs.declared.event.Event.{Event}
use Rattle.smc_core.specs.declared.call.Choice.{Choice}
use Rattle.smc_core.specs.declared.local.Local.{Local}
use Rattle.smc_core.specs.Machine.{Machine, Steps, Leads}
use Rattle.smc_machine.specs.declared.step.PlayFault.{PlayFault}
use Rattle.smc_machine.specs.declared.step.Step.{Step}
use Rattle.smc_machine.specs.declared.step.StepFault.{StepFault}
use Rattle.smc_machine.specs.declared.step.StepFault.TheVariants.{NoMemory}
use Rattle.smc_machine.specs.Faults.{IsRefused}
use Rattle.smc_machine.specs.Running.{Running, Tells}

-- a pass takes a step for a choice, and what the step tells is one more event behind the others, if it tells one
pub record PlaysOne (shape : Layout) (m : Machine) (pass : ℕ) (choice : Choice) (old new : List Event) (next : Machine) : Type 0 where
  pub step : Step
  pub leads : Steps shape m pass choice next
  pub tells : (before after : Local) → slice_get m.locals pass ≡ Some before → slice_get next.locals pass ≡ Some after → Tells before after step
  pub events : new ≡ old ++ option_to_list step.event

-- the steps of the schedule lead from one machine to another, and what they tell are these events, in order
abbrev pub Plays : Layout → Machine → List (ℕ × Choice) → List Event → Machine → Type 0
Plays shape m [] events last = (m ≡ last) × (events ≡ [])
Plays shape m (first ∷ later) events last =
    (next : Machine) × (told : List Event) × (rest : List Event) × PlaysOne shape m first.0 first.1 [] told next × Plays shape next later rest last
    × (events ≡ told ++ rest)

-- why a step of a schedule is not taken; memory may always be wanting
abbrev pub IsStopped : Running → ℕ → Choice → StepFault → Type 0
IsStopped m pass choice NoMemory = ⊤
IsStopped m pass choice fault = IsRefused m pass choice fault

-- why the step of this line is not taken, where the schedule has one
abbrev pub IsStoppedAt : Running → Option (ℕ × Choice) → StepFault → Type 0
IsStoppedAt m None fault = ⊥
IsStoppedAt m (Some line) fault = IsStopped m line.0 line.1 fault

-- the steps before the one that is named lead to where the machine stands, and that one is refused there
pub record StopsAt (old new : Running) (schedule : List (ℕ × Choice)) (stop : PlayFault) : Type 0 where
  pub leads : Leads old.shape old.machine (take stop.at schedule) new.machine
  pub refused : IsStoppedAt new (slice_get schedule stop.at) stop.fault
