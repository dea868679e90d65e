-- What a list of steps tells: the events, in the order of the steps, each with the pass that told it.
use Rattle.std.specs.Prelude.{ℕ, Option, Some, None, List, [], ◌∷◌, ◌++◌}
use Rattle.smc_shape.specs.Layout.{Layout}
use Rattle.smc_model.specs.declared.event.Event.{Event}
use Rattle.smc_core.specs.declared.call.Choice.{Choice}
use Rattle.smc_core.specs.Change.{change}
use Rattle.smc_core.specs.Machine.{Machine, Steps, Leads}
use Rattle.smc_core.specs.Row.{row_shows}

-- what a step adds to the order of all events: what it tells, with its pass
abbrev pub adds : ℕ → Option Event → List (ℕ × Event)
adds pass None = []
adds pass (Some event) = (pass, event) ∷ []

-- the event that the step tells, if it tells one
abbrev pub told_by_step : (shape : Layout) (m : Machine) (pass : ℕ) (choice : Choice) (next : Machine) → Steps shape m pass choice next → Option Event
told_by_step shape m pass choice next step = (change shape pass step.local.stand step.local.stand.section step.local.stand.phase choice step.told (row_shows shape step.offered.op m.row)).event

-- the events that the steps tell, one after the other
abbrev pub told_along : (shape : Layout) (m : Machine) (steps : List (ℕ × Choice)) (last : Machine) → Leads shape m steps last → List (ℕ × Event)
told_along shape m [] last leads = []
told_along shape m (first ∷ later) last leads = adds first.0 (told_by_step shape m first.0 first.1 leads.0 leads.1) ++ told_along shape leads.0 later last leads.2
