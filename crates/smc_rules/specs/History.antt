-- The histories of a region: what the steps since its start have told, in their order, and the one state that it has then.
use Rattle.std.specs.Prelude.{ℕ, List}
use Rattle.smc_shape.specs.Layout.{Layout, IsShape}
use Rattle.smc_model.specs.declared.event.Event.{Event}
use Rattle.smc_model.specs.Order.{events_of}
use Rattle.smc_model.specs.World.{World, world_through}
use Rattle.smc_core.specs.declared.call.Choice.{Choice}
use Rattle.smc_core.specs.declared.local.Opening.{Opening}
use Rattle.smc_core.specs.Told.{told_along}
use Rattle.smc_core.specs.Machine.{Machine, Leads, started}
use Rattle.smc_rules.specs.Mirror.{anywhere}
use Rattle.smc_rules.specs.Start.{IsStart, state_behind}
use Rattle.smc_rules.specs.State.{State, Backs}

-- a region that started in this world, and the steps that led to this machine
pub record History (shape : Layout) (opening : Opening) (first : World) (m : Machine) : Type 0 where
  pub start : List ℕ
  pub starts : IsStart shape opening first start
  pub steps : List (ℕ × Choice)
  pub leads : Leads shape (started shape start) steps m

-- what has been told, in the order of the steps
abbrev pub history_order : {shape : Layout} {opening : Opening} {first : World} {m : Machine} → History shape opening first m → List (ℕ × Event)
history_order {shape} {opening} {first} {m} h = told_along shape (started shape h.start) h.steps m h.leads

-- the world that this makes of the first one
abbrev pub history_world : {shape : Layout} {opening : Opening} {first : World} {m : Machine} → History shape opening first m → World
history_world {shape} {opening} {first} {m} h = world_through first (events_of (history_order h))

-- the state of the machine in that world
abbrev pub history_state : {shape : Layout} {opening : Opening} {first : World} {m : Machine} → History shape opening first m → State
history_state {shape} {opening} {first} {m} h = state_behind shape opening m (history_world h)

-- ---- laws over histories

-- the rule holds of the state of every history: from each start, after every list of steps
abbrev pub HoldsAlways : (Layout → Opening → State → Type 0) → Type 0
HoldsAlways Rule = (shape : Layout) (opening : Opening) (first : World) (m : Machine) → IsShape shape → (h : History shape opening first m) → Rule shape opening (history_state h)

-- that state stands behind the machine: the row mirrors its memory, and the passes stand where it says
abbrev pub StandsBehind : Type 0
StandsBehind = (shape : Layout) (opening : Opening) (first : World) (m : Machine) → IsShape shape → (h : History shape opening first m)
    → Backs shape anywhere m.row m.locals (history_state h)
