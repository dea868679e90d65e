-- The logs of all passes, and the one order in which they are the history of a plain world.
use Rattle.std.specs.Prelude.{◌≡◌, ◌==◌, ◌≤◌, ℕ, ⊤, List, [], length, map, filter, slice_index_or}
use Rattle.smc_model.specs.declared.event.Event.{Event}
use Rattle.smc_model.specs.declared.event.Event.TheVariants.{Told}
use Rattle.smc_model.specs.World.{World, Replay}
use Rattle.smc_model.specs.Scans.{EachAfter, ScansOnce}

-- the events of a pass in its own order; a pass beyond the last has none
abbrev pub log_of : List (List Event) → ℕ → List Event
log_of logs pass = slice_index_or logs pass []

-- the events of an order, which has each with the pass that did it
abbrev pub events_of : List (ℕ × Event) → List Event
events_of order = map (λ done. done.1) order

-- the events of one pass, as the order has them
abbrev pub events_by : ℕ → List (ℕ × Event) → List Event
events_by pass order = events_of (filter (λ done. done.0 == pass) order)

-- what a pass is told of another one's log has happened by then
abbrev pub IsTold : List (ℕ × Event) → Event → Type 0
IsTold before (Told pass count) = count ≤ length (events_by pass before)
IsTold before _ = ⊤

-- the order has each log's events once, as that log has them, and knows what was told
pub record OneOrder (logs : List (List Event)) (order : List (ℕ × Event)) : Type 0 where
  pub each_log : (pass : ℕ) → events_by pass order ≡ log_of logs pass
  pub told : EachAfter (λ before done. IsTold before done.1) [] order

-- the logs have one order, which replays from the first world to the last, and in which scans visit once
pub record Lawful (first : World) (logs : List (List Event)) (last : World) : Type 0 where
  pub order : List (ℕ × Event)
  pub one_order : OneOrder logs order
  pub replay : Replay first (events_of order) last
  pub scans_once : ScansOnce first (events_of order)
