-- Places of the one order: the world there, what a pass has done by then, and how often an entry was given.
use Rattle.std.specs.Prelude.{◌≡◌, ℕ, ◌+◌, ◌<◌, ◌==◌, ◌&&◌, Bool, false, List, ◌∷◌, ◌++◌, filter, length}
use Rattle.smc_words.specs.declared.layout.TheConstants.{INCARNATIONS}
use Rattle.smc_model.specs.declared.event.Event.{Event}
use Rattle.smc_model.specs.declared.event.Event.TheVariants.{Add}
use Rattle.smc_model.specs.Order.{events_by, events_of}
use Rattle.smc_model.specs.World.{World, empty_world, world_through}
use Rattle.smc_core.specs.declared.local.Opening.{Opening}
use Rattle.smc_trace.specs.Trace.{CallEnd, events_in}

-- the world behind what came earlier
abbrev pub world_at : List (ℕ × Event) → World
world_at earlier = world_through empty_world (events_of earlier)

-- the place of the order at which a pass that has made these calls tells its next event
pub record EventPlace (order : List (ℕ × Event)) (pass : ℕ) (calls : List CallEnd) : Type 0 where
  pub earlier : List (ℕ × Event)
  pub event : Event
  pub later : List (ℕ × Event)
  pub cut : order ≡ earlier ++ (pass, event) ∷ later
  pub own : events_by pass earlier ≡ events_in calls

-- whether an event gives this entry of the collection to an object
abbrev pub gives : ℕ → ℕ → Event → Bool
gives coll entry (Add number in_coll words) = number.coll == coll && number.entry == entry
gives coll entry _ = false

-- how often the entry was given
abbrev pub times_given : ℕ → ℕ → List (ℕ × Event) → ℕ
times_given coll entry earlier = length (filter (gives coll entry) (events_of earlier))

-- each entry of the collection was given less often than it has incarnations behind the opening's
abbrev pub GivenSeldom : Opening → ℕ → List (ℕ × Event) → Type 0
GivenSeldom opening coll earlier = (entry : ℕ) → opening.incarnation + times_given coll entry earlier + 1 < INCARNATIONS
