-- Scans in a world that stands still.
use Rattle.std.specs.Prelude.{◌≡◌, ⊤, ℕ, List, [], ◌∷◌, ◌++◌, map, filter, length, Contains, IsPermutation}
use Rattle.std.specs.List.{AllByRecursion, flat_map}
use Rattle.std.specs.FinMap.{entries}
use Rattle.smc_words.specs.declared.number.Number.{Number}
use Rattle.smc_model.specs.declared.event.Event.{Event}
use Rattle.smc_model.specs.declared.event.Event.TheVariants.{Begin, End, Look, Read, Visit}
use Rattle.smc_model.specs.Scans.{ScansOnce}
use Rattle.smc_model.specs.World.{World, count_of, empty_world, is_present_in, world_through}

-- the numbers of the objects of a collection that are present, in their order
abbrev pub numbers_in : World → ℕ → List Number
numbers_in world coll = map (λ pair. pair.0) (filter (λ pair. is_present_in coll pair.1) (entries world))

-- the event reads, or is a visit of this scan: it leaves each world as it is
abbrev pub IsCalm : ℕ → Event → Type 0
IsCalm scan (Look number here) = ⊤
IsCalm scan (Read number field value) = ⊤
IsCalm scan (Visit other number) = other ≡ scan
IsCalm scan event = ⊥

-- the number that an event visits
abbrev pub visited_by : Event → List Number
visited_by (Visit scan number) = number ∷ []
visited_by event = []

-- the numbers that events visit, in order
abbrev pub numbers_visited : List Event → List Number
numbers_visited events = flat_map visited_by events

-- each scan that has begun has ended
abbrev pub AreEnded : List Event → Type 0
AreEnded events = (scan coll : ℕ) → Contains events (Begin scan coll) → Contains events (End scan)

-- what a scan visits, of which all earlier ones have ended, and between whose begin and end the world stands still, are the
-- present numbers of its collection, each once
abbrev pub VisitsArePresent : Type 0
VisitsArePresent = (before inner rest : List Event) (scan coll : ℕ) → AreEnded before → AllByRecursion (IsCalm scan) inner
    → ScansOnce empty_world (before ++ Begin scan coll ∷ (inner ++ End scan ∷ rest))
    → IsPermutation (numbers_visited inner) (numbers_in (world_through empty_world before) coll)

-- as many numbers are present as objects are
abbrev pub CountsAreNumbers : Type 0
CountsAreNumbers = (world : World) (coll : ℕ) → length (numbers_in world coll) ≡ count_of world coll
