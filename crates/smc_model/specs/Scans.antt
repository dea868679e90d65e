-- The rule of scans: each object that is present throughout is visited once, and none that is absent.
use Rattle.std.specs.Prelude.{◌≡◌, ℕ, ⊤, IsTrue, IsSomeAnd, List, [], ◌∷◌, ◌++◌, Contains}
use Rattle.smc_words.specs.declared.number.Number.{Number}
use Rattle.smc_model.specs.declared.event.Event.{Event}
use Rattle.smc_model.specs.declared.event.Event.TheVariants.{Begin, Visit, End}
use Rattle.smc_model.specs.World.{World, object_of, is_present_in, world_after, world_through}

-- each element keeps a rule on it and those before it
abbrev pub EachAfter : {X : Type 0} → (List X → X → Type 0) → List X → List X → Type 0
EachAfter Rule before [] = ⊤
EachAfter Rule before (x ∷ xs) = Rule before x × EachAfter Rule (before ++ x ∷ []) xs

-- the number's object is present, in the collection
abbrev pub PresentIn : World → ℕ → Number → Type 0
PresentIn world coll number = IsSomeAnd (object_of world number) (λ object. IsTrue (is_present_in coll object))

-- the number's object is so in a world, and in each one that the events lead to
abbrev pub PresentThroughout : World → ℕ → Number → List Event → Type 0
PresentThroughout world coll number [] = PresentIn world coll number
PresentThroughout world coll number (event ∷ events) = PresentIn world coll number × PresentThroughout (world_after world event) coll number events

-- a scan that goes on visits an object that is present in its collection, and that it has not visited
pub record VisitsRightly (first : World) (before : List Event) (scan : ℕ) (number : Number) : Type 0 where
  pub coll : ℕ
  pub begun : Contains before (Begin scan coll)
  pub goes_on : ¬ (Contains before (End scan))
  pub present : PresentIn (world_through first before) coll number
  pub not_visited : ¬ (Contains before (Visit scan number))

-- a scan ends once it has visited each object that was present in its collection ever since it began
abbrev pub EndsRightly : World → List Event → ℕ → Type 0
EndsRightly first before scan =
    (earlier : List Event) (coll : ℕ) (later : List Event) → before ≡ earlier ++ Begin scan coll ∷ later
    → (number : Number) → PresentThroughout (world_through first earlier) coll number later → Contains later (Visit scan number)

-- what the rule of scans asks of an event and those before it
abbrev pub KeepsScanRule : World → List Event → Event → Type 0
KeepsScanRule first before (Visit scan number) = VisitsRightly first before scan number
KeepsScanRule first before (End scan) = EndsRightly first before scan
KeepsScanRule first before _ = ⊤

-- the events, from the first world on, keep the rule of scans
abbrev pub ScansOnce : World → List Event → Type 0
ScansOnce first events = EachAfter (KeepsScanRule first) [] events
