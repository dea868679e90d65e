-- What the steps of a walk showed of each slot, and what was counted by it.
use Rattle.std.specs.Prelude.{◌≡◌, ℕ, ◌+◌, ◌≤◌, ◌<◌, Bool, true, false, if◌then◌else◌, Option, Some, None, List, [], ◌∷◌, length}
use Rattle.smc_words.specs.declared.number.Number.{Number}
use Rattle.smc_shape.specs.Layout.{Layout, slots_of}
use Rattle.smc_shape.specs.declared.place.Place.TheVariants as place
use Rattle.smc_core.specs.declared.op.Op.TheVariants.{Load}
use Rattle.smc_core.specs.declared.phase.moves.Count.{Count}
use Rattle.smc_core.specs.declared.word.Word.{Word}
use Rattle.smc_core.specs.Count.{blocks_for, is_valid, no_count, with_object}
use Rattle.smc_core.specs.Words.{back_of, dir_of, has_object_at, state_of}
use Rattle.smc_region.specs.Callers.{Caller}
use Rattle.smc_region.specs.Reached.{TookIn}
use Rattle.smc_compact.specs.declared.begun.Begun.{Begun}
use Rattle.smc_compact.specs.declared.begun.Begun.TheVariants as begun

-- an object is in the slot, as the entry of the owner that the slot names showed; a slot without an owner has none
abbrev pub ShowsOwner : Layout → ℕ → ℕ → ℕ → ℕ → Option Number → Bool → Type 0
ShowsOwner shape pass first last slot None has = has ≡ false
ShowsOwner shape pass first last slot (Some number) has =
    (seen : Word) × TookIn shape pass first last (Load (place.Entry number.coll number.entry)) seen × (has ≡ has_object_at number.incarnation slot (state_of seen))

-- the owner of a slot decides where the slot is valid; in another one there is no object
abbrev pub ShowsIn : Layout → ℕ → ℕ → ℕ → ℕ → ℕ → Bool → Bool → Type 0
ShowsIn shape pass first last coll slot false has = has ≡ false
ShowsIn shape pass first last coll slot true has =
    (seen : Word) × TookIn shape pass first last (Load (place.Back coll slot)) seen × ShowsOwner shape pass first last slot (back_of seen) has

-- steps behind so many and before so many showed whether an object is in the slot
abbrev pub Shows : Layout → ℕ → ℕ → ℕ → ℕ → ℕ → Bool → Type 0
Shows shape pass first last coll slot has =
    (seen : Word) × TookIn shape pass first last (Load (place.Directory coll slot)) seen × ShowsIn shape pass first last coll slot (is_valid (dir_of seen)) has

-- they showed this of each slot from this one on
abbrev pub AllShown : Layout → ℕ → ℕ → ℕ → ℕ → ℕ → List Bool → Type 0
AllShown shape pass first last coll slot [] = Unit {0}
AllShown shape pass first last coll slot (has ∷ later) = Shows shape pass first last coll slot has × AllShown shape pass first last coll (slot + 1) later

-- the count with the slot, in which there is an object or none
abbrev pub with_slot : ℕ → Bool → Count → Count
with_slot slot has count = if has then with_object slot count else count

-- the count with each of these slots, from this one on
abbrev pub with_slots : ℕ → List Bool → Count → Count
with_slots slot [] count = count
with_slots slot (has ∷ later) count = with_slots (slot + 1) later (with_slot slot has count)

-- the count with one slot more is this, as such steps showed of the slot
abbrev pub CountsSlot : Layout → ℕ → ℕ → ℕ → ℕ → ℕ → Count → Count → Type 0
CountsSlot shape pass first last coll slot count now = (has : Bool) × Shows shape pass first last coll slot has × (now ≡ with_slot slot has count)

-- this is the count of so many slots from the front, as steps behind so many and before so many showed of each
pub record CountsTo (shape : Layout) (pass first last coll slots : ℕ) (count : Count) : Type 0 where
  pub shown : List Bool
  pub each : length shown ≡ slots
  pub all : AllShown shape pass first last coll 0 shown
  pub is : count ≡ with_slots 0 shown no_count

-- so many objects were counted, in so many blocks, as steps behind so many and before so many showed of each slot
pub record Counts (shape : Layout) (pass first last coll objects blocks : ℕ) : Type 0 where
  pub shown : List Bool
  pub each : length shown ≡ slots_of shape coll
  pub all : AllShown shape pass first last coll 0 shown
  pub objects_are : objects ≡ (with_slots 0 shown no_count).objects
  pub blocks_are : blocks ≡ (with_slots 0 shown no_count).blocks

-- a begin that finds nothing to do has counted the objects in no more blocks than so many need
abbrev pub CountsFor : Caller → Caller → ℕ → Begun → Type 0
CountsFor old new coll (begun.Busy seen) = Unit {0}
CountsFor old new coll begun.Nothing = (objects blocks : ℕ) × Counts old.shape old.number old.local.steps new.local.steps coll objects blocks × (blocks ≤ blocks_for objects)
CountsFor old new coll (begun.Round round) = Unit {0}
