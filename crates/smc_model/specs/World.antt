-- The plain world, and what each event asks of it and makes of it.
use Rattle.std.specs.Prelude.{◌≡◌, ◌≢◌, ◌==◌, ◌<◌, ◌&&◌, ℕ, ⊤, Bool, true, false, Option, Some, None, IsTrue, IsSome, List, [], ◌∷◌, length, filter, sum_by, slice_get, slice_set, slice_index, option_and_then, All, Contains, refl}
use Rattle.std.specs.Option.{option_map_or}
use Rattle.std.specs.Coded.{Coded, code_by, coded×, coded_list, coded_ℕ, coded_bool}
use Rattle.std.specs.FinMap.{FinMap, empty, get, insert, values, code}
use Rattle.smc_words.specs.declared.number.Number.{Number}
use Rattle.smc_words.specs.Number.{number_cmp, coded_number}
use Rattle.smc_model.specs.declared.object.Object.{Object}
use Rattle.smc_model.specs.declared.event.Event.{Event}
use Rattle.smc_model.specs.declared.event.Event.TheVariants.{Add, Look, Read, Write, Remove}
use Rattle.smc_words.specs.declared.layout.TheConstants.{BLANK}

-- an object for each number that was ever given; no pair is ever taken out
abbrev pub World : Type 0
World = FinMap number_cmp Object

-- an object as its three parts
abbrev pub coded_object : Coded Object
coded_object =
    code_by (ℕ × (List ℕ × Bool)) (coded× coded_ℕ (coded× (coded_list coded_ℕ) coded_bool)) (λ o. (o.coll, (o.words, o.present)))
    (λ p. record { coll = p.0; words = p.1.0; present = p.1.1 }) (λ _. refl)

-- a world as its pairs
abbrev pub coded_world : Coded World
coded_world = code coded_number coded_object

-- the world in which no number was given
abbrev pub empty_world : World
empty_world = empty

-- the object of a number, present or removed
abbrev pub object_of : World → Number → Option Object
object_of world number = get world number

-- whether a number is present: it has an object, which was not removed
abbrev pub is_present : World → Number → Bool
is_present world number = option_map_or (λ object. object.present) (object_of world number) false

-- the number is present
abbrev pub Present : World → Number → Type 0
Present world number = IsTrue (is_present world number)

-- the word of a number's field, present or removed, if there is one
abbrev pub word_of : World → Number → ℕ → Option ℕ
word_of world number field = option_and_then (λ object. slice_get object.words field) (object_of world number)

-- whether an object is present, in the collection
abbrev pub is_present_in : ℕ → Object → Bool
is_present_in coll object = object.present && (object.coll == coll)

-- the present objects of a collection, in the order of their numbers
abbrev pub present_in : World → ℕ → List Object
present_in world coll = filter (is_present_in coll) (values world)

-- how many objects of a collection are present
abbrev pub count_of : World → ℕ → ℕ
count_of world coll = length (present_in world coll)

-- each present object of a collection has the field
abbrev pub HasField : World → ℕ → ℕ → Type 0
HasField world coll field = All (λ object. field < length object.words) (present_in world coll)

-- the sum of a field's words over the present objects of a collection
abbrev pub total_of : World → ℕ → ℕ → ℕ
total_of world coll field = sum_by (λ object. slice_index object.words field) (present_in world coll)

-- an object as it is added
abbrev pub new_object : ℕ → List ℕ → Object
new_object coll words = record { coll = coll; words = words; present = true }

-- an object with one word written
abbrev pub with_word : Object → ℕ → ℕ → Object
with_word object field value = record object { words = slice_set object.words field value }

-- an object that is not present any more
abbrev pub removed : Object → Object
removed object = record object { present = false }

-- the world with a number's object changed; a number that was never given stays so
abbrev pub changed_at : World → Number → (Object → Object) → World
changed_at world number change = option_map_or (λ object. insert world number (change object)) (object_of world number) world

-- what an event asks of the world in which it happens: most ask nothing
abbrev pub IsAllowed : World → Event → Type 0
IsAllowed world (Add number coll words) = (object_of world number ≡ None) × (number.coll ≡ coll)
IsAllowed world (Look number here) = here ≡ is_present world number
IsAllowed world (Read number field value) = word_of world number field ≡ Some value
IsAllowed world (Write number field value) = IsSome (word_of world number field) × (value ≢ BLANK)
IsAllowed world (Remove number first) = IsSome (object_of world number) × (first ≡ is_present world number)
IsAllowed world _ = ⊤

-- the world that an event leaves: most leave it as it was
abbrev pub world_after : World → Event → World
world_after world (Add number coll words) = insert world number (new_object coll words)
world_after world (Write number field value) = changed_at world number (λ object. with_word object field value)
world_after world (Remove number first) = changed_at world number removed
world_after world _ = world

-- the event may happen, and leads from one world to the next
abbrev pub Fits : World → Event → World → Type 0
Fits world event next = IsAllowed world event × (next ≡ world_after world event)

-- the event adds an object
abbrev pub IsAdd : Event → Type 0
IsAdd (Add number coll words) = ⊤
IsAdd _ = ⊥

-- the world that events leave, one after another
abbrev pub world_through : World → List Event → World
world_through world [] = world
world_through world (event ∷ events) = world_through (world_after world event) events

-- the events fit, one after another, from the first world to the last
abbrev pub Replay : World → List Event → World → Type 0
Replay world [] last = last ≡ world
Replay world (event ∷ events) last = IsAllowed world event × Replay (world_after world event) events last

-- none of the events writes the number's field
abbrev pub LacksWrite : List Event → Number → ℕ → Type 0
LacksWrite events number field = (value : ℕ) → ¬ (Contains events (Write number field value))
