-- What happens to the tree that holds a world's objects.
use Rattle.std.specs.Prelude.{◌≡◌, ℕ, Bool, Some, IsSome, IsSomeAnd, slice_get, if◌then◌else◌}
use Rattle.std.specs.BTreeMap.{BTreeMap, get, is_at}
use Rattle.std.specs.FinMap.{from_entries}
use Rattle.smc_words.specs.declared.number.Number.{Number}
use Rattle.smc_words.specs.Number.{number_cmp}
use Rattle.smc_model.specs.declared.object.Object.{Object}
use Rattle.smc_model.specs.World.{World}

-- the world that a tree holds
abbrev pub world_of : BTreeMap Number Object → World
world_of tree = from_entries tree.entries

-- the next tree has the object at the number, and each other number has what it had
abbrev pub SetsAt : BTreeMap Number Object → BTreeMap Number Object → Number → Object → Type 0
SetsAt tree next number object =
    (other : Number) → get number_cmp next other ≡ (if is_at (number_cmp number) other then Some object else get number_cmp tree other)

-- the next tree has the number's object changed
abbrev pub ChangesAt : BTreeMap Number Object → BTreeMap Number Object → Number → (Object → Object) → Type 0
ChangesAt tree next number change = (object : Object) × (get number_cmp tree number ≡ Some object) × SetsAt tree next number (change object)

-- the number's object has the field
abbrev pub HasWordAt : BTreeMap Number Object → Number → ℕ → Type 0
HasWordAt tree number field = IsSomeAnd (get number_cmp tree number) (λ object. IsSome (slice_get object.words field))

-- the number has an object, which is present or not, as told
abbrev pub IsPresentAt : BTreeMap Number Object → Number → Bool → Type 0
IsPresentAt tree number present = IsSomeAnd (get number_cmp tree number) (λ object. present ≡ object.present)
