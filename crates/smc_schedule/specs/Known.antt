-- What the table of names knows.
use Rattle.std.specs.Prelude.{◌≡◌, ◌≢◌, ℕ, List, Some, string_bytes}
use Rattle.std.specs.declared.option.Option.{Option}
use Rattle.std.specs.BTreeMap.{get, get_by_text}
use Rattle.std.specs.Option.{option_map}
use Rattle.smc_words.specs.Number.{number_cmp}
use Rattle.smc_words.specs.declared.number.Number.{Number}
use Rattle.smc_schedule.specs.declared.names.Known.{Known}
use Rattle.smc_schedule.specs.declared.names.Names.{Names}

-- what a name stands for, where it was given
abbrev pub known_as : Names → List ℕ → Option Known
known_as names name = get_by_text names.by_name name

-- the name of an object, where it has one
abbrev pub name_at : Names → Number → Option (List ℕ)
name_at names number = option_map string_bytes (get number_cmp names.by_number number)

-- a name stands for this, and the others for what they stood
pub record SetsKnown (old new : Names) (name : List ℕ) (known : Known) : Type 0 where
  pub here : known_as new name ≡ Some known
  pub others : (other : List ℕ) → other ≢ name → known_as new other ≡ known_as old other

-- an object has this name, and the others have theirs
pub record SetsNumber (old new : Names) (number : Number) (name : List ℕ) : Type 0 where
  pub here : name_at new number ≡ Some name
  pub others : (other : Number) → other ≢ number → name_at new other ≡ name_at old other

-- each name stands for what it stood
abbrev pub KeepsKnown : Names → Names → Type 0
KeepsKnown old new = (name : List ℕ) → known_as new name ≡ known_as old name

-- each object has the name that it had
abbrev pub KeepsNumbers : Names → Names → Type 0
KeepsNumbers old new = (number : Number) → name_at new number ≡ name_at old number
