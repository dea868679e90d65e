-- The objects that are found by their keys.
use Rattle.std.specs.Prelude.{◌≡◌, ℕ, Bool, ◌&&◌, ◌==◌, List, Option, Some, IfSome, if◌then◌else◌}
use Rattle.std.specs.Map.{lookup}
use Rattle.smc_words.specs.declared.number.Number.{Number}
use Rattle.smc_words.specs.Number.{FitsNumber}

-- whether two tables with their keys are the same
abbrev pub is_key : ℕ × ℕ → ℕ × ℕ → Bool
is_key one other = (one.0 == other.0) && (one.1 == other.1)

-- the number that was put under a table's key
abbrev pub number_at : List ((ℕ × ℕ) × Number) → ℕ → ℕ → Option Number
number_at entries table key = lookup (is_key (table, key)) entries

-- each number that was put is one that an object can have
abbrev pub AreNumbers : List ((ℕ × ℕ) × Number) → Type 0
AreNumbers entries = (table key : ℕ) → IfSome (number_at entries table key) FitsNumber

-- the number now stands under this key, and under every other key what stood there
abbrev pub Puts : List ((ℕ × ℕ) × Number) → List ((ℕ × ℕ) × Number) → ℕ → ℕ → Number → Type 0
Puts old new table key number = (other_table other_key : ℕ) →
    number_at new other_table other_key ≡ (if is_key (table, key) (other_table, other_key) then Some number else number_at old other_table other_key)
