-- The names that a script gives to its objects.
use Rattle.std.specs.Prelude.{ℕ, ◌==◌, Bool, false, ◌&&◌, ◌||◌, nat_lt, nat_le, is_some, if◌then◌else◌, List, [], ◌∷◌, map, length, Option, Some, None, String}
use Rattle.std.specs.BTreeMap.{insert_entry}
use Rattle.std.specs.Char.{is_ascii_digit, is_ascii_lowercase}
use Rattle.std.specs.Cmp.Lexicographic.{slice_cmp}
use Rattle.std.specs.List.{list_all}
use Rattle.std.specs.Map.{lookup}
use Rattle.std.specs.Ordering.{is_eq, nat_cmp}
use Rattle.std.specs.String.{string_bytes}
use Rattle.smc_query.specs.Trees.{Word}
use Rattle.smc_script.specs.declared.limits.TheConstants.{MAX_NAME, UNDERSCORE}
use Rattle.smc_script.specs.declared.names.Origin.{Origin}

-- a lower-case letter, a digit or an underscore
abbrev pub is_name_byte : ℕ → Bool
is_name_byte byte = is_ascii_lowercase byte || is_ascii_digit byte || byte == UNDERSCORE

-- a lower-case letter, then fewer than sixteen of these bytes
abbrev pub is_script_name : Word → Bool
is_script_name [] = false
is_script_name (first ∷ others) = is_ascii_lowercase first && nat_lt (length others) MAX_NAME && list_all is_name_byte others

-- a name that was given, with the table of its object and the line that gave it
abbrev pub Given : Type 0
Given = Word × Origin

-- The names that were given. Those that other workers gave are hidden: those of the lines from one on and before another.
pub record Naming : Type 0 where
  pub given : List Given
  pub from : ℕ
  pub before : ℕ

-- where the name was given, if it was
abbrev pub origin_of : List Given → Word → Option Origin
origin_of given name = lookup (λ known. is_eq (slice_cmp nat_cmp name known)) given

-- whether the name was given
abbrev pub is_taken : Naming → Word → Bool
is_taken names name = is_some (origin_of names.given name)

-- whether what this line gave is hidden
abbrev pub is_hidden : Naming → (line : ℕ) → Bool
is_hidden names line = nat_le names.from line && nat_lt line names.before

-- the table of an object that was named there, where this is not hidden
abbrev pub table_from : Naming → Option Origin → Option ℕ
table_from names None = None
table_from names (Some origin) = if is_hidden names origin.line then None else Some origin.table

-- the table of the object with this name, where the name is known
abbrev pub table_known : Naming → Word → Option ℕ
table_known names name = table_from names (origin_of names.given name)

-- the names with one more, in the order of their bytes
abbrev pub with_name : Word → Origin → List Given → List Given
with_name name origin given = insert_entry (slice_cmp nat_cmp) given name origin

-- the names that a map has, with where they were given
abbrev pub given_in : {A : Type 0} → List (String A × Origin) → List Given
given_in entries = map (λ entry. (string_bytes entry.0, entry.1)) entries
