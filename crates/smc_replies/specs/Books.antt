-- What a script knows between its commands.
use Rattle.std.specs.Prelude.{◌≡◌, ℕ, ◌==◌, if◌then◌else◌, List, [], map, Option, Some, None, String, string_bytes}
use Rattle.std.specs.BTreeMap.{insert_entry}
use Rattle.std.specs.Cmp.Lexicographic.{slice_cmp}
use Rattle.std.specs.Map.{lookup}
use Rattle.std.specs.Ordering.{is_eq, nat_cmp}
use Rattle.smc_words.specs.declared.number.Number.{Number}
use Rattle.smc_folds.specs.Kinds.{Kind}
use Rattle.smc_query.specs.Trees.{Word}
use Rattle.smc_load.specs.Loading.{Entries}

-- a name that was given, and its object, or none where the object was refused
abbrev pub Named : Type 0
Named = Word × Option Number

-- what stands under the name, where it was given
abbrev pub named : List Named → Word → Option (Option Number)
named names name = lookup (λ known. is_eq (slice_cmp nat_cmp name known)) names

-- the names with one more, in the order of their bytes
abbrev pub with_name : Word → Option Number → List Named → List Named
with_name name object names = insert_entry (slice_cmp nat_cmp) names name object

-- the names that a map has, with what stands under them
abbrev pub names_in : {A : Type 0} → List (String A × Option Number) → List Named
names_in entries = map (λ entry. (string_bytes entry.0, entry.1)) entries

-- an object of the collection, where this is one
abbrev pub object_in : ℕ → Option (Option Number) → Option Number
object_in coll (Some (Some number)) = if number.coll == coll then Some number else None
object_in coll _ = None

-- the object of the collection that has the name; null where the name was not given, or has none
abbrev pub object_of : List Named → ℕ → Word → Option Number
object_of names coll name = object_in coll (named names name)

-- the names of folds, in the order in which they were handed in
abbrev pub fold_names : List Kind → List Word
fold_names kinds = map (λ kind. kind.name) kinds

-- the names that were given, the objects that are found by their keys, and the folds that may be called
pub record Books : Type 0 where
  pub names : List Named
  pub keys : Entries
  pub folds : List Kind

-- before the first command of a script that was handed these folds
abbrev pub books_of : List Kind → Books
books_of kinds = record { names = []; keys = []; folds = kinds }

-- the same names were given, and the same folds may be called
pub record KnowsSame (one other : Books) : Type 0 where
  pub names : one.names ≡ other.names
  pub folds : one.folds ≡ other.folds
