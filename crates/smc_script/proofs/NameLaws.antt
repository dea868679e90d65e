-- The names of a map, and the map with one more.
use Rattle.std.proofs.Common.{◌≡◌, cond, List, [], ◌∷◌, String, string_bytes, string_cmp, nat_cmp, is_eq, Ordering, Less, Equal, Greater, Some, refl, ap, ◌∙◌}
use Rattle.std.specs.BTreeMap.{insert_entry}
use Rattle.std.specs.Cmp.Lexicographic.{slice_cmp}
use Rattle.std.specs.Map.{lookup}
use Rattle.std.specs.Ordering.{match_ordering}
use Rattle.smc_query.specs.Trees.{Word}
use Rattle.smc_script.specs.Names.{Given, given_in, origin_of, with_name}
use Rattle.smc_script.specs.declared.names.Origin.{Origin}

-- where a name of a map was given is where it was among its names
pub origin-of : {A : Type 0} (entries : List (String A × Origin)) (name : Word) → lookup (λ key. is_eq (slice_cmp nat_cmp name (string_bytes key))) entries ≡ origin_of (given_in entries) name
origin-of [] name = refl
origin-of (entry ∷ entries) name = ap (cond (is_eq (slice_cmp nat_cmp name (string_bytes entry.0))) (Some entry.1)) (origin-of entries name)

-- what is made of each of three, made of the one that an order chooses
map-ordering : {A : Type 0} (order : Ordering) (less equal greater : List (String A × Origin))
    → given_in (match_ordering order less equal greater) ≡ match_ordering order (given_in less) (given_in equal) (given_in greater)
map-ordering Less less equal greater = refl
map-ordering Equal less equal greater = refl
map-ordering Greater less equal greater = refl

-- a map with one more entry has one name more
pub given-insert : {A : Type 0} (entries : List (String A × Origin)) (key : String A) (origin : Origin)
    → given_in (insert_entry string_cmp entries key origin) ≡ with_name (string_bytes key) origin (given_in entries)
given-insert [] key origin = refl
given-insert (entry ∷ entries) key origin =
    map-ordering (string_cmp key entry.0) ((key, origin) ∷ entry ∷ entries) ((entry.0, origin) ∷ entries) (entry ∷ insert_entry string_cmp entries key origin)
    ∙ ap (λ (rest : List Given). match_ordering (string_cmp key entry.0) ((string_bytes key, origin) ∷ given_in (entry ∷ entries)) ((string_bytes entry.0, origin) ∷ given_in entries)
    ((string_bytes entry.0, entry.1) ∷ rest)) (given-insert entries key origin)
