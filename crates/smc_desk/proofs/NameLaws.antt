-- The names of a map, and the map with one more.
use Rattle.std.proofs.Common.{◌≡◌, cond, List, [], ◌∷◌, String, string_bytes, string_cmp, nat_cmp, is_eq, Ordering, Less, Equal, Greater, Option, Some, refl, ap, ◌∙◌}
use Rattle.std.specs.BTreeMap.{insert_entry}
use Rattle.std.specs.Cmp.Lexicographic.{slice_cmp}
use Rattle.std.specs.Map.{lookup}
use Rattle.std.specs.Ordering.{match_ordering}
use Rattle.smc_words.specs.declared.number.Number.{Number}
use Rattle.smc_query.specs.Trees.{Word}
use Rattle.smc_replies.specs.Books.{Named, named, names_in, with_name}

-- what stands under a name of a map stands under it among its names
pub named-in : {A : Type 0} (entries : List (String A × Option Number)) (name : Word) → lookup (λ key. is_eq (slice_cmp nat_cmp name (string_bytes key))) entries ≡ named (names_in entries) name
named-in [] name = refl
named-in (entry ∷ entries) name = ap (cond (is_eq (slice_cmp nat_cmp name (string_bytes entry.0))) (Some entry.1)) (named-in entries name)

-- what is made of each of three, made of the one that an order chooses
map-ordering : {A : Type 0} (order : Ordering) (less equal greater : List (String A × Option Number))
    → names_in (match_ordering order less equal greater) ≡ match_ordering order (names_in less) (names_in equal) (names_in greater)
map-ordering Less less equal greater = refl
map-ordering Equal less equal greater = refl
map-ordering Greater less equal greater = refl

-- a map with one more entry has one name more
pub named-insert : {A : Type 0} (entries : List (String A × Option Number)) (key : String A) (object : Option Number)
    → names_in (insert_entry string_cmp entries key object) ≡ with_name (string_bytes key) object (names_in entries)
named-insert [] key object = refl
named-insert (entry ∷ entries) key object =
    map-ordering (string_cmp key entry.0) ((key, object) ∷ entry ∷ entries) ((entry.0, object) ∷ entries) (entry ∷ insert_entry string_cmp entries key object)
    ∙ ap (λ (rest : List Named). match_ordering (string_cmp key entry.0) ((string_bytes key, object) ∷ names_in (entry ∷ entries)) ((string_bytes entry.0, object) ∷ names_in entries)
    ((string_bytes entry.0, entry.1) ∷ rest)) (named-insert entries key object)
