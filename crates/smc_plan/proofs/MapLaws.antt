-- Tests over the elements of a list that is seen in another way.
use Rattle.std.proofs.Common.{◌≡◌, ◌+◌, Bool, not, cond, ◌||◌, List, [], ◌∷◌, map, refl, ap}
use Rattle.std.specs.List.{list_any, prefix_len, position}
use Rattle.std.proofs.lemmas.List.{length-map}

-- whether one passes
pub list_any-map : {A B : Type 0} (test : B → Bool) (view : A → B) (list : List A) → list_any test (map view list) ≡ list_any (λ element. test (view element)) list
list_any-map test view [] = refl
list_any-map test view (element ∷ list) = ap (λ later. test (view element) || later) (list_any-map test view list)

-- how many pass from the front on
prefix_len-map : {A B : Type 0} (test : B → Bool) (view : A → B) (list : List A) → prefix_len test (map view list) ≡ prefix_len (λ element. test (view element)) list
prefix_len-map test view [] = refl
prefix_len-map test view (element ∷ list) = ap (λ later. cond (test (view element)) (1 + later) 0) (prefix_len-map test view list)

-- the place of the first that passes
pub position-map : {A B : Type 0} (test : B → Bool) (view : A → B) (list : List A) → position test (map view list) ≡ position (λ element. test (view element)) list
position-map test view list = rw (prefix_len-map (λ element. not (test element)) view list, length-map list view) refl
