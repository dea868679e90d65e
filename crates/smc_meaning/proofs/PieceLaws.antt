-- Pieces of a text, written one behind another.
use Rattle.std.proofs.Common.{◌≡◌, ℕ, ◌+◌, ◌<◌, List, [], ◌∷◌, ◌++◌, All, get_or, length, map, take, sym, ap, ◌∙◌}
use Rattle.std.specs.List.{flat_map}
use Rattle.std.proofs.lemmas.List.{flat_map_more, get_or-map, length-map, map-append, take_more}
use Rattle.std.proofs.lemmas.List.Elements.{All-get_or}

-- a piece more of what is seen of a list
pub piece-more : {X Y : Type 0} (piece : X → List ℕ) (seen : Y → X) (start : List ℕ) (ys : List Y) (i : ℕ) (y : Y) → i < length ys → y ≡ get_or ys i y
    → (start ++ flat_map piece (map seen (take i ys))) ++ piece (seen y) ≡ start ++ flat_map piece (map seen (take (i + 1) ys))
piece-more piece seen start ys i y within is =
    let front : take (i + 1) ys ≡ take i ys ++ y ∷ [] = take_more ys i y within ∙ ap (λ other. take i ys ++ other ∷ []) (sym is) in
    flat_map_more piece start (map seen (take i ys)) (seen y)
    ∙ ap (λ xs. start ++ flat_map piece xs) (sym (map-append seen (take i ys) (y ∷ [])) ∙ ap (map seen) (sym front))

-- what holds of all that is seen of a list holds of what is seen of an element
pub seen-all : {X Y : Type 0} (P : X → Type 0) (seen : Y → X) (ys : List Y) (i : ℕ) (y : Y) → i < length ys → y ≡ get_or ys i y → All P (map seen ys) → P (seen y)
seen-all P seen ys i y within is all =
    let here = All-get_or P (map seen ys) i (seen y) (rw (length-map ys seen) within) all in
    rw (is) (rw (get_or-map seen ys i y (seen y) within) at here)
