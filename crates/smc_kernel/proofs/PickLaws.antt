-- Places that are picked one after another, and the rows at them.
use Rattle.std.proofs.Common.{◌≡◌, ℕ, ◌+◌, ◌≤◌, ◌<◌, Bool, true, false, cond, List, [], ◌∷◌, ◌++◌, length, map, filter, get_or, not, suc, take, refl, ap, sym, ◌∙◌, arith}
use Rattle.std.proofs.lemmas.Grind.{common_steps}
use Rattle.std.proofs.lemmas.List.Elements.{All-filter}
use Rattle.std.proofs.Math.Seq.{take-suc}
use Rattle.std.proofs.lemmas.List.{length-map, map-append}
use Rattle.std.specs.List.{range_with_len, All}
use Rattle.std.proofs.lemmas.List.FromFn.{get_or-range_with_len, length-range_with_len, map-range_with_len_more}
use Rattle.smc_kernel.specs.Batches.{row_at, rows_at}

-- ---- places

-- no more are kept than there are
pub kept-few : {X : Type 0} (p : X → Bool) (xs : List X) → length (filter p xs) ≤ length xs
kept-few p [] = grind arith
kept-few p (x ∷ xs) = grind (arith, common_steps, kept-few p xs)

map-same : {X : Type 0} (xs : List X) → map (λ x. x) xs ≡ xs
map-same [] = refl
map-same (x ∷ xs) = ap (λ ys. x ∷ ys) (map-same xs)

-- one place more
pub range-more : (a n j : ℕ) → a + n ≡ j → range_with_len a (n + 1) ≡ range_with_len a n ++ j ∷ []
range-more a n j is = sym (map-same (range_with_len a (n + 1))) ∙ map-range_with_len_more (λ x. x) a n j is ∙ ap (λ (xs : List ℕ). xs ++ j ∷ []) (map-same (range_with_len a n))

-- places below a number
pub places-below : (n m : ℕ) → n ≤ m → All (λ place. place < m) (range_with_len 0 n)
places-below n m within k d here = grind (arith, get_or-range_with_len 0 n k d, length-range_with_len 0 n, here, within)

-- what is kept of the places below a number is below it
pub kept-below : (p : ℕ → Bool) (n m : ℕ) (xs : List ℕ) → n ≤ m → xs ≡ filter p (range_with_len 0 n) → All (λ place. place < m) xs
kept-below p n m xs within is = rw is (All-filter p (λ place. place < m) (range_with_len 0 n) (places-below n m within))

-- those kept of one more
pub filter-more : {X : Type 0} (p : X → Bool) (xs : List X) (x : X) → filter p (xs ++ x ∷ []) ≡ cond (p x) (filter p xs ++ x ∷ []) (filter p xs)
filter-more p [] x = refl
filter-more p (y ∷ ys) x = elim (p y) as (λ t. cond t (y ∷ filter p (ys ++ x ∷ [])) (filter p (ys ++ x ∷ [])) ≡ cond (p x) (cond t (y ∷ filter p ys) (filter p ys) ++ x ∷ []) (cond t (y ∷ filter p ys) (filter p ys))) [
  | true ↦ ap (λ rest. y ∷ rest) (filter-more p ys x) ∙ push (p x)
  | false ↦ filter-more p ys x
]
  where
    push : (t : Bool) → y ∷ cond t (filter p ys ++ x ∷ []) (filter p ys) ≡ cond t ((y ∷ filter p ys) ++ x ∷ []) (y ∷ filter p ys)
    push true = refl
    push false = refl

-- what is kept of the first places, with one more
pub kept-more : (p : ℕ → Bool) (old now : List ℕ) (place : ℕ) (keep : Bool) → old ≡ filter p (range_with_len 0 place) → keep ≡ p place
    → now ≡ cond keep (old ++ place ∷ []) old → now ≡ filter p (range_with_len 0 (place + 1))
kept-more p old now place keep is tested made =
    made ∙ ap (λ t. cond t (old ++ place ∷ []) old) tested ∙ ap (λ xs. cond (p place) (xs ++ place ∷ []) xs) is
    ∙ sym (ap (filter p) (range-more 0 place place (omega arith)) ∙ filter-more p (range_with_len 0 place) place)

-- ---- rows at places

-- the rows at the first places, with one more
pub rows_at-next : (rows : List (List ℕ)) (places : List ℕ) (i place : ℕ) → i < length places → place ≡ get_or places i 0
    → rows_at rows (take (i + 1) places) ≡ rows_at rows (take i places) ++ row_at rows place ∷ []
rows_at-next rows places i place within is =
    let more : i + 1 ≡ suc i = omega arith in
    ap (λ n. rows_at rows (take n places)) more ∙ ap (rows_at rows) (take-suc places i 0 within) ∙ map-append (row_at rows) (take i places) (get_or places i 0 ∷ [])
    ∙ ap (λ p. rows_at rows (take i places) ++ row_at rows p ∷ []) (sym is)

-- so many
pub length-rows_at : (rows : List (List ℕ)) (places : List ℕ) → length (rows_at rows places) ≡ length places
length-rows_at rows places = length-map places (row_at rows)
