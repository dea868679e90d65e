-- Rows column by column.
use Rattle.std.proofs.Common.{◌≡◌, ◌≢◌, ℕ, ◌+◌, ◌*◌, ◌<◌, ◌≤◌, List, [], ◌∷◌, ◌++◌, length, map, take, drop, get_or, slice_index, refl, ap, sym, ◌∙◌, arith}
use Rattle.std.proofs.lemmas.Grind.{common_steps}
use Rattle.std.proofs.lemmas.List.{same_lists, get_or_default, get_or-map, get_or-take, get_or-drop, length-map, length-take-le, length-drop}
use Rattle.std.proofs.lemmas.List.FromFn.{get_or-map-range_with_len, length-map-range_with_len, map-range_with_len_more, fill_by_all}
use Rattle.std.proofs.Math.Nat.{mul-le-mul_right, add-mul}
use Rattle.std.specs.List.{range_with_len}
use Rattle.smc_kernel.specs.Batches.{row_across, rows_of_columns}

pub length-rows_of_columns : (words : ℕ) (cells : List ℕ) (count : ℕ) → length (rows_of_columns words cells count) ≡ count
length-rows_of_columns words cells count = length-map-range_with_len (row_across words cells) 0 count

-- the front of a column
pub column-is : (words : ℕ) (cells : List ℕ) (count column : ℕ) → column < words → count ≤ 64 → length cells ≡ words * 64 → take count (drop (column * 64) cells) ≡ map (λ row. slice_index row column) (rows_of_columns words cells count)
column-is words cells count column below few size =
    let step : (column + 1) * 64 ≤ words * 64 = mul-le-mul_right 64 (omega (arith, below)) in
    let long : length (take count (drop (column * 64) cells)) ≡ count = length-take-le count (drop (column * 64) cells) (omega (arith, length-drop (column * 64) cells, step, size, few)) in
    let many : length (rows_of_columns words cells count) ≡ count = length-rows_of_columns words cells count in
    same_lists _ _ (long ∙ sym (length-map (rows_of_columns words cells count) (λ row. slice_index row column) ∙ many))
    (λ k d low. let inside : k < count = omega (arith, low, long) in
    get_or-take count (drop (column * 64) cells) k d inside ∙ get_or-drop (column * 64) cells k d
    ∙ get_or_default cells (column * 64 + k) d 0 (omega (arith, inside, few, step, size, add-mul column 1 64))
    ∙ sym (get_or-map (λ (row : List ℕ). slice_index row column) (rows_of_columns words cells count) k [] d (omega (arith, many, inside))
    ∙ ap (λ (row : List ℕ). slice_index row column) (get_or-map-range_with_len (row_across words cells) 0 count k k [] inside (omega arith))
    ∙ get_or-map-range_with_len (λ (place : ℕ). get_or cells (place * 64 + k) 0) 0 words column column 0 below (omega arith)))

-- two functions that agree below a number
agree : {X : Type 0} (f h : ℕ → X) (n : ℕ) → ((k : ℕ) → k < n → h k ≡ f k) → map h (range_with_len 0 n) ≡ map f (range_with_len 0 n)
agree f h n same = fill_by_all f (map h (range_with_len 0 n)) n (h 0) (length-map-range_with_len h 0 n)
    (λ k below. get_or-map-range_with_len h 0 n k k (h 0) below (grind arith) ∙ same k below)

pub rows-push : (words : ℕ) (old new : List ℕ) (count : ℕ) (row : List ℕ) → count < 64 → length row ≡ words → ((k : ℕ) → k < length row → get_or new (k * 64 + count) 0 ≡ get_or row k 0)
    → ((k j : ℕ) → j < 64 → j ≢ count → get_or new (k * 64 + j) 0 ≡ get_or old (k * 64 + j) 0) → rows_of_columns words new (count + 1) ≡ rows_of_columns words old count ++ row ∷ []
rows-push words old new count row room wide here others =
    let last : row_across words new count ≡ row = sym (fill_by_all (λ k. get_or new (k * 64 + count) 0) row words 0 wide (λ k low. sym (here k (omega (arith, low, wide))))) in
    let front : rows_of_columns words new count ≡ rows_of_columns words old count = agree (row_across words old) (row_across words new) count
    (λ j low. agree (λ k. get_or old (k * 64 + j) 0) (λ k. get_or new (k * 64 + j) 0) words (λ k inside. others k j (omega (arith, low, room)) (λ e. absurd (omega (arith, low, e))))) in
    map-range_with_len_more (row_across words new) 0 count count (omega arith) ∙ ap (λ (rs : List (List ℕ)). rs ++ row_across words new count ∷ []) front ∙ ap (λ (r : List ℕ). rows_of_columns words old count ++ r ∷ []) last

-- a row that was read word by word
pub row-read : (width : ℕ) (cells : List ℕ) (count place : ℕ) (row : List ℕ) → place < count → length row ≡ width
    → ((k : ℕ) → k < length row → get_or row k 0 ≡ get_or cells (k * 64 + place) 0) → row ≡ get_or (rows_of_columns width cells count) place []
row-read width cells count place row below long here =
    fill_by_all (λ k. get_or cells (k * 64 + place) 0) row width 0 long (λ k low. here k (omega (arith, low, long)))
    ∙ sym (get_or-map-range_with_len (row_across width cells) 0 count place place [] below (omega arith))
