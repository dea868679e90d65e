-- Sums of the rows of a group.
use Rattle.std.proofs.Common.{◌≡◌, ℕ, suc, ◌+◌, ◌^◌, ◌<◌, ◌≤◌, to_z, of_z, ◌-ℤ◌, ℤ, pos, negsuc, ◌+ℤ◌, ◌<ℤ◌, ◌≤ℤ◌, neg_ℤ, unsigned_abs, All, List, [], ◌∷◌, ◌++◌, map, fold, take, Some, slice_get, refl, sym, ap, ◌∙◌, length, max, mul-le-mul, ◌*ℤ◌, ◌-◌, arith}
use Rattle.std.specs.Int.{w128}
use Rattle.std.proofs.lemmas.Int.{ints, unsigned_abs-mul}
use Rattle.std.proofs.lemmas.List.{map-append}
use Rattle.std.proofs.lemmas.List.Elements.{All-append, All-from_recursion, All-same}
use Rattle.std.proofs.Math.Nat.{pow-le-pow_right}
use Rattle.smc_folds.specs.Takings.{IsNumber as CanBeTaken}
use Rattle.smc_plan.specs.Typed.{TypedTree}
use Rattle.smc_plan.specs.declared.kind.TheConstants.{HUNDREDTHS, SIZE_LIMIT, SUM_LIMIT}
use Rattle.smc_plan.specs.declared.leaf.Leaf.{Leaf}
use Rattle.smc_meaning.specs.Decimals.{decimal_cell}
use Rattle.smc_meaning.specs.Groups.{average_of, average_scale, divided, nearest_part, sum_of, units_of, values_of}
use Rattle.smc_meaning.specs.Kinds.{IsNumber}
use Rattle.smc_meaning.specs.Summing.{IsSummable}
use Rattle.smc_meaning.specs.Values.{Cell, number, units_at, value_of}
use Rattle.smc_meaning.specs.declared.decimal.Decimal.{Decimal}
use Rattle.smc_meaning.proofs.OperandLaws.{decimal_has}
use Rattle.smc_meaning.proofs.RowLaws.{take-next}

-- the values of rows, with those of one more
pub values_of-append : (leaves : List Leaf) (of : TypedTree) (rows : List (List ℕ)) (row : List ℕ)
    → values_of leaves of (rows ++ row ∷ []) ≡ values_of leaves of rows ++ value_of leaves of row ∷ []
values_of-append leaves of [] row = refl
values_of-append leaves of (first ∷ rows) row = ap (λ cells. value_of leaves of first ∷ cells) (values_of-append leaves of rows row)

pub values_of-next : (leaves : List Leaf) (of : TypedTree) (rows : List (List ℕ)) (place : ℕ) (row : List ℕ) → slice_get rows place ≡ Some row
    → values_of leaves of (take (place + 1) rows) ≡ values_of leaves of (take place rows) ++ value_of leaves of row ∷ []
values_of-next leaves of rows place row found = ap (values_of leaves of) (take-next rows place row found) ∙ values_of-append leaves of (take place rows) row

sum_from-append : (start : ℤ) (cells : List Cell) (cell : Cell)
    → fold (λ all c. all +ℤ units_of c) start (cells ++ cell ∷ []) ≡ fold (λ all c. all +ℤ units_of c) start cells +ℤ units_of cell
sum_from-append start [] cell = refl
sum_from-append start (first ∷ cells) cell = sum_from-append (start +ℤ units_of first) cells cell

-- the sum with one row more
pub sum-next : (leaves : List Leaf) (of : TypedTree) (rows : List (List ℕ)) (place : ℕ) (row : List ℕ) (so_far : ℤ) (decimal : Decimal)
    → slice_get rows place ≡ Some row → so_far ≡ sum_of (values_of leaves of (take place rows)) → value_of leaves of row ≡ decimal_cell decimal
    → so_far +ℤ decimal.units ≡ sum_of (values_of leaves of (take (place + 1) rows))
sum-next leaves of rows place row so_far decimal found is value =
    sym (ap sum_of (values_of-next leaves of rows place row found)
    ∙ sum_from-append (pos 0) (values_of leaves of (take place rows)) (value_of leaves of row)
    ∙ rw (value, ← is) refl)

-- the units of rows, with those of one more
pub units-next : (leaves : List Leaf) (of : TypedTree) (rows : List (List ℕ)) (place : ℕ) (row : List ℕ) (so_far longer : List ℤ) (decimal : Decimal)
    → slice_get rows place ≡ Some row → so_far ≡ map units_of (values_of leaves of (take place rows)) → value_of leaves of row ≡ decimal_cell decimal
    → longer ≡ so_far ++ decimal.units ∷ [] → longer ≡ map units_of (values_of leaves of (take (place + 1) rows))
units-next leaves of rows place row so_far longer decimal found is value grown =
    grown
    ∙ ap (λ front. front ++ decimal.units ∷ []) is
    ∙ sym (ap (map units_of) (values_of-next leaves of rows place row found)
    ∙ map-append units_of (values_of leaves of (take place rows)) (value_of leaves of row ∷ [])
    ∙ ap (λ cell. map units_of (values_of leaves of (take place rows)) ++ units_of cell ∷ []) value)

-- numbers that a fold may be given, with one more
pub few-more : (so_far longer : List ℤ) (units : ℤ) → All CanBeTaken so_far → unsigned_abs units < SIZE_LIMIT → longer ≡ so_far ++ units ∷ [] → All CanBeTaken longer
few-more so_far longer units few small grown =
    All-same CanBeTaken longer (so_far ++ units ∷ []) grown (All-append CanBeTaken so_far (units ∷ []) few (All-from_recursion CanBeTaken (units ∷ []) (small, tt)))

-- a number of which a sum is taken has few units
pub summable_units : (leaves : List Leaf) (of : TypedTree) (words : List ℕ) (decimal : Decimal) → IsSummable leaves of → value_of leaves of words ≡ decimal_cell decimal
    → unsigned_abs decimal.units < SUM_LIMIT
summable_units leaves of words decimal is value =
    let has = decimal_has leaves of words is.extent decimal is.kind_is value in
    omega (arith, has.within, is.small)

pub summable_number : (leaves : List Leaf) (of : TypedTree) → IsSummable leaves of → IsNumber leaves of
summable_number leaves of is = record { extent = is.extent; kind_is = is.kind_is }

-- ---- division

pub divided_up : (units : ℤ) (parts size : ℕ) → pos 0 ≤ℤ units → size ≡ nearest_part (unsigned_abs units) parts → pos size ≡ divided units parts
divided_up (pos units) parts size up is = ap pos is
divided_up (negsuc less) parts size up is = absurd (omega (arith, ints, up))

pub divided_down : (units : ℤ) (parts size : ℕ) → units <ℤ pos 0 → size ≡ nearest_part (unsigned_abs units) parts → neg_ℤ (pos size) ≡ divided units parts
divided_down (pos units) parts size down is = absurd (omega (arith, ints, down))
divided_down (negsuc less) parts size down is = ap (λ n. neg_ℤ (pos n)) is

-- the same of a size as the code has it
pub up_by : (units : ℤ) (parts size : ℕ) → pos 0 ≤ℤ units → size < 2 ^ 122 → size ≡ nearest_part (unsigned_abs units) parts → to_z w128 size ≡ divided units parts
up_by units parts size up small is =
    let seen : to_z w128 size ≡ pos size = omega (arith, ints) in
    seen ∙ divided_up units parts size up is

pub down_by : (units : ℤ) (parts size : ℕ) → units <ℤ pos 0 → size < 2 ^ 122 → size ≡ nearest_part (unsigned_abs units) parts
    → to_z w128 (of_z w128 (pos 0 -ℤ to_z w128 size)) ≡ divided units parts
down_by units parts size down small is =
    let seen : to_z w128 (of_z w128 (pos 0 -ℤ to_z w128 size)) ≡ neg_ℤ (pos size) = omega (arith, ints) in
    seen ∙ divided_down units parts size down is

-- ---- averages

-- each row has a value
pub length-values_of : (leaves : List Leaf) (of : TypedTree) (rows : List (List ℕ)) → length (values_of leaves of rows) ≡ length rows
length-values_of leaves of [] = refl
length-values_of leaves of (row ∷ rows) = ap suc (length-values_of leaves of rows)

-- the average of rows, where there are any
pub average_is : (leaves : List Leaf) (of : TypedTree) (rows : List (List ℕ)) (scale : ℕ) → 0 < length rows
    → average_of scale (values_of leaves of rows)
    ≡ Some (number (divided (units_at (average_scale scale) (sum_of (values_of leaves of rows)) scale) (length rows)) (average_scale scale))
average_is leaves of [] scale some = absurd (omega (arith, some))
average_is leaves of (row ∷ rows) scale some =
    ap (λ n. Some (number (divided (units_at (average_scale scale) (sum_of (values_of leaves of (row ∷ rows))) scale) n) (average_scale scale)))
    (length-values_of leaves of (row ∷ rows))

-- so many units that are brought to a scale of an average are not too many
pub widened_small : (units found : ℤ) (power : ℕ) → unsigned_abs units < SIZE_LIMIT → power ≤ 2 → found ≡ units *ℤ pos (10 ^ power) → unsigned_abs found < 2 ^ 104
widened_small units found power small few is =
    let most : 10 ^ power ≤ 10 ^ 2 = pow-le-pow_right {n = 10} (omega arith) few in
    let low : unsigned_abs units ≤ SIZE_LIMIT - 1 = omega (arith, small) in
    let size = mul-le-mul low most in
    rw (is, unsigned_abs-mul units (pos (10 ^ power))) (omega (arith, size))

-- what the code finds is the average
pub average_found : (leaves : List Leaf) (of : TypedTree) (rows : List (List ℕ)) (scale wanted places parts : ℕ) (all units found : ℤ)
    → scale ≡ wanted → parts ≡ length rows → 0 < parts → places ≡ max scale HUNDREDTHS → all ≡ sum_of (values_of leaves of rows)
    → units ≡ all *ℤ pos (10 ^ (places - scale)) → found ≡ divided units parts
    → Some (number found places) ≡ average_of wanted (values_of leaves of rows)
average_found leaves of rows scale wanted places parts all units found same counted some places_is all_is units_is found_is =
    rw (← same, found_is, units_is, all_is, places_is, counted) (sym (average_is leaves of rows scale (omega (arith, some, counted))))
