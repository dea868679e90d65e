-- The numbers that digits spell.
use Rattle.std.proofs.Common.{◌≡◌, ℕ, ◌+◌, ◌-◌, ◌*◌, ◌^◌, ◌<◌, ◌≤◌, List, [], ◌∷◌, Bool, true, false, take, drop, length, get_or, arith, refl, sym, ap, ◌∙◌}
use Rattle.std.proofs.lemmas.Bool.Decides.{nat_tests}
use Rattle.std.proofs.lemmas.List.{take-append-drop}
use Rattle.std.proofs.lemmas.List.Sums.{fold-append, fold_more}
use Rattle.std.specs.Prelude.{Some, None, fold, ◌&&◌, nat_le, if◌then◌else◌}
use Rattle.smc_lines.specs.Numbers.{is_number, then_digit, decimal_value, number_of}

-- more digits make no smaller number
fold-grows : (value : ℕ) (digits : List ℕ) → value ≤ fold then_digit value digits
fold-grows value [] = omega arith
fold-grows value (digit ∷ digits) = let more = fold-grows (then_digit value digit) digits in omega arith

-- the digits in front spell no more than all
decimal_value-front : (count : ℕ) (digits : List ℕ) → decimal_value (take count digits) ≤ decimal_value digits
decimal_value-front count digits =
    let whole : decimal_value digits ≡ fold then_digit (decimal_value (take count digits)) (drop count digits) =
    ap decimal_value (sym (take-append-drop count digits)) ∙ fold-append then_digit 0 (take count digits) (drop count digits) in
    rw whole (fold-grows (decimal_value (take count digits)) (drop count digits))

-- both tests are asked
none_if : (first second : Bool) (value : ℕ) → second ≡ false → (if first && second then Some value else None) ≡ None
none_if true second value fails = rw fails refl
none_if false second value fails = refl

-- a number above the bound is none
too_large : (most : ℕ) (word : List ℕ) → most < decimal_value word → number_of most word ≡ None
too_large most word above =
    let no : nat_le (decimal_value word) most ≡ false = grind (arith, nat_tests) in
    none_if (is_number word) (nat_le (decimal_value word) most) (decimal_value word) no

-- digits that pass 2^64 in front
pub number-overflow : (most : ℕ) (word : List ℕ) (count value : ℕ) → count < length word → most < 2 ^ 64 → value ≡ decimal_value (take count word)
    → ¬ (10 * value + (get_or word count 0 - 48) < 2 ^ 64) → None ≡ number_of most word
number-overflow most word count value within small is above =
    let next = fold_more then_digit 0 word count 0 within in
    let front = decimal_value-front (count + 1) word in
    let over : most < decimal_value word = omega (arith, next, front, is, above) in
    sym (too_large most word over)
