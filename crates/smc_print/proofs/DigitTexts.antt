-- Digits, the number that they spell, and the digits that are written for it.
use Rattle.std.proofs.Common.{◌≡◌, ℕ, suc, ◌+◌, ◌*◌, ◌/◌, ◌%◌, ◌^◌, ◌<◌, ◌≤◌, true, List, [], ◌∷◌, ◌++◌, length, refl, arith, ap}
use Rattle.std.specs.Char.{is_ascii_digit, digit_value}
use Rattle.std.specs.List.{list_all}
use Rattle.std.specs.Str.Parse.{digits_value, digits_value_after}
use Rattle.std.proofs.Math.Nat.{pow-suc, mul-le-mul_left}
use Rattle.std.proofs.lemmas.Nat.{div-mul-add}
use Rattle.std.proofs.lemmas.Bool.{and_parts, leb-true}
use Rattle.std.proofs.lemmas.Str.{digit_value_digit}
use Rattle.smc_print.specs.TokenText.{last_digits}

-- the value of a digit
value_of : (c : ℕ) → is_ascii_digit c ≡ true → (digit_value c + 48 ≡ c) × (digit_value c ≤ 9)
value_of c digit =
    let (low, high) = and_parts _ _ digit in
    let least : 48 ≤ c = leb-true 48 c low in
    let most : c ≤ 57 = leb-true c 57 high in
    let is : digit_value c + 48 ≡ c = digit_value_digit c (least, most) in
    (is, omega arith)

-- the number before the digits counts as many times ten as there are digits
value_split : (before : ℕ) (ds : List ℕ) → digits_value_after 10 before ds ≡ before * 10 ^ length ds + digits_value 10 ds
value_split before [] = omega arith
value_split before (c ∷ cs) =
    let d = digit_value c in
    let p = 10 ^ length cs in
    let power : 10 ^ suc (length cs) ≡ p * 10 = pow-suc 10 (length cs) in
    let all : digits_value_after 10 (before * 10 + d) cs ≡ (before * 10 + d) * p + digits_value 10 cs = value_split (before * 10 + d) cs in
    let own : digits_value_after 10 (0 * 10 + d) cs ≡ (0 * 10 + d) * p + digits_value 10 cs = value_split (0 * 10 + d) cs in
    rw (all, own, power) (omega arith)

-- digits spell less than the power of ten
pub value_less : (ds : List ℕ) → list_all is_ascii_digit ds ≡ true → digits_value 10 ds < 10 ^ length ds
value_less [] all = omega arith
value_less (c ∷ cs) all =
    let (here, later) = and_parts _ _ all in
    let d = digit_value c in
    let p = 10 ^ length cs in
    let (is, small) = value_of c here in
    let power : 10 ^ suc (length cs) ≡ p * 10 = pow-suc 10 (length cs) in
    let own : digits_value_after 10 (0 * 10 + d) cs ≡ (0 * 10 + d) * p + digits_value 10 cs = value_split (0 * 10 + d) cs in
    let less : digits_value 10 cs < p = value_less cs later in
    let most : p * d ≤ p * 9 = mul-le-mul_left p small in
    rw (own, power) (omega arith)

-- without the digits, the number before them is left
pub value_front : (before : ℕ) (ds : List ℕ) → list_all is_ascii_digit ds ≡ true → digits_value_after 10 before ds / 10 ^ length ds ≡ before
value_front before ds all = rw (value_split before ds) (div-mul-add before (10 ^ length ds) (digits_value 10 ds) (value_less ds all))

-- the last digits of a number are those that it ends with
pub last_of : (before : ℕ) (ds : List ℕ) → list_all is_ascii_digit ds ≡ true → last_digits (length ds) (digits_value_after 10 before ds) ≡ ds
unfolding last_digits
last_of before [] all = refl
last_of before (c ∷ cs) all =
    let (here, later) = and_parts _ _ all in
    let (is, small) = value_of c here in
    let front : digits_value_after 10 (before * 10 + digit_value c) cs / 10 ^ length cs ≡ before * 10 + digit_value c = value_front (before * 10 + digit_value c) cs later in
    let digit : 48 + (before * 10 + digit_value c) % 10 ≡ c = omega arith in
    let behind : last_digits (length cs) (digits_value_after 10 (before * 10 + digit_value c) cs) ≡ cs = last_of (before * 10 + digit_value c) cs later in
    rw (front, behind) (ap (λ (byte : ℕ). byte ∷ cs) digit)

-- digits behind digits
pub value_append : (before : ℕ) (ds es : List ℕ) → digits_value_after 10 before (ds ++ es) ≡ digits_value_after 10 (digits_value_after 10 before ds) es
value_append before [] es = refl
value_append before (c ∷ cs) es = value_append (before * 10 + digit_value c) cs es
