-- The number that digits spell, digit by digit.
use Rattle.std.proofs.Common.{◌≡◌, ℕ, ◌+◌, ◌-◌, ◌*◌, ◌^◌, ◌≤◌, ◌<◌, Bool, true, List, length, get_or, drop, arith, ◌∙◌, sym, ap, add-one}
use Rattle.std.specs.Char.{is_ascii_digit, digit_value}
use Rattle.std.specs.List.{list_all}
use Rattle.std.specs.Str.Parse.{digits_value_after}
use Rattle.std.proofs.Math.Nat.{pow-suc, pow-le-pow_right, mul-le-mul_left, mul_assoc}
use Rattle.std.proofs.lemmas.Bool.{and_parts, leb-true, true_from_ne_false, true≢false}
use Rattle.std.proofs.lemmas.List.{drop_more}
use Rattle.std.proofs.lemmas.List.Folds.{list_all_at}
use Rattle.std.proofs.lemmas.Str.{digit_value_digit}

-- what the powers of ten do to the bound at one more digit
ten_more : (front i : ℕ) → front * 10 ^ (i + 1) ≡ front * 10 ^ i * 10
ten_more front i = ap (λ k. front * 10 ^ k) (add-one i) ∙ ap (λ n. front * n) (pow-suc 10 i) ∙ sym (mul_assoc front (10 ^ i) 10)

-- the bound behind one more digit
pub bound_more : (value before i digit : ℕ) → value + 1 ≤ (before + 1) * 10 ^ i → digit ≤ 9 → value * 10 + digit + 1 ≤ (before + 1) * 10 ^ (i + 1)
bound_more value before i digit small less = rw (ten_more (before + 1) i) (omega arith)

-- one more digit leaves room below the limit
pub room_more : (value before i len : ℕ) → value + 1 ≤ (before + 1) * 10 ^ i → i < len → (before + 1) * 10 ^ len ≤ 10 ^ 16 → value * 10 + 10 ≤ 10 ^ 16
room_more value before i len small less room =
    let bound : value * 10 + 9 + 1 ≤ (before + 1) * 10 ^ (i + 1) = bound_more value before i 9 small (omega arith) in
    let powers : 10 ^ (i + 1) ≤ 10 ^ len = pow-le-pow_right {n = 10} (omega arith) (omega arith) in
    let most : (before + 1) * 10 ^ (i + 1) ≤ (before + 1) * 10 ^ len = mul-le-mul_left (before + 1) powers in
    omega arith

-- each of the bytes passes
pub all_at : (p : ℕ → Bool) (xs : List ℕ) (i : ℕ) → list_all p xs ≡ true → i < length xs → p (get_or xs i 0) ≡ true
all_at p xs i all less = true_from_ne_false (p (get_or xs i 0)) (λ fails. true≢false (sym all ∙ list_all_at p xs i 0 less fails))

-- the range of a digit
pub digit_range : (byte : ℕ) → is_ascii_digit byte ≡ true → (48 ≤ byte) × (byte ≤ 57)
digit_range byte is = let (low, high) = and_parts _ _ is in (leb-true 48 byte low, leb-true byte 57 high)

-- a digit is at most 9
pub digit_small : (digits : List ℕ) (i digit : ℕ) → list_all is_ascii_digit digits ≡ true → i < length digits → digit ≡ get_or digits i 0 - 48 → digit ≤ 9
digit_small digits i digit all less is =
    let (low, high) = digit_range (get_or digits i 0) (all_at is_ascii_digit digits i all less) in
    omega arith

-- the value behind one more digit
pub value_more : (value i digit whole : ℕ) (digits : List ℕ) → list_all is_ascii_digit digits ≡ true → i < length digits
    → digit ≡ get_or digits i 0 - 48 → digits_value_after 10 value (drop i digits) ≡ whole → digits_value_after 10 (value * 10 + digit) (drop (i + 1) digits) ≡ whole
value_more value i digit whole digits all less is same =
    let next = get_or digits i 0 in
    let (low, high) = digit_range next (all_at is_ascii_digit digits i all less) in
    let read : digit_value next + 48 ≡ next = digit_value_digit next (low, high) in
    let digit_is : digit ≡ digit_value next = omega arith in
    ap (λ d. digits_value_after 10 (value * 10 + d) (drop (i + 1) digits)) digit_is
    ∙ sym (ap (digits_value_after 10 value) (drop_more digits i 0 less)) ∙ same

-- there is room for the digits before the point
pub room_whole : (len : ℕ) → len ≤ 12 → (0 + 1) * 10 ^ len ≤ 10 ^ 16
room_whole len few = let powers : 10 ^ len ≤ 10 ^ 12 = pow-le-pow_right {n = 10} (omega arith) few in omega arith

-- and for those behind it
pub room_decimals : (value len more : ℕ) → len ≤ 12 → value + 1 ≤ (0 + 1) * 10 ^ len → more ≤ 4 → (value + 1) * 10 ^ more ≤ 10 ^ 16
room_decimals value len more few bound less =
    let powers : 10 ^ len ≤ 10 ^ 12 = pow-le-pow_right {n = 10} (omega arith) few in
    let others : 10 ^ more ≤ 10 ^ 4 = pow-le-pow_right {n = 10} (omega arith) less in
    let first : (value + 1) * 10 ^ more ≤ (value + 1) * 10 ^ 4 = mul-le-mul_left (value + 1) others in
    omega arith
