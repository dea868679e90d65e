-- Numbers digit by digit.
use Rattle.std.proofs.Common.{◌≡◌, ℕ, zero, suc, ◌-◌, ◌*◌, ◌/◌, ◌%◌, ◌^◌, ◌<◌, List, ◌++◌, decimal, arith, append_assoc, refl}
use Rattle.std.proofs.Math.Nat.{pow-suc}
use Rattle.std.proofs.lemmas.Fmt.{decimal_digit}
use Rattle.smc_print.specs.TokenText.{last_digits}

-- a power of ten is not nothing
pub ten_some : (count : ℕ) → 0 < 10 ^ count
ten_some zero = omega arith
ten_some (suc count) = let less : 0 < 10 ^ count = ten_some count in let more : 10 ^ suc count ≡ 10 ^ count * 10 = pow-suc 10 count in omega arith

-- the next digit stands before those behind it
next_digit : (place number : ℕ) → 0 < place → last_digits place number ≡ decimal (number / 10 ^ (place - 1) % 10) ++ last_digits (place - 1) number
unfolding last_digits
next_digit zero number some = absurd (omega arith)
next_digit (suc place) number some =
    let one : suc place - 1 ≡ place = omega arith in
    let digit : number / 10 ^ place % 10 < 10 = omega arith in
    rw (one, decimal_digit (number / 10 ^ place % 10) digit) refl

-- one more digit written, fewer are to come
pub digit_behind : (old new : List ℕ) (place number shifted : ℕ) → 0 < place → shifted ≡ number / 10 ^ (place - 1) → new ≡ old ++ decimal (shifted % 10)
    → new ++ last_digits (place - 1) number ≡ old ++ last_digits place number
digit_behind old new place number shifted some is written =
    let next = next_digit place number some in
    rw (written, is, next) (append_assoc old (decimal (number / 10 ^ (place - 1) % 10)) (last_digits (place - 1) number))
