-- The bound on a count.
use Rattle.std.proofs.Common.{ℕ, ◌<◌, ◌≤◌, ◌^◌, arith}
use Rattle.std.proofs.Math.Nat.{pow-le-pow_right}

-- fewer than twelve digits are below 10 ^ 11
pub below_eleven : (value digits : ℕ) → value < 10 ^ digits → digits < 12 → value < 10 ^ 11
below_eleven value digits small few =
    let at_most : digits ≤ 11 = omega arith in
    let most : 10 ^ digits ≤ 10 ^ 11 = pow-le-pow_right {n = 10} (omega arith) at_most in
    omega arith

-- fewer digits are below a greater power
pub below_more : (value digits most : ℕ) → value < 10 ^ digits → digits ≤ most → value < 10 ^ most
below_more value digits most small few =
    let above : 10 ^ digits ≤ 10 ^ most = pow-le-pow_right {n = 10} (omega arith) few in
    omega arith
