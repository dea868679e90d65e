-- The digits of a number, one after another.
use Rattle.std.proofs.Common.{◌≡◌, ℕ, zero, suc, ◌+◌, ◌-◌, ◌/◌, ◌%◌, ◌^◌, ◌<◌, ◌≤◌, Fits, w64, [], ◌∷◌, ◌++◌, refl, arith}
use Rattle.std.proofs.Math.Nat.{one-le-pow, pow-le-pow_right}
use Rattle.std.proofs.lemmas.Nat.{mod_below}
use Rattle.smc_plan.specs.declared.kind.TheConstants.{MAX_SCALE}
use Rattle.smc_meaning.specs.declared.cell.TheConstants.{POINT, ZERO_DIGIT}
use Rattle.smc_meaning.specs.Printed.{decimals_text, last_digits}

-- the last of some digits
pub last_digits-some : (count whole : ℕ) → 0 < count → last_digits count whole ≡ last_digits (count - 1) (whole / 10) ++ (ZERO_DIGIT + whole % 10) ∷ []
last_digits-some zero whole some = absurd (omega arith)
last_digits-some (suc count) whole some = let back : suc count - 1 ≡ count = omega arith in rw back refl

-- no digits
pub last_digits-none : (count whole : ℕ) → count ≤ 0 → last_digits count whole ≡ []
last_digits-none zero whole none = refl
last_digits-none (suc count) whole none = absurd (omega arith)

-- the point and some decimals
pub decimals_text-some : (scale fraction : ℕ) → 0 < scale → decimals_text scale fraction ≡ POINT ∷ last_digits scale fraction
decimals_text-some zero fraction some = absurd (omega arith)
decimals_text-some (suc fewer) fraction some = refl

-- no decimals
pub decimals_text-none : (scale fraction : ℕ) → scale ≤ 0 → decimals_text scale fraction ≡ last_digits scale fraction
decimals_text-none zero fraction none = refl
decimals_text-none (suc fewer) fraction none = absurd (omega arith)

-- ---- tens

-- the units that make one are some
pub one-some : (scale : ℕ) → 0 < 10 ^ scale
one-some scale = let one = one-le-pow scale 10 (omega arith) in omega (arith, one)

-- what is left below one fits a word
pub fraction-fits : (scale size : ℕ) → scale ≤ MAX_SCALE → Fits w64 (size % 10 ^ scale)
fraction-fits scale size few =
    let most : 10 ^ scale ≤ 10 ^ 18 = pow-le-pow_right {n = 10} (omega arith) few in
    let below = mod_below size (10 ^ scale) (one-some scale) in
    omega (arith, most, below)
