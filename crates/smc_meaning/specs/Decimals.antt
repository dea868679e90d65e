-- Numbers as the code has them, and when their sums and products fit.
use Rattle.std.specs.Prelude.{ℕ, ◌+◌, ◌-◌, ◌*◌, ◌^◌, ◌≤◌, ◌<◌, max, unsigned_abs}
use Rattle.smc_plan.specs.declared.kind.TheConstants.{MAX_SCALE, SIZE_LIMIT}
use Rattle.smc_meaning.specs.Values.{Cell, number}
use Rattle.smc_meaning.specs.declared.decimal.Decimal.{Decimal}

-- the value that it is
abbrev pub decimal_cell : Decimal → Cell
decimal_cell decimal = number decimal.units decimal.scale

-- how many units it has at most, brought to a scale
abbrev pub size_at : ℕ → Decimal → ℕ
size_at larger decimal = unsigned_abs decimal.units * 10 ^ (larger - decimal.scale)

-- the larger of two scales
abbrev pub larger_of : Decimal → Decimal → ℕ
larger_of one other = max one.scale other.scale

-- both, brought to the larger of their scales, are below the limit together
pub record CanAdd (one other : Decimal) : Type 0 where
  pub few : larger_of one other ≤ MAX_SCALE
  pub small : size_at (larger_of one other) one + size_at (larger_of one other) other < SIZE_LIMIT

-- their product is below the limit
pub record CanMultiply (one other : Decimal) : Type 0 where
  pub few : one.scale + other.scale ≤ MAX_SCALE
  pub small : unsigned_abs one.units * unsigned_abs other.units < SIZE_LIMIT

-- both, brought to the larger of their scales, are below the limit
pub record CanMeet (one other : Decimal) : Type 0 where
  pub few : larger_of one other ≤ MAX_SCALE
  pub small : size_at (larger_of one other) one < SIZE_LIMIT
  pub other_small : size_at (larger_of one other) other < SIZE_LIMIT
