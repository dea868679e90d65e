-- What expressions are, and how large they may be.
use Rattle.std.specs.Prelude.{◌≡◌, ℕ, ◌+◌, ◌-◌, ◌*◌, ◌^◌, ◌≤◌, max, Bool, true, false, ◌&&◌, ◌==◌, nat_le, nat_lt, if◌then◌else◌, unsigned_abs, Option, Some, None, Result, Ok, Err}
use Rattle.smc_types.specs.declared.column.FieldType.{FieldType}
use Rattle.smc_types.specs.declared.column.FieldType.TheVariants as of
use Rattle.smc_types.specs.declared.number.TheConstants.{COUNT_MAX, AMOUNT_MAX, RATE_MAX}
use Rattle.smc_plan.specs.declared.fault.PlanFault.{PlanFault}
use Rattle.smc_plan.specs.declared.fault.PlanFault.TheVariants.{Types, TooWide}
use Rattle.smc_plan.specs.declared.kind.Extent.{Extent}
use Rattle.smc_plan.specs.declared.kind.Kind.{Kind}
use Rattle.smc_plan.specs.declared.kind.Kind.TheVariants.{Number, Day, Text}
use Rattle.smc_plan.specs.declared.kind.TheConstants.{MAX_SCALE, HUNDREDTHS, SIZE_LIMIT, SUM_LIMIT, DAY_BOUND}

-- a number of at most so many units, with so many decimals
abbrev pub extent : ℕ → ℕ → Extent
extent scale bound = record { scale = scale; bound = bound }

-- the bound of a number that is brought to a scale
abbrev pub bound_at : ℕ → Extent → ℕ
bound_at scale number = number.bound * 10 ^ (scale - number.scale)

-- the larger of two scales
abbrev pub larger_scale : Extent → Extent → ℕ
larger_scale one other = max one.scale other.scale

-- a number is within the limits
abbrev pub is_extent : Extent → Bool
is_extent number = nat_le number.scale MAX_SCALE && nat_lt number.bound SIZE_LIMIT

-- an expression is within the limits
abbrev pub is_within : Kind → Bool
is_within (Number number) = is_extent number
is_within (Day bound) = nat_lt bound SIZE_LIMIT
is_within Text = true

-- an expression that has to be within the limits
abbrev pub bounded : Kind → Result Kind PlanFault
bounded kind = if is_within kind then Ok kind else Err TooWide

-- what the column of a leaf is; no leaf is a reference
abbrev pub kind_of : FieldType → Kind
kind_of of.Count = Number (extent 0 (unsigned_abs COUNT_MAX))
kind_of of.Amount = Number (extent HUNDREDTHS (unsigned_abs AMOUNT_MAX))
kind_of of.Rate = Number (extent HUNDREDTHS (unsigned_abs RATE_MAX))
kind_of of.Day = Day DAY_BOUND
kind_of (of.Text bytes) = Text
kind_of (of.RefTo table) = Text

-- a sum of numbers has the larger scale
abbrev pub joined : Extent → Extent → Extent
joined one other = let scale : ℕ = larger_scale one other in extent scale (bound_at scale one + bound_at scale other)

-- what a sum or a difference is: of two numbers a number, of a day and whole days a day
abbrev pub added : Kind → Kind → Result Kind PlanFault
added (Number one) (Number other) = bounded (Number (joined one other))
added (Day bound) (Number days) = if days.scale == 0 then bounded (Day (bound + days.bound)) else Err Types
added _ _ = Err Types

-- what a product is: the decimals of both numbers stand behind one another
abbrev pub multiplied : Kind → Kind → Result Kind PlanFault
multiplied (Number one) (Number other) = bounded (Number (extent (one.scale + other.scale) (one.bound * other.bound)))
multiplied _ _ = Err Types

-- what a number taken from nothing is
abbrev pub negated : Kind → Result Kind PlanFault
negated (Number number) = Ok (Number number)
negated _ = Err Types

-- whether an expression is a number
abbrev pub is_number : Kind → Bool
is_number (Number number) = true
is_number _ = false

-- whether a sum or an average can be taken of so many units
abbrev pub is_summable : Kind → Bool
is_summable (Number number) = nat_lt number.bound SUM_LIMIT
is_summable _ = true

-- whether two expressions can be compared: two numbers, two days or two texts
abbrev pub is_comparable : Kind → Kind → Bool
is_comparable (Number one) (Number other) = true
is_comparable (Day one) (Day other) = true
is_comparable Text Text = true
is_comparable _ _ = false

-- whether two numbers are within the limit where both are brought to the larger of their scales
abbrev pub are_narrow : Kind → Kind → Bool
are_narrow (Number one) (Number other) =
    nat_lt (bound_at (larger_scale one other) one) SIZE_LIMIT && nat_lt (bound_at (larger_scale one other) other) SIZE_LIMIT
are_narrow _ _ = true

-- whether a field takes such a value: a number a number of no more decimals, a day a day
abbrev pub is_taken_by : (field value : Kind) → Bool
is_taken_by (Number field) (Number value) = nat_le value.scale field.scale
is_taken_by (Day field) (Day value) = true
is_taken_by _ _ = false

-- whether a number is within the limit where it is brought to the scale of a field
abbrev pub is_narrow_in : (field value : Kind) → Bool
is_narrow_in (Number field) (Number value) = nat_lt (bound_at field.scale value) SIZE_LIMIT
is_narrow_in _ _ = true

-- a bound as a `u128` counts it, where it can
abbrev pub IsBound : Option ℕ → ℕ → Type 0
IsBound None bound = 2 ^ 128 ≤ bound
IsBound (Some counted) bound = counted ≡ bound
