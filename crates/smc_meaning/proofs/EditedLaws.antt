-- The value of an edit is one that its column takes.
use Rattle.std.proofs.Common.{◌≡◌, ℕ, ◌≤◌, ◌<◌, true, unsigned_abs, List, Ok, refl, ap, ◌∙◌, subst, arith}
use Rattle.std.specs.Prelude.{◌≢◌}
use Rattle.std.proofs.lemmas.Bool.Decides.{nat_tests}
use Rattle.smc_types.specs.Cells.{is_number}
use Rattle.smc_types.specs.declared.column.FieldType.{FieldType}
use Rattle.smc_types.specs.declared.column.FieldType.TheVariants as of
use Rattle.smc_types.specs.declared.number.TheConstants.{COUNT_MAX, AMOUNT_MAX, RATE_MAX}
use Rattle.smc_plan.specs.Bounds.{bound_at, extent, is_narrow_in, is_taken_by, kind_of}
use Rattle.smc_plan.specs.Kinds.{kind_in}
use Rattle.smc_plan.specs.Typed.{TypedTree}
use Rattle.smc_plan.specs.declared.kind.Extent.{Extent}
use Rattle.smc_plan.specs.declared.kind.Kind.{Kind}
use Rattle.smc_plan.specs.declared.kind.Kind.TheVariants.{Number, Day, Text}
use Rattle.smc_plan.specs.declared.kind.TheConstants.{DAY_BOUND, HUNDREDTHS, MAX_SCALE, SIZE_LIMIT}
use Rattle.smc_plan.specs.declared.leaf.Leaf.{Leaf}
use Rattle.smc_meaning.specs.Decimals.{decimal_cell, size_at}
use Rattle.smc_meaning.specs.Kinds.{IsDay, IsNumber}
use Rattle.smc_meaning.specs.Values.{scale_of, value_of}
use Rattle.smc_meaning.specs.declared.decimal.Decimal.{Decimal}
use Rattle.smc_meaning.proofs.OperandLaws.{decimal_has, size_within}

-- ---- days

day-of : (bound : ℕ) (value : Kind) → is_taken_by (Day bound) value ≡ true → (most : ℕ) × (value ≡ Day most)
day-of bound (Day most) taken = (most, refl)
day-of bound (Number extent) taken = absurd cc
day-of bound Text taken = absurd cc

-- the value that a column of days takes is a day
pub takes-day : (leaves : List Leaf) (typed : TypedTree) (value : Kind) (field : FieldType) → kind_in leaves typed ≡ Ok value
    → is_taken_by (kind_of field) value ≡ true → field ≡ of.Day → IsDay leaves typed
takes-day leaves typed value field kind taken is =
    let day = day-of DAY_BOUND value (subst (λ (k : FieldType). is_taken_by (kind_of k) value ≡ true) is taken) in
    record { bound = day.0; kind_is = kind ∙ ap Ok day.1 }

-- ---- numbers

-- a number that has room in a column, at the decimals of that
pub record HasRoom (scale : ℕ) (value : Kind) : Type 0 where
  pub extent : Extent
  pub is : value ≡ Number extent
  pub fewer : extent.scale ≤ scale
  pub narrow : bound_at scale extent < SIZE_LIMIT

number-of : (field : Extent) (value : Kind) → is_taken_by (Number field) value ≡ true → is_narrow_in (Number field) value ≡ true → HasRoom field.scale value
number-of field (Number extent) taken narrow =
    record { extent = extent; is = refl; fewer = grind (arith, nat_tests, taken); narrow = grind (arith, nat_tests, narrow) }
number-of field (Day bound) taken narrow = absurd cc
number-of field Text taken narrow = absurd cc

-- a column that takes a value, and is none of days, is one of numbers
pub record TakesNumber (field : FieldType) (value : Kind) : Type 0 where
  pub column : is_number field ≡ true
  pub few : scale_of field ≤ MAX_SCALE
  pub room : HasRoom (scale_of field) value

pub takes-number : (field : FieldType) (value : Kind) → field ≢ of.Day → is_taken_by (kind_of field) value ≡ true → is_narrow_in (kind_of field) value ≡ true → TakesNumber field value
takes-number of.Count value other taken narrow = record { column = refl; few = omega arith; room = number-of (extent 0 (unsigned_abs COUNT_MAX)) value taken narrow }
takes-number of.Amount value other taken narrow = record { column = refl; few = omega arith; room = number-of (extent HUNDREDTHS (unsigned_abs AMOUNT_MAX)) value taken narrow }
takes-number of.Rate value other taken narrow = record { column = refl; few = omega arith; room = number-of (extent HUNDREDTHS (unsigned_abs RATE_MAX)) value taken narrow }
takes-number of.Day value other taken narrow = absurd (other refl)
takes-number (of.Text bytes) value other taken narrow = absurd cc
takes-number (of.RefTo table) value other taken narrow = absurd cc

-- so the expression is a number
pub number-taken : (leaves : List Leaf) (typed : TypedTree) (value : Kind) (field : FieldType) → kind_in leaves typed ≡ Ok value → TakesNumber field value → IsNumber leaves typed
number-taken leaves typed value field kind takes = record { extent = takes.room.extent; kind_is = kind ∙ ap Ok takes.room.is }

-- which has no more decimals than the column, and is below the limit at those of the column
pub record Widens (scale : ℕ) (found : Decimal) : Type 0 where
  pub larger : found.scale ≤ scale
  pub small : size_at scale found < SIZE_LIMIT

pub number-widens : (leaves : List Leaf) (typed : TypedTree) (value : Kind) (field : FieldType) (words : List ℕ) (found : Decimal) → kind_in leaves typed ≡ Ok value → TakesNumber field value
    → value_of leaves typed words ≡ decimal_cell found → Widens (scale_of field) found
number-widens leaves typed value field words found kind takes is =
    let room = takes.room in
    let has = decimal_has leaves typed words room.extent found (kind ∙ ap Ok room.is) is in
    let within = size_within (scale_of field) room.extent found has in
    let scale = has.scale_is in
    let fewer = room.fewer in
    let narrow = room.narrow in
    record { larger = omega (arith, scale, fewer); small = omega (arith, within, narrow) }
