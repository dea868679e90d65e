-- What the operands of a number or a day are, and that they can be added and multiplied.
use Rattle.std.proofs.Common.{◌≡◌, ℕ, ◌+◌, ◌*◌, ◌+ℤ◌, ◌-ℤ◌, ◌*ℤ◌, ◌≤◌, ◌<◌, Bool, true, false, cond, ℤ, unsigned_abs, IsTrue, List, Option, None, Some, slice_get, Result, Ok, Err, refl, subst, mul-le-mul, arith}
use Rattle.std.proofs.lemmas.Bool.Decides.{nat_tests}
use Rattle.std.proofs.lemmas.Int.{unsigned_abs-mul}
use Rattle.smc_types.specs.Cells.{is_number}
use Rattle.smc_types.specs.declared.column.FieldType.{FieldType}
use Rattle.smc_types.specs.declared.column.FieldType.TheVariants as of
use Rattle.smc_plan.specs.Bounds.{added, bound_at, bounded, extent, is_within, joined, kind_of, larger_scale, multiplied, negated}
use Rattle.smc_plan.specs.Typed as typed
use Rattle.smc_plan.specs.Typed.{TypedTree}
use Rattle.smc_plan.specs.declared.fault.PlanFault.{PlanFault}
use Rattle.smc_plan.specs.declared.fault.PlanFault.TheVariants.{Types}
use Rattle.smc_plan.specs.declared.kind.Extent.{Extent}
use Rattle.smc_plan.specs.declared.kind.Kind.{Kind}
use Rattle.smc_plan.specs.declared.kind.Kind.TheVariants.{Number, Day}
use Rattle.smc_plan.specs.declared.kind.TheConstants.{MAX_SCALE, SIZE_LIMIT}
use Rattle.smc_plan.specs.declared.leaf.Leaf.{Leaf}
use Rattle.smc_meaning.specs.Values.{Cell, day, units_at, value_of}
use Rattle.smc_plan.specs.Kinds.{leaf_kind, kind_in}
use Rattle.smc_meaning.specs.Kinds.{HasExtent, IsDay, IsNumber, IsOf, kind_of_both}
use Rattle.smc_meaning.specs.Decimals.{CanAdd, CanMultiply, decimal_cell, larger_of, size_at}
use Rattle.smc_meaning.specs.declared.decimal.Decimal.{Decimal}
use Rattle.smc_meaning.proofs.BoundLaws.{both_are, bounded_is, from_is, kind_within, size-less, size-plus, size-units_at, value_has}

-- ---- the extent of a number

-- a number that was found to be an expression's value has the extent of the expression
pub decimal_has : (leaves : List Leaf) (tree : TypedTree) (words : List ℕ) (limits : Extent) (found : Decimal)
    → kind_in leaves tree ≡ Ok (Number limits) → value_of leaves tree words ≡ decimal_cell found → HasExtent limits found.units found.scale
decimal_has leaves tree words limits found kind value =
    subst (λ (c : Cell). IsOf (Number limits) c) value (value_has leaves tree words (Number limits) kind)

-- an extent that is within the limits
pub record IsLimited (limits : Extent) : Type 0 where
  pub few : limits.scale ≤ MAX_SCALE
  pub small : limits.bound < SIZE_LIMIT

pub limited : (limits : Extent) → IsTrue (is_within (Number limits)) → IsLimited limits
limited limits within = record { few = grind (arith, nat_tests, within); small = grind (arith, nat_tests, within) }

pub number_limited : (leaves : List Leaf) (tree : TypedTree) (limits : Extent) → kind_in leaves tree ≡ Ok (Number limits) → IsLimited limits
number_limited leaves tree limits kind = limited limits (kind_within leaves tree (Number limits) kind)

-- ---- sums of numbers

-- both sides of a sum that is a number are numbers
pub record AreNumbers (left right : Result Kind PlanFault) (limits : Extent) : Type 0 where
  pub one : Extent
  pub other : Extent
  pub left_is : left ≡ Ok (Number one)
  pub right_is : right ≡ Ok (Number other)
  pub limits_is : limits ≡ joined one other
  pub within : IsLimited (joined one other)

joined_is : (kind : Kind) (joint limits : Extent) → kind ≡ Number joint → bounded kind ≡ Ok (Number limits) → limits ≡ joint
joined_is kind joint limits is gives = let bounds = bounded_is kind (Number limits) gives in cc (bounds.same)

no_day : (test : Bool) (bound : ℕ) (limits : Extent) → cond test (bounded (Day bound)) (Err Types) ≡ Ok (Number limits) → ⊥
no_day true bound limits gives = let bounds = bounded_is (Day bound) (Number limits) gives in cc (bounds.same)
no_day false bound limits gives = cc

numbers_added : (one other : Kind) (left right : Result Kind PlanFault) (limits : Extent) → left ≡ Ok one → right ≡ Ok other → added one other ≡ Ok (Number limits) → AreNumbers left right limits
numbers_added (Number one) (Number other) left right limits left_is right_is gives = record {
  one = one;
  other = other;
  left_is = left_is;
  right_is = right_is;
  limits_is = joined_is (Number (joined one other)) (joined one other) limits refl gives;
  within = limited (joined one other) (bounded_is (Number (joined one other)) (Number limits) gives).within;
}
numbers_added (Day bound) (Number days) left right limits left_is right_is gives = absurd (no_day _ (bound + days.bound) limits gives)
numbers_added one other left right limits left_is right_is gives = cc

pub numbers_both : (left right : Result Kind PlanFault) (limits : Extent) → kind_of_both added left right ≡ Ok (Number limits) → AreNumbers left right limits
numbers_both left right limits gives =
    let both = both_are added left right (Number limits) gives in
    numbers_added both.one both.other left right limits both.left_is both.right_is both.made_is

-- a number of an extent, brought to a larger scale
pub size_within : (larger : ℕ) (limits : Extent) (found : Decimal) → HasExtent limits found.units found.scale → size_at larger found ≤ bound_at larger limits
size_within larger limits found has = rw has.scale_is (mul-le-mul has.within (omega arith))

-- two numbers whose sum is within the limits can be added
added_numbers : (one other : Extent) (left right : Decimal) → HasExtent one left.units left.scale → HasExtent other right.units right.scale
    → IsLimited (joined one other) → CanAdd left right
added_numbers one other left right left_has right_has within =
    let larger : larger_of left right ≡ larger_scale one other = cc (left_has.scale_is, right_has.scale_is) in
    let low = size_within (larger_scale one other) one left left_has in
    let high = size_within (larger_scale one other) other right right_has in
    record {
      few = omega (arith, larger, within.few);
      small = rw larger (omega (arith, low, high, within.small));
    }

-- the values of both sides can be added
pub can_add : (leaves : List Leaf) (left right : TypedTree) (words : List ℕ) (limits : Extent) (one other : Decimal)
    → kind_of_both added (kind_in leaves left) (kind_in leaves right) ≡ Ok (Number limits)
    → value_of leaves left words ≡ decimal_cell one → value_of leaves right words ≡ decimal_cell other → CanAdd one other
can_add leaves left right words limits one other kind left_is right_is =
    let both = numbers_both (kind_in leaves left) (kind_in leaves right) limits kind in
    added_numbers both.one both.other one other
    (decimal_has leaves left words both.one one both.left_is left_is) (decimal_has leaves right words both.other other both.right_is right_is) both.within

-- ---- products of numbers

-- both sides of a product are numbers
pub record AreFactors (left right : Result Kind PlanFault) : Type 0 where
  pub one : Extent
  pub other : Extent
  pub left_is : left ≡ Ok (Number one)
  pub right_is : right ≡ Ok (Number other)
  pub within : IsLimited (extent (one.scale + other.scale) (one.bound * other.bound))

numbers_multiplied : (one other : Kind) (left right : Result Kind PlanFault) (made : Kind) → left ≡ Ok one → right ≡ Ok other → multiplied one other ≡ Ok made → AreFactors left right
numbers_multiplied (Number one) (Number other) left right made left_is right_is gives =
    let product : Extent = extent (one.scale + other.scale) (one.bound * other.bound) in
    record {
      one = one;
      other = other;
      left_is = left_is;
      right_is = right_is;
      within = limited product (bounded_is (Number product) made gives).within;
    }
numbers_multiplied one other left right made left_is right_is gives = cc

pub factors_both : (left right : Result Kind PlanFault) (made : Kind) → kind_of_both multiplied left right ≡ Ok made → AreFactors left right
factors_both left right made gives =
    let both = both_are multiplied left right made gives in
    numbers_multiplied both.one both.other left right made both.left_is both.right_is both.made_is

multiplied_numbers : (one other : Extent) (left right : Decimal) → HasExtent one left.units left.scale → HasExtent other right.units right.scale
    → IsLimited (extent (one.scale + other.scale) (one.bound * other.bound)) → CanMultiply left right
multiplied_numbers one other left right left_has right_has within =
    let size = mul-le-mul left_has.within right_has.within in
    record {
      few = omega (arith, left_has.scale_is, right_has.scale_is, within.few);
      small = omega (arith, size, within.small);
    }

-- the values of both sides can be multiplied
pub can_multiply : (leaves : List Leaf) (left right : TypedTree) (words : List ℕ) (made : Kind) (one other : Decimal)
    → kind_of_both multiplied (kind_in leaves left) (kind_in leaves right) ≡ Ok made
    → value_of leaves left words ≡ decimal_cell one → value_of leaves right words ≡ decimal_cell other → CanMultiply one other
can_multiply leaves left right words made one other kind left_is right_is =
    let both = factors_both (kind_in leaves left) (kind_in leaves right) made kind in
    multiplied_numbers both.one both.other one other
    (decimal_has leaves left words both.one one both.left_is left_is) (decimal_has leaves right words both.other other both.right_is right_is) both.within

-- ---- operands, as the code wants them

pub sum_left : (leaves : List Leaf) (left right : TypedTree) (limits : Extent)
    → kind_of_both added (kind_in leaves left) (kind_in leaves right) ≡ Ok (Number limits) → IsNumber leaves left
sum_left leaves left right limits kind =
    let both = numbers_both (kind_in leaves left) (kind_in leaves right) limits kind in record { extent = both.one; kind_is = both.left_is }

pub sum_right : (leaves : List Leaf) (left right : TypedTree) (limits : Extent)
    → kind_of_both added (kind_in leaves left) (kind_in leaves right) ≡ Ok (Number limits) → IsNumber leaves right
sum_right leaves left right limits kind =
    let both = numbers_both (kind_in leaves left) (kind_in leaves right) limits kind in record { extent = both.other; kind_is = both.right_is }

pub product_left : (leaves : List Leaf) (left right : TypedTree) (made : Kind)
    → kind_of_both multiplied (kind_in leaves left) (kind_in leaves right) ≡ Ok made → IsNumber leaves left
product_left leaves left right made kind =
    let both = factors_both (kind_in leaves left) (kind_in leaves right) made kind in record { extent = both.one; kind_is = both.left_is }

pub product_right : (leaves : List Leaf) (left right : TypedTree) (made : Kind)
    → kind_of_both multiplied (kind_in leaves left) (kind_in leaves right) ≡ Ok made → IsNumber leaves right
product_right leaves left right made kind =
    let both = factors_both (kind_in leaves left) (kind_in leaves right) made kind in record { extent = both.other; kind_is = both.right_is }

negated_number : (kind made : Kind) (of : Result Kind PlanFault) → of ≡ Ok kind → negated kind ≡ Ok made → (limits : Extent) × (of ≡ Ok (Number limits))
negated_number (Number limits) made of is gives = (limits, is)
negated_number kind made of is gives = cc

pub minus_of : (leaves : List Leaf) (of : TypedTree) (made : Kind) → kind_in leaves (typed.minus of) ≡ Ok made → IsNumber leaves of
minus_of leaves of made kind =
    let from = from_is negated (kind_in leaves of) made kind in
    let number = negated_number from.one made (kind_in leaves of) from.of_is from.made_is in
    record { extent = number.0; kind_is = number.1 }

-- a number is below the limit
pub number_small : (leaves : List Leaf) (of : TypedTree) (words : List ℕ) (found : Decimal) → IsNumber leaves of → value_of leaves of words ≡ decimal_cell found
    → unsigned_abs found.units < SIZE_LIMIT
number_small leaves of words found is value =
    let has = decimal_has leaves of words is.extent found is.kind_is value in
    let within = number_limited leaves of is.extent is.kind_is in
    omega (arith, has.within, within.small)

-- ---- results

-- so is the sum of two numbers that can be added
pub sum_small : (one other : Decimal) (scale : ℕ) (u v : ℤ) → CanAdd one other → scale ≡ larger_of one other
    → u ≡ units_at scale one.units one.scale → v ≡ units_at scale other.units other.scale → unsigned_abs (u +ℤ v) < SIZE_LIMIT
sum_small one other scale u v can is left right =
    let low = size-units_at scale one.units one.scale in
    let high = size-units_at scale other.units other.scale in
    let small = rw (← is) at can.small in
    rw (left, right) (omega (arith, low, high, size-plus (units_at scale one.units one.scale) (units_at scale other.units other.scale), small))

-- and the difference
pub difference_small : (one other : Decimal) (scale : ℕ) (u v : ℤ) → CanAdd one other → scale ≡ larger_of one other
    → u ≡ units_at scale one.units one.scale → v ≡ units_at scale other.units other.scale → unsigned_abs (u -ℤ v) < SIZE_LIMIT
difference_small one other scale u v can is left right =
    let low = size-units_at scale one.units one.scale in
    let high = size-units_at scale other.units other.scale in
    let small = rw (← is) at can.small in
    rw (left, right) (omega (arith, low, high, size-less (units_at scale one.units one.scale) (units_at scale other.units other.scale), small))

-- and so is a product of two that can be multiplied
pub product_small : (one other : Decimal) → CanMultiply one other → unsigned_abs (one.units *ℤ other.units) < SIZE_LIMIT
product_small one other can = rw (unsigned_abs-mul one.units other.units) can.small

-- ---- days

-- a day and so many days
pub record AreDayAndDays (left right : Result Kind PlanFault) : Type 0 where
  pub from : ℕ
  pub days : Extent
  pub left_is : left ≡ Ok (Day from)
  pub right_is : right ≡ Ok (Number days)

no_number : (limits : Extent) (bound : ℕ) → bounded (Number limits) ≡ Ok (Day bound) → ⊥
no_number limits bound gives = let bounds = bounded_is (Number limits) (Day bound) gives in cc (bounds.same)

days_added : (one other : Kind) (left right : Result Kind PlanFault) (bound : ℕ) → left ≡ Ok one → right ≡ Ok other → added one other ≡ Ok (Day bound) → AreDayAndDays left right
days_added (Number one) (Number other) left right bound left_is right_is gives = absurd (no_number (joined one other) bound gives)
days_added (Day from) (Number days) left right bound left_is right_is gives = record { from = from; days = days; left_is = left_is; right_is = right_is }
days_added one other left right bound left_is right_is gives = cc

days_both : (left right : Result Kind PlanFault) (bound : ℕ) → kind_of_both added left right ≡ Ok (Day bound) → AreDayAndDays left right
days_both left right bound gives =
    let both = both_are added left right (Day bound) gives in
    days_added both.one both.other left right bound both.left_is both.right_is both.made_is

pub day_left : (leaves : List Leaf) (left right : TypedTree) (bound : ℕ)
    → kind_of_both added (kind_in leaves left) (kind_in leaves right) ≡ Ok (Day bound) → IsDay leaves left
day_left leaves left right bound kind =
    let both = days_both (kind_in leaves left) (kind_in leaves right) bound kind in record { bound = both.from; kind_is = both.left_is }

pub day_right : (leaves : List Leaf) (left right : TypedTree) (bound : ℕ)
    → kind_of_both added (kind_in leaves left) (kind_in leaves right) ≡ Ok (Day bound) → IsNumber leaves right
day_right leaves left right bound kind =
    let both = days_both (kind_in leaves left) (kind_in leaves right) bound kind in record { extent = both.days; kind_is = both.right_is }

bound_small : (bound : ℕ) → IsTrue (is_within (Day bound)) → bound < SIZE_LIMIT
bound_small bound within = grind (arith, nat_tests, within)

-- a day is below the limit
pub day_small : (leaves : List Leaf) (of : TypedTree) (words : List ℕ) (found : ℤ) → IsDay leaves of → value_of leaves of words ≡ day found
    → unsigned_abs found < SIZE_LIMIT
day_small leaves of words found is value =
    let has : unsigned_abs found ≤ is.bound = subst (λ (c : Cell). IsOf (Day is.bound) c) value (value_has leaves of words (Day is.bound) is.kind_is) in
    let within = bound_small is.bound (kind_within leaves of (Day is.bound) is.kind_is) in
    omega arith

-- a day that is moved by so many days is below the limit
pub later_small : (leaves : List Leaf) (left right : TypedTree) (words : List ℕ) (bound : ℕ) (from : ℤ) (days : Decimal)
    → kind_of_both added (kind_in leaves left) (kind_in leaves right) ≡ Ok (Day bound)
    → value_of leaves left words ≡ day from → value_of leaves right words ≡ decimal_cell days → unsigned_abs (from +ℤ days.units) < SIZE_LIMIT
later_small leaves left right words bound from days kind left_is right_is =
    day_small leaves (typed.sum left right) words (from +ℤ days.units) (record { bound = bound; kind_is = kind }) (rw (left_is, right_is) refl)

pub earlier_small : (leaves : List Leaf) (left right : TypedTree) (words : List ℕ) (bound : ℕ) (from : ℤ) (days : Decimal)
    → kind_of_both added (kind_in leaves left) (kind_in leaves right) ≡ Ok (Day bound)
    → value_of leaves left words ≡ day from → value_of leaves right words ≡ decimal_cell days → unsigned_abs (from -ℤ days.units) < SIZE_LIMIT
earlier_small leaves left right words bound from days kind left_is right_is =
    day_small leaves (typed.difference left right) words (from -ℤ days.units) (record { bound = bound; kind_is = kind }) (rw (left_is, right_is) refl)

-- ---- leaves

-- a leaf of this kind stands at its place
pub record IsLeaf (leaves : List Leaf) (place : ℕ) (kind : Kind) : Type 0 where
  pub leaf : Leaf
  pub found : slice_get leaves place ≡ Some leaf
  pub kind_is : kind_of leaf.kind ≡ kind

found_leaf : (found : Option Leaf) (kind : Kind) (leaves : List Leaf) (place : ℕ) → slice_get leaves place ≡ found → leaf_kind found ≡ Ok kind → IsLeaf leaves place kind
found_leaf None kind leaves place is gives = cc
found_leaf (Some leaf) kind leaves place is gives = record { leaf = leaf; found = is; kind_is = cc }

pub leaf_is : (leaves : List Leaf) (place : ℕ) (kind : Kind) → leaf_kind (slice_get leaves place) ≡ Ok kind → IsLeaf leaves place kind
leaf_is leaves place kind gives = found_leaf (slice_get leaves place) kind leaves place refl gives

-- the column of a number
pub number_column : (field : FieldType) (limits : Extent) → kind_of field ≡ Number limits → is_number field ≡ true
number_column of.Count limits is = refl
number_column of.Amount limits is = refl
number_column of.Rate limits is = refl
number_column of.Day limits is = cc
number_column (of.Text bytes) limits is = cc
number_column (of.RefTo table) limits is = cc

-- the column of a day
pub day_column : (field : FieldType) (bound : ℕ) → kind_of field ≡ Day bound → field ≡ of.Day
day_column of.Count bound is = cc
day_column of.Amount bound is = cc
day_column of.Rate bound is = cc
day_column of.Day bound is = refl
day_column (of.Text bytes) bound is = cc
day_column (of.RefTo table) bound is = cc
