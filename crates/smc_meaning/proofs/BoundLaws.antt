-- A value is one of its expression's kind, and within the bounds of that.
use Rattle.std.proofs.Common.{◌≡◌, ℕ, ◌+◌, ◌*◌, ◌-◌, ◌^◌, ◌≤◌, max, Bool, true, false, cond, ℤ, pos, ◌+ℤ◌, ◌-ℤ◌, ◌*ℤ◌, neg_ℤ, ◌≤ℤ◌, unsigned_abs, IsTrue, nat_le, List, Option, None, Some, slice_get, slice_index, Result, Ok, Err, refl, sym, subst, mul-le-mul, arith, rules}
use Rattle.std.proofs.lemmas.Int.{ints, clamps, unsigned_abs-mul}
use Rattle.std.proofs.lemmas.Bool.Decides.{nat_tests}
use Rattle.smc_types.specs.Numbers.{moved_back, nearest}
use Rattle.smc_types.specs.Rows as rows
use Rattle.smc_types.specs.declared.column.FieldType.{FieldType}
use Rattle.smc_types.specs.declared.column.FieldType.TheVariants as of
use Rattle.smc_types.specs.declared.number.TheConstants.{COUNT_MAX, AMOUNT_MAX, RATE_MAX, DAY_MIN, DAY_MAX}
use Rattle.smc_plan.specs.Answers.{and_then}
use Rattle.smc_plan.specs.Bounds.{added, bound_at, bounded, extent, is_within, joined, kind_of, larger_scale, multiplied, negated}
use Rattle.smc_plan.specs.Typed as typed
use Rattle.smc_plan.specs.Typed.{TypedTree}
use Rattle.smc_plan.specs.declared.fault.PlanFault.{PlanFault}
use Rattle.smc_plan.specs.declared.fault.PlanFault.TheVariants.{Types, TooWide}
use Rattle.smc_plan.specs.declared.kind.Extent.{Extent}
use Rattle.smc_plan.specs.declared.kind.Kind.{Kind}
use Rattle.smc_plan.specs.declared.kind.Kind.TheVariants.{Number, Day, Text}
use Rattle.smc_plan.specs.declared.kind.TheConstants.{DAY_BOUND}
use Rattle.smc_plan.specs.declared.leaf.Leaf.{Leaf}
use Rattle.smc_meaning.specs.Values.{Cell, number, day, text, cell_of, leaf_value, leaf_words, less, negative, plus, times, units_at, value_of}
use Rattle.smc_plan.specs.Kinds.{leaf_kind, kind_in}
use Rattle.smc_meaning.specs.Kinds.{HasExtent, IsOf, kind_of_both}

-- ---- kinds

-- a kind that has to be within the limits is itself, and is within them
pub record IsBounded (kind made : Kind) : Type 0 where
  pub same : made ≡ kind
  pub within : IsTrue (is_within kind)

chosen : (test : Bool) (kind made : Kind) → test ≡ is_within kind → cond test (Ok kind) (Err TooWide) ≡ Ok made → IsBounded kind made
chosen true kind made is gives = record { same = cc; within = search (rules, is) }
chosen false kind made is gives = cc

pub bounded_is : (kind made : Kind) → bounded kind ≡ Ok made → IsBounded kind made
bounded_is kind made gives = chosen (is_within kind) kind made refl gives

-- what two operands make, where they make something
pub record AreBoth (make : Kind → Kind → Result Kind PlanFault) (left right : Result Kind PlanFault) (made : Kind) : Type 0 where
  pub one : Kind
  pub other : Kind
  pub left_is : left ≡ Ok one
  pub right_is : right ≡ Ok other
  pub made_is : make one other ≡ Ok made

pub both_are : (make : Kind → Kind → Result Kind PlanFault) (left right : Result Kind PlanFault) (made : Kind)
    → kind_of_both make left right ≡ Ok made → AreBoth make left right made
both_are make (Ok one) (Ok other) made gives = record { one = one; other = other; left_is = refl; right_is = refl; made_is = gives }
both_are make (Ok one) (Err fault) made gives = cc
both_are make (Err fault) right made gives = cc

-- ---- reckoning

-- the size of units that are brought to a larger scale
pub size-units_at : (larger : ℕ) (units : ℤ) (scale : ℕ) → unsigned_abs (units_at larger units scale) ≡ unsigned_abs units * 10 ^ (larger - scale)
size-units_at larger units scale = unsigned_abs-mul units (pos (10 ^ (larger - scale)))

-- a sum and a difference are no larger than both sizes together
pub size-plus : (one other : ℤ) → unsigned_abs (one +ℤ other) ≤ unsigned_abs one + unsigned_abs other
size-plus one other = omega (arith, ints)

pub size-less : (one other : ℤ) → unsigned_abs (one -ℤ other) ≤ unsigned_abs one + unsigned_abs other
size-less one other = omega (arith, ints)

-- a number that is within its extent is so at a larger scale
pub within-units_at : (larger : ℕ) (limits : Extent) (units : ℤ) (scale : ℕ) → HasExtent limits units scale
    → unsigned_abs (units_at larger units scale) ≤ bound_at larger limits
within-units_at larger limits units scale has =
    rw (size-units_at larger units scale, has.scale_is) (mul-le-mul has.within (omega arith))

-- two numbers, added or taken from one another, are within the sum of their bounds
joined_has : (one other : Extent) (u v w : ℤ) (s t : ℕ) → HasExtent one u s → HasExtent other v t
    → unsigned_abs w ≤ unsigned_abs (units_at (max s t) u s) + unsigned_abs (units_at (max s t) v t)
    → HasExtent (joined one other) w (max s t)
joined_has one other u v w s t left right small =
    let larger : max s t ≡ larger_scale one other = cc (left.scale_is, right.scale_is) in
    let low = within-units_at (max s t) one u s left in
    let high = within-units_at (max s t) other v t right in
    record {
      scale_is = larger;
      within = rw (← larger) (omega (arith, small, low, high));
    }

-- and their product within the product
multiplied_has : (one other : Extent) (u v : ℤ) (s t : ℕ) → HasExtent one u s → HasExtent other v t
    → HasExtent (extent (one.scale + other.scale) (one.bound * other.bound)) (u *ℤ v) (s + t)
multiplied_has one other u v s t left right = record {
  scale_is = cc (left.scale_is, right.scale_is);
  within = rw (unsigned_abs-mul u v) (mul-le-mul left.within right.within);
}

-- ---- expressions

-- a value is one of a kind that has to be within the limits, where it is one of that kind
bounded_has : (kind made : Kind) (cell : Cell) → bounded kind ≡ Ok made → IsOf kind cell → IsOf made cell
bounded_has kind made cell gives has = subst (λ (k : Kind). IsOf k cell) (sym (bounded_is kind made gives).same) has

-- where a test chose no fault, it was passed
passed : (test : Bool) (gives : Result Kind PlanFault) (made : Kind) → cond test gives (Err Types) ≡ Ok made → gives ≡ Ok made
passed true gives made is = is
passed false gives made is = cc

-- a day that was moved by so many days
moved_has : (bound : ℕ) (days : Extent) (made : Kind) (d n e : ℤ) (s : ℕ) → added (Day bound) (Number days) ≡ Ok made
    → unsigned_abs d ≤ bound → HasExtent days n s → unsigned_abs e ≤ unsigned_abs d + unsigned_abs n → IsOf made (day e)
moved_has bound days made d n e s gives from has small =
    let within = has.within in
    bounded_has (Day (bound + days.bound)) made (day e) (passed _ (bounded (Day (bound + days.bound))) made gives) (omega (arith, small, from, within))

-- a sum
plus_has : (one other made : Kind) (left right : Cell) → added one other ≡ Ok made → IsOf one left → IsOf other right → IsOf made (plus left right)
plus_has (Number one) (Number other) made (number u s) (number v t) gives has also =
    bounded_has (Number (joined one other)) made (plus (number u s) (number v t)) gives
    (joined_has one other u v (units_at (max s t) u s +ℤ units_at (max s t) v t) s t has also (size-plus (units_at (max s t) u s) (units_at (max s t) v t)))
plus_has (Number one) (Number other) made (number u s) right gives has also = absurd also
plus_has (Number one) (Number other) made left right gives has also = absurd has
plus_has (Day bound) (Number days) made (day d) (number n s) gives has also = moved_has bound days made d n (d +ℤ n) s gives has also (size-plus d n)
plus_has (Day bound) (Number days) made (day d) right gives has also = absurd also
plus_has (Day bound) (Number days) made left right gives has also = absurd has
plus_has one other made left right gives has also = cc

-- a difference
less_has : (one other made : Kind) (left right : Cell) → added one other ≡ Ok made → IsOf one left → IsOf other right → IsOf made (less left right)
less_has (Number one) (Number other) made (number u s) (number v t) gives has also =
    bounded_has (Number (joined one other)) made (less (number u s) (number v t)) gives
    (joined_has one other u v (units_at (max s t) u s -ℤ units_at (max s t) v t) s t has also (size-less (units_at (max s t) u s) (units_at (max s t) v t)))
less_has (Number one) (Number other) made (number u s) right gives has also = absurd also
less_has (Number one) (Number other) made left right gives has also = absurd has
less_has (Day bound) (Number days) made (day d) (number n s) gives has also = moved_has bound days made d n (d -ℤ n) s gives has also (size-less d n)
less_has (Day bound) (Number days) made (day d) right gives has also = absurd also
less_has (Day bound) (Number days) made left right gives has also = absurd has
less_has one other made left right gives has also = cc

-- a product
times_has : (one other made : Kind) (left right : Cell) → multiplied one other ≡ Ok made → IsOf one left → IsOf other right → IsOf made (times left right)
times_has (Number one) (Number other) made (number u s) (number v t) gives has also =
    bounded_has (Number (extent (one.scale + other.scale) (one.bound * other.bound))) made (times (number u s) (number v t)) gives
    (multiplied_has one other u v s t has also)
times_has (Number one) (Number other) made (number u s) right gives has also = absurd also
times_has (Number one) (Number other) made left right gives has also = absurd has
times_has one other made left right gives has also = cc

-- a number taken from nothing
negative_has : (one made : Kind) (of : Cell) → negated one ≡ Ok made → IsOf one of → IsOf made (negative of)
negative_has (Number one) made (number u s) gives has =
    let same : made ≡ Number one = cc in
    subst (λ (k : Kind). IsOf k (number (neg_ℤ u) s)) (sym same) (record { scale_is = has.scale_is; within = omega (arith, ints, has.within) })
negative_has (Number one) made of gives has = absurd has
negative_has one made of gives has = cc

-- ---- leaves

-- a number in a range has its larger end as its bound
nearest_has : (least greatest : ℤ) (bound : ℕ) (n : ℤ) → least ≤ℤ greatest → unsigned_abs least ≤ bound → unsigned_abs greatest ≤ bound → unsigned_abs (nearest least greatest n) ≤ bound
nearest_has least greatest bound n order low high = omega (arith, ints, clamps)

-- the value of a column
pub column_has : (field : FieldType) (words : List ℕ) → IsOf (kind_of field) (cell_of field (rows.value_of field words))
column_has of.Count words = record { scale_is = refl; within = nearest_has (pos 0) COUNT_MAX (unsigned_abs COUNT_MAX) (pos (slice_index words 0)) (omega (arith, ints)) (omega (arith, ints)) (omega (arith, ints)) }
column_has of.Amount words = record { scale_is = refl; within = nearest_has (neg_ℤ AMOUNT_MAX) AMOUNT_MAX (unsigned_abs AMOUNT_MAX) (moved_back (slice_index words 0)) (omega (arith, ints)) (omega (arith, ints)) (omega (arith, ints)) }
column_has of.Rate words = record { scale_is = refl; within = nearest_has (pos 0) RATE_MAX (unsigned_abs RATE_MAX) (moved_back (slice_index words 0)) (omega (arith, ints)) (omega (arith, ints)) (omega (arith, ints)) }
column_has of.Day words = nearest_has DAY_MIN DAY_MAX DAY_BOUND (moved_back (slice_index words 0)) (omega (arith, ints)) (omega (arith, ints)) (omega (arith, ints))
column_has (of.Text bytes) words = tt
column_has (of.RefTo table) words = tt

leaf_has : (leaves : List Leaf) (place : ℕ) (found : Option Leaf) (words : List ℕ) (kind : Kind) → leaf_kind found ≡ Ok kind → IsOf kind (leaf_value leaves place found words)
leaf_has leaves place None words kind gives = cc
leaf_has leaves place (Some leaf) words kind gives =
    let same : kind ≡ kind_of leaf.kind = cc in
    subst (λ (k : Kind). IsOf k (leaf_value leaves place (Some leaf) words)) (sym same) (column_has leaf.kind (leaf_words leaves place leaf words))

-- what stands behind the operand of one that is made from it
pub record IsFrom (make : Kind → Result Kind PlanFault) (of : Result Kind PlanFault) (made : Kind) : Type 0 where
  pub one : Kind
  pub of_is : of ≡ Ok one
  pub made_is : make one ≡ Ok made

pub from_is : (make : Kind → Result Kind PlanFault) (of : Result Kind PlanFault) (made : Kind) → and_then of make ≡ Ok made → IsFrom make of made
from_is make (Ok one) made gives = record { one = one; of_is = refl; made_is = gives }
from_is make (Err fault) made gives = cc

-- ---- all expressions

-- a day of the calendar
day_has : (test : Bool) (days : ℤ) (kind : Kind) → test ≡ nat_le (unsigned_abs days) DAY_BOUND → cond test (Ok (Day DAY_BOUND)) (Err TooWide) ≡ Ok kind → IsOf kind (day days)
day_has true days kind is gives =
    let same : kind ≡ Day DAY_BOUND = cc in
    let small : unsigned_abs days ≤ DAY_BOUND = grind (arith, nat_tests, is) in
    subst (λ (k : Kind). IsOf k (day days)) (sym same) small
day_has false days kind is gives = cc

-- the value of an expression
pub value_has : (leaves : List Leaf) (tree : TypedTree) (words : List ℕ) (kind : Kind) → kind_in leaves tree ≡ Ok kind → IsOf kind (value_of leaves tree words)
value_has leaves (typed.number units scale) words kind gives =
    bounded_has (Number (extent scale units)) kind (number (pos units) scale) gives (record { scale_is = refl; within = omega arith })
value_has leaves (typed.day days) words kind gives = day_has _ days kind refl gives
value_has leaves (typed.text bytes) words kind gives = let same : kind ≡ Text = cc in subst (λ (k : Kind). IsOf k (text bytes)) (sym same) tt
value_has leaves (typed.leaf place) words kind gives = leaf_has leaves place (slice_get leaves place) words kind gives
value_has leaves (typed.sum left right) words kind gives =
    let both = both_are added (kind_in leaves left) (kind_in leaves right) kind gives in
    plus_has both.one both.other kind (value_of leaves left words) (value_of leaves right words) both.made_is
    (value_has leaves left words both.one both.left_is) (value_has leaves right words both.other both.right_is)
value_has leaves (typed.difference left right) words kind gives =
    let both = both_are added (kind_in leaves left) (kind_in leaves right) kind gives in
    less_has both.one both.other kind (value_of leaves left words) (value_of leaves right words) both.made_is
    (value_has leaves left words both.one both.left_is) (value_has leaves right words both.other both.right_is)
value_has leaves (typed.product left right) words kind gives =
    let both = both_are multiplied (kind_in leaves left) (kind_in leaves right) kind gives in
    times_has both.one both.other kind (value_of leaves left words) (value_of leaves right words) both.made_is
    (value_has leaves left words both.one both.left_is) (value_has leaves right words both.other both.right_is)
value_has leaves (typed.minus of) words kind gives =
    let from = from_is negated (kind_in leaves of) kind gives in
    negative_has from.one kind (value_of leaves of words) from.made_is (value_has leaves of words from.one from.of_is)

-- ---- the limits

column_within : (field : FieldType) → IsTrue (is_within (kind_of field))
column_within of.Count = search rules
column_within of.Amount = search rules
column_within of.Rate = search rules
column_within of.Day = search rules
column_within (of.Text bytes) = search rules
column_within (of.RefTo table) = search rules

moves : (made kind : Kind) → made ≡ kind → IsTrue (is_within kind) → IsTrue (is_within made)
moves made kind same within = subst (λ (k : Kind). IsTrue (is_within k)) (sym same) within

bounded_within : (kind made : Kind) → bounded kind ≡ Ok made → IsTrue (is_within made)
bounded_within kind made gives = let is = bounded_is kind made gives in moves made kind is.same is.within

added_within : (one other made : Kind) → added one other ≡ Ok made → IsTrue (is_within made)
added_within (Number one) (Number other) made gives = bounded_within (Number (joined one other)) made gives
added_within (Day bound) (Number days) made gives = bounded_within (Day (bound + days.bound)) made (passed _ (bounded (Day (bound + days.bound))) made gives)
added_within one other made gives = cc

multiplied_within : (one other made : Kind) → multiplied one other ≡ Ok made → IsTrue (is_within made)
multiplied_within (Number one) (Number other) made gives = bounded_within (Number (extent (one.scale + other.scale) (one.bound * other.bound))) made gives
multiplied_within one other made gives = cc

negated_is : (one made : Kind) → negated one ≡ Ok made → made ≡ one
negated_is (Number one) made gives = cc
negated_is one made gives = cc

leaf_within : (found : Option Leaf) (kind : Kind) → leaf_kind found ≡ Ok kind → IsTrue (is_within kind)
leaf_within None kind gives = cc
leaf_within (Some leaf) kind gives = moves kind (kind_of leaf.kind) (cc) (column_within leaf.kind)

day_within : (test : Bool) (kind : Kind) → cond test (Ok (Day DAY_BOUND)) (Err TooWide) ≡ Ok kind → IsTrue (is_within kind)
day_within true kind gives = moves kind (Day DAY_BOUND) (cc) (search rules)
day_within false kind gives = cc

-- what an expression is is within the limits
pub kind_within : (leaves : List Leaf) (tree : TypedTree) (kind : Kind) → kind_in leaves tree ≡ Ok kind → IsTrue (is_within kind)
kind_within leaves (typed.number units scale) kind gives = bounded_within (Number (extent scale units)) kind gives
kind_within leaves (typed.day days) kind gives = day_within (nat_le (unsigned_abs days) DAY_BOUND) kind gives
kind_within leaves (typed.text bytes) kind gives = moves kind Text (cc) (search rules)
kind_within leaves (typed.leaf place) kind gives = leaf_within (slice_get leaves place) kind gives
kind_within leaves (typed.sum left right) kind gives =
    let both = both_are added (kind_in leaves left) (kind_in leaves right) kind gives in added_within both.one both.other kind both.made_is
kind_within leaves (typed.difference left right) kind gives =
    let both = both_are added (kind_in leaves left) (kind_in leaves right) kind gives in added_within both.one both.other kind both.made_is
kind_within leaves (typed.product left right) kind gives =
    let both = both_are multiplied (kind_in leaves left) (kind_in leaves right) kind gives in multiplied_within both.one both.other kind both.made_is
kind_within leaves (typed.minus of) kind gives =
    let from = from_is negated (kind_in leaves of) kind gives in
    moves kind from.one (negated_is from.one kind from.made_is) (kind_within leaves of from.one from.of_is)
