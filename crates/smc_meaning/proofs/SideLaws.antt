-- The two sides of a comparison.
use Rattle.std.proofs.Common.{◌≡◌, ℕ, ◌+◌, ◌*◌, ◌-◌, ◌<◌, max, Bool, true, false, cond, unsigned_abs, nat_le, List, Option, None, Some, slice_get, Result, Ok, Err, refl, sym, ap, ◌∙◌, arith}
use Rattle.std.proofs.lemmas.Bool.Decides.{nat_tests}
use Rattle.smc_plan.specs.Bounds.{added, are_narrow, bound_at, bounded, is_comparable, joined, kind_of, larger_scale, multiplied, negated, extent}
use Rattle.smc_plan.specs.Typed as typed
use Rattle.smc_plan.specs.Typed.{TypedTree}
use Rattle.smc_plan.specs.declared.fault.PlanFault.{PlanFault}
use Rattle.smc_plan.specs.declared.fault.PlanFault.TheVariants.{Types, TooWide}
use Rattle.smc_plan.specs.declared.kind.Extent.{Extent}
use Rattle.smc_plan.specs.declared.kind.Kind.{Kind}
use Rattle.smc_plan.specs.declared.kind.Kind.TheVariants.{Number, Day, Text}
use Rattle.smc_plan.specs.declared.kind.TheConstants.{DAY_BOUND, SIZE_LIMIT}
use Rattle.smc_plan.specs.declared.leaf.Leaf.{Leaf}
use Rattle.smc_plan.specs.Kinds.{AreCompared}
use Rattle.smc_meaning.specs.Values.{value_of}
use Rattle.smc_plan.specs.Kinds.{leaf_kind, kind_in}
use Rattle.smc_meaning.specs.Kinds.{HasExtent, IsDay, IsNumber, IsText, sort_of, sort_of_kind, sort_of_leaf}
use Rattle.smc_meaning.specs.declared.value.Sort.{Sort}
use Rattle.smc_meaning.specs.declared.value.Sort.TheVariants.{Number as OfNumber, Day as OfDay, Text as OfText}
use Rattle.smc_meaning.specs.Decimals.{CanMeet, decimal_cell, larger_of}
use Rattle.smc_meaning.specs.declared.decimal.Decimal.{Decimal}
use Rattle.smc_meaning.proofs.BoundLaws.{both_are, bounded_is, from_is}
use Rattle.smc_meaning.proofs.OperandLaws.{decimal_has, IsLimited, number_limited, size_within}

-- ---- what an expression is, by its first operand

sort_of_bounded : (kind made : Kind) → bounded kind ≡ Ok made → sort_of_kind kind ≡ sort_of_kind made
sort_of_bounded kind made gives = ap sort_of_kind (sym (bounded_is kind made gives).same)

passed : (test : Bool) (gives : Result Kind PlanFault) (made : Kind) → cond test gives (Err Types) ≡ Ok made → gives ≡ Ok made
passed true gives made is = is
passed false gives made is = cc

sort_of_added : (one other made : Kind) → added one other ≡ Ok made → sort_of_kind one ≡ sort_of_kind made
sort_of_added (Number one) (Number other) made gives = sort_of_bounded (Number (joined one other)) made gives
sort_of_added (Day bound) (Number days) made gives = sort_of_bounded (Day (bound + days.bound)) made (passed _ (bounded (Day (bound + days.bound))) made gives)
sort_of_added one other made gives = cc

sort_of_multiplied : (one other made : Kind) → multiplied one other ≡ Ok made → OfNumber ≡ sort_of_kind made
sort_of_multiplied (Number one) (Number other) made gives = sort_of_bounded (Number (extent (one.scale + other.scale) (one.bound * other.bound))) made gives
sort_of_multiplied one other made gives = cc

sort_of_negated : (one made : Kind) → negated one ≡ Ok made → OfNumber ≡ sort_of_kind made
sort_of_negated (Number one) made gives = let same : made ≡ Number one = cc in ap sort_of_kind (sym same)
sort_of_negated one made gives = cc

sort_of_found : (found : Option Leaf) (kind : Kind) → leaf_kind found ≡ Ok kind → sort_of_leaf found ≡ sort_of_kind kind
sort_of_found None kind gives = cc
sort_of_found (Some leaf) kind gives = let same : kind_of leaf.kind ≡ kind = cc in ap sort_of_kind same

sort_of_days : (test : Bool) (kind : Kind) → cond test (Ok (Day DAY_BOUND)) (Err TooWide) ≡ Ok kind → OfDay ≡ sort_of_kind kind
sort_of_days true kind gives = let same : Day DAY_BOUND ≡ kind = cc in ap sort_of_kind same
sort_of_days false kind gives = cc

pub sort_is : (leaves : List Leaf) (tree : TypedTree) (kind : Kind) → kind_in leaves tree ≡ Ok kind → sort_of leaves tree ≡ sort_of_kind kind
sort_is leaves (typed.number units scale) kind gives = sort_of_bounded (Number (extent scale units)) kind gives
sort_is leaves (typed.day days) kind gives = sort_of_days (nat_le (unsigned_abs days) DAY_BOUND) kind gives
sort_is leaves (typed.text bytes) kind gives = let same : Text ≡ kind = cc in ap sort_of_kind same
sort_is leaves (typed.leaf place) kind gives = sort_of_found (slice_get leaves place) kind gives
sort_is leaves (typed.sum left right) kind gives =
    let both = both_are added (kind_in leaves left) (kind_in leaves right) kind gives in
    sort_is leaves left both.one both.left_is ∙ sort_of_added both.one both.other kind both.made_is
sort_is leaves (typed.difference left right) kind gives =
    let both = both_are added (kind_in leaves left) (kind_in leaves right) kind gives in
    sort_is leaves left both.one both.left_is ∙ sort_of_added both.one both.other kind both.made_is
sort_is leaves (typed.product left right) kind gives =
    let both = both_are multiplied (kind_in leaves left) (kind_in leaves right) kind gives in
    sort_of_multiplied both.one both.other kind both.made_is
sort_is leaves (typed.minus of) kind gives =
    let from = from_is negated (kind_in leaves of) kind gives in sort_of_negated from.one kind from.made_is

-- ---- sides

-- both sides are numbers
pub record NumberSides (one other : Kind) : Type 0 where
  pub left : Extent
  pub right : Extent
  pub one_is : one ≡ Number left
  pub other_is : other ≡ Number right

number_sides : (one other : Kind) → is_comparable one other ≡ true → sort_of_kind one ≡ OfNumber → NumberSides one other
number_sides (Number left) (Number right) comparable is = record { left = left; right = right; one_is = refl; other_is = refl }
number_sides (Number left) other comparable is = cc
number_sides (Day bound) other comparable is = cc
number_sides Text other comparable is = cc

-- both are days
pub record DaySides (one other : Kind) : Type 0 where
  pub left : ℕ
  pub right : ℕ
  pub one_is : one ≡ Day left
  pub other_is : other ≡ Day right

day_sides : (one other : Kind) → is_comparable one other ≡ true → sort_of_kind one ≡ OfDay → DaySides one other
day_sides (Day left) (Day right) comparable is = record { left = left; right = right; one_is = refl; other_is = refl }
day_sides (Day left) other comparable is = cc
day_sides (Number bound) other comparable is = cc
day_sides Text other comparable is = cc

-- both are texts
pub record TextSides (one other : Kind) : Type 0 where
  pub one_is : one ≡ Text
  pub other_is : other ≡ Text

text_sides : (one other : Kind) → is_comparable one other ≡ true → sort_of_kind one ≡ OfText → TextSides one other
text_sides Text Text comparable is = record { one_is = refl; other_is = refl }
text_sides Text other comparable is = cc
text_sides (Number bound) other comparable is = cc
text_sides (Day bound) other comparable is = cc

first_sort : (leaves : List Leaf) (left right : TypedTree) (sort : Sort) (can : AreCompared leaves left right) → sort_of leaves left ≡ sort → sort_of_kind can.left ≡ sort
first_sort leaves left right sort can is = sym (sort_is leaves left can.left can.left_is) ∙ is

numbers : (leaves : List Leaf) (left right : TypedTree) (can : AreCompared leaves left right) → sort_of leaves left ≡ OfNumber → NumberSides can.left can.right
numbers leaves left right can is = number_sides can.left can.right can.comparable (first_sort leaves left right OfNumber can is)

pub left_number : (leaves : List Leaf) (left right : TypedTree) → AreCompared leaves left right → sort_of leaves left ≡ OfNumber → IsNumber leaves left
left_number leaves left right can is = let sides = numbers leaves left right can is in record { extent = sides.left; kind_is = can.left_is ∙ ap Ok sides.one_is }

pub right_number : (leaves : List Leaf) (left right : TypedTree) → AreCompared leaves left right → sort_of leaves left ≡ OfNumber → IsNumber leaves right
right_number leaves left right can is = let sides = numbers leaves left right can is in record { extent = sides.right; kind_is = can.right_is ∙ ap Ok sides.other_is }

pub left_day : (leaves : List Leaf) (left right : TypedTree) → AreCompared leaves left right → sort_of leaves left ≡ OfDay → IsDay leaves left
left_day leaves left right can is =
    let sides = day_sides can.left can.right can.comparable (first_sort leaves left right OfDay can is) in record { bound = sides.left; kind_is = can.left_is ∙ ap Ok sides.one_is }

pub right_day : (leaves : List Leaf) (left right : TypedTree) → AreCompared leaves left right → sort_of leaves left ≡ OfDay → IsDay leaves right
right_day leaves left right can is =
    let sides = day_sides can.left can.right can.comparable (first_sort leaves left right OfDay can is) in record { bound = sides.right; kind_is = can.right_is ∙ ap Ok sides.other_is }

pub left_text : (leaves : List Leaf) (left right : TypedTree) → AreCompared leaves left right → sort_of leaves left ≡ OfText → IsText leaves left
left_text leaves left right can is = can.left_is ∙ ap Ok (text_sides can.left can.right can.comparable (first_sort leaves left right OfText can is)).one_is

pub right_text : (leaves : List Leaf) (left right : TypedTree) → AreCompared leaves left right → sort_of leaves left ≡ OfText → IsText leaves right
right_text leaves left right can is = can.right_is ∙ ap Ok (text_sides can.left can.right can.comparable (first_sort leaves left right OfText can is)).other_is

-- ---- numbers that meet

-- both bounds are below the limit at the larger scale
pub record AreNarrow (one other : Extent) : Type 0 where
  pub low : bound_at (larger_scale one other) one < SIZE_LIMIT
  pub high : bound_at (larger_scale one other) other < SIZE_LIMIT

narrow_is : (one other : Extent) → are_narrow (Number one) (Number other) ≡ true → AreNarrow one other
narrow_is one other narrow = record { low = grind (arith, nat_tests); high = grind (arith, nat_tests) }

meeting : (one other : Extent) (left right : Decimal) → HasExtent one left.units left.scale → HasExtent other right.units right.scale
    → IsLimited one → IsLimited other → AreNarrow one other → CanMeet left right
meeting one other left right left_has right_has left_limits right_limits narrow =
    let larger : larger_of left right ≡ larger_scale one other = cc (left_has.scale_is, right_has.scale_is) in
    let low = size_within (larger_scale one other) one left left_has in
    let high = size_within (larger_scale one other) other right right_has in
    record {
      few = omega (arith, left_has.scale_is, right_has.scale_is, left_limits.few, right_limits.few);
      small = rw larger (omega (arith, low, narrow.low));
      other_small = rw larger (omega (arith, high, narrow.high));
    }

narrow_too : (one other first second : Kind) → one ≡ first → other ≡ second → are_narrow one other ≡ true → are_narrow first second ≡ true
narrow_too one other first second is also narrow = cc

-- the values of two sides that are numbers can be compared
pub can_meet : (leaves : List Leaf) (left right : TypedTree) (words other_words : List ℕ) (one other : Decimal) → AreCompared leaves left right → sort_of leaves left ≡ OfNumber
    → value_of leaves left words ≡ decimal_cell one → value_of leaves right other_words ≡ decimal_cell other → CanMeet one other
can_meet leaves left right words other_words one other can is left_is right_is =
    let sides = numbers leaves left right can is in
    let first = can.left_is ∙ ap Ok sides.one_is in
    let second = can.right_is ∙ ap Ok sides.other_is in
    let narrow : are_narrow (Number sides.left) (Number sides.right) ≡ true = narrow_too can.left can.right (Number sides.left) (Number sides.right) sides.one_is sides.other_is can.narrow in
    meeting sides.left sides.right one other
    (decimal_has leaves left words sides.left one first left_is) (decimal_has leaves right other_words sides.right other second right_is)
    (number_limited leaves left sides.left first) (number_limited leaves right sides.right second) (narrow_is sides.left sides.right narrow)

-- ---- an expression in two rows

-- an expression of some kind can be compared with itself
bound-same : (limits : Extent) → bound_at (larger_scale limits limits) limits ≡ limits.bound
bound-same limits =
    let none : max limits.scale limits.scale - limits.scale ≡ 0 = omega arith in
    rw none (omega arith)

self_narrow : (limits : Extent) → limits.bound < SIZE_LIMIT → are_narrow (Number limits) (Number limits) ≡ true
self_narrow limits small = let same = bound-same limits in grind (arith, nat_tests)

self_compared : (leaves : List Leaf) (tree : TypedTree) (kind : Kind) → kind_in leaves tree ≡ Ok kind → (is_comparable kind kind ≡ true) × (are_narrow kind kind ≡ true)
self_compared leaves tree (Number limits) is = (refl, self_narrow limits (number_limited leaves tree limits is).small)
self_compared leaves tree (Day bound) is = (refl, refl)
self_compared leaves tree Text is = (refl, refl)

pub self_can : (leaves : List Leaf) (tree : TypedTree) (kind : Kind) → kind_in leaves tree ≡ Ok kind → AreCompared leaves tree tree
self_can leaves tree kind is =
    let compared = self_compared leaves tree kind is in
    record { left = kind; right = kind; left_is = is; right_is = is; comparable = compared.0; narrow = compared.1 }

-- an expression of some kind is what its sort says
pub own_number : (leaves : List Leaf) (tree : TypedTree) (kind : Kind) → kind_in leaves tree ≡ Ok kind → sort_of leaves tree ≡ OfNumber → IsNumber leaves tree
own_number leaves tree kind is sort = left_number leaves tree tree (self_can leaves tree kind is) sort

pub own_day : (leaves : List Leaf) (tree : TypedTree) (kind : Kind) → kind_in leaves tree ≡ Ok kind → sort_of leaves tree ≡ OfDay → IsDay leaves tree
own_day leaves tree kind is sort = left_day leaves tree tree (self_can leaves tree kind is) sort

pub own_text : (leaves : List Leaf) (tree : TypedTree) (kind : Kind) → kind_in leaves tree ≡ Ok kind → sort_of leaves tree ≡ OfText → IsText leaves tree
own_text leaves tree kind is sort = left_text leaves tree tree (self_can leaves tree kind is) sort
