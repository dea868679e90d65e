-- What an expression of a plan is, read off from the expression.
use Rattle.std.specs.Prelude.{◌≡◌, ⊤, ℕ, ◌≤◌, ℤ, unsigned_abs, List, Option, None, Some, slice_get, Result, Ok}
use Rattle.smc_plan.specs.Answers.{and_then}
use Rattle.smc_plan.specs.Bounds.{extent, kind_of}
use Rattle.smc_plan.specs.Kinds.{kind_in}
use Rattle.smc_plan.specs.Typed as typed
use Rattle.smc_plan.specs.Typed.{TypedTree}
use Rattle.smc_plan.specs.declared.fault.PlanFault.{PlanFault}
use Rattle.smc_plan.specs.declared.kind.Extent.{Extent}
use Rattle.smc_plan.specs.declared.kind.Kind.{Kind}
use Rattle.smc_plan.specs.declared.kind.Kind.TheVariants.{Number, Day, Text}
use Rattle.smc_plan.specs.declared.leaf.Leaf.{Leaf}
use Rattle.smc_meaning.specs.declared.value.Sort.{Sort}
use Rattle.smc_meaning.specs.declared.value.Sort.TheVariants.{Number as OfNumber, Day as OfDay, Text as OfText}
use Rattle.smc_meaning.specs.Values.{Cell, number, day, text}

-- what two operands make
abbrev pub kind_of_both : (Kind → Kind → Result Kind PlanFault) → Result Kind PlanFault → Result Kind PlanFault → Result Kind PlanFault
kind_of_both made left right = and_then left (λ one. and_then right (λ other. made one other))

-- the expression is a number, a day or a text
pub record HasKind (leaves : List Leaf) (typed : TypedTree) : Type 0 where
  pub kind : Kind
  pub kind_is : kind_in leaves typed ≡ Ok kind

-- the expression is a number
pub record IsNumber (leaves : List Leaf) (typed : TypedTree) : Type 0 where
  pub extent : Extent
  pub kind_is : kind_in leaves typed ≡ Ok (Number extent)

-- the expression is a day
pub record IsDay (leaves : List Leaf) (typed : TypedTree) : Type 0 where
  pub bound : ℕ
  pub kind_is : kind_in leaves typed ≡ Ok (Day bound)

-- the expression is a text
abbrev pub IsText : List Leaf → TypedTree → Type 0
IsText leaves typed = kind_in leaves typed ≡ Ok Text

-- so many units at a scale are a number of this extent
pub record HasExtent (number : Extent) (units : ℤ) (scale : ℕ) : Type 0 where
  pub scale_is : scale ≡ number.scale
  pub within : unsigned_abs units ≤ number.bound

-- a value of an expression of this kind
abbrev pub IsOf : Kind → Cell → Type 0
IsOf (Number extent) (number units scale) = HasExtent extent units scale
IsOf (Day bound) (day days) = unsigned_abs days ≤ bound
IsOf Text (text bytes) = ⊤
IsOf kind cell = ⊥

-- whether an expression is a number, a day or a text, by its first operand
abbrev pub sort_of_kind : Kind → Sort
sort_of_kind (Number extent) = OfNumber
sort_of_kind (Day bound) = OfDay
sort_of_kind Text = OfText

-- the same of a leaf, where there is one
abbrev pub sort_of_leaf : Option Leaf → Sort
sort_of_leaf None = OfText
sort_of_leaf (Some leaf) = sort_of_kind (kind_of leaf.kind)

abbrev pub sort_of : List Leaf → TypedTree → Sort
sort_of leaves (typed.number units scale) = OfNumber
sort_of leaves (typed.day days) = OfDay
sort_of leaves (typed.text bytes) = OfText
sort_of leaves (typed.leaf place) = sort_of_leaf (slice_get leaves place)
sort_of leaves (typed.sum left right) = sort_of leaves left
sort_of leaves (typed.difference left right) = sort_of leaves left
sort_of leaves (typed.product left right) = OfNumber
sort_of leaves (typed.minus of) = OfNumber
