-- What the parts of a plan are, read off from the parts and the leaves alone.
use Rattle.std.specs.Prelude.{◌≡◌, ⊤, ℕ, ◌+◌, ◌<◌, ℤ, unsigned_abs, true, nat_le, if◌then◌else◌, List, length, Option, Some, None, IfSome, slice_get, Result, Ok, Err}
use Rattle.std.specs.List.{AllByRecursion}
use Rattle.smc_plan.specs.Answers.{and_then}
use Rattle.smc_plan.specs.Bounds.{added, are_narrow, bounded, extent, is_comparable, is_narrow_in, is_number, is_taken_by, kind_of, multiplied, negated}
use Rattle.smc_plan.specs.Conditions.{ConditionTree, either, both, negation, comparison, within}
use Rattle.smc_plan.specs.Edits.{PlannedEdit}
use Rattle.smc_plan.specs.Items.{argument}
use Rattle.smc_plan.specs.Outputs.{OutputTree, count, aggregate, fold}
use Rattle.smc_plan.specs.Planned.{Planned}
use Rattle.smc_plan.specs.Typed.{KindedTree, TypedTree, number, day, text, leaf, sum, difference, product, minus}
use Rattle.smc_plan.specs.declared.fault.PlanFault.{PlanFault}
use Rattle.smc_plan.specs.declared.fault.PlanFault.TheVariants.{NoField, TooWide}
use Rattle.smc_plan.specs.declared.kind.Kind.{Kind}
use Rattle.smc_plan.specs.declared.kind.Kind.TheVariants.{Number, Day, Text}
use Rattle.smc_plan.specs.declared.kind.TheConstants.{DAY_BOUND}
use Rattle.smc_plan.specs.declared.leaf.Leaf.{Leaf}
use Rattle.smc_plan.specs.declared.plan.OrderKey.{OrderKey}

-- what a leaf is that may lack
abbrev pub leaf_kind : Option Leaf → Result Kind PlanFault
leaf_kind None = Err NoField
leaf_kind (Some leaf') = Ok (kind_of leaf'.kind)

-- what a day of the calendar is
abbrev pub day_kind : ℤ → Result Kind PlanFault
day_kind days = if nat_le (unsigned_abs days) DAY_BOUND then Ok (Day DAY_BOUND) else Err TooWide

-- what an expression over these leaves is
abbrev pub kind_in : List Leaf → TypedTree → Result Kind PlanFault
kind_in leaves (number units scale) = bounded (Number (extent scale units))
kind_in leaves (day days) = day_kind days
kind_in leaves (text bytes) = Ok Text
kind_in leaves (leaf place) = leaf_kind (slice_get leaves place)
kind_in leaves (sum left right) = and_then (kind_in leaves left) (λ one. and_then (kind_in leaves right) (λ other. added one other))
kind_in leaves (difference left right) = and_then (kind_in leaves left) (λ one. and_then (kind_in leaves right) (λ other. added one other))
kind_in leaves (product left right) = and_then (kind_in leaves left) (λ one. and_then (kind_in leaves right) (λ other. multiplied one other))
kind_in leaves (minus of) = and_then (kind_in leaves of) negated

-- an expression is what it is said to be
abbrev pub IsKinded : List Leaf → KindedTree → Type 0
IsKinded leaves of = kind_in leaves of.typed ≡ Ok of.kind

-- two expressions can be compared, and are within the limit where they are
pub record AreCompared (leaves : List Leaf) (one other : TypedTree) : Type 0 where
  pub left : Kind
  pub right : Kind
  pub left_is : kind_in leaves one ≡ Ok left
  pub right_is : kind_in leaves other ≡ Ok right
  pub comparable : is_comparable left right ≡ true
  pub narrow : are_narrow left right ≡ true

-- in a condition all that is compared can be
abbrev pub IsTyped : List Leaf → ConditionTree → Type 0
IsTyped leaves (either left right) = IsTyped leaves left × IsTyped leaves right
IsTyped leaves (both left right) = IsTyped leaves left × IsTyped leaves right
IsTyped leaves (negation of) = IsTyped leaves of
IsTyped leaves (comparison op left right) = AreCompared leaves left right
IsTyped leaves (within value low high) = AreCompared leaves value low × AreCompared leaves value high

-- an output column has an argument that its call takes
abbrev pub IsOutput : List Leaf → OutputTree → Type 0
IsOutput leaves count = ⊤
IsOutput leaves (aggregate call of) = IsKinded leaves of × (argument call of ≡ Ok of)
IsOutput leaves (fold name of) = IsKinded leaves of × (is_number of.kind ≡ true)

-- a place of a leaf
abbrev pub IsPlace : List Leaf → ℕ → Type 0
IsPlace leaves place = place < length leaves

-- a key by one of so many output columns
abbrev pub IsKey : ℕ → OrderKey → Type 0
IsKey columns key = key.column < columns

-- over these leaves all parts of a plan are what they are said to be
pub record IsPlan (leaves : List Leaf) (plan : Planned) : Type 0 where
  pub filter : IfSome plan.filter (IsTyped leaves)
  pub by : AllByRecursion (IsPlace leaves) plan.by
  pub items : AllByRecursion (IsOutput leaves) plan.items
  pub sort : AllByRecursion (IsKey (length plan.by + length plan.items)) plan.sort

-- a field takes the value of an edit, and its condition compares what can be compared
pub record IsEdit (leaves : List Leaf) (edit : PlannedEdit) : Type 0 where
  pub value : IsKinded leaves edit.value
  pub taken : is_taken_by (kind_of edit.field.kind) edit.value.kind ≡ true
  pub narrow : is_narrow_in (kind_of edit.field.kind) edit.value.kind ≡ true
  pub filter : IfSome edit.filter (IsTyped leaves)
