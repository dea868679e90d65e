-- What an expression of a query comes to in a plan.
use Rattle.std.specs.Prelude.{ℕ, Bool, ◌&&◌, nat_le, if◌then◌else◌, List, Result, Ok, Err}
use Rattle.smc_query.specs.Trees.{PathTree, ExprTree}
use Rattle.smc_query.specs.Trees as query
use Rattle.smc_types.specs.Calendar.{day_number, days_in_month}
use Rattle.smc_types.specs.declared.catalog.Catalog.{Catalog}
use Rattle.smc_types.specs.declared.column.FieldType.{FieldType}
use Rattle.smc_types.specs.declared.days.TheConstants.{YEAR_MAX}
use Rattle.smc_plan.specs.Answers.{and_then}
use Rattle.smc_plan.specs.Bounds.{added, bounded, extent, kind_of, multiplied, negated}
use Rattle.smc_plan.specs.Leaves.{leaf_of}
use Rattle.smc_plan.specs.Planning.{Made, Planning, ◌>>=◌, given, made, placed}
use Rattle.smc_plan.specs.Typed.{TypedTree, KindedTree, number, day, text, leaf, sum, difference, product, minus}
use Rattle.smc_plan.specs.declared.fault.PlanFault.{PlanFault}
use Rattle.smc_plan.specs.declared.fault.PlanFault.TheVariants.{Types}
use Rattle.smc_plan.specs.declared.kind.Kind.{Kind}
use Rattle.smc_plan.specs.declared.kind.Kind.TheVariants.{Number, Day, Text}
use Rattle.smc_plan.specs.declared.kind.TheConstants.{DAY_BOUND}

-- an expression of this kind
abbrev pub kinded : TypedTree → Kind → KindedTree
kinded typed kind = record { typed = typed; kind = kind }

-- an expression whose kind may be refused
abbrev pub kinded_by : TypedTree → Result Kind PlanFault → Result KindedTree PlanFault
kinded_by typed kind = and_then kind (λ is. Ok (kinded typed is))

-- a number has its own decimals
abbrev pub number_typed : ℕ → ℕ → Result KindedTree PlanFault
number_typed units decimals = kinded_by (number units decimals) (bounded (Number (extent decimals units)))

-- whether the calendar has this date, in the years that have four digits
abbrev pub has_date : ℕ → ℕ → ℕ → Bool
has_date year month day' = nat_le year YEAR_MAX && nat_le 1 month && nat_le month 12 && nat_le 1 day' && nat_le day' (days_in_month year month)

-- the day of a date
abbrev pub day_planned : ℕ → ℕ → ℕ → KindedTree
day_planned year month day' = kinded (day (day_number (record { year = year; month = month; day = day' }))) (Day DAY_BOUND)

-- a date is a day
abbrev pub day_typed : ℕ → ℕ → ℕ → Result KindedTree PlanFault
day_typed year month day' = if has_date year month day' then Ok (day_planned year month day') else Err Types

-- a text
abbrev pub text_typed : List ℕ → KindedTree
text_typed bytes = kinded (text bytes) Text

-- a leaf of this type of column, at its place
abbrev pub leaf_typed : FieldType → Made ℕ → Made KindedTree
leaf_typed field at = made at.leaves (kinded (leaf at.part) (kind_of field))

-- a path, whose leaf is placed among the others
abbrev pub field_typed : Catalog → ℕ → PathTree → Planning KindedTree
field_typed catalog table path leaves = and_then (leaf_of catalog table path) (λ is. Ok (leaf_typed is.kind (placed leaves is)))

-- a sum
abbrev pub sum_typed : KindedTree → KindedTree → Result KindedTree PlanFault
sum_typed left right = kinded_by (sum left.typed right.typed) (added left.kind right.kind)

-- a difference, which is as large as a sum
abbrev pub difference_typed : KindedTree → KindedTree → Result KindedTree PlanFault
difference_typed left right = kinded_by (difference left.typed right.typed) (added left.kind right.kind)

-- a product
abbrev pub product_typed : KindedTree → KindedTree → Result KindedTree PlanFault
product_typed left right = kinded_by (product left.typed right.typed) (multiplied left.kind right.kind)

-- a number taken from nothing
abbrev pub minus_typed : KindedTree → Result KindedTree PlanFault
minus_typed of = kinded_by (minus of.typed) (negated of.kind)

-- an expression over rows of a table; the faults of its operands come before its own
abbrev pub typed_expr : Catalog → ℕ → ExprTree → Planning KindedTree
typed_expr catalog table (query.number units decimals) = given (number_typed units decimals)
typed_expr catalog table (query.date year month day') = given (day_typed year month day')
typed_expr catalog table (query.text bytes) = given (Ok (text_typed bytes))
typed_expr catalog table (query.field path) = field_typed catalog table path
typed_expr catalog table (query.sum one other) = do
  left ← typed_expr catalog table one
  right ← typed_expr catalog table other
  given (sum_typed left right)
typed_expr catalog table (query.difference one other) = do
  left ← typed_expr catalog table one
  right ← typed_expr catalog table other
  given (difference_typed left right)
typed_expr catalog table (query.product one other) = do
  left ← typed_expr catalog table one
  right ← typed_expr catalog table other
  given (product_typed left right)
typed_expr catalog table (query.minus one) = do
  of ← typed_expr catalog table one
  given (minus_typed of)
