-- What a condition of a query comes to in a plan.
use Rattle.std.specs.Prelude.{ℕ, Bool, ◌&&◌, if◌then◌else◌, Result, Ok, Err}
use Rattle.smc_query.specs.Trees.{CondTree}
use Rattle.smc_query.specs.Trees as query
use Rattle.smc_query.specs.declared.cond.Op.{Op}
use Rattle.smc_types.specs.declared.catalog.Catalog.{Catalog}
use Rattle.smc_plan.specs.Bounds.{is_comparable, are_narrow}
use Rattle.smc_plan.specs.Conditions.{ConditionTree, either, both, negation, comparison, within}
use Rattle.smc_plan.specs.Exprs.{typed_expr}
use Rattle.smc_plan.specs.Planning.{Planning, ◌>>=◌, given}
use Rattle.smc_plan.specs.Typed.{KindedTree}
use Rattle.smc_plan.specs.declared.fault.PlanFault.{PlanFault}
use Rattle.smc_plan.specs.declared.fault.PlanFault.TheVariants.{Types, TooWide}

-- a part whose operands have to be of types that fit, and then within the limits
abbrev pub where_fit : {A : Type 0} → (fits narrow : Bool) → A → Result A PlanFault
where_fit fits narrow part = if fits then (if narrow then Ok part else Err TooWide) else Err Types

-- a comparison
abbrev pub compared : Op → KindedTree → KindedTree → Result ConditionTree PlanFault
compared op left right = where_fit (is_comparable left.kind right.kind) (are_narrow left.kind right.kind) (comparison op left.typed right.typed)

-- an expression between two others, with each of which it is compared
abbrev pub ranged : (value low high : KindedTree) → Result ConditionTree PlanFault
ranged value low high =
    where_fit (is_comparable value.kind low.kind && is_comparable value.kind high.kind) (are_narrow value.kind low.kind && are_narrow value.kind high.kind)
    (within value.typed low.typed high.typed)

-- a condition on rows of a table; the faults of its parts come before its own
abbrev pub typed_cond : Catalog → ℕ → CondTree → Planning ConditionTree
typed_cond catalog table (query.either one other) = do
  left ← typed_cond catalog table one
  right ← typed_cond catalog table other
  given (Ok (either left right))
typed_cond catalog table (query.both one other) = do
  left ← typed_cond catalog table one
  right ← typed_cond catalog table other
  given (Ok (both left right))
typed_cond catalog table (query.negation one) = do
  of ← typed_cond catalog table one
  given (Ok (negation of))
typed_cond catalog table (query.comparison op one other) = do
  left ← typed_expr catalog table one
  right ← typed_expr catalog table other
  given (compared op left right)
typed_cond catalog table (query.within one two three) = do
  value ← typed_expr catalog table one
  low ← typed_expr catalog table two
  high ← typed_expr catalog table three
  given (ranged value low high)
