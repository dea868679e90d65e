-- What the output columns of a query come to in a plan.
use Rattle.std.specs.Prelude.{ℕ, Bool, true, ◌||◌, if◌then◌else◌, List, map, Result, Ok, Err}
use Rattle.std.specs.Borrow.{Bor}
use Rattle.std.specs.List.{list_any}
use Rattle.std.specs.Str.{bytes_eq}
use Rattle.smc_query.specs.Trees.{Word, Aggregate, total, average, least, greatest, CallTree, ItemTree}
use Rattle.smc_query.specs.Trees as query
use Rattle.smc_types.specs.declared.catalog.Catalog.{Catalog}
use Rattle.smc_plan.specs.Answers.{and_then}
use Rattle.smc_plan.specs.Bounds.{is_number, is_summable}
use Rattle.smc_plan.specs.Conds.{where_fit}
use Rattle.smc_plan.specs.Exprs.{typed_expr}
use Rattle.smc_plan.specs.Outputs.{OutputTree, count, aggregate, fold}
use Rattle.smc_plan.specs.Planning.{Planning, ◌>>=◌, given}
use Rattle.smc_plan.specs.Typed.{KindedTree, is_leaf}
use Rattle.smc_plan.specs.declared.fault.PlanFault.{PlanFault}
use Rattle.smc_plan.specs.declared.fault.PlanFault.TheVariants.{NoField}

-- the names behind references
abbrev pub names_of : List (Bor Word) → List Word
names_of names = map (λ name. name.now) names

-- whether a fold of that name was handed in
unfoldable pub is_fold : List Word → Word → Bool
is_fold folds name = list_any (λ known. bytes_eq known name) folds

-- the argument of a sum or an average is a number of not too many units
abbrev pub summed : KindedTree → Result KindedTree PlanFault
summed of = where_fit (is_number of.kind) (is_summable of.kind) of

-- the argument of a least or a greatest is a number or a path
abbrev pub ordered : KindedTree → Result KindedTree PlanFault
ordered of = where_fit (is_number of.kind || is_leaf of.typed) true of

-- the argument of an aggregate
abbrev pub argument : Aggregate → KindedTree → Result KindedTree PlanFault
argument total of = summed of
argument average of = summed of
argument least of = ordered of
argument greatest of = ordered of

-- an aggregate of an expression
abbrev pub aggregated : Aggregate → KindedTree → Result OutputTree PlanFault
aggregated call of = and_then (argument call of) (λ is. Ok (aggregate call is))

-- a fold takes a number
abbrev pub folded : Word → KindedTree → Result OutputTree PlanFault
folded name of = where_fit (is_number of.kind) true (fold name of)

-- a name of a fold that was handed in
abbrev pub known : List Word → Word → Result Word PlanFault
known folds name = if is_fold folds name then Ok name else Err NoField

-- a call; the name of a fold stands before its argument
abbrev pub planned_call : Catalog → List Word → ℕ → CallTree → Planning OutputTree
planned_call catalog folds table query.count = given (Ok count)
planned_call catalog folds table (query.aggregate call one) = do
  of ← typed_expr catalog table one
  given (aggregated call of)
planned_call catalog folds table (query.fold name one) = do
  is ← given (known folds name)
  of ← typed_expr catalog table one
  given (folded is of)

-- an output column
abbrev pub planned_item : Catalog → List Word → ℕ → ItemTree → Planning OutputTree
planned_item catalog folds table item = planned_call catalog folds table item.call
