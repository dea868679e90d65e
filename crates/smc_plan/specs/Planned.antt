-- The plan of a query, or its first fault in the order of the text.
use Rattle.std.specs.Prelude.{ℕ, List, [], map, Option, Some, None, Result, Ok, Err}
use Rattle.smc_query.specs.Trees.{Word, PathTree, CondTree, ItemTree, KeyTree, QueryTree}
use Rattle.smc_types.specs.declared.catalog.Catalog.{Catalog}
use Rattle.smc_plan.specs.Answers.{and_then}
use Rattle.smc_plan.specs.Conditions.{ConditionTree, condition_tree}
use Rattle.smc_plan.specs.Conds.{typed_cond}
use Rattle.smc_plan.specs.Items.{planned_item}
use Rattle.smc_plan.specs.Leaves.{leaf_of}
use Rattle.smc_plan.specs.Orders.{order_key}
use Rattle.smc_plan.specs.Outputs.{OutputTree, output_tree}
use Rattle.smc_plan.specs.Planning.{Planning, ◌>>=◌, each, given, made, placed}
use Rattle.smc_plan.specs.Tables.{table_named}
use Rattle.smc_plan.specs.declared.condition.TypedCond.{TypedCond}
use Rattle.smc_plan.specs.declared.fault.PlanFault.{PlanFault}
use Rattle.smc_plan.specs.declared.fault.PlanFault.TheVariants.{NoTable}
use Rattle.smc_plan.specs.declared.leaf.Leaf.{Leaf}
use Rattle.smc_plan.specs.declared.output.Output.{Output}
use Rattle.smc_plan.specs.declared.plan.OrderKey.{OrderKey}
use Rattle.smc_plan.specs.declared.plan.Plan.{Plan}

-- what a query means over a catalog
pub record Planned : Type 0 where
  pub leaves : List Leaf
  pub filter : Option ConditionTree
  pub by : List ℕ
  pub items : List OutputTree
  pub sort : List OrderKey
  pub first : Option ℕ

-- a condition that may be absent
abbrev pub filter_condition : Option TypedCond → Option ConditionTree
filter_condition None = None
filter_condition (Some cond) = Some (condition_tree cond)

-- output columns
abbrev pub output_trees : List Output → List OutputTree
output_trees outputs = map output_tree outputs

-- the tree of a plan
abbrev pub plan_tree : Plan → Planned
plan_tree plan = record {
  leaves = plan.leaves;
  filter = filter_condition plan.filter;
  by = plan.by;
  items = output_trees plan.items;
  sort = plan.sort;
  first = plan.first;
}

-- the condition behind `where`
abbrev pub planned_filter : Catalog → ℕ → Option CondTree → Planning (Option ConditionTree)
planned_filter catalog table None = given (Ok None)
planned_filter catalog table (Some cond) = do
  typed ← typed_cond catalog table cond
  given (Ok (Some typed))

-- a path behind `by`, whose leaf is placed among the others
abbrev pub placed_path : Catalog → ℕ → PathTree → Planning ℕ
placed_path catalog table path leaves = and_then (leaf_of catalog table path) (λ leaf. Ok (placed leaves leaf))

-- the paths behind `by`
abbrev pub placed_paths : Catalog → ℕ → List PathTree → Planning (List ℕ)
placed_paths catalog table paths = each (placed_path catalog table) paths

-- the output columns behind `show`
abbrev pub planned_items : Catalog → List Word → ℕ → List ItemTree → Planning (List OutputTree)
planned_items catalog folds table items = each (planned_item catalog folds table) items

-- a key behind `sort`, which is no path of the query
abbrev pub planned_key : List PathTree → List ItemTree → KeyTree → Planning OrderKey
planned_key by items key = given (order_key by items key)

-- the keys behind `sort`
abbrev pub planned_keys : List PathTree → List ItemTree → List KeyTree → Planning (List OrderKey)
planned_keys by items keys = each (planned_key by items) keys

-- what has all leaves of the plan
abbrev pub with_leaves : {A : Type 0} → (List Leaf → A) → Planning A
with_leaves part leaves = Ok (made leaves (part leaves))

-- the parts of a query over this table, in the order of the text
abbrev pub planned_parts : Catalog → List Word → ℕ → QueryTree → Planning Planned
planned_parts catalog folds table query = do
  filter ← planned_filter catalog table query.filter
  by ← placed_paths catalog table query.by
  items ← planned_items catalog folds table query.items
  sort ← planned_keys query.by query.items query.sort
  with_leaves (λ leaves. record { leaves = leaves; filter = filter; by = by; items = items; sort = sort; first = query.first })

-- a table that may lack
abbrev pub table_or_fault : Option ℕ → Result ℕ PlanFault
table_or_fault None = Err NoTable
table_or_fault (Some table) = Ok table

-- the plan of a query over a catalog and these folds, or its first fault in the order of the text
abbrev pub planned : Catalog → List Word → QueryTree → Result Planned PlanFault
planned catalog folds query =
    and_then (table_or_fault (table_named catalog query.table)) (λ table. and_then (planned_parts catalog folds table query []) (λ all. Ok all.part))
