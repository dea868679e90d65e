-- What a query does, and what it replies.
use Rattle.std.specs.Prelude.{◌≡◌, ℕ, List, Result, Ok}
use Rattle.smc_shape.specs.Layout.{Layout}
use Rattle.smc_trace.specs.Trace.{CallEnd}
use Rattle.smc_objects.specs.Alone.{InSection}
use Rattle.smc_folds.specs.Kinds.{Kind}
use Rattle.smc_query.specs.Trees.{QueryTree, Word}
use Rattle.smc_types.specs.Tables.{the_tables}
use Rattle.smc_plan.specs.Planned.{Planned, planned}
use Rattle.smc_plan.specs.declared.fault.PlanFault.{PlanFault}
use Rattle.smc_exec.specs.Queries.{AnswersRows}

-- what a query is planned as, where folds of these names may be called, or why it has no plan
abbrev pub query_plan : List Word → QueryTree → Result Planned PlanFault
query_plan folds tree = planned the_tables folds tree

-- the rows of the collection are read in a section of its own, and this is the text of the answer over them, where the folds are these
pub record AnswersQuery (shape : Layout) (folds : List Word) (coll : ℕ) (tree : QueryTree) (kinds : List Kind) (calls : List CallEnd) (text : List ℕ) : Type 0 where
  pub plan : Planned
  pub planned : query_plan folds tree ≡ Ok plan
  pub answers : InSection (AnswersRows shape coll plan kinds text) calls
