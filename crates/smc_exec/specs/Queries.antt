-- Queries: the rows of the objects of a collection are read, and a plan is answered over them.
use Rattle.std.specs.Prelude.{◌≡◌, ℕ, List}
use Rattle.smc_shape.specs.Layout.{Layout}
use Rattle.smc_folds.specs.Kinds.{Kind}
use Rattle.smc_plan.specs.Planned.{Planned}
use Rattle.smc_plan.specs.declared.leaf.Leaf.{Leaf}
use Rattle.smc_trace.specs.Trace.{CallEnd}
use Rattle.smc_meaning.specs.Answers.{answer_of}
use Rattle.smc_meaning.specs.Kept.{kept_rows}
use Rattle.smc_meaning.specs.Printed.{answer_text}
use Rattle.smc_visits.specs.Visits.{IsVisit, Scans, Visited, rows_in, visit_calls}

-- the collection is scanned to its end, the row of each object is read that the scan comes to, and these are the whole ones
pub record ReadsRows (shape : Layout) (coll : ℕ) (leaves : List Leaf) (rows : List (List ℕ)) (calls : List CallEnd) : Type 0 where
  pub visits : List Visited
  pub scans : Scans Visited visit_calls (IsVisit shape leaves) coll visits calls
  pub rows_are : rows ≡ rows_in visits

-- the rows are read, and these are those that the plan keeps
pub record KeepsRows (shape : Layout) (coll : ℕ) (plan : Planned) (kept : List (List ℕ)) (calls : List CallEnd) : Type 0 where
  pub rows : List (List ℕ)
  pub reads : ReadsRows shape coll plan.leaves rows calls
  pub kept_are : kept ≡ kept_rows plan rows

-- the rows are read, and this is the text of the answer of a plan over them, where the folds are these
pub record AnswersRows (shape : Layout) (coll : ℕ) (plan : Planned) (kinds : List Kind) (text : List ℕ) (calls : List CallEnd) : Type 0 where
  pub rows : List (List ℕ)
  pub reads : ReadsRows shape coll plan.leaves rows calls
  pub text_is : text ≡ answer_text (answer_of plan kinds rows)
