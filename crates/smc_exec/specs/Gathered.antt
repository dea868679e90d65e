-- Rows that a plan keeps, as they are gathered.
use Rattle.std.specs.Prelude.{◌≡◌, ℕ, List}
use Rattle.smc_plan.specs.Leaves.{leaves_words}
use Rattle.smc_plan.specs.Planned.{plan_tree}
use Rattle.smc_plan.specs.declared.plan.Plan.{Plan}
use Rattle.smc_meaning.specs.Kept.{kept_rows}
use Rattle.smc_meaning.specs.Rows.{RowList}
use Rattle.smc_filter.specs.Filters.{Filtered}
use Rattle.smc_exec.specs.Deletes.{IsFilterOf}

-- what is seen of them: the plan, and the rows that it keeps
pub record Gathered : Type 0 where
  pub plan : Plan
  pub kept : RowList

-- the filter is made of the plan, and the rows are as long as its leaves
pub record CanGather (plan : Plan) (made : Filtered) (kept : RowList) : Type 0 where
  pub filter : IsFilterOf plan made
  pub words : kept.width ≡ leaves_words plan.leaves

-- of these rows, those were gathered that the plan keeps
abbrev pub HasGathered : Gathered → List (List ℕ) → Type 0
HasGathered gathered rows = gathered.kept.rows ≡ kept_rows (plan_tree gathered.plan) rows
