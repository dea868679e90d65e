-- Deletes: the objects whose rows a plan keeps are removed.
use Rattle.std.specs.Prelude.{◌≡◌, ℕ, List, if◌then◌else◌}
use Rattle.smc_shape.specs.Layout.{Layout}
use Rattle.smc_plan.specs.Planned.{Planned}
use Rattle.smc_plan.specs.declared.plan.Plan.{Plan}
use Rattle.smc_trace.specs.Trace.{CallEnd}
use Rattle.smc_meaning.specs.Kept.{is_kept}
use Rattle.smc_filter.specs.Filters.{Filtered}
use Rattle.smc_visits.specs.Edits.{EditsRows}
use Rattle.smc_visits.specs.declared.edits.Edit.{Edit}
use Rattle.smc_visits.specs.declared.edits.Edit.TheVariants.{Leave, Remove}
use Rattle.smc_visits.specs.declared.edits.Edits.{Edits}

-- what a delete does with the object of a row: it is removed, if the plan keeps the row
abbrev pub deletes : Planned → List ℕ → Edit
deletes plan row = if is_kept plan row then Remove else Leave

-- each object whose row the plan keeps is removed, and so many of these removals are the first of their object
pub record DeletesRows (shape : Layout) (coll : ℕ) (plan : Planned) (removed : ℕ) (calls : List CallEnd) : Type 0 where
  pub edits : Edits
  pub rows : EditsRows shape coll plan.leaves (deletes plan) edits calls
  pub count : removed ≡ edits.removed

-- the filter is made of the plan
pub record IsFilterOf (plan : Plan) (filter : Filtered) : Type 0 where
  pub leaves : filter.leaves ≡ plan.leaves
  pub condition : filter.condition ≡ plan.filter
