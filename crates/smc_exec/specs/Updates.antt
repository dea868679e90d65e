-- Updates: a word is written into a field of the objects whose rows meet a condition.
use Rattle.std.specs.Prelude.{◌≡◌, ℕ, List}
use Rattle.smc_shape.specs.Layout.{Layout}
use Rattle.smc_plan.specs.Edits.{PlannedEdit}
use Rattle.smc_trace.specs.Trace.{CallEnd}
use Rattle.smc_meaning.specs.Edited.{edited}
use Rattle.smc_meaning.specs.declared.editing.Edited.{Edited}
use Rattle.smc_meaning.specs.declared.editing.Edited.TheVariants.{Unmet, Outside, Word}
use Rattle.smc_visits.specs.Edits.{EditsRows}
use Rattle.smc_visits.specs.declared.edits.Edit.{Edit}
use Rattle.smc_visits.specs.declared.edits.Edit.TheVariants.{Leave, Skip, Write}
use Rattle.smc_visits.specs.declared.edits.Edits.{Edits}
use Rattle.smc_exec.specs.declared.update.Updated.{Updated}

-- the word of an edit is written into a field; where the value is outside the range of the column, the object is passed over
abbrev pub edit_by : ℕ → Edited → Edit
edit_by field Unmet = Leave
edit_by field Outside = Skip
edit_by field (Word word) = Write field word

-- what an update does with the object of a row
abbrev pub updates : PlannedEdit → List ℕ → Edit
updates plan row = edit_by plan.field.at (edited plan row)

-- each object whose row meets the condition is written or passed over, and there are so many of both
pub record UpdatesRows (shape : Layout) (coll : ℕ) (plan : PlannedEdit) (updated : Updated) (calls : List CallEnd) : Type 0 where
  pub edits : Edits
  pub rows : EditsRows shape coll plan.leaves (updates plan) edits calls
  pub written : updated.written ≡ edits.written
  pub skipped : updated.skipped ≡ edits.skipped
