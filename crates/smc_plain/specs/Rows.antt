-- The rows of a world, and what is done with the objects whose rows a plan keeps.
use Rattle.std.specs.Prelude.{ℕ, Bool, true, false, List, [], ◌∷◌, map, count_by, option_to_list}
use Rattle.std.specs.List.{flat_map}
use Rattle.smc_words.specs.declared.number.Number.{Number}
use Rattle.smc_shape.specs.Layout.{Layout}
use Rattle.smc_model.specs.declared.event.Event.{Event}
use Rattle.smc_model.specs.declared.event.Event.TheVariants.{Remove, Write}
use Rattle.smc_model.specs.World.{World, world_through}
use Rattle.smc_still.specs.Still.{numbers_in}
use Rattle.smc_folds.specs.Kinds.{Kind}
use Rattle.smc_plan.specs.Edits.{PlannedEdit}
use Rattle.smc_plan.specs.Planned.{Planned}
use Rattle.smc_plan.specs.declared.leaf.Leaf.{Leaf}
use Rattle.smc_meaning.specs.Answers.{answer_of}
use Rattle.smc_meaning.specs.Printed.{answer_text}
use Rattle.smc_visits.specs.Edits.{edit_of, is_skipped, is_written}
use Rattle.smc_visits.specs.Still.{row_in}
use Rattle.smc_visits.specs.declared.edits.Edit.{Edit}
use Rattle.smc_visits.specs.declared.edits.Edit.TheVariants as edit
use Rattle.smc_exec.specs.Deletes.{deletes}
use Rattle.smc_exec.specs.Updates.{updates}
use Rattle.smc_exec.specs.declared.update.Updated.{Updated}

-- ---- query

-- the rows of the objects of a collection that are whole
abbrev pub rows_of : Layout → World → ℕ → List Leaf → List (List ℕ)
rows_of shape world coll leaves = flat_map (λ number. option_to_list (row_in shape world leaves number)) (numbers_in world coll)

-- the text of the answer of a plan over the rows of a collection
abbrev pub query_text : Layout → World → ℕ → Planned → List Kind → List ℕ
query_text shape world coll plan kinds = answer_text (answer_of plan kinds (rows_of shape world coll plan.leaves))

-- ---- delete and update, by the world at their start

-- what is done with the object of this number, as is decided by its row
abbrev pub edit_by : Layout → World → List Leaf → (List ℕ → Edit) → Number → Edit
edit_by shape world leaves decide number = edit_of decide (row_in shape world leaves number)

-- the event of an edit, if it has one
abbrev pub edit_events : Number → Edit → List Event
edit_events number edit.Leave = []
edit_events number edit.Remove = Remove number true ∷ []
edit_events number (edit.Write field value) = Write number field value ∷ []
edit_events number edit.Skip = []

-- the edits of all objects of a collection
abbrev pub edits_in : Layout → World → ℕ → List Leaf → (List ℕ → Edit) → List Edit
edits_in shape world coll leaves decide = map (edit_by shape world leaves decide) (numbers_in world coll)

-- the world behind them
abbrev pub world_edited : Layout → World → ℕ → List Leaf → (List ℕ → Edit) → World
world_edited shape world coll leaves decide =
    world_through world (flat_map (λ number. edit_events number (edit_by shape world leaves decide number)) (numbers_in world coll))

-- whether an edit removes the object
abbrev pub is_removal : Edit → Bool
is_removal edit.Remove = true
is_removal _ = false

-- the world behind a delete
abbrev pub world_deleted : Layout → World → ℕ → Planned → World
world_deleted shape world coll plan = world_edited shape world coll plan.leaves (deletes plan)

-- how many objects it removes
abbrev pub count_deleted : Layout → World → ℕ → Planned → ℕ
count_deleted shape world coll plan = count_by is_removal (edits_in shape world coll plan.leaves (deletes plan))

-- the world behind an update
abbrev pub world_updated : Layout → World → ℕ → PlannedEdit → World
world_updated shape world coll plan = world_edited shape world coll plan.leaves (updates plan)

-- how many objects it writes, and how many it passes over
abbrev pub count_updated : Layout → World → ℕ → PlannedEdit → Updated
count_updated shape world coll plan = record {
  written = count_by is_written (edits_in shape world coll plan.leaves (updates plan));
  skipped = count_by is_skipped (edits_in shape world coll plan.leaves (updates plan));
}
