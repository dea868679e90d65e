-- Scans that edit the objects that they come to, as is decided by their rows.
use Rattle.std.specs.Prelude.{◌≡◌, ℕ, ◌+◌, ◌<◌, ◌≤◌, Bool, true, false, Option, Some, None, List, [], ◌++◌, count_by}
use Rattle.smc_words.specs.declared.layout.TheConstants.{BLANK}
use Rattle.smc_words.specs.declared.number.Number.{Number}
use Rattle.smc_shape.specs.Layout.{Layout}
use Rattle.smc_plan.specs.declared.leaf.Leaf.{Leaf}
use Rattle.smc_trace.specs.Named.{removes, writes}
use Rattle.smc_trace.specs.Trace.{CallEnd}
use Rattle.smc_visits.specs.declared.edits.Edit.{Edit}
use Rattle.smc_visits.specs.declared.edits.Edit.TheVariants.{Leave, Remove, Write, Skip}
use Rattle.smc_visits.specs.declared.edits.Edits.{Edits}
use Rattle.smc_visits.specs.Visits.{IsVisit, Scans, Visited, visit_calls}

-- a field that is written stands within a record of so many words, and its word may stand in a field
abbrev pub FitsEdit : ℕ → Edit → Type 0
FitsEdit width (Write field value) = (field < width) × (value < BLANK)
FitsEdit width _ = Unit {0}

-- the edit of an object, as is decided by its row; where the row is dropped the object is left
abbrev pub edit_of : (List ℕ → Edit) → Option (List ℕ) → Edit
edit_of decide None = Leave
edit_of decide (Some row) = decide row

-- the calls of an edit; a removal is the first of its object, or it is not
abbrev pub edit_calls : Number → Edit → Bool → List CallEnd
edit_calls number Leave first = []
edit_calls number Remove first = removes number first
edit_calls number (Write field value) first = writes number field value
edit_calls number Skip first = []

-- an object that a scan came to, with what was read of it; and where it was removed behind that, whether this was the first removal
pub record Edited : Type 0 where
  pub visit : Visited
  pub first : Bool

-- its edit
abbrev pub edit_in : (List ℕ → Edit) → Edited → Edit
edit_in decide one = edit_of decide one.visit.row

-- the scan comes to the object, its row is read, and it is edited
abbrev pub edited_calls : (List ℕ → Edit) → ℕ → Edited → List CallEnd
edited_calls decide scan one = visit_calls scan one.visit ++ edit_calls one.visit.held.number (edit_in decide one) one.first

-- whether an object was removed, and not before
abbrev pub is_removed : Edit → Bool → Bool
is_removed Remove first = first
is_removed _ first = false

-- whether a word was written
abbrev pub is_written : Edit → Bool
is_written (Write field value) = true
is_written _ = false

-- whether a row was kept, and its object left
abbrev pub is_skipped : Edit → Bool
is_skipped Skip = true
is_skipped _ = false

-- the counts of these edits
abbrev pub counts_of : (List ℕ → Edit) → List Edited → Edits
counts_of decide visits = record {
  removed = count_by (λ one. is_removed (edit_in decide one) one.first) visits;
  written = count_by (λ one. is_written (edit_in decide one)) visits;
  skipped = count_by (λ one. is_skipped (edit_in decide one)) visits;
}

-- the row of each object is read that a scan comes to, and the object is edited as is decided by it
pub record EditsRows (shape : Layout) (coll : ℕ) (leaves : List Leaf) (decide : List ℕ → Edit) (edits : Edits) (calls : List CallEnd) : Type 0 where
  pub visits : List Edited
  pub scans : Scans Edited (edited_calls decide) (λ one. IsVisit shape leaves one.visit) coll visits calls
  pub counts : edits ≡ counts_of decide visits

-- the counts with that of one edit more
abbrev pub with_edit : Edits → Edit → Bool → Edits
with_edit edits Leave first = edits
with_edit edits Remove false = edits
with_edit edits Remove true = record edits { removed = edits.removed + 1 }
with_edit edits (Write field value) first = record edits { written = edits.written + 1 }
with_edit edits Skip first = record edits { skipped = edits.skipped + 1 }

-- none of the counts is above this
pub record AreFew (edits : Edits) (most : ℕ) : Type 0 where
  pub removed : edits.removed ≤ most
  pub written : edits.written ≤ most
  pub skipped : edits.skipped ≤ most
