-- A walk over a collection that counts, of a survey or of a begin.
use Rattle.std.specs.Prelude.{ℕ, ◌≤◌, nat_lt, length, Bool, true, false, if◌then◌else◌}
use Rattle.smc_shape.specs.Layout.{Layout, slots_of}
use Rattle.smc_core.specs.declared.change.Change.{Change}
use Rattle.smc_core.specs.declared.local.Local.{Local}
use Rattle.smc_core.specs.declared.phase.Phase.{Phase}
use Rattle.smc_core.specs.declared.phase.Phase.TheVariants as phase
use Rattle.smc_core.specs.declared.phase.moves.BeginPhase.TheVariants as begin
use Rattle.smc_core.specs.declared.phase.moves.Count.{Count}
use Rattle.smc_core.specs.declared.phase.moves.CountPhase.{CountPhase}
use Rattle.smc_core.specs.declared.phase.moves.CountPhase.TheVariants as walk
use Rattle.smc_core.specs.declared.phase.moves.Counting.{Counting}
use Rattle.smc_core.specs.declared.phase.moves.Counting.TheVariants.{Walks, Counted}
use Rattle.smc_core.specs.Begin.{begin_counting}
use Rattle.smc_core.specs.Count.{count_next, survey_change}
use Rattle.smc_core.specs.Local.{logged, answered}
use Rattle.smc_core.specs.Section.{epoch_of}
use Rattle.smc_region.specs.Callers.{Caller}
use Rattle.smc_compact.specs.Shown.{with_slot}

-- a call in progress, or ended, that is no add: what its last step has changed, when the pass has taken so many steps in all
abbrev pub going : Local → ℕ → Change → Local
going l steps change = record {
  stand = record l.stand { phase = change.phase };
  log = logged l.log change.event;
  answers = answered l.answers (length (logged l.log change.event)) change.answer;
  notes = l.notes;
  learnt = l.learnt;
  cursors = l.cursors;
  steps = steps;
}

-- the phase of a walk that counts, of a begin or else of a survey
abbrev pub counts : Bool → CountPhase → Phase
counts true next = phase.Begin (begin.Count next)
counts false next = phase.Survey next

-- what a step of it changes
abbrev pub counting_change : Bool → Layout → ℕ → Counting → Change
counting_change true shape epoch counting = begin_counting shape epoch counting
counting_change false shape epoch counting = survey_change counting

-- the walk goes on at this slot, or has passed each
abbrev pub to_count : Layout → ℕ → ℕ → Count → Counting
to_count shape coll slot count = if nat_lt slot (slots_of shape coll) then Walks (walk.Directory coll slot count) else Counted coll count

-- what the walk changes by passing a slot, in which there is an object or none
abbrev pub passes_slot : Bool → Caller → ℕ → ℕ → Bool → Count → Change
passes_slot begins pass coll slot has count =
    counting_change begins pass.shape (epoch_of pass.local.stand.section) (count_next pass.shape coll slot (with_slot slot has count))

-- no more objects are counted than slots are passed, and no more blocks than objects
pub record IsFew (slot : ℕ) (count : Count) : Type 0 where
  pub objects : count.objects ≤ slot
  pub blocks : count.blocks ≤ count.objects
