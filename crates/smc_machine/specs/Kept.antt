-- What a pass keeps beside where it stands, and how a step adds to it.
use Rattle.std.specs.Prelude.{◌≡◌, ◌+◌, ◌<◌, ◌^◌, ◌++◌, ℕ, Option, [], length, replicate}
use Rattle.std.specs.Option.{option_to_list}
use Rattle.std.specs.Vec.{vec_len, vec_capacity}
use Rattle.smc_model.specs.declared.event.Event.{Event}
use Rattle.smc_core.specs.declared.call.Choice.{Choice}
use Rattle.smc_core.specs.declared.done.Done.{Done}
use Rattle.smc_core.specs.declared.local.Local.{Local}
use Rattle.smc_core.specs.declared.local.Stand.{Stand}
use Rattle.smc_automaton.specs.declared.effect.Cursor.{Cursor}
use Rattle.smc_automaton.specs.Effects.{cursors_by}
use Rattle.smc_machine.specs.declared.kept.Kept.{Kept}
use Rattle.smc_machine.specs.Added.{answer_at, note_made, note_learnt}

-- the local state of a pass that stands here and keeps this
abbrev pub local_of : Stand → Kept → Local
local_of stand kept = record {
  stand = stand;
  log = kept.log.items;
  answers = kept.answers.items;
  notes = kept.notes.items;
  learnt = kept.learnt.items;
  cursors = kept.cursors.items;
  steps = kept.steps;
}

-- the pass has done nothing yet, in a region of so many collections
pub record IsFresh (colls : ℕ) (kept : Kept) : Type 0 where
  pub log : kept.log.items ≡ []
  pub answers : kept.answers.items ≡ []
  pub notes : kept.notes.items ≡ []
  pub learnt : kept.learnt.items ≡ []
  pub cursors : kept.cursors.items ≡ replicate colls 0
  pub steps : kept.steps ≡ 0

-- nothing that is kept has changed
pub record IsSame (old new : Kept) : Type 0 where
  pub log : new.log.items ≡ old.log.items
  pub answers : new.answers.items ≡ old.answers.items
  pub notes : new.notes.items ≡ old.notes.items
  pub learnt : new.learnt.items ≡ old.learnt.items
  pub cursors : new.cursors.items ≡ old.cursors.items
  pub steps : new.steps ≡ old.steps

-- what a step adds takes no memory
pub record HasRoom (kept : Kept) : Type 0 where
  pub log : vec_len kept.log < vec_capacity kept.log
  pub answers : vec_len kept.answers < vec_capacity kept.answers
  pub notes : vec_len kept.notes < vec_capacity kept.notes
  pub learnt : vec_len kept.learnt < vec_capacity kept.learnt
  pub steps : kept.steps + 1 < 2 ^ 64

-- a step of this choice has added its event, its answer, its note and what it learnt, and moved its cursor
pub record Grows (choice : Choice) (event : Option Event) (done : Option Done) (cursor : Option Cursor) (old new : Kept) : Type 0 where
  pub log : new.log.items ≡ old.log.items ++ option_to_list event
  pub answers : new.answers.items ≡ old.answers.items ++ option_to_list (answer_at (length new.log.items) done)
  pub notes : new.notes.items ≡ old.notes.items ++ option_to_list (note_made (length old.log.items) choice)
  pub learnt : new.learnt.items ≡ old.learnt.items ++ option_to_list (note_learnt choice)
  pub cursors : new.cursors.items ≡ cursors_by cursor old.cursors.items
  pub steps : new.steps ≡ old.steps + 1
