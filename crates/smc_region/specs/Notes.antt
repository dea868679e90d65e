-- What callers see of a note, and what making and learning one leaves of a pass.
use Rattle.std.specs.Prelude.{◌≡◌, ℕ, ◌+◌, List, [], ◌∷◌, ◌++◌, length}
use Rattle.atomic_table.specs.Seated.{TableId}
use Rattle.atomic_table.specs.Table.{Me}
use Rattle.smc_model.specs.declared.event.Event.{Event}
use Rattle.smc_model.specs.declared.event.Event.TheVariants as event
use Rattle.smc_core.specs.declared.done.Done.TheVariants as done
use Rattle.smc_core.specs.declared.local.Local.{Local}
use Rattle.smc_core.specs.declared.phase.Phase.TheVariants.{Idle}
use Rattle.smc_region.specs.declared.law.NoteSeen.{NoteSeen}
use Rattle.smc_region.specs.declared.law.View.{View}
use Rattle.smc_region.specs.declared.region.Region.{Region}
use Rattle.smc_region.specs.Views.{noted}

-- a note of a table: the pass that made it, its number among the notes of this pass, and the log that the pass had then
pub record Noted : Type 0 where
  pub table : TableId
  pub pass : ℕ
  pub number : ℕ
  pub log : List Event

-- the first note of a view
abbrev pub first_note : List NoteSeen → NoteSeen
first_note [] = record { pass = 0; number = 0; log = [] }
first_note (note ∷ later) = note

-- the note of this pass that a seat stands for
abbrev pub noted_of : ℕ → TableId → Me (Unit {0}) View → Noted
noted_of pass table me = record { table = table; pass = pass; number = (first_note me.0.notes).number; log = (first_note me.0.notes).log }

-- the seat is that of one note of this pass alone
abbrev pub IsNoteSeat : ℕ → Me (Unit {0}) View → Type 0
IsNoteSeat pass me = me ≡ (noted me.0.shape pass (first_note me.0.notes).number (first_note me.0.notes).log, [])

-- the note was made in this region
abbrev pub IsNoteOf : Region → Noted → Type 0
IsNoteOf region note = note.table ≡ region.table.shared.table_id

-- a pass that has made one note more, which keeps the length of its log
abbrev pub with_note : Local → Local
with_note l = record {
  stand = record l.stand { phase = Idle; noted = l.stand.noted + 1 };
  log = l.log;
  answers = l.answers ++ record { length = length l.log; done = done.Noted l.stand.noted } ∷ [];
  notes = l.notes ++ length l.log ∷ [];
  learnt = l.learnt;
  cursors = l.cursors;
  steps = l.steps + 1;
}

-- a pass that has learnt a note: it was told how long the log of the other pass was
abbrev pub with_learnt : Local → Noted → Local
with_learnt l note = record {
  stand = record l.stand { phase = Idle };
  log = l.log ++ event.Told note.pass (length note.log) ∷ [];
  answers = l.answers ++ record { length = length (l.log ++ event.Told note.pass (length note.log) ∷ []); done = done.Learned } ∷ [];
  notes = l.notes;
  learnt = l.learnt ++ record { pass = note.pass; note = note.number } ∷ [];
  cursors = l.cursors;
  steps = l.steps + 1;
}
