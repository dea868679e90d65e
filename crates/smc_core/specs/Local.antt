-- The local state of a pass: at first, and after a step.
use Rattle.std.specs.Prelude.{ℕ, ◌+◌, Option, Some, None, List, [], ◌∷◌, ◌++◌, length, replicate, slice_set}
use Rattle.smc_words.specs.declared.round.RoundWord.{RoundWord}
use Rattle.smc_shape.specs.Layout.{Layout, slots_of}
use Rattle.smc_model.specs.declared.event.Event.{Event}
use Rattle.smc_core.specs.declared.call.Call.TheVariants as call
use Rattle.smc_core.specs.declared.call.Choice.{Choice}
use Rattle.smc_core.specs.declared.call.Choice.TheVariants.{Start, Go}
use Rattle.smc_core.specs.declared.change.Change.{Change}
use Rattle.smc_core.specs.declared.done.Done.{Done}
use Rattle.smc_core.specs.declared.local.Answer.{Answer}
use Rattle.smc_core.specs.declared.local.Held.{Held}
use Rattle.smc_core.specs.declared.local.Learnt.{Learnt}
use Rattle.smc_core.specs.declared.local.Local.{Local}
use Rattle.smc_core.specs.declared.local.Owned.{Owned}
use Rattle.smc_core.specs.declared.local.Scan.{Scan}
use Rattle.smc_core.specs.declared.local.Stand.{Stand}
use Rattle.smc_core.specs.declared.phase.Phase.{Phase}
use Rattle.smc_core.specs.declared.phase.Phase.TheVariants as phase
use Rattle.smc_core.specs.declared.phase.moves.BeginPhase.TheVariants as begin
use Rattle.smc_core.specs.declared.phase.moves.CancelPhase.TheVariants as cancel
use Rattle.smc_core.specs.declared.phase.moves.FinishPhase.TheVariants as finish
use Rattle.smc_core.specs.declared.phase.objects.AddPhase.TheVariants as add
use Rattle.smc_core.specs.declared.section.Section.{Section}
use Rattle.smc_core.specs.declared.section.Section.TheVariants.{Outside, Loaded}
use Rattle.smc_core.specs.declared.word.Word.{Word}
use Rattle.smc_core.specs.Change.{change}
use Rattle.smc_core.specs.Look.{look_finding, seeker_of}
use Rattle.smc_core.specs.Ripe.{next_round}
use Rattle.smc_core.specs.Scan.{new_scan, scan_number, scan_of, scan_scans, look_scans, next_scans}
use Rattle.smc_core.specs.Section.{epoch_of, is_calm, entering_section}
use Rattle.smc_core.specs.Words.{plain_of, round_of}

-- a pass that has done nothing yet
abbrev pub fresh : Layout → Local
fresh shape = record {
  stand = record { section = Outside; phase = phase.Idle; held = []; scans = []; begun = 0; noted = 0; words = []; round = None };
  log = [];
  answers = [];
  notes = [];
  learnt = [];
  cursors = replicate (length shape.colls) 0;
  steps = 0;
}

-- where a step leaves the section: only enter and leave change it
abbrev pub section_after : Section → Phase → Choice → Word → Section
section_after section phase.Entering Go w = entering_section section w
section_after section phase Go w = section
section_after section phase (Start call.Enter) w = Loaded (plain_of w)
section_after section phase (Start call.Leave) w = Outside
section_after section phase (Start call) w = section

-- what a section holds after a step: nothing once it has ended
abbrev pub held_after : List Held → Choice → Option Held → List Held
held_after held (Start call.Leave) holds = []
held_after held choice None = held
held_after held choice (Some pair) = pair ∷ held

-- what going on with a scan makes of the section's scans
abbrev pub next_after : Layout → List Scan → Option Scan → Word → List Scan
next_after shape scans None w = scans
next_after shape scans (Some begun) w = next_scans shape scans begun w

-- the scans of the section after a step
abbrev pub scans_after : Layout → ℕ → Stand → Section → Phase → Choice → Word → List Scan
scans_after shape pass stand section (phase.Scan next) Go w = scan_scans stand.scans next w
scans_after shape pass stand section (phase.Look next) Go w = look_scans stand.scans (seeker_of next) (look_finding shape (is_calm section) next w)
scans_after shape pass stand section phase Go w = stand.scans
scans_after shape pass stand section phase (Start (call.Scan coll)) w = stand.scans ++ new_scan (scan_number pass stand.begun) coll ∷ []
scans_after shape pass stand section phase (Start (call.Next scan)) w = next_after shape stand.scans (scan_of stand.scans scan) w
scans_after shape pass stand section phase (Start call.Leave) w = []
scans_after shape pass stand section phase (Start call) w = stand.scans

-- how many scans the pass has begun after a step
abbrev pub begun_after : ℕ → Choice → ℕ
begun_after begun (Start (call.Scan coll)) = begun + 1
begun_after begun choice = begun

-- how many notes it has made
abbrev pub noted_after : ℕ → Choice → ℕ
noted_after noted (Start call.Note) = noted + 1
noted_after noted choice = noted

-- the words of its latest add
abbrev pub words_after : List ℕ → Choice → List ℕ
words_after words (Start (call.Add coll from added)) = added
words_after words choice = words

-- a begin owns its round where it saw none
abbrev pub round_begun : ℕ → ℕ → Option RoundWord → Option Owned → Option Owned
round_begun epoch coll None owned = Some (record { bound = epoch + 1; coll = coll })
round_begun epoch coll (Some seen) owned = owned

-- the round that it owns after a step: the store of none gives it up
abbrev pub round_after : Option Owned → Section → Phase → Choice → Word → Option Owned
round_after owned section (phase.Begin (begin.Nothing coll)) Go w = None
round_after owned section (phase.Finish (finish.End targets)) Go w = None
round_after owned section (phase.Cancel cancel.End) Go w = None
round_after owned section phase Go w = owned
round_after owned section phase (Start (call.Begin coll)) w = round_begun (epoch_of section) coll (round_of w) owned
round_after owned section phase (Start call) w = owned

-- a log with the event of a step
abbrev pub logged : List Event → Option Event → List Event
logged log None = log
logged log (Some event) = log ++ event ∷ []

-- kept answers with that of a step, at this length of the log
abbrev pub answered : List Answer → ℕ → Option Done → List Answer
answered answers length None = answers
answered answers length (Some answer) = answers ++ record { length = length; done = answer } ∷ []

-- the notes after a step: one keeps the length of the log
abbrev pub notes_after : List ℕ → ℕ → Choice → List ℕ
notes_after notes length (Start call.Note) = notes ++ length ∷ []
notes_after notes length choice = notes

-- the notes learnt after a step
abbrev pub learnt_after : List Learnt → Choice → List Learnt
learnt_after learnt (Start (call.Learn other note)) = learnt ++ record { pass = other; note = note } ∷ []
learnt_after learnt choice = learnt

-- the cursors after a step: an add that ends leaves its collection's behind its slot
abbrev pub cursors_after : Layout → List ℕ → Phase → Choice → List ℕ
cursors_after shape cursors (phase.Add (add.StoreLive slot number)) Go = slice_set cursors number.coll (next_round (slots_of shape number.coll) slot)
cursors_after shape cursors phase choice = cursors

-- where the pass stands after a step that makes this change
abbrev pub stand_after : Layout → ℕ → Stand → Choice → Word → Change → Stand
stand_after shape pass stand choice w change = record {
  section = section_after stand.section stand.phase choice w;
  phase = change.phase;
  held = held_after stand.held choice change.holds;
  scans = scans_after shape pass stand stand.section stand.phase choice w;
  begun = begun_after stand.begun choice;
  noted = noted_after stand.noted choice;
  words = words_after stand.words choice;
  round = round_after stand.round stand.section stand.phase choice w;
}

-- its local state after a step that makes this change
abbrev pub changed : Layout → ℕ → Local → Choice → Word → Change → Local
changed shape pass l choice w change = record {
  stand = stand_after shape pass l.stand choice w change;
  log = logged l.log change.event;
  answers = answered l.answers (length (logged l.log change.event)) change.answer;
  notes = notes_after l.notes (length l.log) choice;
  learnt = learnt_after l.learnt choice;
  cursors = cursors_after shape l.cursors l.stand.phase choice;
  steps = l.steps + 1;
}

-- the local state of a pass after a step, by its choice, the length that a learnt note tells, and the word shown
abbrev pub after : Layout → ℕ → Local → Choice → ℕ → Word → Local
after shape pass l choice told w = changed shape pass l choice w (change shape pass l.stand l.stand.section l.stand.phase choice told w)
