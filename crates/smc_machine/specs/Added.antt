-- What a step adds to a pass.
use Rattle.std.specs.Prelude.{ℕ, Bool, true, false, Option, Some, None, List, [], ◌∷◌}
use Rattle.smc_core.specs.declared.call.Call.TheVariants as call
use Rattle.smc_core.specs.declared.call.Choice.{Choice}
use Rattle.smc_core.specs.declared.call.Choice.TheVariants.{Start}
use Rattle.smc_core.specs.declared.done.Done.{Done}
use Rattle.smc_core.specs.declared.local.Answer.{Answer}
use Rattle.smc_core.specs.declared.local.Learnt.{Learnt}
use Rattle.smc_core.specs.declared.local.Scan.{Scan}
use Rattle.smc_automaton.specs.declared.effect.ScanEffect.{ScanEffect}
use Rattle.smc_automaton.specs.declared.effect.ScanEffect.TheVariants as effect

-- the words of the add that the choice starts, if it starts one
abbrev pub words_added : Choice → Option (List ℕ)
words_added (Start (call.Add coll from words)) = Some words
words_added choice = None

-- the scan that a step begins, if it begins one
abbrev pub scan_begun : ScanEffect → Option Scan
scan_begun (effect.Begin scan) = Some scan
scan_begun change = None

-- the length of the log that a note keeps, if the step makes one
abbrev pub note_made : ℕ → Choice → Option ℕ
note_made length (Start call.Note) = Some length
note_made length choice = None

-- the note that a step learns, if it learns one
abbrev pub note_learnt : Choice → Option Learnt
note_learnt (Start (call.Learn other note)) = Some (record { pass = other; note = note })
note_learnt choice = None

-- the first of these scans has passed the slots below this place
abbrev pub first_passed : List Scan → ℕ → List Scan
first_passed [] place = []
first_passed (first ∷ later) place = record first { place = place } ∷ later

-- the first of them has ended
abbrev pub first_ended : List Scan → List Scan
first_ended [] = []
first_ended (first ∷ later) = record first { ended = true } ∷ later

-- whether the choice ends the section
abbrev pub is_leave : Choice → Bool
is_leave (Start call.Leave) = true
is_leave choice = false

-- the answer that is kept, at this length of the log
abbrev pub answer_at : ℕ → Option Done → Option Answer
answer_at length None = None
answer_at length (Some done) = Some (record { length = length; done = done })
