-- How a drive waits for an epoch.
use Rattle.std.specs.Prelude.{◌≡◌, ℕ, ◌+◌, ◌-◌, ◌<◌, nat_lt, if◌then◌else◌, Option, Some, None, List, [], ◌∷◌, ◌++◌}
use Rattle.smc_core.specs.declared.done.Done.{Done}
use Rattle.smc_core.specs.declared.done.Done.TheVariants as done
use Rattle.smc_compact.specs.declared.outcome.Waited.{Waited}
use Rattle.smc_compact.specs.declared.outcome.Waited.TheVariants as waited
use Rattle.smc_compact.specs.declared.outcome.Waiting.{Waiting}
use Rattle.smc_compact.specs.declared.outcome.Waiting.TheVariants as waiting

-- this epoch is named to a waiting for one from `until` on, or, where no epoch was named to it as yet, for one at least two above
-- the first that is
abbrev pub names : Option ℕ → ℕ → ℕ → Waiting
names None left epoch = waiting.GoesOn (Some (epoch + 2)) left
names (Some until) left epoch = if nat_lt epoch until then waiting.GoesOn (Some until) left else waiting.Ends (waited.Named left)

-- where a waiting with so many turns left stands behind this answer: one that a section is in the way takes a turn; only the
-- answers of an advance can be told to it
abbrev pub told : Option ℕ → ℕ → Done → Option Waiting
told until left (done.Advanced epoch) = Some (names until left epoch)
told until left (done.Overtaken epoch) = Some (names until left epoch)
told until left (done.NotYet pass seen) = Some (if nat_lt 1 left then waiting.GoesOn until (left - 1) else waiting.Ends (waited.Later pass seen))
told until left done.Spent = Some (waiting.Ends waited.Spent)
told until left _ = None

-- the same of one that may have ended; then no answer follows
abbrev pub next : Option Waiting → Done → Option Waiting
next None answer = None
next (Some (waiting.GoesOn until left)) answer = told until left answer
next (Some (waiting.Ends ended)) answer = None

-- where it stands behind all of these answers
abbrev pub after_all : Option Waiting → List Done → Option Waiting
after_all now [] = now
after_all now (first ∷ later) = after_all (next now first) later

-- what these answers make of a waiting with so many turns: it goes on, or has ended with the last of them
abbrev pub waiting_by : Option ℕ → ℕ → List Done → Option Waiting
waiting_by until turns answers = after_all (Some (waiting.GoesOn until turns)) answers

-- how many of the answers are that a section is in the way
abbrev pub not_yets : List Done → ℕ
not_yets [] = 0
not_yets (done.NotYet pass seen ∷ later) = 1 + not_yets later
not_yets (_ ∷ later) = not_yets later

-- the last of the answers is this one
abbrev pub EndsIn : List Done → Done → Type 0
EndsIn answers last = (front : List Done) × (answers ≡ front ++ last ∷ [])

-- what it says in turns that a waiting with so many of them has ended so
abbrev pub InTurns : ℕ → List Done → Waited → Type 0
InTurns turns answers (waited.Named left) = not_yets answers + left ≡ turns
InTurns turns answers (waited.Later pass seen) = (not_yets answers ≡ turns) × EndsIn answers (done.NotYet pass seen)
InTurns turns answers waited.Spent = (not_yets answers < turns) × EndsIn answers done.Spent

-- a waiting is late with the answer that takes its last turn
abbrev pub WaitTakesTurns : Type 0
WaitTakesTurns = (until : Option ℕ) (turns : ℕ) (answers : List Done) (ended : Waited) → 0 < turns
    → waiting_by until turns answers ≡ Some (waiting.Ends ended) → InTurns turns answers ended
