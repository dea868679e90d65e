-- How far each advance takes a waiting, and what it leaves of its pass.
use Rattle.std.specs.Prelude.{◌≡◌, ℕ, ◌+◌, ◌-◌, ◌≤◌, ◌<◌, Option, Some, None, List, [], ◌∷◌, ◌++◌, length, flat_map}
use Rattle.smc_core.specs.declared.done.Done.{Done}
use Rattle.smc_core.specs.declared.section.TheConstants.{LAST_EPOCH}
use Rattle.smc_region.specs.declared.advance.Advance.{Advance}
use Rattle.smc_region.specs.declared.advance.Advance.TheVariants as advance
use Rattle.smc_region.specs.Advances.{Advances, done_of}
use Rattle.smc_region.specs.Callers.{Caller}
use Rattle.smc_region.specs.Named.{latest}
use Rattle.smc_trace.specs.Named.{advances}
use Rattle.smc_does.specs.Does.{Does}
use Rattle.smc_compact.specs.declared.outcome.Waited.{Waited}
use Rattle.smc_compact.specs.declared.outcome.Waited.TheVariants as waited
use Rattle.smc_compact.specs.declared.outcome.Waiting.{Waiting}
use Rattle.smc_compact.specs.declared.outcome.Waiting.TheVariants as waiting
use Rattle.smc_compact.specs.Waits.{waiting_by}

-- how many turns are left when a waiting has ended
abbrev pub turns_left : Waited → ℕ
turns_left (waited.Named left) = left
turns_left (waited.Later pass seen) = 0
turns_left waited.Spent = 0

-- how many epochs may still be named, by a pass that was told of this one, before the waiting ends
abbrev pub pace : Option ℕ → ℕ → ℕ
pace None latest = 3
pace (Some until) latest = until - latest

-- the last of these advances has this answer, for its cause
pub record EndsFor (old new : Caller) (answers : List Done) (answer : Advance) : Type 0 where
  pub front : List Done
  pub before : Caller
  pub is : answers ≡ front ++ done_of answer ∷ []
  pub does : Does old before (flat_map advances front)
  pub cause : Advances before new answer

-- why a waiting ended so
abbrev pub WaitCause : Caller → Caller → List Done → Waited → Type 0
WaitCause old new answers (waited.Named left) = Unit {0}
WaitCause old new answers (waited.Later pass seen) = EndsFor old new answers (advance.NotYet pass seen)
WaitCause old new answers waited.Spent = EndsFor old new answers advance.Spent

-- the pass has made advances until the waiting ended so
pub record HasWaited (until : Option ℕ) (turns : ℕ) (old new : Caller) (ended : Waited) : Type 0 where
  pub answers : List Done
  pub is : waiting_by until turns answers ≡ Some (waiting.Ends ended)
  pub does : Does old new (flat_map advances answers)
  pub few : length answers + turns_left ended ≤ turns + pace until (latest old.local.answers) + 1
  pub cause : WaitCause old new answers ended

-- a waiting that ends late or with no epoch left does so by that answer
abbrev pub IsBy : Advance → Waiting → Type 0
IsBy answer (waiting.Ends (waited.Later pass seen)) = answer ≡ advance.NotYet pass seen
IsBy answer (waiting.Ends waited.Spent) = answer ≡ advance.Spent
IsBy answer _ = Unit {0}

-- a waiting that is told an epoch goes on, or has come to it
abbrev pub IsByName : Waiting → Type 0
IsByName (waiting.Ends (waited.Later pass seen)) = ⊥
IsByName (waiting.Ends waited.Spent) = ⊥
IsByName _ = Unit {0}

-- a waiting whose epoch was named has a turn left
abbrev pub HasTurns : Waited → Type 0
HasTurns (waited.Named left) = 0 < left
HasTurns (waited.Later pass seen) = Unit {0}
HasTurns waited.Spent = Unit {0}

-- an epoch that was waited for is not past this one
abbrev pub Reaches : Option ℕ → ℕ → Waited → Type 0
Reaches (Some until) after (waited.Named left) = until ≤ after
Reaches _ after _ = Unit {0}

-- an epoch that is known stays the one that is waited for
abbrev pub IsFor : Option ℕ → Option ℕ → Type 0
IsFor None now = Unit {0}
IsFor (Some until) now = now ≡ Some until

-- a waiting with so many turns left, by a pass that was told of the epoch `before`, has come so far by an answer, when the pass
-- was told of `after`: each answer that it goes on from takes a turn or an epoch
abbrev pub HasCome : Option ℕ → ℕ → ℕ → ℕ → Waiting → Type 0
HasCome until left before after (waiting.GoesOn now fewer) = (0 < fewer) × (1 + fewer + pace now after ≤ left + pace until before)
    × (fewer + (LAST_EPOCH + 1 - after) < left + (LAST_EPOCH + 1 - before)) × IsFor until now
HasCome until left before after (waiting.Ends ended) = (turns_left ended ≤ left) × HasTurns ended × Reaches until after ended
