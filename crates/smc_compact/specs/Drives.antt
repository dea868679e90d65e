-- How a drive goes, how it ends, and why.
use Rattle.std.specs.Prelude.{◌≡◌, ℕ, ◌+◌, ◌≤◌, Some, None, List, [], ◌∷◌, ◌++◌, flat_map}
use Rattle.smc_words.specs.declared.round.RoundWord.{RoundWord}
use Rattle.smc_core.specs.declared.done.Done.{Done}
use Rattle.smc_core.specs.declared.done.Done.TheVariants as done
use Rattle.smc_core.specs.declared.local.Local.{Local}
use Rattle.smc_region.specs.declared.advance.Advance.{Advance}
use Rattle.smc_region.specs.declared.advance.Advance.TheVariants as advance
use Rattle.smc_region.specs.Advances.{Advances, done_of}
use Rattle.smc_region.specs.Callers.{Caller, IsSame}
use Rattle.smc_trace.specs.Named.{advances, enters, finishes, leaves, rounds}
use Rattle.smc_trace.specs.Trace.{CallEnd, Tells}
use Rattle.smc_compact.specs.declared.outcome.Outcome.{Outcome}
use Rattle.smc_compact.specs.declared.outcome.Outcome.TheVariants as outcome
use Rattle.smc_compact.specs.declared.outcome.Waited.{Waited}
use Rattle.smc_compact.specs.declared.outcome.Waited.TheVariants as waited
use Rattle.smc_compact.specs.declared.outcome.Waiting.TheVariants as waiting
use Rattle.smc_compact.specs.Calls.{SawRound}
use Rattle.smc_compact.specs.Waits.{waiting_by}

-- calls in a section of their own
abbrev pub in_section : ℕ → List CallEnd → List CallEnd
in_section epoch calls = enters epoch ++ (calls ++ leaves)

-- a drive that has a round open ends it as its waiting ended: it finishes the round where the epoch was named, and else cancels it
abbrev pub ClosesBy : Waited → Done → Outcome → Type 0
ClosesBy (waited.Named left) (done.Finished moved abandoned gone) ended = ended ≡ outcome.Done moved abandoned gone
ClosesBy (waited.Later pass seen) done.Cancelled ended = ended ≡ outcome.Later pass seen
ClosesBy waited.Spent done.Cancelled ended = ended ≡ outcome.Spent
ClosesBy _ _ ended = ⊥

-- the call that ends a round, by its answer: a finish, or a cancel, which has always the same
abbrev pub closes : Done → List CallEnd
closes answer = finishes answer

-- with a round open that has this bound, and so many turns left, a drive waits for the epoch two above the bound, and ends the
-- round in a section
pub record Closes (bound turns : ℕ) (ended : Outcome) (calls : List CallEnd) : Type 0 where
  pub waits : List Done
  pub waited : Waited
  pub epoch : ℕ
  pub answer : Done
  pub waits_for : waiting_by (Some (bound + 2)) turns waits ≡ Some (waiting.Ends waited)
  pub made : calls ≡ flat_map advances waits ++ in_section epoch (closes answer)
  pub is : ClosesBy waited answer ended

-- the begin of a drive has ended with this answer in a section at this epoch: the calls behind that section
abbrev pub GoesOnBy : ℕ → ℕ → ℕ → Done → Outcome → List CallEnd → Type 0
GoesOnBy coll turns epoch (done.Round of_it bound moves) ended calls = (of_it ≡ coll) × (bound ≡ epoch + 1) × Closes bound turns ended calls
GoesOnBy coll turns epoch (done.Nothing of_it) ended calls = (of_it ≡ coll) × (ended ≡ outcome.Nothing) × (calls ≡ [])
GoesOnBy coll turns epoch (done.Busy bound pass of_it) ended calls =
    (ended ≡ outcome.Busy (record { bound = bound; pass = pass; coll = of_it })) × (calls ≡ [])
GoesOnBy _ _ _ _ _ _ = ⊥

-- with so many turns left a drive begins a round in a section, and goes on as the begin ended
pub record Opens (coll turns : ℕ) (ended : Outcome) (calls : List CallEnd) : Type 0 where
  pub epoch : ℕ
  pub answer : Done
  pub later : List CallEnd
  pub made : calls ≡ in_section epoch (rounds answer) ++ later
  pub goes_on : GoesOnBy coll turns epoch answer ended later

-- the first waiting of a drive has ended so: the calls behind it
abbrev pub ComesBy : ℕ → Waited → Outcome → List CallEnd → Type 0
ComesBy coll (waited.Named left) ended calls = Opens coll left ended calls
ComesBy coll (waited.Later pass seen) ended calls = (ended ≡ outcome.Later pass seen) × (calls ≡ [])
ComesBy coll waited.Spent ended calls = (ended ≡ outcome.Spent) × (calls ≡ [])

-- whether an answer is one of an advance
abbrev pub advance_in : Done → ℕ
advance_in (done.Advanced epoch) = 1
advance_in (done.NotYet pass seen) = 1
advance_in (done.Overtaken epoch) = 1
advance_in done.Spent = 1
advance_in _ = 0

-- how many of the calls are advances
abbrev pub advances_in : List CallEnd → ℕ
advances_in [] = 0
advances_in (call ∷ later) = advance_in call.done + advances_in later

-- a drive of the collection with so many turns, which ended so, made these calls: it waits for an epoch two above the first that
-- is named, and goes on as the waiting ended
pub record Drives (coll turns : ℕ) (ended : Outcome) (calls : List CallEnd) : Type 0 where
  pub waits : List Done
  pub waited : Waited
  pub later : List CallEnd
  pub waits_for : waiting_by None turns waits ≡ Some (waiting.Ends waited)
  pub made : calls ≡ flat_map advances waits ++ later
  pub comes : ComesBy coll waited ended later
  pub few : advances_in calls ≤ turns + 8

-- the calls of a drive tell how it ended
abbrev pub DriveIsOne : Type 0
DriveIsOne = (coll turns : ℕ) (one other : Outcome) (calls : List CallEnd) → Drives coll turns one calls → Drives coll turns other calls → one ≡ other

-- one of the calls was an advance with this answer, for its cause
pub record ByAdvance (old : Caller) (calls : List CallEnd) (answer : Advance) : Type 0 where
  pub front : List CallEnd
  pub rest : List CallEnd
  pub before : Caller
  pub after : Caller
  pub is : calls ≡ front ++ (advances (done_of answer) ++ rest)
  pub same : IsSame old before
  pub told : Tells old.local before.local front
  pub cause : Advances before after answer

-- one of the calls was a begin that saw this round
pub record ByBegin (old : Caller) (calls : List CallEnd) (round : RoundWord) : Type 0 where
  pub front : List CallEnd
  pub rest : List CallEnd
  pub before : Caller
  pub next : Local
  pub is : calls ≡ front ++ (rounds (done.Busy round.bound round.pass round.coll) ++ rest)
  pub same : IsSame old before
  pub told : Tells old.local before.local front
  pub saw : SawRound before next round

-- why a drive with these calls ended so
abbrev pub DriveCause : Caller → Outcome → List CallEnd → Type 0
DriveCause old (outcome.Done moved abandoned gone) calls = Unit {0}
DriveCause old outcome.Nothing calls = Unit {0}
DriveCause old (outcome.Busy round) calls = ByBegin old calls round
DriveCause old (outcome.Later pass seen) calls = ByAdvance old calls (advance.NotYet pass seen)
DriveCause old outcome.Spent calls = ByAdvance old calls advance.Spent
