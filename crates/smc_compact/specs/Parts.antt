-- What the parts of a drive leave of its pass.
use Rattle.std.specs.Prelude.{ℕ, ◌+◌, ◌-◌, ◌≤◌, List}
use Rattle.smc_core.specs.declared.done.Done.{Done}
use Rattle.smc_region.specs.Callers.{Caller}
use Rattle.smc_region.specs.Named.{latest}
use Rattle.smc_trace.specs.Named.{rounds}
use Rattle.smc_trace.specs.Trace.{CallEnd, Tells}
use Rattle.smc_does.specs.Does.{OwnsNone}
use Rattle.smc_compact.specs.declared.begun.Begun.{Begun}
use Rattle.smc_compact.specs.declared.begun.Begun.TheVariants as begun
use Rattle.smc_compact.specs.declared.outcome.Outcome.{Outcome}
use Rattle.smc_compact.specs.Calls.{HasBound, OwnsBy, begun_done}
use Rattle.smc_compact.specs.Drives.{ByBegin, Closes, DriveCause, Drives, advances_in, closes, in_section}

-- the pass has made a drive that ended so
pub record HasDriven (coll turns : ℕ) (old new : Caller) (ended : Outcome) : Type 0 where
  pub calls : List CallEnd
  pub tells : Tells old.local new.local calls
  pub drives : Drives coll turns ended calls
  pub cause : DriveCause old ended calls

-- it has waited for the end of a round with this bound, and ended it so
pub record HasClosed (bound turns : ℕ) (old new : Caller) (ended : Outcome) : Type 0 where
  pub calls : List CallEnd
  pub tells : Tells old.local new.local calls
  pub closes : Closes bound turns ended calls
  pub cause : DriveCause old ended calls
  pub few : advances_in calls ≤ turns + (bound + 2 - latest old.local.answers) + 1

-- why a begin in a section of its own found another round open
abbrev pub OpenCause : Caller → List CallEnd → Begun → Type 0
OpenCause old calls (begun.Round round) = Unit {0}
OpenCause old calls begun.Nothing = Unit {0}
OpenCause old calls (begun.Busy round) = ByBegin old calls round

-- it has begun a round in a section of its own
pub record HasOpened (coll : ℕ) (old new : Caller) (answer : Begun) : Type 0 where
  pub epoch : ℕ
  pub tells : Tells old.local new.local (in_section epoch (rounds (begun_done coll answer)))
  pub owns : OwnsBy old new answer
  pub bound : HasBound coll epoch answer
  pub knows : epoch ≤ latest new.local.answers
  pub cause : OpenCause old (in_section epoch (rounds (begun_done coll answer))) answer

-- it has ended its round in a section of its own
pub record HasEnded (old new : Caller) (answer : Done) : Type 0 where
  pub epoch : ℕ
  pub tells : Tells old.local new.local (in_section epoch (closes answer))
  pub owns : OwnsNone new
