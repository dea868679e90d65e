-- What a call of a pass does: the calls of the machine that it makes, and that it leaves the pass the same one.
use Rattle.std.specs.Prelude.{◌≡◌, None, List, Contains}
use Rattle.smc_core.specs.declared.local.Held as core
use Rattle.smc_core.specs.declared.phase.Phase.TheVariants.{Idle}
use Rattle.smc_region.specs.declared.held.Held.{Held}
use Rattle.smc_region.specs.Callers.{Caller, IsSame}
use Rattle.smc_trace.specs.Trace.{CallEnd, Tells}

-- the pass owns no round
abbrev pub OwnsNone : Caller → Type 0
OwnsNone pass = pass.local.stand.round ≡ None

-- the same pass goes on by these calls, and no others, and owns no round if it owned none
pub record Does (old new : Caller) (calls : List CallEnd) : Type 0 where
  pub same : IsSame old new
  pub tells : Tells old.local new.local calls
  pub free : OwnsNone old → OwnsNone new

-- by some calls of which this holds
abbrev pub DoesSome : Caller → Caller → (List CallEnd → Type 0) → Type 0
DoesSome old new Fact = (calls : List CallEnd) × Does old new calls × Fact calls

-- the section goes on: nothing that is held is let go
pub record Stays (old new : Caller) : Type 0 where
  pub section : new.local.stand.section ≡ old.local.stand.section
  pub idle : new.local.stand.phase ≡ Idle
  pub held : (x : core.Held) → Contains old.local.stand.held x → Contains new.local.stand.held x

-- an object that was found, as what the section holds
abbrev pub pair_of : Held → core.Held
pair_of held = record { number = held.number; slot = held.place }

-- the section holds the object, in the slot in which it was found
abbrev pub IsHeld : Caller → Held → Type 0
IsHeld pass held = Contains pass.local.stand.held (pair_of held)
