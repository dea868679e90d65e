-- A trace is the calls that were made.
use Rattle.std.specs.Prelude.{◌≡◌, ℕ, Some, List, [], ◌++◌, slice_get}
use Rattle.smc_shape.specs.Layout.{Layout}
use Rattle.smc_core.specs.declared.call.Choice.{Choice}
use Rattle.smc_core.specs.declared.local.Local.{Local}
use Rattle.smc_core.specs.declared.phase.Phase.TheVariants.{Idle}
use Rattle.smc_core.specs.Machine.{Machine, Leads, started}
use Rattle.smc_aside.specs.Aside.{IsUndisturbed}
use Rattle.smc_trace.specs.Trace.{CallEnd, IsTrace}
use Rattle.smc_calls.specs.Calls.{HasMade, MakesCalls, MakesEnds, Rests}

-- the one trace of an idle pass, and the calls that it made along the list of steps; since the last of them it rests
pub record IsMadeAlong (shape : Layout) (start : List ℕ) (pass : ℕ) (steps : List (ℕ × Choice)) (last : Machine) (l : Local) : Type 0 where
  pub trace : List CallEnd
  pub is_trace : IsTrace l trace
  pub only : (other : List CallEnd) → IsTrace l other → trace ≡ other
  pub busy : List (ℕ × Choice)
  pub rest : List (ℕ × Choice)
  pub ended : Machine
  pub splits : steps ≡ busy ++ rest
  pub made : MakesCalls shape pass [] trace (started shape start) busy ended
  pub rests : Rests shape pass trace ended rest last

-- each pass that is idle after a list of steps has one trace, and has made its calls in these steps, one after the other
abbrev pub CallsAreMade : Type 0
CallsAreMade = (shape : Layout) (start : List ℕ) (pass : ℕ) (steps : List (ℕ × Choice)) (last : Machine) (l : Local)
    → Leads shape (started shape start) steps last → slice_get last.locals pass ≡ Some l → l.stand.phase ≡ Idle
    → IsMadeAlong shape start pass steps last l

-- a moment of the list of steps at which the pass is idle, and has made these calls and no more
pub record Moment (shape : Layout) (start : List ℕ) (pass : ℕ) (calls : List CallEnd) (steps : List (ℕ × Choice)) (last : Machine) : Type 0 where
  pub earlier : List (ℕ × Choice)
  pub later : List (ℕ × Choice)
  pub m : Machine
  pub splits : steps ≡ earlier ++ later
  pub leads_here : Leads shape (started shape start) earlier m
  pub leads_on : Leads shape m later last
  pub made : HasMade pass m calls

-- two moments on the list of steps, between which the pass made exactly these calls
pub record Between (shape : Layout) (start : List ℕ) (pass : ℕ) (before calls : List CallEnd) (steps : List (ℕ × Choice)) (last : Machine) : Type 0 where
  pub earlier : List (ℕ × Choice)
  pub during : List (ℕ × Choice)
  pub later : List (ℕ × Choice)
  pub m : Machine
  pub next : Machine
  pub splits : steps ≡ earlier ++ (during ++ later)
  pub leads_here : Leads shape (started shape start) earlier m
  pub leads_on : Leads shape next later last
  pub made : MakesCalls shape pass before calls m during next

-- so it is for every stretch of its trace
abbrev pub StretchIsMade : Type 0
StretchIsMade = (shape : Layout) (start : List ℕ) (pass : ℕ) (steps : List (ℕ × Choice)) (last : Machine) (l : Local) (before calls after : List CallEnd)
    → Leads shape (started shape start) steps last → slice_get last.locals pass ≡ Some l → l.stand.phase ≡ Idle
    → IsTrace l (before ++ (calls ++ after))
    → Between shape start pass before calls steps last

-- calls that are made while all other steps are of passes that stand aside
abbrev pub UndisturbedCallsAreMade : Type 0
UndisturbedCallsAreMade = (shape : Layout) (pass : ℕ) (before calls : List CallEnd) (m : Machine) (steps : List (ℕ × Choice)) (last : Machine)
    → MakesCalls shape pass before calls m steps last → IsUndisturbed pass steps → MakesEnds shape pass calls m last
