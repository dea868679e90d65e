-- The calls that a pass makes in a list of steps, each between two moments of it.
use Rattle.std.specs.Prelude.{◌≡◌, ℕ, Some, List, [], ◌∷◌, ◌++◌, replicate, slice_get}
use Rattle.smc_shape.specs.Layout.{Layout}
use Rattle.smc_core.specs.declared.call.Call.{Call}
use Rattle.smc_core.specs.declared.call.Choice.{Choice}
use Rattle.smc_core.specs.declared.call.Choice.TheVariants.{Start, Go}
use Rattle.smc_core.specs.declared.local.Local.{Local}
use Rattle.smc_core.specs.declared.phase.Phase.TheVariants.{Idle}
use Rattle.smc_core.specs.Machine.{Machine, Leads}
use Rattle.smc_aside.specs.Makes.{own_choices, Makes}
use Rattle.smc_trace.specs.Trace.{CallEnd, IsTrace}
use Rattle.smc_calls.specs.Ends.{IsEndOf}

-- the pass is in no call, and has made these
pub record HasMade (pass : ℕ) (m : Machine) (calls : List CallEnd) : Type 0 where
  pub local : Local
  pub here : slice_get m.locals pass ≡ Some local
  pub idle : local.stand.phase ≡ Idle
  pub trace : IsTrace local calls

-- in these steps it does nothing
pub record Rests (shape : Layout) (pass : ℕ) (before : List CallEnd) (m : Machine) (steps : List (ℕ × Choice)) (last : Machine) : Type 0 where
  pub leads : Leads shape m steps last
  pub first : HasMade pass m before
  pub then : HasMade pass last before
  pub choices : own_choices pass steps ≡ []

-- in these steps it makes one call, which ends so: it has made those before at the first moment, and this one more at the last
pub record MakesCall (shape : Layout) (pass : ℕ) (before : List CallEnd) (end : CallEnd) (m : Machine) (steps : List (ℕ × Choice))
    (last : Machine) : Type 0 where
  pub call : Call
  pub is_end : IsEndOf call end
  pub leads : Leads shape m steps last
  pub first : HasMade pass m before
  pub then : HasMade pass last (before ++ end ∷ [])
  pub more : ℕ
  pub choices : own_choices pass steps ≡ Start call ∷ replicate more Go

-- in these steps it makes these calls, one after the other, and no others
abbrev pub MakesCalls : Layout → ℕ → List CallEnd → List CallEnd → Machine → List (ℕ × Choice) → Machine → Type 0
MakesCalls shape pass before [] m steps last = HasMade pass m before × (m ≡ last) × (steps ≡ [])
MakesCalls shape pass before (end ∷ ends) m steps last =
    (during : List (ℕ × Choice)) × (later : List (ℕ × Choice)) × (next : Machine) × (steps ≡ during ++ later)
    × MakesCall shape pass before end m during next × MakesCalls shape pass (before ++ end ∷ []) ends next later last

-- calls that end so, each made while the others stand aside, one after the other
abbrev pub MakesEnds : Layout → ℕ → List CallEnd → Machine → Machine → Type 0
MakesEnds shape pass [] m last = m ≡ last
MakesEnds shape pass (end ∷ ends) m last =
    (call : Call) × (next : Machine) × IsEndOf call end × Makes shape pass call end.done m next × MakesEnds shape pass ends next last
