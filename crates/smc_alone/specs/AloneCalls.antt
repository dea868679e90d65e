-- Calls of a trace that are alone: by the logs and the answers, all other passes stood aside while they were made.
use Rattle.std.specs.Prelude.{◌≡◌, ℕ, ◌+◌, false, Some, List, ◌++◌, length, slice_get}
use Rattle.smc_shape.specs.Layout.{Layout, IsShape}
use Rattle.smc_core.specs.declared.call.Choice.{Choice}
use Rattle.smc_core.specs.declared.local.Local.{Local}
use Rattle.smc_core.specs.declared.local.Opening.{Opening}
use Rattle.smc_core.specs.Machine.{Machine}
use Rattle.smc_model.specs.World.{World}
use Rattle.smc_rules.specs.History.{History}
use Rattle.smc_aside.specs.Aside.{IsAlone, IsUndisturbed, OthersAside}
use Rattle.smc_trace.specs.Trace.{CallEnd, IsTrace, answers_in, events_in}
use Rattle.smc_calls.specs.Calls.{MakesEnds}
use Rattle.smc_calls.specs.Laws.{Between}
use Rattle.smc_refine.specs.Alone.{AllIdle, Alone, IsLeft, owns_after}

-- these calls of the pass, behind those before, are alone, up to its next event
abbrev pub AloneCalls : List Local → ℕ → List CallEnd → List CallEnd → Type 0
AloneCalls locals pass before calls = Alone locals pass (length (events_in before)) (length (events_in (before ++ calls)) + 1)

-- with these calls a pass has left its sections, and has no round
pub record IsHome (calls : List CallEnd) : Type 0 where
  pub left : IsLeft (events_in calls)
  pub no_round : owns_after false (answers_in 0 calls) ≡ false

-- between two moments of the steps these calls were made, while the others stood aside
pub record MadeAlone (shape : Layout) (start : List ℕ) (pass : ℕ) (before calls : List CallEnd) (steps : List (ℕ × Choice))
    (last : Machine) : Type 0 where
  pub between : Between shape start pass before calls steps last
  pub aside : OthersAside pass between.m.locals
  pub undisturbed : IsUndisturbed pass between.during
  pub made : MakesEnds shape pass calls between.m between.next
  pub aside_then : OthersAside pass between.next.locals
  pub alone : IsHome before → IsAlone pass between.m

-- so it is with every stretch of a trace that is alone
abbrev pub AloneCallsAreMade : Type 0
AloneCallsAreMade = (shape : Layout) (opening : Opening) (first : World) (pass : ℕ) (last : Machine) (h : History shape opening first last)
    (l : Local) (before calls after : List CallEnd)
    → IsShape shape → slice_get last.locals pass ≡ Some l → AllIdle last.locals → IsTrace l (before ++ (calls ++ after))
    → AloneCalls last.locals pass before calls
    → MadeAlone shape h.start pass before calls h.steps last
