-- What is true of the region behind such calls, where they were alone.
use Rattle.std.specs.Prelude.{◌≡◌, ℕ, Some, List, ◌∷◌, ◌++◌, slice_get}
use Rattle.smc_shape.specs.Layout.{Layout, IsShape}
use Rattle.smc_model.specs.declared.event.Cause.{Cause}
use Rattle.smc_model.specs.World.{World, count_of}
use Rattle.smc_core.specs.declared.call.Choice.{Choice}
use Rattle.smc_core.specs.declared.local.Local.{Local}
use Rattle.smc_core.specs.declared.local.Opening.{Opening}
use Rattle.smc_core.specs.Count.{blocks_for}
use Rattle.smc_core.specs.Machine.{Machine}
use Rattle.smc_rules.specs.History.{History}
use Rattle.smc_census.specs.Census.{occupied}
use Rattle.smc_full.specs.Full.{EachSlotHolds, NoneSpent}
use Rattle.smc_full.specs.Laws.{Holds}
use Rattle.smc_packing.specs.Packing.{HasState}
use Rattle.smc_refine.specs.Alone.{AllIdle}
use Rattle.smc_trace.specs.Named.{refuses}
use Rattle.smc_trace.specs.Trace.{CallEnd, IsTrace}
use Rattle.smc_aside.specs.Aside.{IsUndisturbed, OthersAside}
use Rattle.smc_calls.specs.Laws.{Between, Moment}
use Rattle.smc_alone.specs.AloneCalls.{AloneCalls, IsHome}
use Rattle.smc_alone.specs.Calm.{IsCalm, has_round}
use Rattle.smc_alone.specs.Ripening.{LetsRipen}
use Rattle.smc_alone.specs.Drives.{Drove, Surveyed}

-- all passes are idle, this one with this trace: what was done before, then these calls, alone, then the rest; before them it was home
pub record DidAlone (locals : List Local) (pass : ℕ) (before calls : List CallEnd) : Type 0 where
  pub local : Local
  pub here : slice_get locals pass ≡ Some local
  pub idle : AllIdle locals
  pub after : List CallEnd
  pub trace : IsTrace local (before ++ (calls ++ after))
  pub home : IsHome before
  pub alone : AloneCalls locals pass before calls

-- this is true of the region at the moment of the steps at which the pass has made these calls
pub record TrueAt (shape : Layout) (start : List ℕ) (pass : ℕ) (calls : List CallEnd) (steps : List (ℕ × Choice)) (last : Machine)
    (Fact : Machine → Type 0) : Type 0 where
  pub at : Moment shape start pass calls steps last
  pub fact : Fact at.m

-- a refusal, from its first moment to its last: nobody disturbs it, and at its first moment each slot has an object, if no entry is spent
pub record RefusedWhenFull (shape : Layout) (opening : Opening) (first : World) (pass coll : ℕ) (before refused : List CallEnd) (last : Machine)
    (h : History shape opening first last) : Type 0 where
  pub between : Between shape h.start pass before refused h.steps last
  pub aside : OthersAside pass between.m.locals
  pub undisturbed : IsUndisturbed pass between.during
  pub full : Holds shape opening first between.m (λ s. NoneSpent shape s coll → EachSlotHolds shape s coll)

-- an add that is refused, alone, behind calls that let all ripen, is refused when each slot has an object
abbrev pub RefusedIsFull : Type 0
RefusedIsFull = (shape : Layout) (opening : Opening) (first : World) (pass coll : ℕ) (before tried : List CallEnd)
    (cause : Cause) (last : Machine) (h : History shape opening first last)
    → IsShape shape → DidAlone last.locals pass before (tried ++ refuses coll cause) → LetsRipen tried
    → RefusedWhenFull shape opening first pass coll (before ++ tried) (refuses coll cause) last h

-- a survey that is alone tells the objects that are present, and the blocks that they occupy
abbrev pub SurveyIsExact : Type 0
SurveyIsExact = (shape : Layout) (opening : Opening) (first : World) (pass coll objects blocks : ℕ)
    (before surveyed : List CallEnd) (last : Machine) (h : History shape opening first last)
    → IsShape shape → DidAlone last.locals pass before surveyed → Surveyed coll objects blocks surveyed
    → TrueAt shape h.start pass (before ++ surveyed) h.steps last
    (λ m. HasState shape opening first m (λ s. (objects ≡ count_of s.world coll) × (blocks ≡ occupied shape s.memory coll)))

-- and behind a drive, alone with it, the fewest blocks
abbrev pub SurveyBehindDrive : Type 0
SurveyBehindDrive = (shape : Layout) (opening : Opening) (first : World) (pass coll objects blocks : ℕ)
    (before drove surveyed : List CallEnd) (last : Machine) (h : History shape opening first last)
    → IsShape shape → DidAlone last.locals pass before (drove ++ surveyed) → Drove coll drove → Surveyed coll objects blocks surveyed
    → TrueAt shape h.start pass (before ++ (drove ++ surveyed)) h.steps last
    (λ m. HasState shape opening first m (λ s. (objects ≡ count_of s.world coll) × (blocks ≡ blocks_for objects)))

-- each call of a stretch that is alone ends calmly
abbrev pub AloneIsCalm : Type 0
AloneIsCalm = (shape : Layout) (opening : Opening) (first : World) (pass : ℕ) (before calls : List CallEnd) (end : CallEnd)
    (later : List CallEnd) (last : Machine) (h : History shape opening first last)
    → IsShape shape → DidAlone last.locals pass before (calls ++ end ∷ later)
    → IsCalm pass (has_round (before ++ calls)) end.done
