-- What a drive leaves: the present objects of the collection stand in the fewest blocks.
use Rattle.std.specs.Prelude.{◌≡◌, ℕ}
use Rattle.smc_shape.specs.Layout.{Layout, IsShape}
use Rattle.smc_model.specs.World.{World, count_of}
use Rattle.smc_core.specs.declared.done.Done.{Done}
use Rattle.smc_core.specs.declared.done.Done.TheVariants as done
use Rattle.smc_core.specs.declared.local.Opening.{Opening}
use Rattle.smc_core.specs.Count.{blocks_for}
use Rattle.smc_core.specs.Machine.{Machine}
use Rattle.smc_rules.specs.History.{History, history_state}
use Rattle.smc_rules.specs.State.{State}
use Rattle.smc_aside.specs.Aside.{IsAlone}
use Rattle.smc_census.specs.Census.{occupied}
use Rattle.smc_packing.specs.Drive.{Drives, Surveys}

-- the machine has a history from this world, and this holds of the state of each
pub record HasState (shape : Layout) (opening : Opening) (first : World) (m : Machine) (holds : State → Type 0) : Type 0 where
  pub history : History shape opening first m
  pub holds_of_each : (h : History shape opening first m) → holds (history_state h)

-- the present objects of the collection occupy the fewest blocks that have room for so many
abbrev pub IsPacked : Layout → ℕ → State → Type 0
IsPacked shape coll s = occupied shape s.memory coll ≡ blocks_for (count_of s.world coll)

-- from each machine with a history, where this pass is alone: it stands idle and all others stand aside
abbrev pub FromEachIdle : (Layout → Opening → World → ℕ → Machine → Type 0) → Type 0
FromEachIdle follows = (shape : Layout) (opening : Opening) (first : World) (pass : ℕ) (m : Machine)
    → IsShape shape → History shape opening first m → IsAlone pass m → follows shape opening first pass m

-- after an undisturbed drive the present objects of the collection are packed
abbrev pub DrivesPack : Type 0
DrivesPack = FromEachIdle (λ shape opening first pass m. (coll : ℕ) (last : Machine)
    → Drives shape pass coll m last → HasState shape opening first last (IsPacked shape coll))

-- an undisturbed survey tells how many objects of the collection are present, and how many blocks they occupy
abbrev pub SurveysTell : Type 0
SurveysTell = FromEachIdle (λ shape opening first pass m. (coll : ℕ) (last : Machine) (answer : Done)
    → Surveys shape pass coll answer m last
    → HasState shape opening first last (λ s. answer ≡ done.Surveyed coll (count_of s.world coll) (occupied shape s.memory coll)))

-- a survey at once after a drive tells the fewest blocks
abbrev pub SurveysTellPacked : Type 0
SurveysTellPacked = FromEachIdle (λ shape opening first pass m. (coll : ℕ) (driven last : Machine) (answer : Done)
    → Drives shape pass coll m driven → Surveys shape pass coll answer driven last
    → HasState shape opening first last (λ s. answer ≡ done.Surveyed coll (count_of s.world coll) (blocks_for (count_of s.world coll))))
