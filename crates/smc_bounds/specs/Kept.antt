-- What each pass keeps, beside the ranges: what it says of the enter and of the scans that it goes on with.
use Rattle.std.specs.Prelude.{◌≡◌, ℕ, ◌<◌, IsTrue, Option, Some, None, List, [], ◌∷◌, is_some}
use Rattle.smc_shape.specs.Layout.{Layout}
use Rattle.smc_core.specs.declared.local.Scan.{Scan}
use Rattle.smc_core.specs.declared.local.Stand.{Stand}
use Rattle.smc_core.specs.declared.phase.Phase.{Phase}
use Rattle.smc_core.specs.declared.phase.Phase.TheVariants as phase
use Rattle.smc_core.specs.declared.phase.objects.ScanPhase.TheVariants as scan
use Rattle.smc_core.specs.declared.phase.objects.Seeker.{Seeker}
use Rattle.smc_core.specs.declared.phase.objects.Seeker.TheVariants as seeker
use Rattle.smc_core.specs.declared.section.Section.{Section}
use Rattle.smc_core.specs.Look.{seeker_of}
use Rattle.smc_core.specs.Scan.{scan_number, scan_of}
use Rattle.smc_core.specs.Section.{entering_offer}
use Rattle.smc_rules.specs.State.{State}
use Rattle.smc_inv_range.specs.Calls.{Ranges}

-- while a section is entered, its next step is offered
abbrev pub Enters : Section → Phase → Type 0
Enters section phase.Entering = IsTrue (is_some (entering_offer 0 section))
Enters section _ = Unit {0}

-- the scan is one of this collection, if there is such a scan
abbrev pub OfColl : ℕ → Option Scan → Type 0
OfColl coll None = Unit {0}
OfColl coll (Some begun) = begun.coll ≡ coll

-- a scan that looks for an object is at a slot of its own collection
abbrev pub SeeksHome : Seeker → List Scan → Type 0
SeeksHome seeker.Caller scans = Unit {0}
SeeksHome (seeker.Scan k coll slot) scans = OfColl coll (scan_of scans k)

-- so is one on its way
abbrev pub ScansHome : Phase → List Scan → Type 0
ScansHome (phase.Scan (scan.Directory k coll slot)) scans = OfColl coll (scan_of scans k)
ScansHome (phase.Scan (scan.Back k coll slot)) scans = OfColl coll (scan_of scans k)
ScansHome (phase.Look next) scans = SeeksHome (seeker_of next) scans
ScansHome _ scans = Unit {0}

-- the numbers of scans are below this one
abbrev pub AreBelow : ℕ → List Scan → Type 0
AreBelow limit [] = Unit {0}
AreBelow limit (first ∷ later) = (first.number < limit) × AreBelow limit later

-- what a pass keeps
pub record KeptBy (pass : ℕ) (stand : Stand) : Type 0 where
  pub enters : Enters stand.section stand.phase
  pub home : ScansHome stand.phase stand.scans
  -- the next scan gets a number that none of the section has
  pub below : AreBelow (scan_number pass stand.begun) stand.scans

-- the ranges, and this of each pass
pub record Kept (shape : Layout) (state : State) : Type 0 where
  pub ranges : Ranges shape state
  pub each : (pass : ℕ) → pass < shape.passes → KeptBy pass (state.stands pass)
