-- How many steps of its own a scan takes in all, from its begin to its end, over all calls that go on with it.
use Rattle.std.specs.Prelude.{◌≡◌, ℕ, ◌+◌, ◌*◌, ◌≤◌, ◌==◌, ◌&&◌, Bool, false, not, Option, Some, None, List, [], ◌∷◌, slice_get, if◌then◌else◌}
use Rattle.smc_shape.specs.Layout.{Layout, IsShape, slots_of, width_of}
use Rattle.smc_core.specs.declared.call.Call.TheVariants as call
use Rattle.smc_core.specs.declared.call.Choice.{Choice}
use Rattle.smc_core.specs.declared.call.Choice.TheVariants.{Start, Go}
use Rattle.smc_core.specs.declared.local.Local.{Local}
use Rattle.smc_core.specs.declared.local.Opening.{Opening}
use Rattle.smc_core.specs.declared.local.Scan.{Scan}
use Rattle.smc_core.specs.declared.local.Stand.{Stand}
use Rattle.smc_core.specs.declared.phase.Phase.{Phase}
use Rattle.smc_core.specs.declared.phase.Phase.TheVariants as phase
use Rattle.smc_core.specs.declared.phase.objects.ScanPhase.TheVariants as scan
use Rattle.smc_core.specs.declared.phase.objects.Seeker.{Seeker}
use Rattle.smc_core.specs.declared.phase.objects.Seeker.TheVariants as seeker
use Rattle.smc_core.specs.declared.section.Section.{Section}
use Rattle.smc_core.specs.Look.{seeker_of}
use Rattle.smc_model.specs.World.{World}
use Rattle.smc_rules.specs.History.{History}
use Rattle.smc_core.specs.Machine.{Machine, Leads, Steps}
use Rattle.smc_core.specs.Scan.{scan_number, scan_of}
use Rattle.smc_inv_bound.specs.Left.{steps_left}
use Rattle.smc_bounds.specs.Bounds.{scan_steps}

-- whether the scan of this number looks for an object
abbrev pub seeks_for : ℕ → Seeker → Bool
seeks_for number seeker.Caller = false
seeks_for number (seeker.Scan k coll slot) = k == number

-- whether the call in progress goes on with the scan of this number
abbrev pub is_of : ℕ → Phase → Bool
is_of number (phase.Scan (scan.Directory k coll slot)) = k == number
is_of number (phase.Scan (scan.Back k coll slot)) = k == number
is_of number (phase.Scan (scan.End k)) = k == number
is_of number (phase.Look next) = seeks_for number (seeker_of next)
is_of number _ = false

-- whether a scan has begun and not ended
abbrev pub is_open : Option Scan → Bool
is_open None = false
is_open (Some begun) = not begun.ended

-- whether a step with this choice is one of the scan
abbrev pub is_scan_step : ℕ → Stand → Choice → Bool
is_scan_step number stand Go = is_of number stand.phase
is_scan_step number stand (Start (call.Next k)) = (k == number) && is_open (scan_of stand.scans number)
is_scan_step number stand (Start _) = false

-- what a scan has left between two calls: nothing once it has ended
abbrev pub stored_left : Layout → Option Scan → ℕ
stored_left shape None = 0
stored_left shape (Some begun) = if begun.ended then 0 else scan_steps shape begun

-- what the scan of this number has left, in a call or between two
abbrev pub whole_left : Layout → ℕ → Section → Phase → List Scan → ℕ
whole_left shape number section next scans = if is_of number next then steps_left shape (width_of shape) section next else stored_left shape (scan_of scans number)

-- one, where a pass that stands here takes a step of the scan
abbrev pub one_step : ℕ → Option Local → Choice → ℕ
one_step number None choice = 0
one_step number (Some l) choice = if is_scan_step number l.stand choice then 1 else 0

-- the steps of this pass's scan, of the steps of all
abbrev pub steps_taken : (shape : Layout) (pass number : ℕ) (m : Machine) (steps : List (ℕ × Choice)) (last : Machine) → Leads shape m steps last → ℕ
steps_taken shape pass number m [] last leads = 0
steps_taken shape pass number m (first ∷ later) last leads =
    (if first.0 == pass then one_step number (slice_get m.locals pass) first.1 else 0) + steps_taken shape pass number leads.0 later last leads.2

-- the step that begins a scan, the steps that it takes then, and those that it has left are so many at most, whatever
-- other calls the section makes in between, and whatever the other passes do; where it has none left it has ended
abbrev pub ScansAreBounded : Type 0
ScansAreBounded = (shape : Layout) (opening : Opening) (world : World) (m next last : Machine) (steps : List (ℕ × Choice)) (pass coll : ℕ) (first now : Local)
    → IsShape shape → History shape opening world m
    → slice_get m.locals pass ≡ Some first → Steps shape m pass (Start (call.Scan coll)) next
    → (leads : Leads shape next steps last) → slice_get last.locals pass ≡ Some now
    → 1 + steps_taken shape pass (scan_number pass first.stand.begun) next steps last leads
    + whole_left shape (scan_number pass first.stand.begun) now.stand.section now.stand.phase now.stand.scans
    ≤ 2 + slots_of shape coll * (6 + 2 * width_of shape coll)
