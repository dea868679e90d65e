-- What a scan is to its section, and what going on with it answers.
use Rattle.std.specs.Prelude.{◌≡◌, ℕ, ◌+◌, ◌≤◌, ◌<◌, Bool, true, false, Option, Some, None, List, [], ◌∷◌, ◌++◌, length, if◌then◌else◌}
use Rattle.smc_shape.specs.Layout.{Layout, slots_of}
use Rattle.smc_model.specs.declared.event.Event.TheVariants as event
use Rattle.smc_core.specs.declared.done.Done.TheVariants as done
use Rattle.smc_core.specs.declared.local.Local.{Local}
use Rattle.smc_core.specs.declared.phase.Phase.TheVariants.{Idle}
use Rattle.smc_core.specs.Scan.{scan_of, scan_number, new_scan}
use Rattle.smc_region.specs.declared.held.Held.{Held}
use Rattle.smc_region.specs.Callers.{Caller}
use Rattle.smc_trace.specs.Named.{comes_to}
use Rattle.smc_trace.specs.Trace.{CallEnd}
use Rattle.smc_does.specs.Does.{IsHeld, pair_of}
use Rattle.smc_objects.specs.declared.scan.Scan.{Scan}
use Rattle.smc_objects.specs.Scanning.{number_at, visiting, ending}

-- what callers see of a scan: its number, its collection, that the slots below its place are passed, and whether it has ended
pub record ScanSeen : Type 0 where
  pub number : ℕ
  pub coll : ℕ
  pub place : ℕ
  pub ended : Bool

-- a scan of this section, as it is seen
abbrev pub scan_in : Caller → Scan → ScanSeen
scan_in pass one = record { number = number_at pass.local one.scan; coll = one.coll; place = one.place; ended = one.ended }

-- going on with a scan, by what it comes to: one that has ended makes no call
abbrev pub goes_on : ScanSeen → Option Held → List CallEnd
goes_on one (Some held) = comes_to one.number (Some (pair_of held))
goes_on one None = if one.ended then [] else comes_to one.number None

-- it comes to an object of its collection, which is held from then on, at a slot that it had not passed, and passes this one
pub record Visits (pass : Caller) (one now : ScanSeen) (held : Held) : Type 0 where
  pub holds : IsHeld pass held
  pub home : held.number.coll ≡ one.coll
  pub ahead : one.place ≤ held.place
  pub passes : now.place ≡ held.place + 1
  pub slot : held.place < slots_of pass.shape one.coll
  pub was : one.ended ≡ false
  pub goes_on : now.ended ≡ false

-- the scan is the section's of its index, and has passed the slots below its place
pub record IsScanOf (pass : Caller) (one : Scan) : Type 0 where
  pub coll : one.coll < length pass.shape.colls
  pub within : one.place ≤ slots_of pass.shape one.coll
  pub here : scan_of pass.local.stand.scans (number_at pass.local one.scan)
      ≡ Some (record { number = number_at pass.local one.scan; coll = one.coll; place = one.place; ended = one.ended })

-- a pass that has begun one scan more
abbrev pub beginning : ℕ → Local → ℕ → Local
beginning pass l coll = record {
  stand = record l.stand { phase = Idle; scans = l.stand.scans ++ new_scan (scan_number pass l.stand.begun) coll ∷ []; begun = l.stand.begun + 1 };
  log = l.log ++ event.Begin (scan_number pass l.stand.begun) coll ∷ [];
  answers = l.answers ++ record { length = length (l.log ++ event.Begin (scan_number pass l.stand.begun) coll ∷ []); done = done.Begun } ∷ [];
  notes = l.notes;
  learnt = l.learnt;
  cursors = l.cursors;
  steps = l.steps + 1;
}

-- the scan has come to this object, at a slot that it had not passed, and has passed this one now
pub record Comes (shape : Layout) (old new : Local) (one now : Scan) (held : Held) : Type 0 where
  pub ahead : one.place ≤ held.place
  pub slot : held.place < slots_of shape one.coll
  pub place : now.place ≡ held.place + 1
  pub goes_on : now.ended ≡ false
  pub told : new ≡ visiting old (number_at old one.scan) held.number held.place new.steps

-- the scan has passed every slot, and has ended
pub record Ends (shape : Layout) (old new : Local) (one now : Scan) : Type 0 where
  pub all : slots_of shape one.coll ≤ now.place
  pub ended : now.ended ≡ true
  pub told : new ≡ ending old (number_at old one.scan) now.place new.steps

-- what going on with a scan answers; one that has ended takes no step
abbrev pub GoesOn : Option Held → Bool → Layout → Local → Local → Scan → Scan → Type 0
GoesOn (Some held) ended shape old new one now = (ended ≡ false) × Comes shape old new one now held
GoesOn None true shape old new one now = (new ≡ old) × (now ≡ one)
GoesOn None false shape old new one now = Ends shape old new one now
