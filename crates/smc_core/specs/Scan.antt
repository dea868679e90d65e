-- Scan: it takes the slots of a collection in rising order, and visits each object that it finds held at its place.
use Rattle.std.specs.Prelude.{ℕ, ◌+◌, ◌*◌, ◌==◌, ◌||◌, ◌∷◌, [], nat_lt, not, Bool, true, false, Option, Some, None, List, if◌then◌else◌}
use Rattle.smc_words.specs.declared.layout.TheConstants.{PASSES}
use Rattle.smc_words.specs.declared.dir.Dir.{Dir}
use Rattle.smc_words.specs.declared.dir.Dir.TheVariants as dir
use Rattle.smc_words.specs.declared.number.Number.{Number}
use Rattle.smc_shape.specs.Layout.{Layout, slots_of}
use Rattle.smc_shape.specs.declared.place.Place.TheVariants as place
use Rattle.smc_model.specs.declared.event.Event.TheVariants as event
use Rattle.smc_core.specs.declared.change.Change.{Change}
use Rattle.smc_core.specs.declared.done.Done.TheVariants as done
use Rattle.smc_core.specs.declared.kind.Kind.TheVariants as kind
use Rattle.smc_core.specs.declared.local.Scan.{Scan}
use Rattle.smc_core.specs.declared.op.Offer.{Offer}
use Rattle.smc_core.specs.declared.op.Op.TheVariants.{Load}
use Rattle.smc_core.specs.declared.phase.Phase.TheVariants as phase
use Rattle.smc_core.specs.declared.phase.objects.Finding.{Finding}
use Rattle.smc_core.specs.declared.phase.objects.Finding.TheVariants.{Absent, Stays, Abandons, Helps}
use Rattle.smc_core.specs.declared.phase.objects.LookPhase.TheVariants as look
use Rattle.smc_core.specs.declared.phase.objects.ScanPhase.{ScanPhase}
use Rattle.smc_core.specs.declared.phase.objects.ScanPhase.TheVariants as scan
use Rattle.smc_core.specs.declared.phase.objects.Seeker.{Seeker}
use Rattle.smc_core.specs.declared.phase.objects.Seeker.TheVariants as seeker
use Rattle.smc_core.specs.declared.word.Word.{Word}
use Rattle.smc_core.specs.Look.{passes}
use Rattle.smc_core.specs.Step.{step, goes, ends, tells}
use Rattle.smc_core.specs.Words.{dir_of, back_of}

-- the number of the scan that a pass begins after so many others
abbrev pub scan_number : ℕ → ℕ → ℕ
scan_number pass begun = PASSES * begun + pass

-- a scan that has begun on this collection
abbrev pub new_scan : ℕ → ℕ → Scan
new_scan number coll = record { number = number; coll = coll; place = 0; ended = false }

-- the scan with this number, if the section has begun it
abbrev pub scan_of : List Scan → ℕ → Option Scan
scan_of [] number = None
scan_of (first ∷ later) number = if first.number == number then Some first else scan_of later number

-- the scan with this number has passed all slots below this place
abbrev pub passed : List Scan → ℕ → ℕ → List Scan
passed [] number place = []
passed (first ∷ later) number place = if first.number == number then record first { place = place } ∷ later else first ∷ passed later number place

-- the scan with this number has ended
abbrev pub ended : List Scan → ℕ → List Scan
ended [] number = []
ended (first ∷ later) number = if first.number == number then record first { ended = true } ∷ later else first ∷ ended later number

-- whether a scan has no slot left
abbrev pub is_over : Layout → Scan → Bool
is_over shape begun = begun.ended || not (nat_lt begun.place (slots_of shape begun.coll))

-- whether a scan looks for an object in a slot of which it sees this
abbrev pub is_scanned : Dir → Bool
is_scanned dir.Valid = true
is_scanned dir.Incoming = true
is_scanned _ = false

-- the step of a scan on its way to its next object
abbrev pub scan_offer : ℕ → ScanPhase → Offer
scan_offer pass (scan.Directory number coll slot) = step kind.LoadDirectory (Load (place.Directory coll slot))
scan_offer pass (scan.Back number coll slot) = step kind.LoadBack (Load (place.Back coll slot))
scan_offer pass (scan.End number) = step kind.LoadSection (Load (place.Section pass))

-- the owner of the slot is looked up; a slot without one is passed
abbrev pub owner_seen : Layout → ℕ → ℕ → ℕ → Option Number → Change
owner_seen shape number coll slot None = goes (passes shape number coll slot)
owner_seen shape number coll slot (Some owner) = goes (phase.Look (look.Load (seeker.Scan number coll slot) owner))

-- what such a step changes
abbrev pub scan_change : Layout → ScanPhase → Word → Change
scan_change shape (scan.Directory number coll slot) w = if is_scanned (dir_of w) then goes (phase.Scan (scan.Back number coll slot)) else goes (passes shape number coll slot)
scan_change shape (scan.Back number coll slot) w = owner_seen shape number coll slot (back_of w)
scan_change shape (scan.End number) w = tells (event.End number) done.End

-- what it makes of the section's scans
abbrev pub scan_scans : List Scan → ScanPhase → Word → List Scan
scan_scans scans (scan.Directory number coll slot) w = if is_scanned (dir_of w) then scans else passed scans number (slot + 1)
scan_scans scans (scan.Back number coll slot) w = owner_scans scans number slot (back_of w)
  where
    owner_scans : List Scan → ℕ → ℕ → Option Number → List Scan
    owner_scans scans number slot None = passed scans number (slot + 1)
    owner_scans scans number slot (Some owner) = scans
scan_scans scans (scan.End number) w = ended scans number

-- what a look-up's step makes of them: a slot is passed where its look-up is decided
abbrev pub look_scans : List Scan → Seeker → Finding → List Scan
look_scans scans seeker.Caller finding = scans
look_scans scans (seeker.Scan number coll slot) Absent = passed scans number (slot + 1)
look_scans scans (seeker.Scan number coll slot) (Stays there) = passed scans number (slot + 1)
look_scans scans (seeker.Scan number coll slot) (Abandons there) = scans
look_scans scans (seeker.Scan number coll slot) (Helps there copy) = scans

-- the first step of going on with a scan: the directory word of its place, or, where no slot is left, the own word
abbrev pub next_offer : Layout → ℕ → Scan → Offer
next_offer shape pass begun = if is_over shape begun then step kind.LoadSection (Load (place.Section pass)) else step kind.LoadDirectory (Load (place.Directory begun.coll begun.place))

-- what that step changes; a scan that has ended ends again, without an event
abbrev pub next_change : Layout → Scan → Word → Change
next_change shape begun w =
    if begun.ended then ends done.End
    else if is_over shape begun then scan_change shape (scan.End begun.number) w
    else scan_change shape (scan.Directory begun.number begun.coll begun.place) w

-- what it makes of the section's scans
abbrev pub next_scans : Layout → List Scan → Scan → Word → List Scan
next_scans shape scans begun w =
    if begun.ended then scans
    else if is_over shape begun then scan_scans scans (scan.End begun.number) w
    else scan_scans scans (scan.Directory begun.number begun.coll begun.place) w
