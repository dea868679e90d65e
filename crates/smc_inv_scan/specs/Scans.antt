-- What else holds of the scans of sections, so that a scan that has passed a target is not past the bound of its round.
use Rattle.std.specs.Prelude.{◌≡◌, ℕ, ◌<◌, ◌≤◌, Option, Some, None, List, [], ◌∷◌}
use Rattle.smc_words.specs.declared.number.Number.{Number}
use Rattle.smc_words.specs.declared.round.RoundWord.{RoundWord}
use Rattle.smc_shape.specs.Layout.{Layout, slots_of}
use Rattle.smc_core.specs.declared.local.Scan.{Scan}
use Rattle.smc_core.specs.declared.phase.Phase.{Phase}
use Rattle.smc_core.specs.declared.phase.Phase.TheVariants as phase
use Rattle.smc_core.specs.declared.phase.objects.ScanPhase.{ScanPhase}
use Rattle.smc_core.specs.declared.phase.objects.ScanPhase.TheVariants as scan
use Rattle.smc_core.specs.declared.phase.objects.Seeker.{Seeker}
use Rattle.smc_core.specs.declared.phase.objects.Seeker.TheVariants as seeker
use Rattle.smc_core.specs.declared.word.State.TheVariants as state
use Rattle.smc_core.specs.Look.{seeker_of, sought_number}
use Rattle.smc_core.specs.Scan.{scan_number, scan_of}
use Rattle.smc_core.specs.Section.{epoch_of}
use Rattle.smc_rules.specs.Calls.{Slot}
use Rattle.smc_rules.specs.Reads.{round_in, state_in, dir_in, back_in, forward_in, object}
use Rattle.smc_rules.specs.RelocationRule.{MayBeRead}
use Rattle.smc_rules.specs.State.{State}
use Rattle.smc_agreement.specs.Parts.{IsWithin}

-- a scan that looks an object up, and its slot
abbrev pub seeker_at : Seeker → Option (ℕ × Slot)
seeker_at seeker.Caller = None
seeker_at (seeker.Scan number_of_scan coll slot) = Some (number_of_scan, (coll, slot))

-- a scan on its way, and its slot
abbrev pub way_at : ScanPhase → Option (ℕ × Slot)
way_at (scan.Directory number_of_scan coll slot) = Some (number_of_scan, (coll, slot))
way_at (scan.Back number_of_scan coll slot) = Some (number_of_scan, (coll, slot))
way_at (scan.End number_of_scan) = None

-- the scan that a call goes on with, and the slot that it is at
abbrev pub scan_at : Phase → Option (ℕ × Slot)
scan_at (phase.Look next) = seeker_at (seeker_of next)
scan_at (phase.Scan next) = way_at next
scan_at _ = None

-- the slot of a scan that looks an object up
abbrev pub seeker_slot : Seeker → Option Slot
seeker_slot seeker.Caller = None
seeker_slot (seeker.Scan number_of_scan coll slot) = Some (coll, slot)

-- the slot of a scan that has seen it in use
abbrev pub way_slot : ScanPhase → Option Slot
way_slot (scan.Back number_of_scan coll slot) = Some (coll, slot)
way_slot _ = None

-- the slot that a scan has seen in use
abbrev pub scanned_slot : Phase → Option Slot
scanned_slot (phase.Look next) = seeker_slot (seeker_of next)
scanned_slot (phase.Scan next) = way_slot next
scanned_slot _ = None

-- the slot of a scan that looks this object up
abbrev pub seeker_owner : Seeker → Number → Option (Slot × Number)
seeker_owner seeker.Caller number = None
seeker_owner (seeker.Scan number_of_scan coll slot) number = Some ((coll, slot), number)

-- a slot whose owner a scan looks up, and the owner
abbrev pub sought_at : Phase → Option (Slot × Number)
sought_at (phase.Look next) = seeker_owner (seeker_of next) (sought_number next)
sought_at _ = None

-- the scan is one of this collection, and at this place
abbrev pub IsAt : ℕ → ℕ → Option Scan → Type 0
IsAt coll place None = ⊥
IsAt coll place (Some begun) = (begun.coll ≡ coll) × (begun.place ≡ place)

-- the scan that a call is about to end
abbrev pub ends_of : Phase → Option ℕ
ends_of (phase.Scan (scan.End number_of_scan)) = Some number_of_scan
ends_of _ = None

-- the scan has passed all slots of its collection
abbrev pub IsPassed : Layout → Option Scan → Type 0
IsPassed shape None = ⊥
IsPassed shape (Some begun) = slots_of shape begun.coll ≤ begun.place

-- no two scans have one number
abbrev pub AreApart : List Scan → Type 0
AreApart [] = Unit {0}
AreApart (first ∷ later) = (scan_of later first.number ≡ None) × AreApart later

-- the scans of each pass: where they are, what they have seen there, and which targets they have passed
pub record ScansAgree (shape : Layout) (s : State) : Type 0 where
  -- only a section in which calls are made has scans, each with a number of its own, which the next one does not have
  pub s_apart : (i : ℕ) → i < shape.passes → AreApart (s.stands i).scans
  pub s_fresh : (i k : ℕ) (begun : Scan) → i < shape.passes → scan_of (s.stands i).scans k ≡ Some begun → k < scan_number i (s.stands i).begun
  pub s_within : (i k : ℕ) (begun : Scan) → i < shape.passes → scan_of (s.stands i).scans k ≡ Some begun → IsWithin (s.stands i).section
  -- a scan that is gone on with is where its call is
  pub s_place : (i k c slot : ℕ) → i < shape.passes → scan_at (s.stands i).phase ≡ Some (k, (c, slot)) → IsAt c slot (scan_of (s.stands i).scans k)
  -- one that is about to end has passed all slots
  pub s_over : (i k : ℕ) → i < shape.passes → ends_of (s.stands i).phase ≡ Some k → IsPassed shape (scan_of (s.stands i).scans k)
  -- a slot that it has seen in use may still be read; the owner that it looks up there is still the slot's, and of its collection
  pub s_dir : (i c slot : ℕ) → i < shape.passes → scanned_slot (s.stands i).phase ≡ Some (c, slot) → MayBeRead (epoch_of (s.stands i).section) (dir_in s.memory c slot)
  pub s_back : (i c slot a e d : ℕ) → i < shape.passes → sought_at (s.stands i).phase ≡ Some ((c, slot), object a e d) → back_in s.memory c slot ≡ Some (object a e d)
  pub s_home : (i c slot a e d : ℕ) → i < shape.passes → sought_at (s.stands i).phase ≡ Some ((c, slot), object a e d) → d ≡ c
  -- one that has passed the target of a frozen object is not past the bound of the round; none has passed that of a locked one
  pub s_frozen : (i k c a e slot : ℕ) (begun : Scan) (round : RoundWord) → i < shape.passes → state_in s.memory c e ≡ state.Frozen a slot → round_in s.memory ≡ Some round
      → scan_of (s.stands i).scans k ≡ Some begun → begun.coll ≡ c → forward_in s.memory c slot < begun.place → epoch_of (s.stands i).section ≤ round.bound
  pub s_locked : (i k c a e slot : ℕ) (begun : Scan) → i < shape.passes → state_in s.memory c e ≡ state.Locked a slot
      → scan_of (s.stands i).scans k ≡ Some begun → begun.coll ≡ c → begun.place ≤ forward_in s.memory c slot
