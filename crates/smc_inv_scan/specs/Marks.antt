-- What a history says of scans: which objects were present when a scan began, and which it has visited.
use Rattle.std.specs.Prelude.{◌≡◌, ℕ, ◌==◌, ◌&&◌, ◌<◌, Bool, true, false, Option, Some, if◌then◌else◌}
use Rattle.smc_words.specs.declared.number.Number.{Number}
use Rattle.smc_shape.specs.Layout.{Layout, entries_of}
use Rattle.smc_model.specs.declared.event.Event.{Event}
use Rattle.smc_model.specs.declared.event.Event.TheVariants as event
use Rattle.smc_model.specs.World.{World, is_present}
use Rattle.smc_core.specs.declared.local.Scan.{Scan}
use Rattle.smc_core.specs.Scan.{scan_of}
use Rattle.smc_core.specs.Words.{same_number, has_object}
use Rattle.smc_rules.specs.Reads.{state_in, object}
use Rattle.smc_rules.specs.State.{State}
use Rattle.smc_agreement.specs.Entries.{present_at, WasGiven}

-- for each number of a scan of one pass: the objects that were present when it began, and those that it has visited
pub record Marks : Type 0 where
  pub began : ℕ → Number → Bool
  pub visited : ℕ → Number → Bool

-- no scan has begun
abbrev pub no_marks : ℕ → Marks
no_marks pass = record { began = λ scan number. false; visited = λ scan number. false }

-- the marks of a pass after an event of it, in the world in which the event happens
abbrev pub marks_told : World → Marks → Option Event → Marks
marks_told world marks (Some (event.Begin scan coll)) = record {
  began = λ k number. if k == scan then is_present world number else marks.began k number;
  visited = λ k number. if k == scan then false else marks.visited k number;
}
marks_told world marks (Some (event.Visit scan visit)) = record {
  began = marks.began;
  visited = λ k number. if k == scan && same_number number visit then true else marks.visited k number;
}
marks_told world marks _ = marks

-- the marks of all passes, where those of one are put
abbrev pub put_marks : (ℕ → Marks) → ℕ → Marks → ℕ → Marks
put_marks marks pass new other = if other == pass then new else marks other

-- the objects that are present in the world are those that entries have
abbrev pub IsHere : State → Type 0
IsHere s = (c a e : ℕ) → is_present s.world (object a e c) ≡ has_object a (state_in s.memory c e)

-- what marks say of the scans of each pass
pub record MarksAgree (shape : Layout) (s : State) (marks : ℕ → Marks) : Type 0 where
  -- an object that was present when a scan began, or that it has visited, had been given its number
  pub m_began : (i k c a e : ℕ) (begun : Scan) → i < shape.passes → scan_of (s.stands i).scans k ≡ Some begun → (marks i).began k (object a e c) ≡ true → WasGiven a (state_in s.memory c e)
  pub m_given : (i k c a e : ℕ) (begun : Scan) → i < shape.passes → scan_of (s.stands i).scans k ≡ Some begun → (marks i).visited k (object a e c) ≡ true → WasGiven a (state_in s.memory c e)
  -- a scan visits objects of its collection alone
  pub m_coll : (i k c a e : ℕ) (begun : Scan) → i < shape.passes → scan_of (s.stands i).scans k ≡ Some begun → (marks i).visited k (object a e c) ≡ true → begun.coll ≡ c
  -- one that was present when it began, and still is, in a slot that it has passed, it has visited; one that it has visited is in such a slot
  pub m_met : (i k c a e slot : ℕ) (begun : Scan) → i < shape.passes → scan_of (s.stands i).scans k ≡ Some begun → begun.coll ≡ c → (marks i).began k (object a e c) ≡ true
      → present_at (state_in s.memory c e) ≡ Some (a, slot) → slot < begun.place → (marks i).visited k (object a e c) ≡ true
  pub m_once : (i k c a e slot : ℕ) (begun : Scan) → i < shape.passes → scan_of (s.stands i).scans k ≡ Some begun → (marks i).visited k (object a e c) ≡ true
      → present_at (state_in s.memory c e) ≡ Some (a, slot) → slot < begun.place

-- what marks say of an event that a pass is about to tell: a visit is the first one of an object that is present; a scan
-- that ends has visited each object of its collection that was present when it began and still is
abbrev pub FitsMarks : Layout → State → (ℕ → Marks) → ℕ → Option Event → Type 0
FitsMarks shape s marks pass (Some (event.Visit scan number)) = ((marks pass).visited scan number ≡ false) × (is_present s.world number ≡ true)
FitsMarks shape s marks pass (Some (event.End scan)) =
    (begun : Scan) (a e : ℕ) → scan_of (s.stands pass).scans scan ≡ Some begun → e < entries_of shape begun.coll → (marks pass).began scan (object a e begun.coll) ≡ true
    → is_present s.world (object a e begun.coll) ≡ true → (marks pass).visited scan (object a e begun.coll) ≡ true
FitsMarks shape s marks pass _ = Unit {0}
