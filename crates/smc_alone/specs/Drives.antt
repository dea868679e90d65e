-- Drives and surveys, as calls of a trace.
use Rattle.std.specs.Prelude.{◌≡◌, ◌⊎◌, ℕ, ◌+◌, ◌≤◌, Some, List, ◌++◌, flat_map}
use Rattle.std.specs.List.{AllByRecursion}
use Rattle.smc_core.specs.declared.done.Done.{Done}
use Rattle.smc_core.specs.declared.done.Done.TheVariants as done
use Rattle.smc_packing.specs.Drive.{first_named, last_named}
use Rattle.smc_trace.specs.Named.{advances, enters, finishes, leaves, rounds, surveys}
use Rattle.smc_trace.specs.Trace.{CallEnd}

-- an answer of an advance
abbrev pub IsOfAdvance : Done → Type 0
IsOfAdvance (done.Advanced epoch) = Unit {0}
IsOfAdvance (done.NotYet pass seen) = Unit {0}
IsOfAdvance (done.Overtaken seen) = Unit {0}
IsOfAdvance done.Spent = Unit {0}
IsOfAdvance _ = ⊥

-- advances up to one that names an epoch at least two above the first that was named
pub record Waited (answers : List Done) : Type 0 where
  pub are : AllByRecursion IsOfAdvance answers
  pub first : ℕ
  pub latest : ℕ
  pub begins : first_named answers ≡ Some first
  pub ends : last_named answers ≡ Some latest
  pub two_on : first + 2 ≤ latest

-- a drive that found nothing to do
pub record FoundNothing (coll : ℕ) (calls : List CallEnd) : Type 0 where
  pub answers : List Done
  pub waited : Waited answers
  pub epoch : ℕ
  pub made : calls ≡ flat_map advances answers ++ (enters epoch ++ (rounds (done.Nothing coll) ++ leaves))

-- a drive that was done
pub record Moved (coll : ℕ) (calls : List CallEnd) : Type 0 where
  pub answers : List Done
  pub waited : Waited answers
  pub epoch : ℕ
  pub bound : ℕ
  pub frozen : ℕ
  pub later_answers : List Done
  pub are : AllByRecursion IsOfAdvance later_answers
  pub later_epoch : ℕ
  pub moved : ℕ
  pub abandoned : ℕ
  pub gone : ℕ
  pub made : calls ≡ flat_map advances answers ++ (enters epoch ++ (rounds (done.Round coll bound frozen) ++ (leaves
      ++ (flat_map advances later_answers ++ (enters later_epoch ++ (finishes (done.Finished moved abandoned gone) ++ leaves))))))

-- a drive that came to its end
abbrev pub Drove : ℕ → List CallEnd → Type 0
Drove coll calls = FoundNothing coll calls ⊎ Moved coll calls

-- a section is begun, and in it a survey tells this
pub record Surveyed (coll objects blocks : ℕ) (calls : List CallEnd) : Type 0 where
  pub epoch : ℕ
  pub made : calls ≡ enters epoch ++ surveys coll objects blocks
