-- Files by name, and what a fetch says of them.
use Rattle.std.specs.Prelude.{◌≡◌, ◌<◌, ◌≤◌, ⊤, ℕ, List, length, take, drop, Option, None, Some, Result, Ok, Err}
use Rattle.std.specs.Map.{lookup}
use Rattle.std.specs.Str.{bytes_eq}
use Rattle.smc_outside.specs.Causes.{raised}
use Rattle.smc_outside.specs.declared.failed.Failed.{Failed}

-- the bytes of the first file of that name
abbrev pub file_named : List (List ℕ × List ℕ) → List ℕ → Option (List ℕ)
file_named files name = lookup (bytes_eq name) files

-- these are so many bytes of a file from this place on, none only where there is no room for any or the file has ended
pub record IsPiece (bytes : List ℕ) (at count : ℕ) (buf : List ℕ) : Type 0 where
  pub given : take count buf ≡ take count (drop at bytes)
  pub within : count ≤ length (drop at bytes)
  pub progress : 0 < length buf → 0 < length (drop at bytes) → 0 < count

-- what a fetch says of one file, or of none
abbrev pub FetchesFrom : Option (List ℕ) → ℕ → Option ℕ → List ℕ → Type 0
FetchesFrom None at None buf = ⊤
FetchesFrom (Some bytes) at (Some count) buf = IsPiece bytes at count buf
FetchesFrom file at answer buf = ⊥

-- what a fetch says of the files, where they are told: it finds the one that has the name, and none exactly where none has
abbrev pub Fetches : Option (List (List ℕ × List ℕ)) → List ℕ → ℕ → Result (Option ℕ) Failed → List ℕ → Type 0
Fetches (Some files) name at (Ok answer) buf = FetchesFrom (file_named files name) at answer buf
Fetches files name at answer buf = ⊤

-- an answer counts no more bytes than the buffer has
abbrev pub FetchesAtMost : Result (Option ℕ) Failed → List ℕ → Type 0
FetchesAtMost (Ok (Some count)) buf = count ≤ length buf
FetchesAtMost answer buf = ⊤

-- what a shelf in memory shows
pub record ShelfInMemory : Type 0 where
  -- the files with their names; the first of equal names counts
  pub files : List (List ℕ × List ℕ)
  -- the numbers of the calls that fail
  pub fails : List ℕ
  -- the number of the next call, from 0, which stands still at its last value
  pub calls : ℕ
  -- how many calls have failed
  pub faults : ℕ

-- the shelf after a fetch with this answer
abbrev pub after_fetch : ShelfInMemory → Result (Option ℕ) Failed → ShelfInMemory
after_fetch shelf (Ok _) = record shelf { calls = raised shelf.calls }
after_fetch shelf (Err _) = record shelf { calls = raised shelf.calls; faults = raised shelf.faults }
