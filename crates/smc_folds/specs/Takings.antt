-- What a box has taken, and what it may take next.
use Rattle.std.specs.Prelude.{◌≡◌, ◌<◌, ◌≤◌, ◌+◌, ◌^◌, ℕ, ℤ, List, [], ◌∷◌, ◌++◌, length, unsigned_abs, IsSorted, All}
use Rattle.std.specs.Ordering.{int_cmp}

-- how many numbers were announced, and those that were taken since, in order
pub record Taking : Type 0 where
  pub count : ℕ
  pub taken : List ℤ

-- so many are announced, and none is taken
abbrev pub announced : ℕ → Taking
announced count = record { count = count; taken = [] }

-- one more is taken
abbrev pub takes : Taking → ℤ → Taking
takes taking value = record { count = taking.count; taken = taking.taken ++ value ∷ [] }

-- a number that a box is given is below 2^96 in size
abbrev pub IsNumber : ℤ → Type 0
IsNumber value = unsigned_abs value < 2 ^ 96

-- an answer is below 2^97 in size
abbrev pub IsAnswer : ℤ → Type 0
IsAnswer value = unsigned_abs value < 2 ^ 97

-- the numbers do not fall
abbrev pub IsAscending : List ℤ → Type 0
IsAscending values = IsSorted int_cmp values

-- this number may be taken next: fewer than announced were taken, and it is none below those before it
pub record CanTake (taking : Taking) (value : ℤ) : Type 0 where
  pub room : length taking.taken < taking.count
  pub ascends : IsAscending (taking.taken ++ value ∷ [])
  pub fits : IsNumber value

-- as many were taken as were announced
abbrev pub IsWhole : Taking → Type 0
IsWhole taking = length taking.taken ≡ taking.count

-- these are taken, one after the other
abbrev pub takes_all : Taking → List ℤ → Taking
takes_all taking values = record { count = taking.count; taken = taking.taken ++ values }

-- these may be taken, one after the other
pub record CanTakeAll (taking : Taking) (values : List ℤ) : Type 0 where
  pub room : length taking.taken + length values ≤ taking.count
  pub ascends : IsAscending (taking.taken ++ values)
  pub fits : All IsNumber values
