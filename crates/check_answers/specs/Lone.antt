-- The function of the box that this program hands in, and what the box keeps of the numbers that it took.
use Rattle.std.specs.Prelude.{◌≡◌, ℕ, ℤ, List, [], ◌∷◌, false, true, codes, slice_get, Option, None, Some, IfSome}
use Rattle.smc_folds.specs.Kinds.{Kind}
use Rattle.smc_folds.specs.Takings.{Taking, IsNumber}

-- the number of a list of one; none of any other
abbrev pub lone : List ℤ → Option ℤ
lone [] = None
lone (value ∷ []) = Some value
lone (value ∷ other ∷ values) = None

abbrev pub lone_kind : Kind
lone_kind = record { name = codes "lone"; scaled = true; function = lone }

-- so many numbers were announced, and the first of those that were taken is this one
pub record KeepsFirst (taking : Taking) (count : ℕ) (first : Option ℤ) : Type 0 where
  pub announced : count ≡ taking.count
  pub first_is : first ≡ slice_get taking.taken 0
  pub fits : IfSome first IsNumber
