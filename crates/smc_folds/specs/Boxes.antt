-- The functions of the three boxes, each of an ascending list, and what each box keeps of the numbers that it took.
use Rattle.std.specs.Prelude.{◌≡◌, ◌<◌, ◌≤◌, ◌+◌, ◌-◌, ◌/◌, ◌^◌, ℕ, ℤ, pos, ◌-ℤ◌, Bool, true, false, not, List, [], ◌∷◌, length, codes, slice_get, Option, None, Some, IfSome, if◌then◌else◌}
use Rattle.std.specs.Ordering.{int_eq}
use Rattle.std.specs.List.{last_or}
use Rattle.smc_folds.specs.Kinds.{Kind}
use Rattle.smc_folds.specs.Takings.{Taking, IsNumber}

-- whether a number is another than the one before it, or the first
abbrev pub is_new : Option ℤ → ℤ → Bool
is_new None value = true
is_new (Some before) value = not (int_eq before value)

-- how many of the numbers are new, where the first comes behind `before`
abbrev pub new_behind : Option ℤ → List ℤ → ℕ
new_behind before [] = 0
new_behind before (value ∷ values) = (if is_new before value then 1 else 0) + new_behind (Some value) values

-- how many different numbers there are: in an ascending list equal ones stand together
abbrev pub different : List ℤ → ℕ
different values = new_behind None values

-- the place of the middle of so many numbers, from 0
abbrev pub middle : ℕ → ℕ
middle count = (count - 1) / 2

-- the number in the middle, the lower of two; none of an empty list
abbrev pub median : List ℤ → Option ℤ
median values = slice_get values (middle (length values))

-- the last number less the first, where there are any
abbrev pub span : Option ℤ → Option ℤ → Option ℤ
span (Some first) (Some last) = Some (last -ℤ first)
span first last = None

-- the greatest number less the least: in an ascending list these stand last and first
abbrev pub range : List ℤ → Option ℤ
range values = span (slice_get values 0) (last_or None values)

abbrev pub distinct_kind : Kind
distinct_kind = record { name = codes "distinct"; scaled = false; function = λ values. Some (pos (different values)) }

abbrev pub median_kind : Kind
median_kind = record { name = codes "median"; scaled = true; function = median }

abbrev pub range_kind : Kind
range_kind = record { name = codes "range"; scaled = true; function = range }

-- so many different numbers were taken, of which this is the last
pub record KeepsDifferent (taking : Taking) (count : ℕ) (last : Option ℤ) : Type 0 where
  pub bounded : taking.count < 2 ^ 64
  pub few : count ≤ length taking.taken
  pub counted : count ≡ different taking.taken
  pub latest : last ≡ last_or None taking.taken

-- so many numbers were announced, so many taken, and this is the one in the middle of those announced, if it was taken
pub record KeepsMiddle (taking : Taking) (count taken : ℕ) (found : Option ℤ) : Type 0 where
  pub announced : count ≡ taking.count
  pub counted : taken ≡ length taking.taken
  pub middle_is : found ≡ slice_get taking.taken (middle taking.count)
  pub fits : IfSome found IsNumber

-- these are the first and the last number that were taken
pub record KeepsEnds (taking : Taking) (first last : Option ℤ) : Type 0 where
  pub first_is : first ≡ slice_get taking.taken 0
  pub last_is : last ≡ last_or None taking.taken
  pub first_fits : IfSome first IsNumber
  pub last_fits : IfSome last IsNumber
