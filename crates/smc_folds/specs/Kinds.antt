-- What a box is, and which of several boxes a name means.
use Rattle.std.specs.Prelude.{ℕ, ℤ, Bool, List, [], ◌∷◌, Option, find, option_map, if◌then◌else◌}
use Rattle.std.specs.Str.{bytes_eq}

-- what a box is: its name, whether its answers have the scale of its numbers, and its function of a list of numbers
pub record Kind : Type 0 where
  pub name : List ℕ
  pub scaled : Bool
  pub function : List ℤ → Option ℤ

-- whether a box has this name
abbrev pub has_name : List ℕ → Kind → Bool
has_name name kind = bytes_eq kind.name name

-- the first box of this name
abbrev pub first_named : List Kind → List ℕ → Option Kind
first_named kinds name = find (has_name name) kinds

-- the answer of the first box of this name, which is its own function of the values
abbrev pub answer_by : List Kind → List ℕ → List ℤ → Option (Option ℤ)
answer_by kinds name values = option_map (λ kind. kind.function values) (first_named kinds name)

-- whether the first box of this name is scaled
abbrev pub scaled_by : List Kind → List ℕ → Option Bool
scaled_by kinds name = option_map (λ kind. kind.scaled) (first_named kinds name)

-- the boxes but the first of this name
abbrev pub without_first : List Kind → List ℕ → List Kind
without_first [] name = []
without_first (kind ∷ kinds) name = if has_name name kind then kinds else kind ∷ without_first kinds name
