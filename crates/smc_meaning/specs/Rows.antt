-- Rows, and how they stand in one list of words.
use Rattle.std.specs.Prelude.{ℕ, zero, suc, List, [], ◌∷◌, take, drop}

-- rows that have this many words each
pub record RowList : Type 0 where
  pub width : ℕ
  pub rows : List (List ℕ)

-- so many rows, one behind the other
abbrev pub rows_in : (width count : ℕ) → List ℕ → List (List ℕ)
rows_in width zero words = []
rows_in width (suc count) words = take width words ∷ rows_in width count (drop width words)
