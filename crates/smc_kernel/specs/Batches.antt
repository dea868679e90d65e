-- Rows that stand column by column.
use Rattle.std.specs.Prelude.{◌≡◌, ℕ, ◌+◌, ◌*◌, ◌≤◌, ◌<◌, List, [], map, length, slice_index, slice_index_or}
use Rattle.std.specs.List.{All, range_with_len}
use Rattle.smc_kernel.specs.declared.batch.TheConstants.{ROOM}

-- the words at a place of columns, of which each has room for 64
abbrev pub row_across : (width : ℕ) → List ℕ → (place : ℕ) → List ℕ
row_across width cells place = map (λ column. slice_index cells (column * ROOM + place)) (range_with_len 0 width)

-- so many rows
abbrev pub rows_of_columns : (width : ℕ) → List ℕ → (count : ℕ) → List (List ℕ)
rows_of_columns width cells count = map (row_across width cells) (range_with_len 0 count)

-- all columns are there, and no more rows than they have room for
pub record AreColumns (width : ℕ) (cells : List ℕ) (count : ℕ) : Type 0 where
  pub size : length cells ≡ width * ROOM
  pub few : count ≤ ROOM

-- the row at a place
abbrev pub row_at : List (List ℕ) → ℕ → List ℕ
row_at rows place = slice_index_or rows place []

-- the rows at these places, in this order
abbrev pub rows_at : List (List ℕ) → List ℕ → List (List ℕ)
rows_at rows places = map (row_at rows) places

-- each place is one of a row, and there are no more than a batch has room for
pub record ArePlaces (rows : List (List ℕ)) (places : List ℕ) : Type 0 where
  pub within : All (λ place. place < length rows) places
  pub few : length places ≤ ROOM
