-- The row of a region that runs.
use Rattle.std.specs.Prelude.{◌≡◌, ℕ, Option, Some, None, List, length, slice_index, if◌then◌else◌}
use Rattle.smc_shape.specs.Layout.{Layout, IsShape, words_of}
use Rattle.smc_shape.specs.Places.{InRange, at}
use Rattle.smc_shape.specs.declared.place.Place.{Place}
use Rattle.smc_core.specs.Row.{has_place}
use Rattle.smc_automaton.specs.FitsWord.{FitsAt}

-- a region's shape, and the number of each of its words
pub record Numbers : Type 0 where
  pub shape : Layout
  pub row : List ℕ

-- each word has its number, and no epoch is above the last one
pub record IsRow (shape : Layout) (row : List ℕ) : Type 0 where
  pub valid : IsShape shape
  pub whole : length row ≡ words_of shape
  pub fits : (there : Place) → InRange shape there → FitsAt there (slice_index row (at shape there))

-- the index of a place, where the region has it
abbrev pub index_of : Layout → Place → Option ℕ
index_of shape place = if has_place shape place then Some (at shape place) else None
