-- How a `Shape` keeps its collections.
use Rattle.std.specs.Prelude.{◌≡◌, ℕ, ◌<◌, ◌≤◌, List, map, take, slice_index_or}
use Rattle.smc_shape.specs.declared.shape.Span.{Span}
use Rattle.smc_shape.specs.declared.shape.TheConstants.{MAX_COLLS, NO_SPAN}
use Rattle.smc_shape.specs.Layout.{Collection, Layout, IsShape, width_of, slots_of, entries_of, words_of}
use Rattle.smc_shape.specs.Places.{start_of}

-- the collection that a span is of
abbrev pub coll_in : Span → Collection
coll_in span = record { width = span.width; slots = span.slots; entries = span.entries }

-- the region of which so many of the spans are the collections
abbrev pub layout_of : ℕ → ℕ → List Span → Layout
layout_of passes colls spans = record { passes = passes; colls = map coll_in (take colls spans) }

-- the words of this collection, where they begin and what they are divided by
pub record IsSpan (shape : Layout) (c : ℕ) (span : Span) : Type 0 where
  pub start : span.start ≡ start_of shape c
  pub width : span.width ≡ width_of shape c
  pub slots : span.slots ≡ slots_of shape c
  pub entries : span.entries ≡ entries_of shape c

-- the spans lie one after the other, and make up a region of so many words
pub record IsLaidOut (passes colls words : ℕ) (spans : List Span) : Type 0 where
  pub valid : IsShape (layout_of passes colls spans)
  pub few : colls ≤ MAX_COLLS
  pub starts : (c : ℕ) → c < colls → (slice_index_or spans c NO_SPAN).start ≡ start_of (layout_of passes colls spans) c
  pub ends : words ≡ words_of (layout_of passes colls spans)
