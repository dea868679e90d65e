-- A region's shape as contracts see it.
use Rattle.std.specs.Prelude.{◌≡◌, ℕ, ◌+◌, ◌*◌, ◌%◌, ◌<◌, ◌≤◌, List, length, map, slice_index_or, sum_by}
use Rattle.smc_shape.specs.declared.coll.CollShape.{CollShape}
use Rattle.smc_shape.specs.declared.coll.TheConstants.{BLOCK_SLOTS, MAX_WIDTH}
use Rattle.smc_shape.specs.declared.shape.TheConstants.{FIRST_SECTION, MAX_COLLS, MAX_PASSES, MAX_WORDS}

-- a collection: the words of a record, the slots that records stand in, and the entries that name objects
pub record Collection : Type 0 where
  pub width : ℕ
  pub slots : ℕ
  pub entries : ℕ

-- a region: how many passes may use it, and its collections in order
pub record Layout : Type 0 where
  pub passes : ℕ
  pub colls : List Collection

-- the collection that is asked for by a width and a number of slots: it has as many entries as slots
abbrev pub asked_coll : CollShape → Collection
asked_coll coll = record { width = coll.width; slots = coll.slots; entries = coll.slots }

-- the region that is asked for
abbrev pub asked : ℕ → List CollShape → Layout
asked passes colls = record { passes = passes; colls = map asked_coll colls }

-- a collection with nothing in it
abbrev pub no_coll : Collection
no_coll = record { width = 0; slots = 0; entries = 0 }

-- the collection with this index; past the last one nothing has a place
abbrev pub coll_of : Layout → ℕ → Collection
coll_of shape c = slice_index_or shape.colls c no_coll

-- the words of a record of this collection
abbrev pub width_of : Layout → ℕ → ℕ
width_of shape c = (coll_of shape c).width

-- the slots of this collection
abbrev pub slots_of : Layout → ℕ → ℕ
slots_of shape c = (coll_of shape c).slots

-- the entries of this collection
abbrev pub entries_of : Layout → ℕ → ℕ
entries_of shape c = (coll_of shape c).entries

-- the words of a collection: one for each entry, three for each slot, and a record for each slot
abbrev pub coll_words : Collection → ℕ
coll_words coll = coll.entries + 3 * coll.slots + coll.slots * coll.width

-- the words of a region: the first ones, one for each pass, and those of its collections
unfoldable pub words_of : Layout → ℕ
words_of shape = FIRST_SECTION + shape.passes + sum_by coll_words shape.colls

-- what every collection of a region keeps
pub record IsCollection (coll : Collection) : Type 0 where
  pub some_width : 0 < coll.width
  pub width : coll.width ≤ MAX_WIDTH
  pub some_slots : 0 < coll.slots
  pub slots : coll.slots % BLOCK_SLOTS ≡ 0
  pub entries : coll.entries % BLOCK_SLOTS ≡ 0
  pub room : coll.slots ≤ coll.entries

-- what every region keeps
pub record IsShape (shape : Layout) : Type 0 where
  pub some_pass : 0 < shape.passes
  pub passes : shape.passes ≤ MAX_PASSES
  pub some_coll : 0 < length shape.colls
  pub colls : length shape.colls ≤ MAX_COLLS
  pub coll : (c : ℕ) → c < length shape.colls → IsCollection (coll_of shape c)
  pub words : words_of shape ≤ MAX_WORDS
