-- The places of a region's words, and the index of each in the row.
use Rattle.std.specs.Prelude.{◌≡◌, ℕ, ◌+◌, ◌*◌, ◌/◌, ◌%◌, ◌<◌, take, sum_by}
use Rattle.smc_shape.specs.declared.coll.TheConstants.{BLOCK_SLOTS}
use Rattle.smc_shape.specs.declared.place.Place.{Place}
use Rattle.smc_shape.specs.declared.place.Place.TheVariants.{Epoch, Round, Section, Entry, Directory, Back, Forward, Field}
use Rattle.smc_shape.specs.declared.place.TheConstants.{EPOCH_AT, ROUND_AT}
use Rattle.smc_shape.specs.declared.shape.TheConstants.{FIRST_SECTION}
use Rattle.smc_shape.specs.Layout.{Layout, coll_words, width_of, slots_of, entries_of, words_of}

-- the region has this place
abbrev pub InRange : Layout → Place → Type 0
InRange shape Epoch = Unit {0}
InRange shape Round = Unit {0}
InRange shape (Section pass) = pass < shape.passes
InRange shape (Entry c entry) = entry < entries_of shape c
InRange shape (Directory c slot) = slot < slots_of shape c
InRange shape (Back c slot) = slot < slots_of shape c
InRange shape (Forward c slot) = slot < slots_of shape c
InRange shape (Field c slot field) = (slot < slots_of shape c) × (field < width_of shape c)

-- where the words of a collection begin: behind the first words, the sections, and the collections before it
abbrev pub start_of : Layout → ℕ → ℕ
start_of shape c = FIRST_SECTION + shape.passes + sum_by coll_words (take c shape.colls)

-- where a field stands among the field words of a collection of this width: block after block of slots, and in a block
-- one field of all its slots after the other
abbrev pub field_offset : ℕ → ℕ → ℕ → ℕ
field_offset width slot field =
    slot / BLOCK_SLOTS * (BLOCK_SLOTS * width) + field * BLOCK_SLOTS + slot % BLOCK_SLOTS

-- the index of a place in the row of words: a collection has its entries, then its directory, its owners, its
-- forwarding words, and its fields
unfoldable pub at : Layout → Place → ℕ
at shape Epoch = EPOCH_AT
at shape Round = ROUND_AT
at shape (Section pass) = FIRST_SECTION + pass
at shape (Entry c entry) = start_of shape c + entry
at shape (Directory c slot) = start_of shape c + entries_of shape c + slot
at shape (Back c slot) = start_of shape c + entries_of shape c + slots_of shape c + slot
at shape (Forward c slot) = start_of shape c + entries_of shape c + 2 * slots_of shape c + slot
at shape (Field c slot field) =
    start_of shape c + entries_of shape c + 3 * slots_of shape c + field_offset (width_of shape c) slot field

-- the fields of every record stand so many words apart
abbrev pub IsStride : Layout → ℕ → Type 0
IsStride shape stride = (c slot field : ℕ) → at shape (Field c slot field) ≡ at shape (Field c slot 0) + field * stride

-- no two places of the region have one index
abbrev pub LieApart : Layout → Type 0
LieApart shape = (p q : Place) → InRange shape p → InRange shape q → at shape p ≡ at shape q → p ≡ q

-- each place of the region has a word of its row
abbrev pub LieWithin : Layout → Type 0
LieWithin shape = (p : Place) → InRange shape p → at shape p < words_of shape

-- the word with this index is that of a place of the region
pub record HasPlace (shape : Layout) (index : ℕ) : Type 0 where
  pub place : Place
  pub in_range : InRange shape place
  pub here : at shape place ≡ index

-- each word of the region's row is that of a place
abbrev pub FillRow : Layout → Type 0
FillRow shape = (index : ℕ) → index < words_of shape → HasPlace shape index

-- this place of the region and no other has this index
abbrev pub IsOnlyAt : Layout → Place → ℕ → Type 0
IsOnlyAt shape place index = (at shape place ≡ index) × ((p : Place) → InRange shape p → at shape p ≡ index → p ≡ place)
