-- The row of 64-bit numbers: how each word is packed, and what an operation makes of the row.
use Rattle.std.specs.Prelude.{ℕ, ◌-◌, ◌/◌, ◌%◌, ◌<◌, ◌==◌, ◌&&◌, ◌^◌, nat_lt, nat_le, Bool, true, false, Option, Some, None, List, slice_index, slice_set, bit_or, if◌then◌else◌}
use Rattle.smc_words.specs.declared.layout.TheConstants.{COLLECTIONS, ENTRIES, EPOCHS, INCARNATIONS}
use Rattle.smc_words.specs.declared.dir.Dir.{Dir}
use Rattle.smc_words.specs.declared.dir.Dir.TheVariants as dir
use Rattle.smc_words.specs.declared.entry.Entry.{Entry}
use Rattle.smc_words.specs.declared.entry.TheConstants.Entry.{FREE, GONE, LOCKED, FROZEN}
use Rattle.smc_words.specs.declared.number.Number.{Number}
use Rattle.smc_words.specs.declared.round.RoundWord.{RoundWord}
use Rattle.smc_words.specs.Dir.{packed_dir, FitsDir}
use Rattle.smc_words.specs.Entry.{packed_entry}
use Rattle.smc_words.specs.Number.{packed_number, FitsNumber}
use Rattle.smc_words.specs.RoundWord.{packed_round, FitsRound}
use Rattle.smc_shape.specs.Layout.{Layout, slots_of, entries_of, width_of}
use Rattle.smc_shape.specs.Places.{InRange, at}
use Rattle.smc_shape.specs.declared.place.Place.{Place}
use Rattle.smc_shape.specs.declared.place.Place.TheVariants as place
use Rattle.smc_core.specs.declared.op.Op.{Op}
use Rattle.smc_core.specs.declared.op.Op.TheVariants.{Load, Store, Exchange, MarkGone}
use Rattle.smc_core.specs.declared.word.State.{State}
use Rattle.smc_core.specs.declared.word.State.TheVariants as state
use Rattle.smc_core.specs.declared.word.Word.{Word}
use Rattle.smc_core.specs.declared.word.Word.TheVariants as word

-- the entry in this state, with its payload and its marks
abbrev pub entry_of : State → Entry
entry_of (state.Free incarnation stamp) = record { incarnation = incarnation; payload = stamp; frozen = false; locked = false; gone = true; free = true }
entry_of (state.Claimed incarnation) = record { incarnation = incarnation; payload = 0; frozen = false; locked = true; gone = true; free = true }
entry_of (state.Present incarnation slot) = record { incarnation = incarnation; payload = slot; frozen = false; locked = false; gone = false; free = false }
entry_of (state.Frozen incarnation slot) = record { incarnation = incarnation; payload = slot; frozen = true; locked = false; gone = false; free = false }
entry_of (state.Locked incarnation slot) = record { incarnation = incarnation; payload = slot; frozen = true; locked = true; gone = false; free = false }
entry_of (state.Removed incarnation slot frozen locked) = record { incarnation = incarnation; payload = slot; frozen = frozen; locked = locked; gone = true; free = false }

-- the number that stands for a word
abbrev pub packed : Word → ℕ
packed (word.Plain number) = number
packed (word.Round None) = 0
packed (word.Round (Some round)) = packed_round round
packed (word.Entry state) = packed_entry (entry_of state)
packed (word.Directory dir) = packed_dir dir
packed (word.Back None) = 0
packed (word.Back (Some number)) = packed_number number
packed (word.Forward slot) = slot

-- the slot that a number names, by the bits that an index has
abbrev pub slot_in : ℕ → ℕ
slot_in number = number % ENTRIES

-- the state that an entry is in: of marks that are never together, the first of these counts
abbrev pub state_in : Entry → State
state_in entry =
    if entry.free then (if entry.locked then state.Claimed entry.incarnation else state.Free entry.incarnation entry.payload)
    else if entry.gone then state.Removed entry.incarnation (slot_in entry.payload) entry.frozen entry.locked
    else if entry.locked then state.Locked entry.incarnation (slot_in entry.payload)
    else if entry.frozen then state.Frozen entry.incarnation (slot_in entry.payload)
    else state.Present entry.incarnation (slot_in entry.payload)

-- what one stamp, one payload or one of another part is worth in its word
abbrev pub stamp_unit : ℕ
stamp_unit = packed_dir (dir.Limbo 1) - packed_dir (dir.Limbo 0)

abbrev pub payload_unit : ℕ
payload_unit = packed_entry (record { incarnation = 0; payload = 1; frozen = false; locked = false; gone = false; free = false })

abbrev pub incarnation_unit : ℕ
incarnation_unit = packed_entry (record { incarnation = 1; payload = 0; frozen = false; locked = false; gone = false; free = false })

abbrev pub number_unit : ℕ
number_unit = packed_number (record { incarnation = 1; entry = 0; coll = 0 })

abbrev pub index_unit : ℕ
index_unit = packed_number (record { incarnation = 0; entry = 1; coll = 0 })

abbrev pub pass_unit : ℕ
pass_unit = packed_round (record { bound = 0; pass = 1; coll = 0 })

abbrev pub coll_unit : ℕ
coll_unit = packed_round (record { bound = 0; pass = 0; coll = 1 })

-- the entry that a number is the word of
abbrev pub unpacked_entry : ℕ → Entry
unpacked_entry number = record {
  incarnation = number / incarnation_unit;
  payload = number % incarnation_unit / payload_unit;
  frozen = nat_le FROZEN (number % payload_unit);
  locked = nat_le LOCKED (number % FROZEN);
  gone = nat_le GONE (number % LOCKED);
  free = nat_le FREE (number % GONE);
}

-- what a number says as a directory word; one that is none says what nobody may use
abbrev pub unpacked_dir : ℕ → Dir
unpacked_dir number =
    if number == packed_dir dir.Free then dir.Free
    else if number == packed_dir dir.Incoming then dir.Incoming
    else if number == packed_dir dir.Valid then dir.Valid
    else if number == packed_dir (dir.Limbo (number / stamp_unit)) && nat_lt (number / stamp_unit) EPOCHS then dir.Limbo (number / stamp_unit)
    else dir.Claimed

-- the object number that a number is the word of, if it is one
abbrev pub unpacked_number : ℕ → Option Number
unpacked_number number =
    if nat_lt 0 (number / number_unit) && nat_lt (number / number_unit) INCARNATIONS
    then Some (record { incarnation = number / number_unit; entry = number % number_unit / index_unit; coll = number % index_unit })
    else None

-- the round that a number is the word of, if it is one
abbrev pub unpacked_round : ℕ → Option RoundWord
unpacked_round number =
    if nat_lt 0 (number % pass_unit) && nat_lt (number / coll_unit) COLLECTIONS
    then Some (record { bound = number % pass_unit; pass = number % coll_unit / pass_unit; coll = number / coll_unit })
    else None

-- what a number says at a place
abbrev pub unpacked : Place → ℕ → Word
unpacked place.Epoch number = word.Plain number
unpacked place.Round number = word.Round (unpacked_round number)
unpacked (place.Section pass) number = word.Plain number
unpacked (place.Entry coll entry) number = word.Entry (state_in (unpacked_entry number))
unpacked (place.Directory coll slot) number = word.Directory (unpacked_dir number)
unpacked (place.Back coll slot) number = word.Back (unpacked_number number)
unpacked (place.Forward coll slot) number = word.Forward (slot_in number)
unpacked (place.Field coll slot field) number = word.Plain number

-- the parts of a state fit its word
abbrev pub FitsState : State → Type 0
FitsState (state.Free incarnation stamp) = (incarnation < INCARNATIONS) × (stamp < EPOCHS)
FitsState (state.Claimed incarnation) = incarnation < INCARNATIONS
FitsState (state.Present incarnation slot) = (incarnation < INCARNATIONS) × (slot < ENTRIES)
FitsState (state.Frozen incarnation slot) = (incarnation < INCARNATIONS) × (slot < ENTRIES)
FitsState (state.Locked incarnation slot) = (incarnation < INCARNATIONS) × (slot < ENTRIES)
FitsState (state.Removed incarnation slot frozen locked) = (incarnation < INCARNATIONS) × (slot < ENTRIES)

-- the word is of the class of the place, and its parts fit
abbrev pub Suits : Place → Word → Type 0
Suits place.Epoch (word.Plain number) = number < 2 ^ 64
Suits place.Round (word.Round None) = Unit {0}
Suits place.Round (word.Round (Some round)) = FitsRound round
Suits (place.Section pass) (word.Plain number) = number < 2 ^ 64
Suits (place.Entry coll entry) (word.Entry state) = FitsState state
Suits (place.Directory coll slot) (word.Directory dir) = FitsDir dir
Suits (place.Back coll slot) (word.Back None) = Unit {0}
Suits (place.Back coll slot) (word.Back (Some number)) = FitsNumber number
Suits (place.Forward coll slot) (word.Forward target) = target < ENTRIES
Suits (place.Field coll slot field) (word.Plain number) = number < 2 ^ 64
Suits _ _ = ⊥

-- the place that an operation is on
abbrev pub place_of : Op → Place
place_of (Load place) = place
place_of (Store place word) = place
place_of (Exchange place expect word) = place
place_of (MarkGone coll entry) = place.Entry coll entry

-- the operation is on a word of the region, with words that suit it
abbrev pub OpFits : Layout → Op → Type 0
OpFits shape (Load place) = InRange shape place
OpFits shape (Store place word) = InRange shape place × Suits place word
OpFits shape (Exchange place expect word) = InRange shape place × Suits place expect × Suits place word
OpFits shape (MarkGone coll entry) = InRange shape (place.Entry coll entry)

-- whether the region has this place
abbrev pub has_place : Layout → Place → Bool
has_place shape place.Epoch = true
has_place shape place.Round = true
has_place shape (place.Section pass) = nat_lt pass shape.passes
has_place shape (place.Entry coll entry) = nat_lt entry (entries_of shape coll)
has_place shape (place.Directory coll slot) = nat_lt slot (slots_of shape coll)
has_place shape (place.Back coll slot) = nat_lt slot (slots_of shape coll)
has_place shape (place.Forward coll slot) = nat_lt slot (slots_of shape coll)
has_place shape (place.Field coll slot field) = nat_lt slot (slots_of shape coll) && nat_lt field (width_of shape coll)

-- the number that the operation leaves where there was another
abbrev pub put : Op → ℕ → ℕ
put (Load place) number = number
put (Store place word) number = packed word
put (Exchange place expect word) number = if number == packed expect then packed word else number
put (MarkGone coll entry) number = bit_or number GONE

-- what the operation shows of the number; a store shows nothing
abbrev pub shown : Op → ℕ → Word
shown (Load place) number = unpacked place number
shown (Store there w) number = word.Plain 0
shown (Exchange place expect word) number = unpacked place number
shown (MarkGone coll entry) number = unpacked (place.Entry coll entry) number

-- the number at a place of the row; where the region has no such place it is 0
abbrev pub number_at : Layout → List ℕ → Place → ℕ
number_at shape row place = if has_place shape place then slice_index row (at shape place) else 0

-- the row after the operation; where the region has no such place nothing changes
abbrev pub row_after : Layout → Op → List ℕ → List ℕ
row_after shape op row =
    if has_place shape (place_of op) then slice_set row (at shape (place_of op)) (put op (slice_index row (at shape (place_of op)))) else row

-- what the operation shows of the row
abbrev pub row_shows : Layout → Op → List ℕ → Word
row_shows shape op row = shown op (number_at shape row (place_of op))
