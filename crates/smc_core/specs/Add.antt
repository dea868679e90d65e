-- Add: a slot and an entry are claimed, the words are stored, and the object takes effect at the live entry.
use Rattle.std.specs.Prelude.{ℕ, ◌+◌, ◌==◌, ◌&&◌, nat_lt, Bool, Some, List, length, slice_index, if◌then◌else◌}
use Rattle.std.specs.List.{list_all}
use Rattle.smc_words.specs.declared.layout.TheConstants.{BLANK}
use Rattle.smc_words.specs.declared.dir.Dir.{Dir}
use Rattle.smc_words.specs.declared.dir.Dir.TheVariants as dir
use Rattle.smc_words.specs.declared.number.Number.{Number}
use Rattle.smc_shape.specs.Layout.{Layout, width_of, slots_of, entries_of}
use Rattle.smc_shape.specs.declared.place.Place.TheVariants as place
use Rattle.smc_model.specs.declared.event.Cause.{Cause}
use Rattle.smc_model.specs.declared.event.Cause.TheVariants.{Slots, Entries}
use Rattle.smc_model.specs.declared.event.Event.TheVariants as event
use Rattle.smc_core.specs.declared.change.Change.{Change}
use Rattle.smc_core.specs.declared.done.Done.TheVariants as done
use Rattle.smc_core.specs.declared.kind.Kind.TheVariants as kind
use Rattle.smc_core.specs.declared.op.Offer.{Offer}
use Rattle.smc_core.specs.declared.op.Op.TheVariants.{Load, Store, Exchange}
use Rattle.smc_core.specs.declared.phase.Phase.TheVariants as phase
use Rattle.smc_core.specs.declared.phase.objects.AddPhase.{AddPhase}
use Rattle.smc_core.specs.declared.phase.objects.AddPhase.TheVariants as add
use Rattle.smc_core.specs.declared.word.State.{State}
use Rattle.smc_core.specs.declared.word.State.TheVariants as state
use Rattle.smc_core.specs.declared.word.Word.{Word}
use Rattle.smc_core.specs.declared.word.Word.TheVariants as word
use Rattle.smc_core.specs.Ripe.{is_ripe_slot, is_ripe_entry, next_round}
use Rattle.smc_core.specs.Step.{step, goes, tells}
use Rattle.smc_core.specs.Words.{dir_of, state_of, same_word}

-- a word may stand in a field of an object: it is a word, and not the blank one, which is the largest
abbrev pub is_value : ℕ → Bool
is_value w = nat_lt w BLANK

-- so is each word of the record
abbrev pub has_no_blank : List ℕ → Bool
has_no_blank words = list_all is_value words

-- whether the collection takes such words, sought from this index on
abbrev pub takes : Layout → ℕ → ℕ → List ℕ → Bool
takes shape coll from words = nat_lt coll (length shape.colls) && nat_lt from (slots_of shape coll) && length words == width_of shape coll && has_no_blank words

-- the step of an add that stores these words
abbrev pub add_offer : List ℕ → AddPhase → Offer
add_offer words (add.FindSlot coll from slot tried) = step kind.LoadDirectory (Load (place.Directory coll slot))
add_offer words (add.ClaimSlot coll from slot tried seen) = step kind.ClaimSlot (Exchange (place.Directory coll slot) (word.Directory seen) (word.Directory dir.Claimed))
add_offer words (add.DropSlot coll slot) = step kind.DropSlot (Store (place.Directory coll slot) (word.Directory dir.Free))
add_offer words (add.FindEntry coll slot entry tried) = step kind.LoadEntry (Load (place.Entry coll entry))
add_offer words (add.ClaimEntry coll slot entry tried incarnation stamp) = step kind.ClaimEntry (Exchange (place.Entry coll entry) (word.Entry (state.Free incarnation stamp)) (word.Entry (state.Claimed (incarnation + 1))))
add_offer words (add.StoreBack slot number) = step kind.StoreBack (Store (place.Back number.coll slot) (word.Back (Some number)))
add_offer words (add.StoreField slot number field) = step kind.StoreField (Store (place.Field number.coll slot field) (word.Plain (slice_index words field)))
add_offer words (add.StoreValid slot number) = step kind.StoreValid (Store (place.Directory number.coll slot) (word.Directory dir.Valid))
add_offer words (add.StoreLive slot number) = step kind.StoreLive (Store (place.Entry number.coll number.entry) (word.Entry (state.Present number.incarnation slot)))

-- the object is not added, for want of room
abbrev pub refuses : ℕ → Cause → Change
refuses coll cause = tells (event.Refused coll cause) (done.Full cause)

-- the add goes on with the next slot round to the front, or, where each was looked at, ends
abbrev pub next_slot : Layout → ℕ → ℕ → ℕ → ℕ → Change
next_slot shape coll from slot tried = if nat_lt (tried + 1) (slots_of shape coll) then goes (phase.Add (add.FindSlot coll from (next_round (slots_of shape coll) slot) (tried + 1))) else refuses coll Slots

-- it goes on with the next entry round to the front, or, where each was looked at, gives its slot back
abbrev pub next_entry : Layout → ℕ → ℕ → ℕ → ℕ → Change
next_entry shape coll slot entry tried = if nat_lt (tried + 1) (entries_of shape coll) then goes (phase.Add (add.FindEntry coll slot (next_round (entries_of shape coll) entry) (tried + 1))) else goes (phase.Add (add.DropSlot coll slot))

-- a ripe slot is to be claimed
abbrev pub slot_seen : Layout → ℕ → ℕ → ℕ → ℕ → ℕ → Dir → Change
slot_seen shape epoch coll from slot tried seen = if is_ripe_slot epoch seen then goes (phase.Add (add.ClaimSlot coll from slot tried seen)) else next_slot shape coll from slot tried

-- a free entry that is ripe and not spent is to be claimed
abbrev pub entry_seen : Layout → ℕ → ℕ → ℕ → ℕ → ℕ → State → Change
entry_seen shape epoch coll slot entry tried (state.Free incarnation stamp) = if is_ripe_entry epoch incarnation stamp then goes (phase.Add (add.ClaimEntry coll slot entry tried incarnation stamp)) else next_entry shape coll slot entry tried
entry_seen shape epoch coll slot entry tried _ = next_entry shape coll slot entry tried

-- the field is stored next, or, where it is none, that the slot is valid
abbrev pub store_field : Layout → ℕ → Number → ℕ → AddPhase
store_field shape slot number field = if nat_lt field (width_of shape number.coll) then add.StoreField slot number field else add.StoreValid slot number

-- what a step of an add changes, in a section at this epoch
abbrev pub add_change : Layout → ℕ → List ℕ → AddPhase → Word → Change
add_change shape epoch words (add.FindSlot coll from slot tried) w = slot_seen shape epoch coll from slot tried (dir_of w)
add_change shape epoch words (add.ClaimSlot coll from slot tried seen) w = if same_word w (word.Directory seen) then goes (phase.Add (add.FindEntry coll slot from 0)) else next_slot shape coll from slot tried
add_change shape epoch words (add.DropSlot coll slot) w = refuses coll Entries
add_change shape epoch words (add.FindEntry coll slot entry tried) w = entry_seen shape epoch coll slot entry tried (state_of w)
add_change shape epoch words (add.ClaimEntry coll slot entry tried incarnation stamp) w = if same_word w (word.Entry (state.Free incarnation stamp)) then goes (phase.Add (add.StoreBack slot (record { incarnation = incarnation + 1; entry = entry; coll = coll }))) else next_entry shape coll slot entry tried
add_change shape epoch words (add.StoreBack slot number) w = goes (phase.Add (store_field shape slot number 0))
add_change shape epoch words (add.StoreField slot number field) w = goes (phase.Add (store_field shape slot number (field + 1)))
add_change shape epoch words (add.StoreValid slot number) w = goes (phase.Add (add.StoreLive slot number))
add_change shape epoch words (add.StoreLive slot number) w = tells (event.Add number number.coll words) (done.Made slot)
