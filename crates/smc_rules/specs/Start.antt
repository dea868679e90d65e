-- The state that a machine has in a world, and how a region starts: at rest, with the objects of a first world.
use Rattle.std.specs.Prelude.{◌≡◌, ◌≢◌, ◌↔◌, ℕ, ◌+◌, ◌<◌, ◌≤◌, IsSome, Some, None, List, length, slice_get, slice_index, if◌then◌else◌}
use Rattle.std.specs.Option.{option_map_or}
use Rattle.smc_words.specs.declared.dir.Dir.{Dir}
use Rattle.smc_words.specs.declared.dir.Dir.TheVariants as dir
use Rattle.smc_words.specs.declared.layout.TheConstants.{BLANK, INCARNATIONS}
use Rattle.smc_words.specs.declared.number.Number.{Number}
use Rattle.smc_shape.specs.Layout.{Layout, entries_of, slots_of, width_of}
use Rattle.smc_shape.specs.Places.{at}
use Rattle.smc_shape.specs.declared.place.Place.TheVariants as place
use Rattle.smc_model.specs.declared.object.Object.{Object}
use Rattle.smc_model.specs.World.{World, is_present, object_of, word_of}
use Rattle.smc_core.specs.declared.local.Local.{Local}
use Rattle.smc_core.specs.declared.local.Opening.{Opening}
use Rattle.smc_core.specs.declared.local.Stand.{Stand}
use Rattle.smc_core.specs.declared.word.State as E
use Rattle.smc_core.specs.declared.word.State.TheVariants as state
use Rattle.smc_core.specs.declared.word.Word.TheVariants as word
use Rattle.smc_core.specs.Local.{fresh}
use Rattle.smc_core.specs.Machine.{Machine, IsOpening, first_word}
use Rattle.smc_core.specs.Row.{has_place, unpacked}
use Rattle.smc_core.specs.Words.{has_object}
use Rattle.smc_rules.specs.Memory.{Memory}
use Rattle.smc_rules.specs.Mirror.{MirrorsAt, anywhere}
use Rattle.smc_rules.specs.Reads.{HasRecord, back_in, dir_in, forward_in, object, state_for, state_in}
use Rattle.smc_rules.specs.SlotRule.{HasGiven}
use Rattle.smc_rules.specs.State.{State}

-- ---- the state of a region

-- what the row says at each place of the region; other places say what they say in a region without objects
abbrev pub memory_behind : Layout → Opening → List ℕ → Memory
memory_behind shape opening row there = if has_place shape there then unpacked there (slice_index row (at shape there)) else first_word opening there

-- where the passes stand; those that the region lacks stand as at first
abbrev pub stands_behind : Layout → List Local → ℕ → Stand
stands_behind shape locals pass = option_map_or (λ l. l.stand) (slice_get locals pass) (fresh shape).stand

-- the state of this machine in this world
abbrev pub state_behind : Layout → Opening → Machine → World → State
state_behind shape opening m world = record { memory = memory_behind shape opening m.row; stands = stands_behind shape m.locals; world = world }

-- ---- how a region starts

-- each object of the world is of its number's collection, and has a word for each field of it
pub record FitsShape (shape : Layout) (world : World) : Type 0 where
  pub of_its_coll : (number : Number) (object : Object) → object_of world number ≡ Some object → object.coll ≡ number.coll
  pub whole : (number : Number) (object : Object) → object_of world number ≡ Some object → length object.words ≡ width_of shape number.coll

-- the entry's object is present in the slot, which is valid, names it, and has its record
pub record StandsThere (shape : Layout) (opening : Opening) (world : World) (memory : Memory) (coll entry own slot : ℕ) : Type 0 where
  pub entered : entry < entries_of shape coll
  pub within : slot < slots_of shape coll
  pub since : opening.incarnation < own
  pub low : own < INCARNATIONS
  pub valid : dir_in memory coll slot ≡ dir.Valid
  pub owner : back_in memory coll slot ≡ Some (object own entry coll)
  pub record_of_it : HasRecord shape world memory slot (object own entry coll)

-- at the start an entry is free, or has a present object
abbrev pub StartsEntry : Layout → Opening → World → Memory → ℕ → ℕ → E.State → Type 0
StartsEntry shape opening world memory coll entry (state.Free last stamp) = (opening.incarnation ≤ last) × (last < INCARNATIONS) × (stamp ≤ opening.epoch + 1)
StartsEntry shape opening world memory coll entry (state.Present own slot) = StandsThere shape opening world memory coll entry own slot
StartsEntry shape opening world memory coll entry _ = ⊥

-- a slot is free, or has a present object
abbrev pub StartsSlot : Memory → ℕ → ℕ → Dir → Type 0
StartsSlot memory coll slot dir.Free = Unit {0}
StartsSlot memory coll slot dir.Valid = (own entry : ℕ) × (state_in memory coll entry ≡ state.Present own slot)
StartsSlot memory coll slot _ = ⊥

-- a memory at rest, with the objects of this world
pub record IsAtStart (shape : Layout) (opening : Opening) (world : World) (memory : Memory) : Type 0 where
  -- no round, and no section
  pub epoch : memory place.Epoch ≡ word.Plain opening.epoch
  pub round : memory place.Round ≡ word.Round None
  pub sections : (pass : ℕ) → memory (place.Section pass) ≡ word.Plain 0
  -- entries and slots are free, or have a present object
  pub entries : (coll entry : ℕ) → StartsEntry shape opening world memory coll entry (state_in memory coll entry)
  pub slots : (coll slot : ℕ) → StartsSlot memory coll slot (dir_in memory coll slot)
  pub owners : (coll slot : ℕ) (number : Number) → back_in memory coll slot ≡ Some number → (number.coll ≡ coll) × (state_in memory coll number.entry ≡ state.Present number.incarnation slot)
  pub forwards : (coll slot : ℕ) → slot < slots_of shape coll → forward_in memory coll slot < slots_of shape coll
  -- the numbers of the world are those that entries have given out since the incarnation of the opening, and none else
  pub given : (number : Number) → IsSome (object_of world number) ↔ HasGiven opening.incarnation (state_for memory number) number.incarnation
  pub no_others : (number : Number) → entries_of shape number.coll ≤ number.entry → object_of world number ≡ None
  pub present : (number : Number) → is_present world number ≡ has_object number.incarnation (state_for memory number)
  -- no record has a blank word, and each has as many as its collection has fields
  pub values : (number : Number) (field value : ℕ) → word_of world number field ≡ Some value → value ≢ BLANK
  pub fits : FitsShape shape world

-- a region may start with this row, in this world: a region without objects does in the empty one
pub record IsStart (shape : Layout) (opening : Opening) (world : World) (row : List ℕ) : Type 0 where
  pub opens : IsOpening opening
  pub mirrors : MirrorsAt shape anywhere row (memory_behind shape opening row)
  pub at_rest : IsAtStart shape opening world (memory_behind shape opening row)

-- the state in which a memory starts: no pass has done anything
abbrev pub starting : Layout → Memory → World → State
starting shape memory world = record { memory = memory; stands = λ pass. (fresh shape).stand; world = world }
