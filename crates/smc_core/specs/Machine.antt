-- The machine: a row of numbers and a local state for each pass, and what lists of steps make of them.
use Rattle.std.specs.Prelude.{◌≡◌, ℕ, ◌==◌, ◌≤◌, ◌<◌, ◌&&◌, ◌||◌, Bool, false, Option, Some, None, List, [], ◌∷◌, length, replicate, slice_get, slice_index, slice_set, option_and_then, if◌then◌else◌}
use Rattle.smc_words.specs.declared.layout.TheConstants.{BLANK, INCARNATIONS}
use Rattle.smc_words.specs.declared.dir.Dir.TheVariants as dir
use Rattle.smc_shape.specs.Layout.{Layout, words_of}
use Rattle.smc_shape.specs.Places.{InRange, at}
use Rattle.smc_shape.specs.declared.place.Place.{Place}
use Rattle.smc_shape.specs.declared.place.Place.TheVariants as place
use Rattle.smc_core.specs.declared.call.Call.TheVariants as call
use Rattle.smc_core.specs.declared.call.Choice.{Choice}
use Rattle.smc_core.specs.declared.call.Choice.TheVariants.{Start}
use Rattle.smc_core.specs.declared.local.Learnt.{Learnt}
use Rattle.smc_core.specs.declared.local.Local.{Local}
use Rattle.smc_core.specs.declared.local.Opening.{Opening}
use Rattle.smc_core.specs.declared.op.Offer.{Offer}
use Rattle.smc_core.specs.declared.op.Op.{Op}
use Rattle.smc_core.specs.declared.section.TheConstants.{FIRST_EPOCH, LAST_EPOCH}
use Rattle.smc_core.specs.declared.word.State.TheVariants as state
use Rattle.smc_core.specs.declared.word.Word.{Word}
use Rattle.smc_core.specs.declared.word.Word.TheVariants as word
use Rattle.smc_core.specs.Local.{fresh, after}
use Rattle.smc_core.specs.Offer.{offer}
use Rattle.smc_core.specs.Row.{packed, row_after, row_shows}

-- a region at one moment: the numbers of its row, and what each pass knows
pub record Machine : Type 0 where
  pub row : List ℕ
  pub locals : List Local

-- whether a pass has learnt this note of another one
abbrev pub has_learnt : List Learnt → ℕ → ℕ → Bool
has_learnt [] other note = false
has_learnt (first ∷ later) other note = (first.pass == other && first.note == note) || has_learnt later other note

-- whether any pass has learnt it
abbrev pub is_learnt : List Local → ℕ → ℕ → Bool
is_learnt [] other note = false
is_learnt (first ∷ later) other note = has_learnt first.learnt other note || is_learnt later other note

-- the length of the log that a note of this pass tells, if the pass has made it
abbrev pub noted_length : List Local → ℕ → ℕ → Option ℕ
noted_length locals other note = option_and_then (λ l. slice_get l.notes note) (slice_get locals other)

-- what a choice is told by the other passes, if they allow it: a note of another pass is learnt once; nothing else asks
abbrev pub told_by : List Local → ℕ → Choice → Option ℕ
told_by locals pass (Start (call.Learn other note)) = if other == pass || is_learnt locals other note then None else noted_length locals other note
told_by locals pass choice = Some 0

-- what this pass offers by itself for the choice
abbrev pub local_offer : Layout → ℕ → Local → Choice → Option Offer
local_offer shape pass l choice = offer shape pass l.stand l.stand.section l.stand.phase choice

-- the machine after a step of this pass by this operation
abbrev pub stepped : Layout → Machine → ℕ → Local → Choice → ℕ → Op → Machine
stepped shape m pass l choice told op = record {
  row = row_after shape op m.row;
  locals = slice_set m.locals pass (after shape pass l choice told (row_shows shape op m.row));
}

-- the pass takes the step that it offers for the choice
pub record Steps (shape : Layout) (m : Machine) (pass : ℕ) (choice : Choice) (next : Machine) : Type 0 where
  pub local : Local
  pub offered : Offer
  pub told : ℕ
  pub here : slice_get m.locals pass ≡ Some local
  pub offers : local_offer shape pass local choice ≡ Some offered
  pub allows : told_by m.locals pass choice ≡ Some told
  pub leads : next ≡ stepped shape m pass local choice told offered.op

-- the steps of the list lead from one machine to another, one after the other
abbrev pub Leads : Layout → Machine → List (ℕ × Choice) → Machine → Type 0
Leads shape m [] last = m ≡ last
Leads shape m (first ∷ later) last = (next : Machine) × Steps shape m first.0 first.1 next × Leads shape next later last

-- where the epoch and the incarnations of a region may start
pub record IsOpening (opening : Opening) : Type 0 where
  pub first : FIRST_EPOCH ≤ opening.epoch
  pub last : opening.epoch ≤ LAST_EPOCH
  pub incarnation : opening.incarnation < INCARNATIONS

-- what a place says in a region that begins with no object
abbrev pub first_word : Opening → Place → Word
first_word opening place.Epoch = word.Plain opening.epoch
first_word opening place.Round = word.Round None
first_word opening (place.Section pass) = word.Plain 0
first_word opening (place.Entry coll entry) = word.Entry (state.Free opening.incarnation 0)
first_word opening (place.Directory coll slot) = word.Directory dir.Free
first_word opening (place.Back coll slot) = word.Back None
first_word opening (place.Forward coll slot) = word.Forward 0
first_word opening (place.Field coll slot field) = word.Plain BLANK

-- the row of a region that begins so, in the empty world
pub record IsOpened (shape : Layout) (opening : Opening) (row : List ℕ) : Type 0 where
  pub long : length row ≡ words_of shape
  pub words : (there : Place) → InRange shape there → slice_index row (at shape there) ≡ packed (first_word opening there)

-- the machine that begins with this row, and passes that have done nothing yet
abbrev pub started : Layout → List ℕ → Machine
started shape row = record { row = row; locals = replicate shape.passes (fresh shape) }

-- some list of steps leads from the row with which the region started to this row and these local states
abbrev pub Reach : Layout → List ℕ → List ℕ → List Local → Type 0
Reach shape start row locals = (steps : List (ℕ × Choice)) × Leads shape (started shape start) steps (record { row = row; locals = locals })
