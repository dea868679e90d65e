-- The walk of a begin or a survey that counts the objects of a collection, and the blocks that they lie in.
use Rattle.std.specs.Prelude.{ℕ, ◌+◌, ◌-◌, ◌/◌, nat_lt, Bool, true, false, Option, Some, None, if◌then◌else◌}
use Rattle.smc_words.specs.declared.dir.Dir.{Dir}
use Rattle.smc_words.specs.declared.dir.Dir.TheVariants as dir
use Rattle.smc_words.specs.declared.number.Number.{Number}
use Rattle.smc_shape.specs.Layout.{Layout, slots_of}
use Rattle.smc_shape.specs.declared.coll.TheConstants.{BLOCK_SLOTS}
use Rattle.smc_shape.specs.declared.place.Place.TheVariants as place
use Rattle.smc_core.specs.declared.change.Change.{Change}
use Rattle.smc_core.specs.declared.done.Done.TheVariants as done
use Rattle.smc_core.specs.declared.kind.Kind.TheVariants as kind
use Rattle.smc_core.specs.declared.op.Offer.{Offer}
use Rattle.smc_core.specs.declared.op.Op.TheVariants.{Load}
use Rattle.smc_core.specs.declared.phase.Phase.TheVariants as phase
use Rattle.smc_core.specs.declared.phase.moves.Count.{Count}
use Rattle.smc_core.specs.declared.phase.moves.CountPhase.{CountPhase}
use Rattle.smc_core.specs.declared.phase.moves.CountPhase.TheVariants as walk
use Rattle.smc_core.specs.declared.phase.moves.Counting.{Counting}
use Rattle.smc_core.specs.declared.phase.moves.Counting.TheVariants.{Walks, Counted}
use Rattle.smc_core.specs.declared.word.Word.{Word}
use Rattle.smc_core.specs.Step.{step, goes, ends}
use Rattle.smc_core.specs.Words.{dir_of, back_of, state_of, has_object_at}

-- the block of a slot
abbrev pub block_of : ℕ → ℕ
block_of slot = slot / BLOCK_SLOTS

-- the blocks that so many objects need
abbrev pub blocks_for : ℕ → ℕ
blocks_for objects = (objects + BLOCK_SLOTS - 1) / BLOCK_SLOTS

-- whether a directory word says that an object is in the slot
abbrev pub is_valid : Dir → Bool
is_valid dir.Valid = true
is_valid _ = false

-- nothing is counted yet
abbrev pub no_count : Count
no_count = record { objects = 0; blocks = 0; next = 0 }

-- one more object is counted, and its block where no object of it was counted before
abbrev pub with_object : ℕ → Count → Count
with_object slot count = record {
  objects = count.objects + 1;
  blocks = if nat_lt (block_of slot) count.next then count.blocks else count.blocks + 1;
  next = block_of slot + 1;
}

-- the step of a counting walk
abbrev pub count_offer : CountPhase → Offer
count_offer (walk.Directory coll slot count) = step kind.LoadDirectory (Load (place.Directory coll slot))
count_offer (walk.Back coll slot count) = step kind.LoadBack (Load (place.Back coll slot))
count_offer (walk.Entry coll slot count number) = step kind.LoadEntry (Load (place.Entry number.coll number.entry))

-- the walk goes on with the next slot, or has passed all
abbrev pub count_next : Layout → ℕ → ℕ → Count → Counting
count_next shape coll slot count = if nat_lt (slot + 1) (slots_of shape coll) then Walks (walk.Directory coll (slot + 1) count) else Counted coll count

-- the entry of the slot's owner is loaded; a slot without one is passed
abbrev pub count_owner : Layout → ℕ → ℕ → Count → Option Number → Counting
count_owner shape coll slot count None = count_next shape coll slot count
count_owner shape coll slot count (Some number) = Walks (walk.Entry coll slot count number)

-- where the walk is after a step: an object counts where it is present in the slot that names it
abbrev pub counting : Layout → CountPhase → Word → Counting
counting shape (walk.Directory coll slot count) w = if is_valid (dir_of w) then Walks (walk.Back coll slot count) else count_next shape coll slot count
counting shape (walk.Back coll slot count) w = count_owner shape coll slot count (back_of w)
counting shape (walk.Entry coll slot count number) w = count_next shape coll slot (if has_object_at number.incarnation slot (state_of w) then with_object slot count else count)

-- what a step of a survey changes
abbrev pub survey_change : Counting → Change
survey_change (Walks next) = goes (phase.Survey next)
survey_change (Counted coll count) = ends (done.Surveyed coll count.objects count.blocks)
