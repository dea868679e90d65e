-- What a step inside a section leaves of what the section keeps at run time.
use Rattle.std.specs.Prelude.{ℕ, ◌+◌, ◌-◌, ◌^◌, ◌<◌, List, slice_set}
use Rattle.smc_shape.specs.Layout.{Layout, slots_of}
use Rattle.smc_shape.specs.declared.place.Place.TheVariants as place
use Rattle.smc_core.specs.declared.call.Call.TheVariants as call
use Rattle.smc_core.specs.declared.call.Choice.{Choice}
use Rattle.smc_core.specs.declared.call.Choice.TheVariants.{Start}
use Rattle.smc_core.specs.declared.op.Op.{Op}
use Rattle.smc_core.specs.declared.op.Op.TheVariants.{Store}
use Rattle.smc_core.specs.declared.word.State.TheVariants as state
use Rattle.smc_core.specs.declared.word.Word.TheVariants as word
use Rattle.smc_core.specs.Ripe.{next_round}
use Rattle.smc_region.specs.declared.chosen.Chosen.{Chosen}
use Rattle.smc_region.specs.declared.chosen.Chosen.TheVariants as chosen

-- the choice does not end the section
abbrev pub IsWithin : Choice → Type 0
IsWithin (Start call.Leave) = ⊥
IsWithin choice = Unit {0}

-- how many scans the section has begun after such a choice
abbrev pub scans_with : ℕ → Chosen → ℕ
scans_with scans (chosen.Scan coll) = scans + 1
scans_with scans _ = scans

-- there may be one scan more
abbrev pub MayBegin : ℕ → Chosen → Type 0
MayBegin scans (chosen.Scan coll) = scans < 2 ^ 32 - 1
MayBegin scans _ = Unit {0}

-- the cursors after such an operation: the store of a new object leaves its collection's behind its slot
abbrev pub cursors_by : Layout → List ℕ → Op → List ℕ
cursors_by shape cursors (Store (place.Entry coll entry) (word.Entry (state.Present incarnation slot))) = slice_set cursors coll (next_round (slots_of shape coll) slot)
cursors_by shape cursors _ = cursors
