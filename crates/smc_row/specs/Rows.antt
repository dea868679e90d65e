-- The row of a region without objects.
use Rattle.std.specs.Prelude.{ℕ, ◌+◌, ◌*◌, List, ◌∷◌, ◌++◌, replicate}
use Rattle.std.specs.List.{flat_map}
use Rattle.smc_words.specs.declared.layout.TheConstants.{BLANK}
use Rattle.smc_shape.specs.Layout.{Collection, Layout}
use Rattle.smc_core.specs.declared.local.Opening.{Opening}
use Rattle.smc_core.specs.declared.word.State.TheVariants as state
use Rattle.smc_core.specs.declared.word.Word.TheVariants as word
use Rattle.smc_core.specs.Row.{packed}

-- the numbers of a collection without objects: its entries, the three words of each slot, and its fields
abbrev pub opened_coll : ℕ → Collection → List ℕ
opened_coll free coll = replicate coll.entries free ++ (replicate (3 * coll.slots) 0 ++ replicate (coll.slots * coll.width) BLANK)

-- the word of an entry of a region that opens so
abbrev pub opened_entry : Opening → ℕ
opened_entry opening = packed (word.Entry (state.Free opening.incarnation 0))

-- the numbers of a region without objects: the epoch, the round and the section words, and its collections
abbrev pub opened_row : Layout → Opening → List ℕ
opened_row shape opening =
    opening.epoch ∷ (replicate (1 + shape.passes) 0 ++ flat_map (opened_coll (opened_entry opening)) shape.colls)
