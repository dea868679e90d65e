-- When a row of numbers mirrors a memory.
use Rattle.std.specs.Prelude.{◌≡◌, ℕ, Bool, true, IsTrue, List, length, slice_index}
use Rattle.smc_shape.specs.Layout.{Layout, IsShape, words_of}
use Rattle.smc_shape.specs.Places.{InRange, at}
use Rattle.smc_shape.specs.declared.place.Place.{Place}
use Rattle.smc_core.specs.declared.op.Op.{Op}
use Rattle.smc_core.specs.declared.word.Word.{Word}
use Rattle.smc_core.specs.Row.{packed, unpacked, Suits, OpFits, place_of, row_after, row_shows}
use Rattle.smc_rules.specs.Memory.{Memory, apply, seen}

-- at these places of the region the row has the packed words of the memory, and they suit their places
pub record MirrorsAt (shape : Layout) (these : Place → Bool) (row : List ℕ) (memory : Memory) : Type 0 where
  pub long : length row ≡ words_of shape
  pub words : (there : Place) → IsTrue (these there) → InRange shape there → slice_index row (at shape there) ≡ packed (memory there)
  pub suits : (there : Place) → IsTrue (these there) → InRange shape there → Suits there (memory there)

-- any place
abbrev pub anywhere : Place → Bool
anywhere there = true

-- the row mirrors the memory, at every place of the region
abbrev pub Mirrors : Layout → List ℕ → Memory → Type 0
Mirrors shape row memory = MirrorsAt shape anywhere row memory

-- a word that suits its place is read back from its number
abbrev pub ReadsBack : Type 0
ReadsBack = (there : Place) (w : Word) → Suits there w → unpacked there (packed w) ≡ w

-- the operation on the row is the operation on the memory, and shows the same word
pub record IsMirrored (shape : Layout) (these : Place → Bool) (row : List ℕ) (memory : Memory) (op : Op) : Type 0 where
  pub mirrors : MirrorsAt shape these (row_after shape op row) (apply op memory)
  pub shows : IsTrue (these (place_of op)) → row_shows shape op row ≡ seen op memory

-- where a row mirrors a memory at these places, it does so after each operation that fits, if it is on one of them
abbrev pub KeepsMirror : Type 0
KeepsMirror = (shape : Layout) (these : Place → Bool) (row : List ℕ) (memory : Memory) (op : Op)
    → IsShape shape → MirrorsAt shape these row memory → (IsTrue (these (place_of op)) → OpFits shape op)
    → IsMirrored shape these row memory op
