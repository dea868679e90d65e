-- What the region decides while a script is run: the numbers of objects, and how packings end.
use Rattle.std.specs.Prelude.{List, Option, drop, slice_get, option_and_then}
use Rattle.smc_words.specs.declared.number.Number.{Number}
use Rattle.smc_compact.specs.declared.packing.Packed.{Packed}

-- for each row that is to be added, in turn, the number of its object, or none where there is no room for it; and for each packing how it ends
pub record Given : Type 0 where
  pub adds : List (Option Number)
  pub packs : List Packed

-- the number that the next row's object is given, if it is given one
abbrev pub next_number : Given → Option Number
next_number given = option_and_then (λ number. number) (slice_get given.adds 0)

-- how the next packing ends
abbrev pub next_packing : Given → Option Packed
next_packing given = slice_get given.packs 0

-- what is left behind the next row
abbrev pub behind_row : Given → Given
behind_row given = record given { adds = drop 1 given.adds }

-- what is left behind the next packing
abbrev pub behind_packing : Given → Given
behind_packing given = record given { packs = drop 1 given.packs }
