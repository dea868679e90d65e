-- The numbers that a column can hold, and the words in which they stand.
use Rattle.std.specs.Prelude.{ℕ, Bool, ◌&&◌, ℤ, pos, ◌+ℤ◌, ◌-ℤ◌, int_le, unsigned_abs}
use Rattle.std.specs.Int.{int_min, int_max}
use Rattle.smc_types.specs.declared.number.TheConstants.{OFFSET}

-- whether a number lies between these two or is one of them
abbrev pub is_from : ℤ → ℤ → ℤ → Bool
is_from least greatest number = int_le least number && int_le number greatest

-- the word of an Amount, a Rate or a Day
abbrev pub moved : ℤ → ℕ
moved number = unsigned_abs (number +ℤ OFFSET)

-- the number of such a word
abbrev pub moved_back : ℕ → ℤ
moved_back word = pos word -ℤ OFFSET

-- the nearest to a number from the least to the greatest
abbrev pub nearest : ℤ → ℤ → ℤ → ℤ
nearest least greatest number = int_max least (int_min number greatest)
