-- The words of references.
use Rattle.std.specs.Prelude.{◌≡◌, ◌≢◌, ◌⊎◌, ℕ}
use Rattle.smc_words.specs.Number.{packed_number, FitsNumber}
use Rattle.smc_words.specs.declared.layout.TheConstants.{BLANK}
use Rattle.smc_words.specs.declared.number.Number.{Number}
use Rattle.smc_words.specs.declared.number.TheConstants.Number.{NULL}

-- a reference is null or the number of an object
abbrev pub IsReference : ℕ → Type 0
IsReference word = (word ≡ NULL) ⊎ ((number : Number) × FitsNumber number × (packed_number number ≡ word))

-- a word that is not the blank one
abbrev pub IsFilled : ℕ → Type 0
IsFilled word = word ≢ BLANK
