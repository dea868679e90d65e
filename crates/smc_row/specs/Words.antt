-- Which words have a number.
use Rattle.std.specs.Prelude.{Some}
use Rattle.smc_words.specs.Dir.{FitsDir}
use Rattle.smc_words.specs.Number.{FitsNumber}
use Rattle.smc_words.specs.RoundWord.{FitsRound}
use Rattle.smc_core.specs.declared.word.Word.{Word}
use Rattle.smc_core.specs.declared.word.Word.TheVariants as word
use Rattle.smc_core.specs.Row.{FitsState}

-- each part of the word fits its bits
abbrev pub PartsFit : Word → Type 0
PartsFit (word.Round (Some round)) = FitsRound round
PartsFit (word.Entry state) = FitsState state
PartsFit (word.Directory dir) = FitsDir dir
PartsFit (word.Back (Some number)) = FitsNumber number
PartsFit _ = Unit {0}
