-- The words of a line.
use Rattle.std.specs.Prelude.{ℕ, ◌==◌, List, [], None, Some}
use Rattle.std.specs.declared.option.Option.{Option}
use Rattle.std.specs.List.{slice_split}
use Rattle.smc_lines.specs.declared.limits.TheConstants.{SPACE}

-- what stands between the spaces of a text; between two spaces, and in an empty text, that is a word without bytes
abbrev pub words : List ℕ → List (List ℕ)
words text = slice_split (λ byte. byte == SPACE) text

-- the words of a text, where there is one
abbrev pub words_left : Option (List ℕ) → List (List ℕ)
words_left None = []
words_left (Some text) = words text
