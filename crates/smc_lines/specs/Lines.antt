-- The lines of a text, and the limits of a text.
use Rattle.std.specs.Prelude.{ℕ, ◌≤◌, ◌==◌, if◌then◌else◌, List, [], ◌∷◌, length, map, All}
use Rattle.std.specs.List.{onto_first}
use Rattle.std.specs.Str.Lines.{strip_carriage_return}
use Rattle.smc_lines.specs.declared.limits.TheConstants.{NEWLINE, MAX_LINE, MAX_LINES}

-- the lines of a text as they stand there; each ends with a newline, which the last one may lack
abbrev pub ended_lines : List ℕ → List (List ℕ)
ended_lines [] = []
ended_lines (byte ∷ text) = if byte == NEWLINE then [] ∷ ended_lines text else onto_first byte (ended_lines text)

-- the lines of a text, each less the one carriage return before its end
abbrev pub lines : List ℕ → List (List ℕ)
lines text = map strip_carriage_return (ended_lines text)

-- a line within the limit of length
abbrev pub IsShort : List ℕ → Type 0
IsShort line = length line ≤ MAX_LINE

-- a text within both limits
pub record IsWithin (text : List ℕ) : Type 0 where
  pub short : All IsShort (lines text)
  pub few : length (lines text) ≤ MAX_LINES
