-- What the reading of a whole text answers.
use Rattle.std.specs.Prelude.{◌≡◌, ℕ, ◌+◌, ◌*◌, ◌≤◌, ◌<◌, List, [], ◌∷◌, ◌++◌, length, map, drop, All, Result, Ok, Err, ⊤}
use Rattle.std.specs.declared.option.Option.{Option}
use Rattle.std.specs.Io.KnownBytes.{Keeps}
use Rattle.std.specs.Str.Lines.{strip_carriage_return}
use Rattle.smc_lines.specs.Lines.{ended_lines, lines, IsShort, IsWithin}
use Rattle.smc_lines.specs.declared.fault.LinesFault.{LinesFault}
use Rattle.smc_lines.specs.declared.fault.LinesFault.TheVariants.{ReadFault, TooLong, TooMany, NoMemory}
use Rattle.smc_lines.specs.declared.limits.TheConstants.{MAX_LINE, MAX_LINES}

-- the text has a line of this number, from 1, of which this holds, and every line before it is short
pub record HasLineAt (number : ℕ) (text : List ℕ) (fact : List ℕ → Type 0) : Type 0 where
  pub before : List (List ℕ)
  pub line : List ℕ
  pub behind : List (List ℕ)
  pub parts : lines text ≡ before ++ line ∷ behind
  pub place : length before + 1 ≡ number
  pub short : All IsShort before
  pub holds : fact line

-- the first line past a limit is the one that the fault names
abbrev pub PassesLimit : LinesFault → List ℕ → Type 0
PassesLimit (TooLong number) text = (number ≤ MAX_LINES) × HasLineAt number text (λ line. ¬ IsShort line)
PassesLimit TooMany text = HasLineAt (MAX_LINES + 1) text (λ line. ⊤)
PassesLimit ReadFault text = ⊥
PassesLimit NoMemory text = ⊥

-- some front of the text was read, and no limit was passed in it
pub record HasFront (text later : List ℕ) : Type 0 where
  pub front : List ℕ
  pub parts : text ≡ front ++ later
  pub within : IsWithin front

-- what an answer says of the text that was left before, and of the text that is left after
abbrev pub Reads : Result (List (List ℕ)) LinesFault → List ℕ → List ℕ → Type 0
Reads (Ok read) text later = (read ≡ lines text) × IsWithin text × (later ≡ [])
Reads (Err ReadFault) text later = HasFront text later
Reads (Err NoMemory) text later = ⊤
Reads (Err fault) text later = PassesLimit fault text

-- of the text and whatever follows it: the lines before this place have ended, so many, and each is short
pub record HasEnded (text : List ℕ) (start ended : ℕ) : Type 0 where
  pub before : List (List ℕ)
  pub parts : (rest : List ℕ) → ended_lines (text ++ rest) ≡ before ++ ended_lines (drop start text ++ rest)
  pub count : length before ≡ ended
  pub short : All IsShort (map strip_carriage_return before)
  pub place : start ≤ length text
  pub small : start ≤ ended * (MAX_LINE + 2)
  pub few : ended ≤ MAX_LINES

-- a line behind so many others is past the limit that the fault names
abbrev pub IsRefused : LinesFault → List ℕ → ℕ → Type 0
IsRefused (TooLong number) line before = (number ≡ before + 1) × (before < MAX_LINES) × ¬ IsShort line
IsRefused TooMany line before = before ≡ MAX_LINES
IsRefused ReadFault line before = ⊥
IsRefused NoMemory line before = ⊥

-- what was read with what is left behind it is the same after a call, unless memory ran out
abbrev pub IsRead : {T : Type 0} → Result T LinesFault → Option (List ℕ) → Option (List ℕ) → Type 0
IsRead (Err NoMemory) before after = ⊤
IsRead result before after = Keeps before after

-- a fault that no text has
abbrev pub IsOutside : LinesFault → Type 0
IsOutside ReadFault = ⊤
IsOutside NoMemory = ⊤
IsOutside _ = ⊥

-- the fact of the answer, unless memory ran out
abbrev pub UnlessMemory : {T : Type 0} → Result T LinesFault → (Result T LinesFault → Type 0) → Type 0
UnlessMemory (Err NoMemory) fact = ⊤
UnlessMemory answer fact = fact answer
