-- How a reader goes through a text, line by line.
use Rattle.std.specs.Prelude.{◌≡◌, ◌≢◌, ℕ, ◌+◌, ◌<◌, ◌≤◌, List, [], ◌∷◌, length, take, drop, None, Some, Result, Ok, Err, ⊤}
use Rattle.std.specs.declared.option.Option.{Option}
use Rattle.std.specs.Io.KnownBytes.{prepend_known}
use Rattle.std.specs.Str.Lines.{strip_carriage_return}
use Rattle.smc_tbl.specs.declared.fault.TblFault.{TblFault}
use Rattle.smc_tbl.specs.declared.fault.TblFault.TheVariants.{NoMemory, ReadFault, TooManyLines}
use Rattle.smc_tbl.specs.declared.bytes.TheConstants.{MAX_LINE}
use Rattle.smc_tbl.specs.declared.lines.Found.{Found}
use Rattle.smc_tbl.specs.declared.lines.Found.TheVariants.{Line, TooLong}
use Rattle.smc_tbl.specs.declared.lines.TheConstants.{MAX_LINES}
use Rattle.smc_types.specs.declared.row.Value.{Value}
use Rattle.smc_types.specs.declared.schema.Schema.{Schema}
use Rattle.smc_tbl.specs.Reader.{Reader}
use Rattle.smc_tbl.specs.TableText.{lines, Gives, SpellsRow}

-- the text of which no line was taken yet
abbrev pub untaken : Reader → Option (List ℕ) → Option (List ℕ)
untaken reader left = prepend_known reader.kept left

-- the text has a first line, of which this holds once the carriage return before its end is dropped
abbrev pub HasLine : List ℕ → (List ℕ → Type 0) → Type 0
HasLine text fact = (line : List ℕ) × (more : List (List ℕ)) × (lines text ≡ line ∷ more) × fact (strip_carriage_return line)

-- the same, and what is left of the text are the lines behind it
abbrev pub TakesLine : List ℕ → List ℕ → (List ℕ → Type 0) → Type 0
TakesLine text later fact = (line : List ℕ) × (lines text ≡ line ∷ lines later) × fact (strip_carriage_return line)

-- what an answer says of the text before it and of the text after it
abbrev pub Reads : Schema → Result (Option (List Value)) TblFault → List ℕ → List ℕ → Type 0
Reads schema (Ok None) text later = (text ≡ []) × (later ≡ [])
Reads schema (Ok (Some row)) text later = TakesLine text later (λ line. SpellsRow schema line row)
Reads schema (Err NoMemory) text later = ⊤
Reads schema (Err ReadFault) text later = later ≡ text
Reads schema (Err TooManyLines) text later = lines text ≢ []
Reads schema (Err fault) text later = HasLine text (λ line. Gives schema line (Err fault))

-- how many lines an answer takes: the one that it reads or refuses
abbrev pub lines_taken : Result (Option (List Value)) TblFault → ℕ
lines_taken (Ok None) = 0
lines_taken (Err ReadFault) = 0
lines_taken _ = 1

-- what an answer says of the number of lines that were taken before it
abbrev pub WithinLimit : ℕ → Result (Option (List Value)) TblFault → Type 0
WithinLimit number (Ok None) = ⊤
WithinLimit number (Err ReadFault) = ⊤
WithinLimit number (Err TooManyLines) = number ≡ MAX_LINES
WithinLimit number _ = number < MAX_LINES

-- the first line of the text has this length, and with its end takes that many bytes
abbrev pub FirstLineEnds : ℕ → ℕ → List ℕ → Type 0
FirstLineEnds size taken text = lines text ≡ take size text ∷ lines (drop taken text)

-- the first line of the text is longer than a row may be, whether or not a carriage return is dropped
abbrev pub HasLongLine : List ℕ → Type 0
HasLongLine text = (line : List ℕ) × (more : List (List ℕ)) × (lines text ≡ line ∷ more) × (MAX_LINE + 1 < length line)

-- what was found at the front of a text, or that it has no line
abbrev pub IsFound : Option Found → List ℕ → Type 0
IsFound None text = text ≡ []
IsFound (Some (Line found)) text = FirstLineEnds found.size found.taken text
IsFound (Some TooLong) text = HasLongLine text

-- a found line lies within the bytes that are kept
abbrev pub IsKept : Found → List ℕ → Type 0
IsKept (Line found) kept = (found.size ≤ found.taken) × (found.taken ≤ length kept)
IsKept TooLong kept = ⊤
