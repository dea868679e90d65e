-- What the playing of a schedule says of the text that was to be read, and of what was written.
use Rattle.std.specs.Prelude.{◌≡◌, ◌⊎◌, ℕ, ◌+◌, Option, List, [], IfSome, ⊤}
use Rattle.std.specs.Io.KnownBytes.{Appends, Keeps}
use Rattle.smc_outside.specs.Pieces.{AppendsFront}
use Rattle.smc_outside.specs.Told.{OnTold}
use Rattle.smc_lines.specs.Lines.{lines, IsWithin}
use Rattle.smc_lines.specs.Reading.{PassesLimit}
use Rattle.smc_lines.specs.declared.fault.LinesFault.{LinesFault}
use Rattle.smc_lines.specs.declared.fault.LinesFault.TheVariants as fault
use Rattle.smc_lines.specs.declared.limits.TheConstants.{MAX_LINES}
use Rattle.smc_play.specs.Texts.{PlaysText}
use Rattle.smc_play.specs.declared.ending.Ending.{Ending}
use Rattle.smc_play.specs.declared.ending.Ending.TheVariants.{All, RefusedAt}
use Rattle.smc_play.specs.declared.play.PlayEnd.{PlayEnd}
use Rattle.smc_play.specs.declared.play.PlayEnd.TheVariants.{Done, BadLine, ReadFault, WriteFault, NoMemory}

-- how it ends where the input has no lines
abbrev pub past_limit : LinesFault → PlayEnd
past_limit fault.ReadFault = ReadFault
past_limit (fault.TooLong line) = BadLine line
past_limit fault.TooMany = BadLine (MAX_LINES + 1)
past_limit fault.NoMemory = NoMemory

-- how it ends where the answers were written
abbrev pub ends_as : Ending → PlayEnd
ends_as All = Done
ends_as (RefusedAt line) = BadLine line

-- the first line of the text past a limit is this one
abbrev pub IsPastLimit : ℕ → List ℕ → Type 0
IsPastLimit line text = (fault : LinesFault) × (past_limit fault ≡ BadLine line) × PassesLimit fault text

-- the text is within the limits, and this is what it prints, and how it ends
abbrev pub Prints : List ℕ → Ending → List ℕ → Type 0
Prints printed ending text = IsWithin text × PlaysText (lines text) printed ending

-- the text prints this, where it is told, and what was written grew in this way by it
abbrev pub Answers : (Option (List ℕ) → Option (List ℕ) → List ℕ → Type 0) → Ending → Option (List ℕ) → Option (List ℕ) → Option (List ℕ) → Type 0
Answers grows ending text before after = (printed : List ℕ) × IfSome text (Prints printed ending) × grows before after printed

-- what each end says
abbrev pub PlayEnds : PlayEnd → Option (List ℕ) → Option (List ℕ) → Option (List ℕ) → Type 0
PlayEnds Done text before after = Answers Appends All text before after
PlayEnds (BadLine line) text before after = (IfSome text (IsPastLimit line) × Keeps before after) ⊎ Answers Appends (RefusedAt line) text before after
PlayEnds WriteFault text before after = (ending : Ending) × Answers AppendsFront ending text before after
PlayEnds ReadFault text before after = Keeps before after
PlayEnds NoMemory text before after = Keeps before after

-- an end that comes after all of the input was read leaves nothing of it
abbrev pub PlayReads : PlayEnd → Option (List ℕ) → Option (List ℕ) → Type 0
PlayReads Done before after = OnTold before after (λ _ left. left ≡ [])
PlayReads WriteFault before after = OnTold before after (λ _ left. left ≡ [])
PlayReads _ before after = ⊤
