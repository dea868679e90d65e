-- What a whole schedule plays.
use Rattle.std.specs.Prelude.{◌≡◌, ◌⊎◌, ℕ, ◌+◌, Option, Some, None, List, [], ◌∷◌, ◌++◌, replicate, Ok, Err}
use Rattle.smc_shape.specs.Faults.{fault_of}
use Rattle.smc_shape.specs.Layout.{asked}
use Rattle.smc_shape.specs.declared.coll.CollShape.{CollShape}
use Rattle.smc_words.specs.declared.number.Number.{Number}
use Rattle.smc_core.specs.Machine.{IsOpened, started}
use Rattle.smc_lines.specs.Ahead.{Gives}
use Rattle.smc_lines.specs.Rest.{Rest}
use Rattle.smc_lines.specs.Words.{words}
use Rattle.smc_lines.specs.declared.cursor.Numbered.{Numbered}
use Rattle.smc_lines.specs.declared.fault.BadLine.{BadLine}
use Rattle.smc_schedule.specs.Header.{header_of}
use Rattle.smc_schedule.specs.Known.{known_as, name_at}
use Rattle.smc_schedule.specs.Lines.{line_of}
use Rattle.smc_schedule.specs.declared.header.Header.{Header}
use Rattle.smc_schedule.specs.declared.line.ScheduleLine.{ScheduleLine}
use Rattle.smc_play.specs.Plays.{playing, TakesLine, RefusesLine}
use Rattle.smc_play.specs.Turns.{Playing}
use Rattle.smc_play.specs.declared.ending.Ending.{Ending}
use Rattle.smc_play.specs.declared.ending.Ending.TheVariants.{All, RefusedAt}
use Rattle.smc_play.specs.declared.open.Opened.{Opened}
use Rattle.smc_play.specs.declared.player.Seat.{Seat}

-- nothing of this line was printed yet
abbrev pub cleared : Playing → Playing
cleared p = record p { text = [] }

-- the text of a line is played, and what it prints is what the player shows then
pub record PlaysLine (width : ℕ) (old : Playing) (text : List ℕ) (new : Playing) : Type 0 where
  pub line : ScheduleLine
  pub spelled : line_of width text ≡ Some line
  pub takes : TakesLine (cleared old) line new

-- the text is outside the grammar, or its line is refused
abbrev pub IsNotPlayed : ℕ → Playing → List ℕ → Type 0
IsNotPlayed width old text = (line_of width text ≡ None) ⊎ ((line : ScheduleLine) × (line_of width text ≡ Some line) × RefusesLine (cleared old) line)

-- the lines that are left are played one after the other, up to their end or to the first that is refused
pub data PlaysLines : ℕ → Playing → Rest → List ℕ → Ending → Type 0 where
  NoneLeft : (width : ℕ) (p : Playing) (before after : Rest) → Gives (Ok None) before after → PlaysLines width p before [] All
  NoText : (width : ℕ) (p : Playing) (before after : Rest) (bad : BadLine) → Gives (Err bad) before after → PlaysLines width p before [] (RefusedAt bad.line)
  NotPlayed : (width : ℕ) (p : Playing) (before after : Rest) (next : Numbered) → Gives (Ok (Some next)) before after
      → IsNotPlayed width p next.text.now → PlaysLines width p before [] (RefusedAt next.line)
  Played : (width : ℕ) (p q : Playing) (before after : Rest) (next : Numbered) (later : List ℕ) (ending : Ending) → Gives (Ok (Some next)) before after
      → PlaysLine width p next.text.now q → PlaysLines width q after later ending → PlaysLines width p before (q.text ++ later) ending

-- the one collection of a schedule
abbrev pub coll_of : Header → CollShape
coll_of header = record { width = header.width; slots = header.slots }

-- a pass that has begun nothing yet
abbrev pub empty_seat : Seat
empty_seat = record { call = None; scan = None }

-- a region opens as the first line says, with no names yet
pub record Opens (header : Header) (p : Playing) : Type 0 where
  pub shape : p.running.shape ≡ asked header.passes (coll_of header ∷ [])
  pub row : IsOpened p.running.shape header.opening p.running.machine.row
  pub fresh : p.running.machine ≡ started p.running.shape p.running.machine.row
  pub names : (name : List ℕ) → known_as p.names name ≡ None
  pub numbers : (number : Number) → name_at p.names number ≡ None
  pub seats : p.seats ≡ replicate p.running.shape.passes empty_seat

-- the text says no shape of a region
abbrev pub SaysNoShape : List ℕ → Type 0
SaysNoShape text = (header : Header) → header_of (words text) ≡ Some header → ¬ (fault_of header.passes (coll_of header ∷ []) ≡ None)

-- what comes of the text of a first line: a region that opens as it says, or none where it says no shape
abbrev pub OpensBy : List ℕ → Option Opened → Type 0
OpensBy text None = SaysNoShape text
OpensBy text (Some opened) = (header : Header) × (header_of (words text) ≡ Some header) × (opened.width ≡ header.width) × Opens header (playing opened.player)

-- a text: its first line that counts says the shape, and the lines behind it are played
pub data PlaysText : List (List ℕ) → List ℕ → Ending → Type 0 where
  NoLines : (lines : List (List ℕ)) (after : Rest) → Gives (Ok None) (record { number = 0; lines = lines }) after → PlaysText lines [] (RefusedAt (after.number + 1))
  NoFirst : (lines : List (List ℕ)) (after : Rest) (bad : BadLine) → Gives (Err bad) (record { number = 0; lines = lines }) after → PlaysText lines [] (RefusedAt bad.line)
  NoShape : (lines : List (List ℕ)) (after : Rest) (first : Numbered) → Gives (Ok (Some first)) (record { number = 0; lines = lines }) after
      → SaysNoShape first.text.now → PlaysText lines [] (RefusedAt first.line)
  Shaped : (lines : List (List ℕ)) (after : Rest) (first : Numbered) (header : Header) (p : Playing) (text : List ℕ) (ending : Ending)
      → Gives (Ok (Some first)) (record { number = 0; lines = lines }) after → header_of (words first.text.now) ≡ Some header → Opens header p
      → PlaysLines header.width p after text ending → PlaysText lines text ending
