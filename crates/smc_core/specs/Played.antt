-- How a schedule is played on the machine, line by line, and what can be seen once it is played.
use Rattle.std.specs.Prelude.{ℕ, ◌+◌, ◌*◌, zero, suc, Bool, true, false, Option, Some, None, List, [], ◌∷◌, ◌++◌, replicate, slice_get, slice_index, if◌then◌else◌}
use Rattle.smc_words.specs.declared.layout.TheConstants.{BLANK}
use Rattle.smc_words.specs.declared.dir.Dir.{Dir}
use Rattle.smc_words.specs.declared.number.Number.{Number}
use Rattle.smc_shape.specs.Layout.{Layout}
use Rattle.smc_shape.specs.Places.{at}
use Rattle.smc_shape.specs.declared.place.Place.TheVariants as place
use Rattle.smc_core.specs.declared.call.Call.{Call}
use Rattle.smc_core.specs.declared.call.Choice.{Choice}
use Rattle.smc_core.specs.declared.call.Choice.TheVariants.{Start, Go}
use Rattle.smc_core.specs.declared.done.Done.{Done}
use Rattle.smc_core.specs.declared.local.Answer.{Answer}
use Rattle.smc_core.specs.declared.local.Local.{Local}
use Rattle.smc_core.specs.declared.op.Offer.{Offer}
use Rattle.smc_core.specs.declared.phase.Phase.{Phase}
use Rattle.smc_core.specs.declared.phase.Phase.TheVariants as phase
use Rattle.smc_core.specs.declared.word.State.TheVariants as state
use Rattle.smc_core.specs.declared.word.Word.TheVariants as word
use Rattle.smc_core.specs.Machine.{Machine, local_offer, told_by, stepped, started}
use Rattle.smc_core.specs.Row.{packed, unpacked_dir}

-- a line of a schedule: the first step of a call, so many more steps of the call in progress, a call from its first
-- step to its end, or the call in progress to its end; each is of the pass that is named first
pub data Line : Type 0 where
  Starts : ℕ → Call → Line
  Takes : ℕ → ℕ → Line
  Calls : ℕ → Call → Line
  Ends : ℕ → Line

-- a region with one collection, the epoch and the incarnation with which it opens, and the lines to be played on it
pub record Schedule : Type 0 where
  pub passes : ℕ
  pub width : ℕ
  pub slots : ℕ
  pub epoch : ℕ
  pub incarnation : ℕ
  pub lines : List Line

-- the shape of its region
abbrev pub shape_of : Schedule → Layout
shape_of s = record { passes = s.passes; colls = record { width = s.width; slots = s.slots; entries = s.slots } ∷ [] }

-- the row with which the region opens: the epoch and the round; the section words; the entries; the words of the
-- directory, the owners and the targets; the fields
abbrev pub opening_row : Schedule → List ℕ
opening_row s =
    s.epoch ∷ 0 ∷ (replicate s.passes 0 ++ (replicate s.slots (packed (word.Entry (state.Free s.incarnation 0))) ++ (replicate (3 * s.slots) 0 ++ replicate (s.slots * s.width) BLANK)))

-- the machine after a step of this pass, where the other passes allow it
abbrev pub step_told : Layout → Machine → ℕ → Choice → Local → Offer → Option ℕ → Option Machine
step_told shape m pass choice l offered None = None
step_told shape m pass choice l offered (Some told) = Some (stepped shape m pass l choice told offered.op)

-- where it is offered
abbrev pub step_offered : Layout → Machine → ℕ → Choice → Local → Option Offer → Option Machine
step_offered shape m pass choice l None = None
step_offered shape m pass choice l (Some offered) = step_told shape m pass choice l offered (told_by m.locals pass choice)

-- where there is such a pass
abbrev pub step_local : Layout → Machine → ℕ → Choice → Option Local → Option Machine
step_local shape m pass choice None = None
step_local shape m pass choice (Some l) = step_offered shape m pass choice l (local_offer shape pass l choice)

-- the machine after this pass takes the step that it offers for the choice, if it offers one
abbrev pub step_of : Layout → Machine → ℕ → Choice → Option Machine
step_of shape m pass choice = step_local shape m pass choice (slice_get m.locals pass)

-- whether no call is in progress
abbrev pub is_idle : Phase → Bool
is_idle phase.Idle = true
is_idle _ = false

-- whether this pass has no call in progress
abbrev pub rests : Option Local → Bool
rests None = true
rests (Some l) = is_idle l.stand.phase

-- the machine once the call of this pass has ended, if that takes fewer steps than these
abbrev pub ended_in : ℕ → Layout → ℕ → Option Machine → Option Machine
ended_in zero shape pass m = None
ended_in (suc steps) shape pass None = None
ended_in (suc steps) shape pass (Some m) = if rests (slice_get m.locals pass) then Some m else ended_in steps shape pass (step_of shape m pass Go)

-- the machine after so many more steps of the call of this pass
abbrev pub taken : ℕ → Layout → ℕ → Option Machine → Option Machine
taken zero shape pass m = m
taken (suc steps) shape pass None = None
taken (suc steps) shape pass (Some m) = taken steps shape pass (step_of shape m pass Go)

-- more steps than a call of these schedules takes
abbrev pub MANY : ℕ
MANY = 3000

-- the machine after a line, if each of its steps is offered
abbrev pub after_line : Layout → Line → Option Machine → Option Machine
after_line shape line None = None
after_line shape (Starts pass call) (Some m) = step_of shape m pass (Start call)
after_line shape (Takes pass steps) (Some m) = taken steps shape pass (Some m)
after_line shape (Calls pass call) (Some m) = ended_in MANY shape pass (step_of shape m pass (Start call))
after_line shape (Ends pass) (Some m) = ended_in MANY shape pass (Some m)

-- the machine after all lines
abbrev pub after_lines : Layout → List Line → Option Machine → Option Machine
after_lines shape [] m = m
after_lines shape (line ∷ later) m = after_lines shape later (after_line shape line m)

-- the machine once the schedule is played from the opening of its region, if each of its steps is offered
unfoldable pub played : Schedule → Option Machine
played s = after_lines (shape_of s) s.lines (Some (started (shape_of s) (opening_row s)))

-- the first line that is refused, where this machine comes after the line with this number
abbrev pub refused_after : Layout → ℕ → Option Machine → List Line → Option ℕ
refused_after shape number None later = Some number
refused_after shape number (Some m) [] = None
refused_after shape number (Some m) (line ∷ later) = refused_after shape (number + 1) (after_line shape line (Some m)) later

-- the first line of the schedule that is refused, counted from 1: a step of it is not offered
unfoldable pub refused_line : Schedule → Option ℕ
refused_line s = refused_after (shape_of s) 0 (Some (started (shape_of s) (opening_row s))) s.lines

-- the answers alone
abbrev pub dones : List Answer → List Done
dones [] = []
dones (first ∷ later) = first.done ∷ dones later

-- what a pass has answered
abbrev pub answers_in : Option Local → List Done
answers_in None = []
answers_in (Some l) = dones l.answers

-- what this pass of a machine has answered
abbrev pub answers_of : ℕ → Option Machine → List Done
answers_of pass None = []
answers_of pass (Some m) = answers_in (slice_get m.locals pass)

-- what a pass has answered once the schedule is played, in order
abbrev pub answers : ℕ → Schedule → List Done
answers pass s = answers_of pass (played s)

-- the last of the answers
abbrev pub last_done : List Done → Option Done
last_done [] = None
last_done (only ∷ []) = Some only
last_done (_ ∷ later) = last_done later

-- what the directory says of these slots in a row
abbrev pub dirs_in : Layout → List ℕ → List ℕ → List Dir
dirs_in shape row [] = []
dirs_in shape row (slot ∷ later) = unpacked_dir (slice_index row (at shape (place.Directory 0 slot))) ∷ dirs_in shape row later

-- what it says of them in the row of a machine
abbrev pub dirs_of : Layout → List ℕ → Option Machine → List Dir
dirs_of shape slots None = []
dirs_of shape slots (Some m) = dirs_in shape m.row slots

-- what the directory says of these slots once the schedule is played
abbrev pub dirs : List ℕ → Schedule → List Dir
dirs slots s = dirs_of (shape_of s) slots (played s)

-- the step with which a pass offers to go on
abbrev pub go_of : Layout → ℕ → Option Local → Option Offer
go_of shape pass None = None
go_of shape pass (Some l) = local_offer shape pass l Go

-- the step with which this pass of a machine offers to go on
abbrev pub offer_in : Layout → ℕ → Option Machine → Option Offer
offer_in shape pass None = None
offer_in shape pass (Some m) = go_of shape pass (slice_get m.locals pass)

-- the step with which a pass offers to go on once the schedule is played
abbrev pub offers_next : ℕ → Schedule → Option Offer
offers_next pass s = offer_in (shape_of s) pass (played s)

-- the object of the collection with this incarnation of this entry
abbrev pub object : ℕ → ℕ → Number
object incarnation entry = record { incarnation = incarnation; entry = entry; coll = 0 }
