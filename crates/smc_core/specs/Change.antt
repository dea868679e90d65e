-- What a step changes in its pass, by the call and by the word that the step was shown.
use Rattle.std.specs.Prelude.{ℕ, ◌+◌, ◌==◌, ◌||◌, nat_lt, Bool, false, Option, Some, None, if◌then◌else◌}
use Rattle.smc_words.specs.declared.number.Number.{Number}
use Rattle.smc_shape.specs.Layout.{Layout}
use Rattle.smc_shape.specs.declared.place.Place.TheVariants as place
use Rattle.smc_model.specs.declared.event.Event.TheVariants as event
use Rattle.smc_core.specs.declared.call.Call.{Call}
use Rattle.smc_core.specs.declared.call.Call.TheVariants as call
use Rattle.smc_core.specs.declared.call.Choice.{Choice}
use Rattle.smc_core.specs.declared.call.Choice.TheVariants.{Start, Go}
use Rattle.smc_core.specs.declared.change.Change.{Change}
use Rattle.smc_core.specs.declared.done.Done.TheVariants as done
use Rattle.smc_core.specs.declared.local.Owned.{Owned}
use Rattle.smc_core.specs.declared.local.Scan.{Scan}
use Rattle.smc_core.specs.declared.local.Stand.{Stand}
use Rattle.smc_core.specs.declared.phase.Phase.{Phase}
use Rattle.smc_core.specs.declared.phase.Phase.TheVariants as phase
use Rattle.smc_core.specs.declared.phase.moves.CancelPhase.TheVariants as cancel
use Rattle.smc_core.specs.declared.phase.moves.CountPhase.TheVariants as walk
use Rattle.smc_core.specs.declared.phase.objects.LookPhase.TheVariants as look
use Rattle.smc_core.specs.declared.phase.objects.Seeker.TheVariants as seeker
use Rattle.smc_core.specs.declared.section.Section.{Section}
use Rattle.smc_core.specs.declared.section.TheConstants.{LAST_EPOCH}
use Rattle.smc_core.specs.declared.word.State.{State}
use Rattle.smc_core.specs.declared.word.Word.{Word}
use Rattle.smc_core.specs.Add.{add_change, slot_seen}
use Rattle.smc_core.specs.Begin.{begin_change, round_seen}
use Rattle.smc_core.specs.Cancel.{cancel_change}
use Rattle.smc_core.specs.Count.{counting, survey_change, no_count}
use Rattle.smc_core.specs.Finish.{finish_change, finish_started}
use Rattle.smc_core.specs.Look.{looking_change}
use Rattle.smc_core.specs.Offer.{held_slot}
use Rattle.smc_core.specs.Remove.{mark_seen, remove_change}
use Rattle.smc_core.specs.Row.{has_place}
use Rattle.smc_core.specs.Scan.{scan_change, scan_number, scan_of, next_change}
use Rattle.smc_core.specs.Section.{epoch_of, is_calm, entering_change}
use Rattle.smc_core.specs.Step.{goes, ends, tells}
use Rattle.smc_core.specs.Words.{plain_of, dir_of, state_of, round_of}

-- an advance looks at the section word of this pass next, or, where it has looked at each, moves the epoch on
abbrev pub advance_next : Layout → ℕ → ℕ → Phase
advance_next shape epoch other = if nat_lt other shape.passes then phase.Advancing epoch other else phase.Ready epoch

-- by the section word of a pass: one of another epoch stops the advance
abbrev pub section_seen : Layout → ℕ → ℕ → ℕ → Change
section_seen shape epoch other seen = if seen == 0 || seen == epoch then goes (advance_next shape epoch (other + 1)) else ends (done.NotYet other seen)

-- by the epoch that was seen when it was to be moved on
abbrev pub ready_seen : ℕ → ℕ → Change
ready_seen epoch seen = if seen == epoch then ends (done.Advanced (epoch + 1)) else ends (done.Overtaken seen)

-- what a step of the call in progress changes
abbrev pub go_change : Layout → Stand → Section → Phase → Word → Change
go_change shape stand section phase.Idle w = goes phase.Idle
go_change shape stand section phase.Entering w = entering_change section
go_change shape stand section (phase.Advancing epoch other) w = section_seen shape epoch other (plain_of w)
go_change shape stand section (phase.Ready epoch) w = ready_seen epoch (plain_of w)
go_change shape stand section (phase.Look next) w = looking_change shape (is_calm section) next w
go_change shape stand section (phase.Add next) w = add_change shape (epoch_of section) stand.words next w
go_change shape stand section (phase.Remove next) w = remove_change next
go_change shape stand section (phase.Scan next) w = scan_change shape next w
go_change shape stand section (phase.Begin next) w = begin_change shape (epoch_of section) next w
go_change shape stand section (phase.Finish next) w = finish_change shape next w
go_change shape stand section (phase.Cancel next) w = cancel_change shape next w
go_change shape stand section (phase.Survey next) w = survey_change (counting shape next w)

-- what the first step of a remove changes, by the slot in which the object is held
abbrev pub remove_started : Number → Option ℕ → State → Change
remove_started number None seen = goes phase.Idle
remove_started number (Some slot) seen = mark_seen number slot seen

-- what the first step of going on with a scan changes
abbrev pub next_started : Layout → Option Scan → Word → Change
next_started shape None w = goes phase.Idle
next_started shape (Some begun) w = next_change shape begun w

-- what the first step of a finish changes
abbrev pub finish_owned : Layout → ℕ → Option Owned → Word → Change
finish_owned shape epoch None w = goes phase.Idle
finish_owned shape epoch (Some owned) w = finish_started shape epoch owned w

-- what the first step of a cancel changes
abbrev pub cancel_owned : Layout → Option Owned → Word → Change
cancel_owned shape None w = goes phase.Idle
cancel_owned shape (Some owned) w = cancel_change shape (cancel.Directory owned.coll 0) w

-- what the first step of looking a number up changes
abbrev pub look_started : Layout → Bool → Number → Word → Change
look_started shape calm number w = if has_place shape (place.Entry number.coll number.entry) then looking_change shape calm (look.Load seeker.Caller number) w else tells (event.Look number false) done.Null

-- what the first step of a call changes; where it learns a note, that tells the length of another log
abbrev pub start_change : Layout → ℕ → Stand → Section → Call → ℕ → Word → Change
start_change shape pass stand section call.Enter told w = goes phase.Entering
start_change shape pass stand section call.Leave told w = tells event.Leave done.Out
start_change shape pass stand section call.Advance told w = if plain_of w == LAST_EPOCH then ends done.Spent else goes (advance_next shape (plain_of w) 0)
start_change shape pass stand section (call.Add coll from words) told w = slot_seen shape (epoch_of section) coll from from 0 (dir_of w)
start_change shape pass stand section (call.Look number) told w = look_started shape (is_calm section) number w
start_change shape pass stand section (call.Read number field) told w = tells (event.Read number field (plain_of w)) (done.Value (plain_of w))
start_change shape pass stand section (call.Write number field value) told w = tells (event.Write number field value) done.Written
start_change shape pass stand section (call.Remove number) told w = remove_started number (held_slot stand.held number) (state_of w)
start_change shape pass stand section (call.Scan coll) told w = tells (event.Begin (scan_number pass stand.begun) coll) done.Begun
start_change shape pass stand section (call.Next scan) told w = next_started shape (scan_of stand.scans scan) w
start_change shape pass stand section (call.Begin coll) told w = round_seen coll (round_of w)
start_change shape pass stand section call.Finish told w = finish_owned shape (epoch_of section) stand.round w
start_change shape pass stand section call.Cancel told w = cancel_owned shape stand.round w
start_change shape pass stand section (call.Survey coll) told w = survey_change (counting shape (walk.Directory coll 0 no_count) w)
start_change shape pass stand section call.Note told w = ends (done.Noted stand.noted)
start_change shape pass stand section (call.Learn other note) told w = tells (event.Told other told) done.Learned

-- what a step changes
abbrev pub change : Layout → ℕ → Stand → Section → Phase → Choice → ℕ → Word → Change
change shape pass stand section phase Go told w = go_change shape stand section phase w
change shape pass stand section phase (Start call) told w = start_change shape pass stand section call told w
