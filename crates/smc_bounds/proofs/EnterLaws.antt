-- An enter in progress has a section to go on with, after each step.
use Rattle.std.proofs.Common.{◌≡◌, ℕ, Bool, true, false, Option, List, refl, arith}
use Rattle.smc_words.specs.declared.number.Number.{Number}
use Rattle.smc_words.specs.declared.dir.Dir.{Dir}
use Rattle.smc_words.specs.declared.round.RoundWord.{RoundWord}
use Rattle.smc_shape.specs.Layout.{Layout}
use Rattle.smc_core.specs.declared.call.Call.{Call}
use Rattle.smc_core.specs.declared.call.Call.TheVariants as call
use Rattle.smc_core.specs.declared.call.Choice.{Choice}
use Rattle.smc_core.specs.declared.call.Choice.TheVariants.{Start, Go}
use Rattle.smc_core.specs.declared.change.Change.{Change}
use Rattle.smc_core.specs.declared.local.Owned.{Owned}
use Rattle.smc_core.specs.declared.local.Scan.{Scan}
use Rattle.smc_core.specs.declared.local.Stand.{Stand}
use Rattle.smc_core.specs.declared.phase.Phase.{Phase}
use Rattle.smc_core.specs.declared.phase.Phase.TheVariants as phase
use Rattle.smc_core.specs.declared.phase.moves.BeginPhase.{BeginPhase}
use Rattle.smc_core.specs.declared.phase.moves.CancelPhase.{CancelPhase}
use Rattle.smc_core.specs.declared.phase.moves.Counting.{Counting}
use Rattle.smc_core.specs.declared.phase.moves.FinishPhase.{FinishPhase}
use Rattle.smc_core.specs.declared.phase.objects.AddPhase.{AddPhase}
use Rattle.smc_core.specs.declared.phase.objects.Finding.{Finding}
use Rattle.smc_core.specs.declared.phase.objects.LookPhase.{LookPhase}
use Rattle.smc_core.specs.declared.phase.objects.RemovePhase.{RemovePhase}
use Rattle.smc_core.specs.declared.phase.objects.ScanPhase.{ScanPhase}
use Rattle.smc_core.specs.declared.phase.objects.Seeker.{Seeker}
use Rattle.smc_core.specs.declared.section.Section.{Section}
use Rattle.smc_core.specs.declared.section.Section.TheVariants.{Outside, Loaded, Announced, Again, Lasting, Inside}
use Rattle.smc_core.specs.declared.word.State.{State}
use Rattle.smc_core.specs.declared.word.Word.{Word}
use Rattle.smc_core.specs.Add.{add_change, entry_seen, slot_seen}
use Rattle.smc_core.specs.Begin.{begin_change, round_seen}
use Rattle.smc_core.specs.Cancel.{cancel_change}
use Rattle.smc_core.specs.Change.{change, go_change, start_change, section_seen, ready_seen, remove_started, next_started, finish_owned, cancel_owned, look_started}
use Rattle.smc_core.specs.Count.{counting, survey_change}
use Rattle.smc_core.specs.Finish.{finish_change}
use Rattle.smc_core.specs.Local.{section_after}
use Rattle.smc_core.specs.Look.{look_change, look_finding, looking_change, seeker_of, sought_number}
use Rattle.smc_core.specs.Remove.{remove_change}
use Rattle.smc_core.specs.Scan.{scan_change}
use Rattle.smc_core.specs.Section.{epoch_of}
use Rattle.smc_core.specs.Words.{plain_of, dir_of}
use Rattle.smc_bounds.specs.Kept.{Enters}

-- whether a phase is that of an enter
abbrev pub is_entering : Phase → Bool
is_entering phase.Entering = true
is_entering _ = false

-- what the step leaves is no enter
abbrev pub Apart : Change → Type 0
Apart change = is_entering change.phase ≡ false

-- then it has no section to go on with
apart_enters : (section : Section) (next : Phase) → is_entering next ≡ false → Enters section next
apart_enters section phase.Entering e = cc
apart_enters section _ e = tt

module _ (shape : Layout) where
  -- each other call
  look-apart : (who : Seeker) (number : Number) (finding : Finding) → Apart (look_change shape who number finding)
  look-apart who number finding = grind arith

  looking-apart : (calm : Bool) (next : LookPhase) (w : Word) → Apart (looking_change shape calm next w)
  looking-apart calm next w = look-apart (seeker_of next) (sought_number next) (look_finding shape calm next w)

  look_started-apart : (calm : Bool) (number : Number) (w : Word) → Apart (look_started shape calm number w)
  look_started-apart calm number w = grind (arith, look-apart)

  slot_seen-apart : (epoch coll from slot tried : ℕ) (seen : Dir) → Apart (slot_seen shape epoch coll from slot tried seen)
  slot_seen-apart epoch coll from slot tried seen = grind arith

  entry_seen-apart : (epoch coll slot entry tried : ℕ) (seen : State) → Apart (entry_seen shape epoch coll slot entry tried seen)
  entry_seen-apart epoch coll slot entry tried seen = grind arith

  add-apart : (epoch : ℕ) (words : List ℕ) (next : AddPhase) (w : Word) → Apart (add_change shape epoch words next w)
  add-apart epoch words next w = grind (arith, slot_seen-apart, entry_seen-apart)

  remove-apart : (next : RemovePhase) → Apart (remove_change next)
  remove-apart next = grind arith

  remove_started-apart : (number : Number) (held : Option ℕ) (seen : State) → Apart (remove_started number held seen)
  remove_started-apart number held seen = grind arith

  scan-apart : (next : ScanPhase) (w : Word) → Apart (scan_change shape next w)
  scan-apart next w = grind arith

  next_started-apart : (begun : Option Scan) (w : Word) → Apart (next_started shape begun w)
  next_started-apart begun w = grind (arith, scan-apart)

  round_seen-apart : (coll : ℕ) (seen : Option RoundWord) → Apart (round_seen coll seen)
  round_seen-apart coll seen = grind arith

  begin-apart : (epoch : ℕ) (next : BeginPhase) (w : Word) → Apart (begin_change shape epoch next w)
  begin-apart epoch next w = grind arith

  finish-apart : (next : FinishPhase) (w : Word) → Apart (finish_change shape next w)
  finish-apart next w = grind arith

  finish_owned-apart : (epoch : ℕ) (owned : Option Owned) (w : Word) → Apart (finish_owned shape epoch owned w)
  finish_owned-apart epoch owned w = grind arith

  cancel-apart : (next : CancelPhase) (w : Word) → Apart (cancel_change shape next w)
  cancel-apart next w = grind arith

  cancel_owned-apart : (owned : Option Owned) (w : Word) → Apart (cancel_owned shape owned w)
  cancel_owned-apart owned w = grind arith

  survey-apart : (counting : Counting) → Apart (survey_change counting)
  survey-apart counting = grind arith

  section_seen-apart : (from other seen : ℕ) → Apart (section_seen shape from other seen)
  section_seen-apart from other seen = grind arith

  ready_seen-apart : (from seen : ℕ) → Apart (ready_seen from seen)
  ready_seen-apart from seen = grind arith

  -- a step that goes on
  go-enters : (stand : Stand) (section : Section) (next : Phase) (w : Word)
      → Enters (section_after section next Go w) (go_change shape stand section next w).phase
  go-enters stand section phase.Idle w = tt
  go-enters stand Outside phase.Entering w = tt
  go-enters stand (Loaded seen) phase.Entering w = refl
  go-enters stand (Announced seen) phase.Entering w = refl
  go-enters stand (Again seen epoch) phase.Entering w = refl
  go-enters stand (Lasting epoch) phase.Entering w = tt
  go-enters stand (Inside epoch calm) phase.Entering w = tt
  go-enters stand section (phase.Advancing from other) w = apart_enters section _ (section_seen-apart from other (plain_of w))
  go-enters stand section (phase.Ready from) w = apart_enters section _ (ready_seen-apart from (plain_of w))
  go-enters stand section (phase.Look next) w = apart_enters section _ (looking-apart _ next w)
  go-enters stand section (phase.Add next) w = apart_enters section _ (add-apart _ stand.words next w)
  go-enters stand section (phase.Remove next) w = apart_enters section _ (remove-apart next)
  go-enters stand section (phase.Scan next) w = apart_enters section _ (scan-apart next w)
  go-enters stand section (phase.Begin next) w = apart_enters section _ (begin-apart _ next w)
  go-enters stand section (phase.Finish next) w = apart_enters section _ (finish-apart next w)
  go-enters stand section (phase.Cancel next) w = apart_enters section _ (cancel-apart next w)
  go-enters stand section (phase.Survey next) w = apart_enters section _ (survey-apart (counting shape next w))

  -- a call that is started
  start-enters : (pass : ℕ) (stand : Stand) (section : Section) (next : Phase) (k : Call) (told : ℕ) (w : Word)
      → Enters (section_after section next (Start k) w) (start_change shape pass stand section k told w).phase
  start-enters pass stand section next call.Enter told w = refl
  start-enters pass stand section next call.Leave told w = tt
  start-enters pass stand section next call.Advance told w = apart_enters section _ (grind arith)
  start-enters pass stand section next (call.Add coll from words) told w = apart_enters section _ (slot_seen-apart (epoch_of section) coll from from 0 (dir_of w))
  start-enters pass stand section next (call.Look number) told w = apart_enters section _ (look_started-apart _ number w)
  start-enters pass stand section next (call.Read number field) told w = tt
  start-enters pass stand section next (call.Write number field value) told w = tt
  start-enters pass stand section next (call.Remove number) told w = apart_enters section _ (remove_started-apart number _ _)
  start-enters pass stand section next (call.Scan coll) told w = tt
  start-enters pass stand section next (call.Next scan) told w = apart_enters section _ (next_started-apart _ w)
  start-enters pass stand section next (call.Begin coll) told w = apart_enters section _ (round_seen-apart coll _)
  start-enters pass stand section next call.Finish told w = apart_enters section _ (finish_owned-apart _ stand.round w)
  start-enters pass stand section next call.Cancel told w = apart_enters section _ (cancel_owned-apart stand.round w)
  start-enters pass stand section next (call.Survey coll) told w = apart_enters section _ (survey-apart _)
  start-enters pass stand section next call.Note told w = tt
  start-enters pass stand section next (call.Learn other note) told w = tt

  -- each step
  pub step-enters : (pass : ℕ) (stand : Stand) (choice : Choice) (told : ℕ) (w : Word)
      → Enters (section_after stand.section stand.phase choice w) (change shape pass stand stand.section stand.phase choice told w).phase
  step-enters pass stand Go told w = go-enters stand stand.section stand.phase w
  step-enters pass stand (Start k) told w = start-enters pass stand stand.section stand.phase k told w
