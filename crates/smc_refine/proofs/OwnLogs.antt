-- What a pass's log and kept answers tell of where it stands: whether it is in a section, and whether it has a round.
use Rattle.std.proofs.Common.{◌≡◌, ℕ, ◌+◌, ◌==◌, not, Bool, true, false, ◌&&◌, ◌||◌, Option, Some, None, List, refl, arith}
use Rattle.std.specs.Prelude.{if◌then◌else◌}
use Rattle.smc_words.specs.declared.dir.Dir.{Dir}
use Rattle.smc_words.specs.declared.number.Number.{Number}
use Rattle.smc_shape.specs.Layout.{Layout}
use Rattle.smc_model.specs.declared.event.Event.{Event}
use Rattle.smc_model.specs.declared.event.Event.TheVariants as event
use Rattle.smc_core.specs.declared.change.Change.{Change}
use Rattle.smc_core.specs.declared.done.Done.{Done}
use Rattle.smc_core.specs.declared.done.Done.TheVariants as done
use Rattle.smc_core.specs.declared.local.Owned.{Owned}
use Rattle.smc_core.specs.declared.local.Scan.{Scan}
use Rattle.smc_core.specs.declared.phase.Phase.{Phase}
use Rattle.smc_core.specs.declared.phase.Phase.TheVariants as phase
use Rattle.smc_core.specs.declared.phase.moves.BeginPhase.{BeginPhase}
use Rattle.smc_core.specs.declared.phase.moves.BeginPhase.TheVariants as begin
use Rattle.smc_core.specs.declared.phase.moves.Counting.{Counting}
use Rattle.smc_core.specs.declared.phase.moves.Walk.{Walk}
use Rattle.smc_core.specs.declared.phase.objects.AddPhase.{AddPhase}
use Rattle.smc_core.specs.declared.phase.objects.AddPhase.TheVariants as add
use Rattle.smc_core.specs.declared.phase.objects.Finding.{Finding}
use Rattle.smc_core.specs.declared.phase.objects.LookPhase.{LookPhase}
use Rattle.smc_core.specs.declared.phase.objects.RemovePhase.{RemovePhase}
use Rattle.smc_core.specs.declared.phase.objects.ScanPhase.{ScanPhase}
use Rattle.smc_core.specs.declared.phase.objects.ScanPhase.TheVariants as scan
use Rattle.smc_core.specs.declared.phase.objects.Seeker.{Seeker}
use Rattle.smc_core.specs.declared.section.TheConstants.{LAST_EPOCH}
use Rattle.smc_core.specs.declared.word.State.{State}
use Rattle.smc_core.specs.declared.word.Word.{Word}
use Rattle.smc_core.specs.Add.{add_change, slot_seen, entry_seen}
use Rattle.smc_core.specs.Begin.{begin_change, begin_counting, past_target, to_source, to_target}
use Rattle.smc_core.specs.Change.{advance_next, section_seen, ready_seen, remove_started, next_started, finish_owned, cancel_owned, look_started}
use Rattle.smc_core.specs.Count.{counting, survey_change}
use Rattle.smc_core.specs.Look.{look_change, looking_change, look_finding, seeker_of, sought_number, passes}
use Rattle.smc_core.specs.Remove.{remove_change}
use Rattle.smc_core.specs.Scan.{scan_change, is_over, is_scanned}
use Rattle.smc_core.specs.Step.{goes, ends, tells}
use Rattle.smc_core.specs.Words.{plain_of, dir_of, state_of}
use Rattle.smc_refine.specs.Alone.{is_enter, is_leave, owns_then}

-- whether an event begins or ends a section
abbrev pub is_mark : Option Event → Bool
is_mark None = false
is_mark (Some event) = is_enter event || is_leave event

-- whether a pass has a round after a step with this answer
abbrev pub owns_told : Bool → Option Done → Bool
owns_told owns None = owns
owns_told owns (Some answer) = owns_then owns answer

-- whether an answer says nothing of rounds
abbrev pub is_keeping : Option Done → Bool
is_keeping None = true
is_keeping (Some answer) = owns_then true answer && not (owns_then false answer)

-- whether a phase is of a call made in a section, or of none
abbrev pub is_inner : Phase → Bool
is_inner phase.Entering = false
is_inner (phase.Advancing epoch other) = false
is_inner (phase.Ready epoch) = false
is_inner _ = true

abbrev pub is_beginning : Phase → Bool
is_beginning (phase.Begin next) = true
is_beginning _ = false

-- no advance or enter is in progress after it, and no begin; no section begins or ends, nor a round
abbrev pub is_plain : Change → Bool
is_plain c = not (is_mark c.event) && is_keeping c.answer && is_inner c.phase && not (is_beginning c.phase)

abbrev pub Plain : Change → Type 0
Plain c = is_plain c ≡ true

-- a begin goes on, or ends with its round
abbrev pub begins : Phase → Option Done → Bool
begins (phase.Begin next) None = true
begins phase.Idle (Some (done.Round coll bound moves)) = true
begins _ _ = false

abbrev pub is_nothing : BeginPhase → Bool
is_nothing (begin.Nothing coll) = true
is_nothing _ = false

abbrev pub tells_nothing : Option Event → Bool
tells_nothing None = true
tells_nothing (Some event) = false

abbrev pub Begins : Change → Type 0
Begins c = (tells_nothing c.event && begins c.phase c.answer) ≡ true

-- an advance goes on or ends
abbrev pub is_resting : Phase → Bool
is_resting phase.Idle = true
is_resting (phase.Advancing epoch other) = true
is_resting (phase.Ready epoch) = true
is_resting _ = false

abbrev pub Rests : Change → Type 0
Rests c = (tells_nothing c.event && is_keeping c.answer && is_resting c.phase) ≡ true

module _ (shape : Layout) where
  pub look-plain : (who : Seeker) (number : Number) (finding : Finding) → Plain (look_change shape who number finding)
  look-plain who number finding = grind arith

  pub looking-plain : (calm : Bool) (next : LookPhase) (w : Word) → Plain (looking_change shape calm next w)
  looking-plain calm next w = look-plain (seeker_of next) (sought_number next) (look_finding shape calm next w)

  pub look_started-plain : (calm : Bool) (number : Number) (w : Word) → Plain (look_started shape calm number w)
  look_started-plain calm number w = grind (arith, look-plain)

  pub slot_seen-plain : (epoch coll from slot tried : ℕ) (seen : Dir) → Plain (slot_seen shape epoch coll from slot tried seen)
  slot_seen-plain epoch coll from slot tried seen = grind arith

  pub entry_seen-plain : (epoch coll slot entry tried : ℕ) (seen : State) → Plain (entry_seen shape epoch coll slot entry tried seen)
  entry_seen-plain epoch coll slot entry tried seen = grind arith

  pub add-plain : (epoch : ℕ) (words : List ℕ) (next : AddPhase) (w : Word) → Plain (add_change shape epoch words next w)
  add-plain epoch words (add.FindSlot c k slot t) w = slot_seen-plain epoch c k slot t (dir_of w)
  add-plain epoch words (add.ClaimSlot c k slot t d) w = grind arith
  add-plain epoch words (add.FindEntry c slot n t) w = entry_seen-plain epoch c slot n t (state_of w)
  add-plain epoch words (add.ClaimEntry c slot n t a z) w = grind arith
  add-plain epoch words (add.DropSlot c slot) w = refl
  add-plain epoch words (add.StoreBack slot n) w = refl
  add-plain epoch words (add.StoreField slot n f) w = refl
  add-plain epoch words (add.StoreValid slot n) w = refl
  add-plain epoch words (add.StoreLive slot n) w = refl

  pub remove-plain : (next : RemovePhase) → Plain (remove_change next)
  remove-plain next = grind arith

  pub remove_started-plain : (number : Number) (held : Option ℕ) (seen : State) → Plain (remove_started number held seen)
  remove_started-plain number held seen = grind arith

  pub scan-plain : (next : ScanPhase) (w : Word) → Plain (scan_change shape next w)
  scan-plain next w = grind arith

  pub next_started-plain : (begun : Option Scan) (w : Word) → Plain (next_started shape begun w)
  next_started-plain None w = refl
  next_started-plain (Some begun) w = go begun.ended (is_over shape begun) (is_scanned (dir_of w))
    where
      go : (a b c : Bool)
          → Plain (if a then ends done.End else if b then tells (event.End begun.number) done.End
          else (if c then goes (phase.Scan (scan.Back begun.number begun.coll begun.place)) else goes (passes shape begun.number begun.coll begun.place)))
      go true b c = refl
      go false true c = refl
      go false false true = refl
      go false false false = grind arith

  pub survey-plain : (counting : Counting) → Plain (survey_change counting)
  survey-plain counting = grind arith

  pub finish_owned-plain : (epoch : ℕ) (owned : Option Owned) (w : Word) → Plain (finish_owned shape epoch owned w)
  finish_owned-plain epoch owned w = grind arith

  pub cancel_owned-plain : (owned : Option Owned) (w : Word) → Plain (cancel_owned shape owned w)
  cancel_owned-plain owned w = grind arith

  pub source-begins : (epoch : ℕ) (moves : Walk) → Begins (to_source shape epoch moves)
  source-begins epoch moves = grind arith

  pub target-begins : (epoch : ℕ) (moves : Walk) (number : Number) → Begins (to_target epoch moves number)
  target-begins epoch moves number = grind arith

  pub counted-begins : (epoch : ℕ) (counted : Counting) → Begins (begin_counting shape epoch counted)
  counted-begins epoch counted = grind (arith, source-begins)

  pub begin-begins : (epoch : ℕ) (next : BeginPhase) (w : Word) → is_nothing next ≡ false → Begins (begin_change shape epoch next w)
  begin-begins epoch (begin.Count next) w other = counted-begins epoch (counting shape next w)
  begin-begins epoch (begin.Nothing coll) w other = absurd (cc)
  begin-begins epoch (begin.SourceDirectory moves) w other = grind (arith, source-begins)
  begin-begins epoch (begin.SourceBack moves) w other = grind (arith, source-begins)
  begin-begins epoch (begin.SourceEntry moves number) w other = grind (arith, source-begins, target-begins)
  begin-begins epoch (begin.TargetDirectory moves number) w other = grind (arith, target-begins)
  begin-begins epoch (begin.ClaimTarget moves number seen) w other = grind (arith, target-begins)
  begin-begins epoch (begin.BlankField moves number field) w other = refl
  begin-begins epoch (begin.StoreBack moves number) w other = refl
  begin-begins epoch (begin.StoreForward moves number) w other = refl
  begin-begins epoch (begin.StoreIncoming moves number) w other = refl
  begin-begins epoch (begin.Freeze moves number) w other = grind (arith, source-begins)
  begin-begins epoch (begin.GiveUp moves) w other = source-begins epoch (record (past_target moves) { source = moves.source + 1 })

  pub advance-rests : (from other : ℕ) → Rests (goes (advance_next shape from other))
  advance-rests from other = grind arith

  pub advancing-rests : (from other : ℕ) (w : Word) → Rests (section_seen shape from other (plain_of w))
  advancing-rests from other w = grind (arith, advance-rests)

  pub advance_started-rests : (epoch : ℕ) → Rests (if epoch == LAST_EPOCH then ends done.Spent else goes (advance_next shape epoch 0))
  advance_started-rests epoch = grind (arith, advance-rests)

pub ready-rests : (from : ℕ) (w : Word) → Rests (ready_seen from (plain_of w))
ready-rests from w = grind arith
