-- What each step makes of its section's scans, by the event that it tells.
use Rattle.std.proofs.Common.{◌≡◌, ℕ, Bool, true, false, Option, Some, None, [], ◌∷◌, ◌++◌, refl, arith}
use Rattle.std.specs.Prelude.{if◌then◌else◌}
use Rattle.std.proofs.lemmas.Bool.Decides.{nat_tests}
use Rattle.smc_words.specs.declared.number.Number.{Number}
use Rattle.smc_shape.specs.Layout.{Layout}
use Rattle.smc_shape.specs.declared.place.Place.TheVariants as place
use Rattle.smc_model.specs.declared.event.Event.TheVariants as event
use Rattle.smc_core.specs.declared.call.Call.{Call}
use Rattle.smc_core.specs.declared.call.Call.TheVariants as call
use Rattle.smc_core.specs.declared.call.Choice.TheVariants.{Start, Go}
use Rattle.smc_core.specs.declared.done.Done.TheVariants as done
use Rattle.smc_core.specs.declared.local.Stand.{Stand}
use Rattle.smc_core.specs.declared.phase.Phase.{Phase}
use Rattle.smc_core.specs.declared.phase.Phase.TheVariants as phase
use Rattle.smc_core.specs.declared.phase.objects.AddPhase.{AddPhase}
use Rattle.smc_core.specs.declared.phase.objects.AddPhase.TheVariants as add
use Rattle.smc_core.specs.declared.phase.objects.LookPhase.{LookPhase}
use Rattle.smc_core.specs.declared.phase.objects.LookPhase.TheVariants as look
use Rattle.smc_core.specs.declared.phase.objects.RemovePhase.TheVariants as remove
use Rattle.smc_core.specs.declared.phase.objects.ScanPhase.{ScanPhase}
use Rattle.smc_core.specs.declared.phase.objects.Seeker.TheVariants as seeker
use Rattle.smc_core.specs.declared.section.Section.{Section}
use Rattle.smc_core.specs.declared.section.Section.TheVariants.{Outside, Loaded, Announced, Again, Lasting, Inside}
use Rattle.smc_core.specs.declared.word.State as E
use Rattle.smc_core.specs.declared.word.Word.{Word}
use Rattle.smc_core.specs.Add.{add_change}
use Rattle.smc_core.specs.Change.{go_change, start_change, look_started, remove_started}
use Rattle.smc_core.specs.Local.{scans_after, begun_after}
use Rattle.smc_core.specs.Look.{sought_number, seeker_of, look_finding, looking_change}
use Rattle.smc_core.specs.Offer.{held_slot}
use Rattle.smc_core.specs.Row.{has_place}
use Rattle.smc_core.specs.Scan.{scan_of, new_scan, scan_number}
use Rattle.smc_core.specs.Section.{epoch_of, is_calm}
use Rattle.smc_core.specs.Step.{goes, goes_telling, tells}
use Rattle.smc_core.specs.Words.{state_of, is_gone}
use Rattle.smc_refine.proofs.ScanSteps.{HasOpen, StepScans, closed, continuing, is_quiet, looking, quiet, scan_in, scanning, way_scan}

module _ (shape : Layout) (i : ℕ) (stand : Stand) where
  adding : (epoch : ℕ) (next : AddPhase) (w : Word) → StepScans i stand.scans stand.begun stand.scans stand.begun (add_change shape epoch stand.words next w)
  adding epoch next w = quiet i stand.scans stand.begun (add_change shape epoch stand.words next w) (silent next) (ahead next)
    where
      silent : (next : AddPhase) → is_quiet (add_change shape epoch stand.words next w).event ≡ true
      silent (add.FindSlot c k slot t) = grind (arith, nat_tests)
      silent (add.ClaimSlot c k slot t d) = grind (arith, nat_tests)
      silent (add.FindEntry c slot n t) = grind (arith, nat_tests)
      silent (add.ClaimEntry c slot n t a z) = grind (arith, nat_tests)
      silent (add.DropSlot c slot) = refl
      silent (add.StoreBack slot n) = grind (arith, nat_tests)
      silent (add.StoreField slot n f) = grind (arith, nat_tests)
      silent (add.StoreValid slot n) = refl
      silent (add.StoreLive slot n) = refl

      ahead : (next : AddPhase) → scan_in (add_change shape epoch stand.words next w).phase ≡ None
      ahead (add.FindSlot c k slot t) = grind (arith, nat_tests)
      ahead (add.ClaimSlot c k slot t d) = grind (arith, nat_tests)
      ahead (add.FindEntry c slot n t) = grind (arith, nat_tests)
      ahead (add.ClaimEntry c slot n t a z) = grind (arith, nat_tests)
      ahead (add.DropSlot c slot) = refl
      ahead (add.StoreBack slot n) = grind (arith, nat_tests)
      ahead (add.StoreField slot n f) = grind (arith, nat_tests)
      ahead (add.StoreValid slot n) = refl
      ahead (add.StoreLive slot n) = refl

  -- a caller's look-up
  looked : (cm : Bool) (n : Number) (w : Word) → StepScans i stand.scans stand.begun stand.scans stand.begun (look_started shape cm n w)
  looked cm n w = go (has_place shape (place.Entry n.coll n.entry))
    where
      go : (b : Bool) → StepScans i stand.scans stand.begun stand.scans stand.begun (if b then looking_change shape cm (look.Load seeker.Caller n) w else tells (event.Look n false) done.Null)
      go true = looking shape i stand.scans stand.begun seeker.Caller n (look_finding shape cm (look.Load seeker.Caller n) w) (λ k c t e. absurd (cc))
      go false = quiet i stand.scans stand.begun (tells (event.Look n false) done.Null) refl refl

  removing : (n : Number) (held : Option ℕ) (v : E.State) → StepScans i stand.scans stand.begun stand.scans stand.begun (remove_started n held v)
  removing n None v = quiet i stand.scans stand.begun (goes phase.Idle) refl refl
  removing n (Some slot) v = go (is_gone v)
    where
      go : (b : Bool) → StepScans i stand.scans stand.begun stand.scans stand.begun (if b then tells (event.Remove n false) done.Late else goes_telling (event.Remove n true) (phase.Remove (remove.LeaveSlot slot n)))
      go true = quiet i stand.scans stand.begun (tells (event.Remove n false) done.Late) refl refl
      go false = quiet i stand.scans stand.begun (goes_telling (event.Remove n true) (phase.Remove (remove.LeaveSlot slot n))) refl refl

  pub going : (section : Section) (next : Phase) (w : Word)
      → ((l : LookPhase) (k c t : ℕ) → next ≡ phase.Look l → seeker_of l ≡ seeker.Scan k c t → HasOpen stand.scans k (sought_number l).coll)
      → ((s : ScanPhase) (k : ℕ) → next ≡ phase.Scan s → way_scan s ≡ Some k → (coll : ℕ) × HasOpen stand.scans k coll)
      → StepScans i stand.scans stand.begun (scans_after shape i stand section next Go w) stand.begun (go_change shape stand section next w)
  going section (phase.Look next) w hl hs = looking shape i stand.scans stand.begun (seeker_of next) (sought_number next) (look_finding shape (is_calm section) next w) (λ k c t. hl next k c t refl)
  going section (phase.Scan next) w hl hs = scanning shape i stand.scans stand.begun next w (λ k. hs next k refl)
  going section (phase.Add next) w hl hs = adding (epoch_of section) next w
  going section phase.Idle w hl hs = quiet i stand.scans stand.begun (go_change shape stand section phase.Idle w) refl refl
  going section phase.Entering w hl hs = enters section
    where
      enters : (section : Section) → StepScans i stand.scans stand.begun stand.scans stand.begun (go_change shape stand section phase.Entering w)
      enters Outside = quiet i stand.scans stand.begun (go_change shape stand Outside phase.Entering w) refl refl
      enters (Loaded v) = quiet i stand.scans stand.begun (go_change shape stand (Loaded v) phase.Entering w) refl refl
      enters (Announced v) = quiet i stand.scans stand.begun (go_change shape stand (Announced v) phase.Entering w) refl refl
      enters (Again v z) = quiet i stand.scans stand.begun (go_change shape stand (Again v z) phase.Entering w) refl refl
      enters (Lasting z) = quiet i stand.scans stand.begun (go_change shape stand (Lasting z) phase.Entering w) refl refl
      enters (Inside x cm) = quiet i stand.scans stand.begun (go_change shape stand (Inside x cm) phase.Entering w) refl refl
  going section (phase.Advancing epoch other) w hl hs = quiet i stand.scans stand.begun (go_change shape stand section (phase.Advancing epoch other) w) (grind (arith, nat_tests)) (grind (arith, nat_tests))
  going section (phase.Ready epoch) w hl hs = quiet i stand.scans stand.begun (go_change shape stand section (phase.Ready epoch) w) (grind (arith, nat_tests)) (grind (arith, nat_tests))
  going section (phase.Remove next) w hl hs = quiet i stand.scans stand.begun (go_change shape stand section (phase.Remove next) w) (grind (arith, nat_tests)) (grind (arith, nat_tests))
  going section (phase.Begin next) w hl hs = quiet i stand.scans stand.begun (go_change shape stand section (phase.Begin next) w) (grind (arith, nat_tests)) (grind (arith, nat_tests))
  going section (phase.Finish next) w hl hs = quiet i stand.scans stand.begun (go_change shape stand section (phase.Finish next) w) (grind (arith, nat_tests)) (grind (arith, nat_tests))
  going section (phase.Cancel next) w hl hs = quiet i stand.scans stand.begun (go_change shape stand section (phase.Cancel next) w) (grind (arith, nat_tests)) (grind (arith, nat_tests))
  going section (phase.Survey next) w hl hs = quiet i stand.scans stand.begun (go_change shape stand section (phase.Survey next) w) (grind (arith, nat_tests)) (grind (arith, nat_tests))

  pub starting : (section : Section) (next : Call) (told : ℕ) (w : Word)
      → StepScans i stand.scans stand.begun (scans_after shape i stand section phase.Idle (Start next) w) (begun_after stand.begun (Start next)) (start_change shape i stand section next told w)
  starting section (call.Scan c) told w = record {
    told = (refl, refl, refl);
    is_open = closed (stand.scans ++ new_scan (scan_number i stand.begun) c ∷ []) phase.Idle refl;
  }
  starting section (call.Next k) told w = continuing shape i stand.scans stand.begun k (scan_of stand.scans k) w refl
  starting section call.Leave told w = record { told = (λ j b is. absurd (cc), refl); is_open = λ k b is at. absurd (cc) }
  starting section (call.Look n) told w = looked (is_calm section) n w
  starting section (call.Remove n) told w = removing n (held_slot stand.held n) (state_of w)
  starting section call.Enter told w = quiet i stand.scans stand.begun (start_change shape i stand section call.Enter told w) refl refl
  starting section call.Advance told w = quiet i stand.scans stand.begun (start_change shape i stand section call.Advance told w) (grind (arith, nat_tests)) (grind (arith, nat_tests))
  starting section (call.Add c k ws) told w = quiet i stand.scans stand.begun (start_change shape i stand section (call.Add c k ws) told w) (grind (arith, nat_tests)) (grind (arith, nat_tests))
  starting section (call.Read n f) told w = quiet i stand.scans stand.begun (start_change shape i stand section (call.Read n f) told w) refl refl
  starting section (call.Write n f v) told w = quiet i stand.scans stand.begun (start_change shape i stand section (call.Write n f v) told w) refl refl
  starting section (call.Begin c) told w = quiet i stand.scans stand.begun (start_change shape i stand section (call.Begin c) told w) (grind (arith, nat_tests)) (grind (arith, nat_tests))
  starting section call.Finish told w = quiet i stand.scans stand.begun (start_change shape i stand section call.Finish told w) (grind (arith, nat_tests)) (grind (arith, nat_tests))
  starting section call.Cancel told w = quiet i stand.scans stand.begun (start_change shape i stand section call.Cancel told w) (grind (arith, nat_tests)) (grind (arith, nat_tests))
  starting section (call.Survey c) told w = quiet i stand.scans stand.begun (start_change shape i stand section (call.Survey c) told w) (grind (arith, nat_tests)) (grind (arith, nat_tests))
  starting section call.Note told w = quiet i stand.scans stand.begun (start_change shape i stand section call.Note told w) refl refl
  starting section (call.Learn k z) told w = quiet i stand.scans stand.begun (start_change shape i stand section (call.Learn k z) told w) refl refl
