-- A scan stays at slots of its own collection, and its number below the next one, after each step.
use Rattle.std.proofs.Common.{◌≡◌, ◌≢◌, ℕ, ◌+◌, ◌==◌, Bool, true, false, nat_lt, Option, Some, None, List, refl, sym, subst, arith}
use Rattle.std.specs.Prelude.{if◌then◌else◌}
use Rattle.std.proofs.lemmas.Bool.{cond_both, eqb-true}
use Rattle.smc_words.specs.declared.number.Number.{Number}
use Rattle.smc_words.specs.declared.dir.Dir.{Dir}
use Rattle.smc_words.specs.declared.round.RoundWord.{RoundWord}
use Rattle.smc_shape.specs.Layout.{Layout, slots_of}
use Rattle.smc_core.specs.declared.call.Call.{Call}
use Rattle.smc_core.specs.declared.call.Call.TheVariants as call
use Rattle.smc_core.specs.declared.call.Choice.{Choice}
use Rattle.smc_core.specs.declared.call.Choice.TheVariants.{Start, Go}
use Rattle.smc_core.specs.declared.change.Change.{Change}
use Rattle.smc_core.specs.declared.done.Done.TheVariants as done
use Rattle.smc_core.specs.declared.local.Owned.{Owned}
use Rattle.smc_core.specs.declared.local.Scan.{Scan}
use Rattle.smc_core.specs.declared.local.Stand.{Stand}
use Rattle.smc_core.specs.declared.phase.Phase.{Phase}
use Rattle.smc_core.specs.declared.phase.Phase.TheVariants as phase
use Rattle.smc_core.specs.declared.phase.moves.BeginPhase.{BeginPhase}
use Rattle.smc_core.specs.declared.phase.moves.CancelPhase.{CancelPhase}
use Rattle.smc_core.specs.declared.phase.moves.Counting.{Counting}
use Rattle.smc_core.specs.declared.phase.moves.FinishPhase.{FinishPhase}
use Rattle.smc_core.specs.declared.phase.objects.AddPhase.{AddPhase}
use Rattle.smc_core.specs.declared.phase.objects.Finding.{Finding}
use Rattle.smc_core.specs.declared.phase.objects.Finding.TheVariants.{Absent, Stays, Abandons, Helps}
use Rattle.smc_core.specs.declared.phase.objects.LookPhase.{LookPhase}
use Rattle.smc_core.specs.declared.phase.objects.RemovePhase.{RemovePhase}
use Rattle.smc_core.specs.declared.phase.objects.ScanPhase.{ScanPhase}
use Rattle.smc_core.specs.declared.phase.objects.ScanPhase.TheVariants as scan
use Rattle.smc_core.specs.declared.phase.objects.Seeker.{Seeker}
use Rattle.smc_core.specs.declared.phase.objects.Seeker.TheVariants as seeker
use Rattle.smc_core.specs.declared.section.Section.{Section}
use Rattle.smc_core.specs.declared.word.State.{State}
use Rattle.smc_core.specs.declared.word.Word.{Word}
use Rattle.smc_core.specs.declared.word.Word.TheVariants as word
use Rattle.smc_core.specs.Add.{add_change, entry_seen, slot_seen}
use Rattle.smc_core.specs.Begin.{begin_change, round_seen}
use Rattle.smc_core.specs.Cancel.{cancel_change}
use Rattle.smc_core.specs.Change.{change, go_change, start_change, section_seen, ready_seen, remove_started, next_started, finish_owned, cancel_owned, look_started}
use Rattle.smc_core.specs.Count.{counting, survey_change}
use Rattle.smc_core.specs.Finish.{finish_change}
use Rattle.smc_core.specs.Local.{begun_after, next_after, scans_after}
use Rattle.smc_core.specs.Look.{look_change, look_finding, looking_change, passes, seeker_of, sought_number, visits}
use Rattle.smc_core.specs.Remove.{remove_change}
use Rattle.smc_core.specs.Scan.{is_over, is_scanned, look_scans, new_scan, passed, scan_change, scan_number, scan_of, scan_scans}
use Rattle.smc_core.specs.Section.{entering_change, epoch_of, is_calm}
use Rattle.smc_core.specs.Step.{ends, goes}
use Rattle.smc_core.specs.Words.{dir_of, plain_of}
use Rattle.smc_bounds.specs.Kept.{AreBelow, OfColl, ScansHome, SeeksHome}
use Rattle.smc_bounds.specs.Scans.{is_of, seeks_for}
use Rattle.smc_bounds.proofs.ScanLists.{below-begun, below-ended, below-more, below-passed, found-number, passed-home}

-- whether a scan looks
abbrev pub is_scanning : Seeker → Bool
is_scanning seeker.Caller = false
is_scanning (seeker.Scan k coll slot) = true

-- whether a phase is of a scan
abbrev pub has_scan : Phase → Bool
has_scan (phase.Scan next) = true
has_scan (phase.Look next) = is_scanning (seeker_of next)
has_scan _ = false

-- what the step leaves is of no scan
abbrev pub Plain : Change → Type 0
Plain change = has_scan change.phase ≡ false

-- so it is of none of any number
seeker_of_none : (k : ℕ) (who : Seeker) → is_scanning who ≡ false → seeks_for k who ≡ false
seeker_of_none k seeker.Caller e = refl
seeker_of_none k (seeker.Scan j coll slot) e = cc

pub of_none : (k : ℕ) (next : Phase) → has_scan next ≡ false → is_of k next ≡ false
of_none k (phase.Scan next) e = cc
of_none k (phase.Look next) e = seeker_of_none k (seeker_of next) e
of_none k _ e = refl

-- and each scan is at home
seeker_home : (who : Seeker) (scans : List Scan) → is_scanning who ≡ false → SeeksHome who scans
seeker_home seeker.Caller scans e = tt
seeker_home (seeker.Scan k coll slot) scans e = cc

plain_home : (next : Phase) (scans : List Scan) → has_scan next ≡ false → ScansHome next scans
plain_home (phase.Scan next) scans e = cc
plain_home (phase.Look next) scans e = seeker_home (seeker_of next) scans e
plain_home _ scans e = tt

module _ (shape : Layout) where
  -- each call that is no scan's
  look-plain : (number : Number) (finding : Finding) → Plain (look_change shape seeker.Caller number finding)
  look-plain number finding = grind arith

  pub looking-plain : (calm : Bool) (next : LookPhase) (w : Word) → seeker_of next ≡ seeker.Caller → Plain (looking_change shape calm next w)
  looking-plain calm next w e =
      subst (λ (who : Seeker). Plain (look_change shape who (sought_number next) (look_finding shape calm next w))) (sym e) (look-plain (sought_number next) (look_finding shape calm next w))

  look_started-plain : (calm : Bool) (number : Number) (w : Word) → Plain (look_started shape calm number w)
  look_started-plain calm number w = grind (arith, look-plain)

  slot_seen-plain : (epoch coll from slot tried : ℕ) (seen : Dir) → Plain (slot_seen shape epoch coll from slot tried seen)
  slot_seen-plain epoch coll from slot tried seen = grind arith

  entry_seen-plain : (epoch coll slot entry tried : ℕ) (seen : State) → Plain (entry_seen shape epoch coll slot entry tried seen)
  entry_seen-plain epoch coll slot entry tried seen = grind arith

  pub add-plain : (epoch : ℕ) (words : List ℕ) (next : AddPhase) (w : Word) → Plain (add_change shape epoch words next w)
  add-plain epoch words next w = grind (arith, slot_seen-plain, entry_seen-plain)

  pub remove-plain : (next : RemovePhase) → Plain (remove_change next)
  remove-plain next = grind arith

  remove_started-plain : (number : Number) (held : Option ℕ) (seen : State) → Plain (remove_started number held seen)
  remove_started-plain number held seen = grind arith

  round_seen-plain : (coll : ℕ) (seen : Option RoundWord) → Plain (round_seen coll seen)
  round_seen-plain coll seen = grind arith

  pub begin-plain : (epoch : ℕ) (next : BeginPhase) (w : Word) → Plain (begin_change shape epoch next w)
  begin-plain epoch next w = grind arith

  pub finish-plain : (next : FinishPhase) (w : Word) → Plain (finish_change shape next w)
  finish-plain next w = grind arith

  finish_owned-plain : (epoch : ℕ) (owned : Option Owned) (w : Word) → Plain (finish_owned shape epoch owned w)
  finish_owned-plain epoch owned w = grind arith

  pub cancel-plain : (next : CancelPhase) (w : Word) → Plain (cancel_change shape next w)
  cancel-plain next w = grind arith

  cancel_owned-plain : (owned : Option Owned) (w : Word) → Plain (cancel_owned shape owned w)
  cancel_owned-plain owned w = grind arith

  pub survey-plain : (counting : Counting) → Plain (survey_change counting)
  survey-plain counting = grind arith

  pub section_seen-plain : (from other seen : ℕ) → Plain (section_seen shape from other seen)
  section_seen-plain from other seen = grind arith

  pub ready_seen-plain : (from seen : ℕ) → Plain (ready_seen from seen)
  ready_seen-plain from seen = grind arith

  pub entering-plain : (section : Section) → Plain (entering_change section)
  entering-plain section = grind arith

  -- a call that is started, and is not going on with a scan
  pub start-plain : (pass : ℕ) (stand : Stand) (section : Section) (k : Call) (told : ℕ) (w : Word) → ((number : ℕ) → k ≢ call.Next number)
      → Plain (start_change shape pass stand section k told w)
  start-plain pass stand section call.Enter told w ne = refl
  start-plain pass stand section call.Leave told w ne = refl
  start-plain pass stand section call.Advance told w ne = grind arith
  start-plain pass stand section (call.Add coll from words) told w ne = slot_seen-plain (epoch_of section) coll from from 0 (dir_of w)
  start-plain pass stand section (call.Look number) told w ne = look_started-plain (is_calm section) number w
  start-plain pass stand section (call.Read number field) told w ne = refl
  start-plain pass stand section (call.Write number field value) told w ne = refl
  start-plain pass stand section (call.Remove number) told w ne = remove_started-plain number _ _
  start-plain pass stand section (call.Scan coll) told w ne = refl
  start-plain pass stand section (call.Next number) told w ne = absurd (ne number refl)
  start-plain pass stand section (call.Begin coll) told w ne = round_seen-plain coll _
  start-plain pass stand section call.Finish told w ne = finish_owned-plain (epoch_of section) stand.round w
  start-plain pass stand section call.Cancel told w ne = cancel_owned-plain stand.round w
  start-plain pass stand section (call.Survey coll) told w ne = survey-plain _
  start-plain pass stand section call.Note told w ne = refl
  start-plain pass stand section (call.Learn other note) told w ne = refl

  -- by one test
  pub both : (P : Phase → List Scan → Type 0) (b : Bool) (x y : Change) (u v : List Scan) → P x.phase u → P y.phase v → P (if b then x else y).phase (if b then u else v)
  both P true x y u v f g = f
  both P false x y u v f g = g

  -- a scan that passes a slot
  passes-home : (scans : List Scan) (k coll slot : ℕ) → OfColl coll (scan_of scans k) → ScansHome (passes shape k coll slot) (passed scans k (slot + 1))
  passes-home scans k coll slot home =
      cond_both (nat_lt (slot + 1) (slots_of shape coll)) (phase.Scan (scan.Directory k coll (slot + 1))) (phase.Scan (scan.End k)) (λ p. ScansHome p (passed scans k (slot + 1)))
      (λ t. passed-home scans k (slot + 1) coll home) (λ n. tt)

  -- a scan on its way
  pub scan-home : (scans : List Scan) (next : ScanPhase) (w : Word) → ScansHome (phase.Scan next) scans → ScansHome (scan_change shape next w).phase (scan_scans scans next w)
  scan-home scans (scan.Directory k coll slot) w home =
      both ScansHome (is_scanned (dir_of w)) (goes (phase.Scan (scan.Back k coll slot))) (goes (passes shape k coll slot)) scans (passed scans k (slot + 1)) home (passes-home scans k coll slot home)
  scan-home scans (scan.Back k coll slot) (word.Back (Some owner)) home = home
  scan-home scans (scan.Back k coll slot) _ home = passes-home scans k coll slot home
  scan-home scans (scan.End k) w home = tt

  -- a look-up
  look-home : (scans : List Scan) (who : Seeker) (number : Number) (finding : Finding) → SeeksHome who scans → ScansHome (look_change shape who number finding).phase (look_scans scans who finding)
  look-home scans seeker.Caller number finding home = plain_home (look_change shape seeker.Caller number finding).phase scans (look-plain number finding)
  look-home scans (seeker.Scan k coll place) number Absent home = passes-home scans k coll place home
  look-home scans (seeker.Scan k coll place) number (Stays slot) home =
      cond_both (slot == place) (visits k number slot) (goes (passes shape k coll place)) (λ (c : Change). ScansHome c.phase (passed scans k (place + 1))) (λ t. tt) (λ n. passes-home scans k coll place home)
  look-home scans (seeker.Scan k coll place) number (Abandons slot) home = home
  look-home scans (seeker.Scan k coll place) number (Helps slot next) home = home

  -- going on with a scan that the section has begun
  next-home : (scans : List Scan) (j : ℕ) (w : Word) (found : Option Scan) → scan_of scans j ≡ found → ScansHome (next_started shape found w).phase (next_after shape scans found w)
  next-home scans j w None is = tt
  next-home scans j w (Some begun) is =
      let same : begun.number ≡ j = eqb-true begun.number j (found-number scans j begun is) in
      let home : OfColl begun.coll (scan_of scans begun.number) = subst (λ (k : ℕ). OfColl begun.coll (scan_of scans k)) (sym same) (subst (OfColl begun.coll) (sym is) refl) in
      both ScansHome begun.ended (ends done.End) (if is_over shape begun then scan_change shape (scan.End begun.number) w else scan_change shape (scan.Directory begun.number begun.coll begun.place) w)
      scans (if is_over shape begun then scan_scans scans (scan.End begun.number) w else scan_scans scans (scan.Directory begun.number begun.coll begun.place) w) tt
      (both ScansHome (is_over shape begun) (scan_change shape (scan.End begun.number) w) (scan_change shape (scan.Directory begun.number begun.coll begun.place) w)
      (scan_scans scans (scan.End begun.number) w) (scan_scans scans (scan.Directory begun.number begun.coll begun.place) w)
      tt (scan-home scans (scan.Directory begun.number begun.coll begun.place) w home))

  -- a step that goes on
  go-home : (pass : ℕ) (stand : Stand) (section : Section) (next : Phase) (w : Word) → ScansHome next stand.scans
      → ScansHome (go_change shape stand section next w).phase (scans_after shape pass stand section next Go w)
  go-home pass stand section phase.Idle w home = tt
  go-home pass stand section phase.Entering w home = plain_home _ stand.scans (entering-plain section)
  go-home pass stand section (phase.Advancing from other) w home = plain_home _ stand.scans (section_seen-plain from other (plain_of w))
  go-home pass stand section (phase.Ready from) w home = plain_home _ stand.scans (ready_seen-plain from (plain_of w))
  go-home pass stand section (phase.Look next) w home = look-home stand.scans (seeker_of next) (sought_number next) (look_finding shape (is_calm section) next w) home
  go-home pass stand section (phase.Add next) w home = plain_home _ stand.scans (add-plain (epoch_of section) stand.words next w)
  go-home pass stand section (phase.Remove next) w home = plain_home _ stand.scans (remove-plain next)
  go-home pass stand section (phase.Scan next) w home = scan-home stand.scans next w home
  go-home pass stand section (phase.Begin next) w home = plain_home _ stand.scans (begin-plain (epoch_of section) next w)
  go-home pass stand section (phase.Finish next) w home = plain_home _ stand.scans (finish-plain next w)
  go-home pass stand section (phase.Cancel next) w home = plain_home _ stand.scans (cancel-plain next w)
  go-home pass stand section (phase.Survey next) w home = plain_home _ stand.scans (survey-plain (counting shape next w))

  -- a call that is started
  start-home : (pass : ℕ) (stand : Stand) (section : Section) (next : Phase) (k : Call) (told : ℕ) (w : Word)
      → ScansHome (start_change shape pass stand section k told w).phase (scans_after shape pass stand section next (Start k) w)
  start-home pass stand section next (call.Next number) told w = next-home stand.scans number w (scan_of stand.scans number) refl
  start-home pass stand section next call.Enter told w = tt
  start-home pass stand section next call.Leave told w = tt
  start-home pass stand section next call.Advance told w = plain_home _ stand.scans (start-plain pass stand section call.Advance told w (λ number e. absurd (cc)))
  start-home pass stand section next (call.Add coll from words) told w = plain_home _ stand.scans (start-plain pass stand section (call.Add coll from words) told w (λ number e. absurd (cc)))
  start-home pass stand section next (call.Look number) told w = plain_home _ stand.scans (start-plain pass stand section (call.Look number) told w (λ number e. absurd (cc)))
  start-home pass stand section next (call.Read number field) told w = tt
  start-home pass stand section next (call.Write number field value) told w = tt
  start-home pass stand section next (call.Remove number) told w = plain_home _ stand.scans (start-plain pass stand section (call.Remove number) told w (λ number e. absurd (cc)))
  start-home pass stand section next (call.Scan coll) told w = tt
  start-home pass stand section next (call.Begin coll) told w = plain_home _ stand.scans (start-plain pass stand section (call.Begin coll) told w (λ number e. absurd (cc)))
  start-home pass stand section next call.Finish told w = plain_home _ stand.scans (start-plain pass stand section call.Finish told w (λ number e. absurd (cc)))
  start-home pass stand section next call.Cancel told w = plain_home _ stand.scans (start-plain pass stand section call.Cancel told w (λ number e. absurd (cc)))
  start-home pass stand section next (call.Survey coll) told w = plain_home _ stand.scans (start-plain pass stand section (call.Survey coll) told w (λ number e. absurd (cc)))
  start-home pass stand section next call.Note told w = tt
  start-home pass stand section next (call.Learn other note) told w = tt

  -- each step
  pub step-home : (pass : ℕ) (stand : Stand) (choice : Choice) (told : ℕ) (w : Word) → ScansHome stand.phase stand.scans
      → ScansHome (change shape pass stand stand.section stand.phase choice told w).phase (scans_after shape pass stand stand.section stand.phase choice w)
  step-home pass stand Go told w home = go-home pass stand stand.section stand.phase w home
  step-home pass stand (Start k) told w home = start-home pass stand stand.section stand.phase k told w

  -- numbers stay below
  module _ (limit : ℕ) where
    scan-below : (scans : List Scan) (next : ScanPhase) (w : Word) → AreBelow limit scans → AreBelow limit (scan_scans scans next w)
    scan-below scans (scan.Directory k coll slot) w below =
        cond_both (is_scanned (dir_of w)) scans (passed scans k (slot + 1)) (AreBelow limit) (λ t. below) (λ n. below-passed scans k (slot + 1) limit below)
    scan-below scans (scan.Back k coll slot) (word.Back (Some owner)) below = below
    scan-below scans (scan.Back k coll slot) _ below = below-passed scans k (slot + 1) limit below
    scan-below scans (scan.End k) w below = below-ended scans k limit below

    look-below : (scans : List Scan) (who : Seeker) (finding : Finding) → AreBelow limit scans → AreBelow limit (look_scans scans who finding)
    look-below scans seeker.Caller finding below = below
    look-below scans (seeker.Scan k coll slot) Absent below = below-passed scans k (slot + 1) limit below
    look-below scans (seeker.Scan k coll slot) (Stays there) below = below-passed scans k (slot + 1) limit below
    look-below scans (seeker.Scan k coll slot) (Abandons there) below = below
    look-below scans (seeker.Scan k coll slot) (Helps there next) below = below

    next-below : (scans : List Scan) (w : Word) (found : Option Scan) → AreBelow limit scans → AreBelow limit (next_after shape scans found w)
    next-below scans w None below = below
    next-below scans w (Some begun) below =
        cond_both begun.ended scans (if is_over shape begun then scan_scans scans (scan.End begun.number) w else scan_scans scans (scan.Directory begun.number begun.coll begun.place) w) (AreBelow limit)
        (λ t. below)
        (λ n. cond_both (is_over shape begun) (scan_scans scans (scan.End begun.number) w) (scan_scans scans (scan.Directory begun.number begun.coll begun.place) w) (AreBelow limit)
        (λ t. scan-below scans (scan.End begun.number) w below) (λ u. scan-below scans (scan.Directory begun.number begun.coll begun.place) w below))

    go-below : (pass : ℕ) (stand : Stand) (section : Section) (next : Phase) (w : Word) → AreBelow limit stand.scans → AreBelow limit (scans_after shape pass stand section next Go w)
    go-below pass stand section (phase.Scan next) w below = scan-below stand.scans next w below
    go-below pass stand section (phase.Look next) w below = look-below stand.scans (seeker_of next) (look_finding shape (is_calm section) next w) below
    go-below pass stand section _ w below = below

  -- after each step
  pub step-below : (pass : ℕ) (stand : Stand) (section : Section) (next : Phase) (choice : Choice) (w : Word) → AreBelow (scan_number pass stand.begun) stand.scans
      → AreBelow (scan_number pass (begun_after stand.begun choice)) (scans_after shape pass stand section next choice w)
  step-below pass stand section next Go w below = go-below (scan_number pass stand.begun) pass stand section next w below
  step-below pass stand section next (Start (call.Scan coll)) w below =
      below-begun stand.scans (new_scan (scan_number pass stand.begun) coll) (scan_number pass (stand.begun + 1)) (omega arith)
      (below-more stand.scans (scan_number pass stand.begun) (scan_number pass (stand.begun + 1)) (omega arith) below)
  step-below pass stand section next (Start (call.Next number)) w below = next-below (scan_number pass stand.begun) stand.scans w (scan_of stand.scans number) below
  step-below pass stand section next (Start call.Leave) w below = tt
  step-below pass stand section next (Start _) w below = below
