-- What an offered step leaves of a section.
use Rattle.std.proofs.Common.{◌≡◌, ℕ, suc, ◌+◌, Bool, true, false, Option, Some, None, List, [], ◌∷◌, length, refl, sym, ap, subst}
use Rattle.std.specs.Prelude.{IfSome, slice_get, nat_lt, ◌&&◌, ◌==◌, if◌then◌else◌}
use Rattle.std.proofs.lemmas.List.{length-append}
use Rattle.std.proofs.lemmas.Option.{none-some}
use Rattle.smc_words.specs.declared.number.Number.{Number}
use Rattle.smc_shape.specs.Layout.{Layout, width_of}
use Rattle.smc_core.specs.declared.call.Call.{Call}
use Rattle.smc_core.specs.declared.call.Call.TheVariants as call
use Rattle.smc_core.specs.declared.call.Choice.{Choice}
use Rattle.smc_core.specs.declared.call.Choice.TheVariants.{Start, Go}
use Rattle.smc_core.specs.declared.local.Scan.{Scan}
use Rattle.smc_core.specs.declared.local.Stand.{Stand}
use Rattle.smc_core.specs.declared.op.Offer.{Offer}
use Rattle.smc_core.specs.declared.phase.Phase.{Phase}
use Rattle.smc_core.specs.declared.phase.Phase.TheVariants as phase
use Rattle.smc_core.specs.declared.phase.moves.BeginPhase.{BeginPhase}
use Rattle.smc_core.specs.declared.phase.moves.BeginPhase.TheVariants as begin
use Rattle.smc_core.specs.declared.phase.moves.CancelPhase.{CancelPhase}
use Rattle.smc_core.specs.declared.phase.moves.CancelPhase.TheVariants as cancel
use Rattle.smc_core.specs.declared.phase.moves.CountPhase.{CountPhase}
use Rattle.smc_core.specs.declared.phase.moves.CountPhase.TheVariants as walk
use Rattle.smc_core.specs.declared.phase.moves.FinishPhase.{FinishPhase}
use Rattle.smc_core.specs.declared.phase.moves.FinishPhase.TheVariants as finish
use Rattle.smc_core.specs.declared.phase.objects.AddPhase.{AddPhase}
use Rattle.smc_core.specs.declared.phase.objects.AddPhase.TheVariants as add
use Rattle.smc_core.specs.declared.phase.objects.CopyPhase.{CopyPhase}
use Rattle.smc_core.specs.declared.phase.objects.CopyPhase.TheVariants as copy
use Rattle.smc_core.specs.declared.phase.objects.Finding.{Finding}
use Rattle.smc_core.specs.declared.phase.objects.Finding.TheVariants.{Absent, Stays, Abandons, Helps}
use Rattle.smc_core.specs.declared.phase.objects.LookPhase.{LookPhase}
use Rattle.smc_core.specs.declared.phase.objects.LookPhase.TheVariants as look
use Rattle.smc_core.specs.declared.phase.objects.RemovePhase.{RemovePhase}
use Rattle.smc_core.specs.declared.phase.objects.RemovePhase.TheVariants as remove
use Rattle.smc_core.specs.declared.phase.objects.ScanPhase.{ScanPhase}
use Rattle.smc_core.specs.declared.phase.objects.ScanPhase.TheVariants as scan
use Rattle.smc_core.specs.declared.phase.objects.Seeker.{Seeker}
use Rattle.smc_core.specs.declared.phase.objects.Seeker.TheVariants as seeker
use Rattle.smc_core.specs.declared.section.Section.{Section}
use Rattle.smc_core.specs.declared.section.Section.TheVariants.{Outside, Loaded, Announced, Again, Lasting, Inside}
use Rattle.smc_core.specs.declared.word.Word.{Word}
use Rattle.smc_core.specs.declared.word.Word.TheVariants as word
use Rattle.smc_core.specs.Add.{is_value, takes, add_offer}
use Rattle.smc_core.specs.Begin.{begin_offer}
use Rattle.smc_core.specs.Cancel.{cancel_offer}
use Rattle.smc_core.specs.Count.{count_offer}
use Rattle.smc_core.specs.Finish.{finish_offer, is_early}
use Rattle.smc_core.specs.Local.{section_after, scans_after, next_after, cursors_after}
use Rattle.smc_core.specs.Look.{copy_offer, look_offer, look_finding, seeker_of}
use Rattle.smc_core.specs.Offer.{go_offer, start_offer, offer, when_idle, held_slot}
use Rattle.smc_core.specs.Remove.{remove_offer}
use Rattle.smc_core.specs.Row.{has_place}
use Rattle.smc_core.specs.Scan.{scan_offer, is_over, is_scanned, passed, ended, scan_of, scan_scans, look_scans}
use Rattle.smc_core.specs.Section.{epoch_of, is_calm}
use Rattle.smc_core.specs.Words.{dir_of, back_of}
use Rattle.smc_shape.specs.declared.place.Place.TheVariants as place
use Rattle.smc_rules.proofs.OfferLaws.{if_idle, if_outside, if_inside, if_test, if_held, if_begun, if_owned}
use Rattle.smc_region.specs.declared.chosen.Chosen.{Chosen}
use Rattle.smc_region.specs.declared.chosen.Chosen.TheVariants as chosen
use Rattle.smc_region.specs.Choices.{number_of, choice_of}
use Rattle.smc_region.specs.Rule.{IsOwn}
use Rattle.smc_region.specs.Sections.{IsWithin, scans_with, cursors_by}

-- nothing is offered where nothing is
none-offered : (now : Phase) (o : Offer) → when_idle now None ≡ Some o → ⊥
none-offered phase.Idle o e = none-some o e
none-offered _ o e = none-some o e

-- a step that is offered inside a section, and does not end it, is an own one, and the section stays
pub inside-stays : (shape : Layout) (pass : ℕ) (stand : Stand) (epoch : ℕ) (calm : Bool) (now : Phase) (choice : Choice) (o : Offer)
    → offer shape pass stand (Inside epoch calm) now choice ≡ Some o → IsWithin choice
    → IsOwn choice × ((w : Word) → section_after (Inside epoch calm) now choice w ≡ Inside epoch calm)
inside-stays shape pass stand epoch calm phase.Idle Go o is within = absurd (none-some o is)
inside-stays shape pass stand epoch calm phase.Entering Go o is within = absurd (none-some o is)
inside-stays shape pass stand epoch calm (phase.Advancing from other) Go o is within = (tt, λ w. refl)
inside-stays shape pass stand epoch calm (phase.Ready from) Go o is within = (tt, λ w. refl)
inside-stays shape pass stand epoch calm (phase.Look next) Go o is within = (tt, λ w. refl)
inside-stays shape pass stand epoch calm (phase.Add next) Go o is within = (tt, λ w. refl)
inside-stays shape pass stand epoch calm (phase.Remove next) Go o is within = (tt, λ w. refl)
inside-stays shape pass stand epoch calm (phase.Scan next) Go o is within = (tt, λ w. refl)
inside-stays shape pass stand epoch calm (phase.Begin next) Go o is within = (tt, λ w. refl)
inside-stays shape pass stand epoch calm (phase.Finish next) Go o is within = (tt, λ w. refl)
inside-stays shape pass stand epoch calm (phase.Cancel next) Go o is within = (tt, λ w. refl)
inside-stays shape pass stand epoch calm (phase.Survey next) Go o is within = (tt, λ w. refl)
inside-stays shape pass stand epoch calm now (Start call.Enter) o is within = absurd (none-offered now o is)
inside-stays shape pass stand epoch calm now (Start call.Leave) o is within = absurd within
inside-stays shape pass stand epoch calm now (Start call.Advance) o is within = (tt, λ w. refl)
inside-stays shape pass stand epoch calm now (Start (call.Add coll from words)) o is within = (tt, λ w. refl)
inside-stays shape pass stand epoch calm now (Start (call.Look number)) o is within = (tt, λ w. refl)
inside-stays shape pass stand epoch calm now (Start (call.Read number field)) o is within = (tt, λ w. refl)
inside-stays shape pass stand epoch calm now (Start (call.Write number field value)) o is within = (tt, λ w. refl)
inside-stays shape pass stand epoch calm now (Start (call.Remove number)) o is within = (tt, λ w. refl)
inside-stays shape pass stand epoch calm now (Start (call.Scan coll)) o is within = (tt, λ w. refl)
inside-stays shape pass stand epoch calm now (Start (call.Next scan)) o is within = (tt, λ w. refl)
inside-stays shape pass stand epoch calm now (Start (call.Begin coll)) o is within = (tt, λ w. refl)
inside-stays shape pass stand epoch calm now (Start call.Finish) o is within = (tt, λ w. refl)
inside-stays shape pass stand epoch calm now (Start call.Cancel) o is within = (tt, λ w. refl)
inside-stays shape pass stand epoch calm now (Start (call.Survey coll)) o is within = (tt, λ w. refl)
inside-stays shape pass stand epoch calm now (Start call.Note) o is within = (tt, λ w. refl)
inside-stays shape pass stand epoch calm now (Start (call.Learn other note)) o is within = absurd (none-offered now o is)

length-either : (b : Bool) (xs ys : List Scan) (n : ℕ) → length xs ≡ n → length ys ≡ n → length (if b then xs else ys) ≡ n
length-either true xs ys n x y = x
length-either false xs ys n x y = y

-- a scan that has passed slots is still one scan
length-passed : (scans : List Scan) (number slot : ℕ) → length (passed scans number slot) ≡ length scans
length-passed [] number slot = refl
length-passed (first ∷ later) number slot =
    length-either (first.number == number) (record first { place = slot } ∷ later) (first ∷ passed later number slot) (length (first ∷ later)) refl (ap suc (length-passed later number slot))

-- so is one that has ended
length-ended : (scans : List Scan) (number : ℕ) → length (ended scans number) ≡ length scans
length-ended [] number = refl
length-ended (first ∷ later) number =
    length-either (first.number == number) (record first { ended = true } ∷ later) (first ∷ ended later number) (length (first ∷ later)) refl (ap suc (length-ended later number))

length-scan_scans : (scans : List Scan) (next : ScanPhase) (w : Word) → length (scan_scans scans next w) ≡ length scans
length-scan_scans scans (scan.Directory number coll slot) w = length-either (is_scanned (dir_of w)) scans (passed scans number (slot + 1)) (length scans) refl (length-passed scans number (slot + 1))
length-scan_scans scans (scan.Back number coll slot) w = go (back_of w)
  where
    go : (owner : Option Number) → length (scan_scans scans (scan.Back number coll slot) (word.Back owner)) ≡ length scans
    go None = length-passed scans number (slot + 1)
    go (Some owner) = refl
length-scan_scans scans (scan.End number) w = length-ended scans number

length-look_scans : (scans : List Scan) (who : Seeker) (finding : Finding) → length (look_scans scans who finding) ≡ length scans
length-look_scans scans seeker.Caller finding = refl
length-look_scans scans (seeker.Scan number coll slot) Absent = length-passed scans number (slot + 1)
length-look_scans scans (seeker.Scan number coll slot) (Stays there) = length-passed scans number (slot + 1)
length-look_scans scans (seeker.Scan number coll slot) (Abandons there) = refl
length-look_scans scans (seeker.Scan number coll slot) (Helps there next) = refl

length-next_after : (shape : Layout) (scans : List Scan) (begun : Option Scan) (w : Word) → length (next_after shape scans begun w) ≡ length scans
length-next_after shape scans None w = refl
length-next_after shape scans (Some begun) w =
    length-either begun.ended scans _ (length scans) refl
    (length-either (is_over shape begun) (scan_scans scans (scan.End begun.number) w) (scan_scans scans (scan.Directory begun.number begun.coll begun.place) w) (length scans)
    (length-scan_scans scans (scan.End begun.number) w) (length-scan_scans scans (scan.Directory begun.number begun.coll begun.place) w))

-- as many scans as were begun
pub length-scans : (shape : Layout) (pass : ℕ) (stand : Stand) (section : Section) (now : Phase) (chosen : Chosen) (w : Word) → IsWithin (choice_of stand.scans chosen)
    → length (scans_after shape pass stand section now (choice_of stand.scans chosen) w) ≡ scans_with (length stand.scans) chosen
length-scans shape pass stand section phase.Idle chosen.Go w within = refl
length-scans shape pass stand section phase.Entering chosen.Go w within = refl
length-scans shape pass stand section (phase.Advancing epoch other) chosen.Go w within = refl
length-scans shape pass stand section (phase.Ready epoch) chosen.Go w within = refl
length-scans shape pass stand section (phase.Look next) chosen.Go w within = length-look_scans stand.scans (seeker_of next) (look_finding shape (is_calm section) next w)
length-scans shape pass stand section (phase.Add next) chosen.Go w within = refl
length-scans shape pass stand section (phase.Remove next) chosen.Go w within = refl
length-scans shape pass stand section (phase.Scan next) chosen.Go w within = length-scan_scans stand.scans next w
length-scans shape pass stand section (phase.Begin next) chosen.Go w within = refl
length-scans shape pass stand section (phase.Finish next) chosen.Go w within = refl
length-scans shape pass stand section (phase.Cancel next) chosen.Go w within = refl
length-scans shape pass stand section (phase.Survey next) chosen.Go w within = refl
length-scans shape pass stand section now chosen.Enter w within = refl
length-scans shape pass stand section now chosen.Leave w within = absurd within
length-scans shape pass stand section now chosen.Advance w within = refl
length-scans shape pass stand section now (chosen.Add coll from words) w within = refl
length-scans shape pass stand section now (chosen.Look number) w within = refl
length-scans shape pass stand section now (chosen.Read number field) w within = refl
length-scans shape pass stand section now (chosen.Write number field value) w within = refl
length-scans shape pass stand section now (chosen.Remove number) w within = refl
length-scans shape pass stand section now (chosen.Scan coll) w within = length-append stand.scans _
length-scans shape pass stand section now (chosen.Next place) w within = length-next_after shape stand.scans (scan_of stand.scans (number_of (slice_get stand.scans place))) w
length-scans shape pass stand section now (chosen.Begin coll) w within = refl
length-scans shape pass stand section now chosen.Finish w within = refl
length-scans shape pass stand section now chosen.Cancel w within = refl
length-scans shape pass stand section now (chosen.Survey coll) w within = refl
length-scans shape pass stand section now chosen.Note w within = refl
length-scans shape pass stand section now (chosen.Learn other note) w within = refl

module _ (shape : Layout) (pass : ℕ) (stand : Stand) (cursors : List ℕ) where
  -- the operation of the offer leaves the cursors that the step leaves
  abbrev Moves : Phase → Choice → Offer → Type 0
  Moves now choice o = cursors_by shape cursors o.op ≡ cursors_after shape cursors now choice

  abbrev Rests : Offer → Type 0
  Rests o = cursors_by shape cursors o.op ≡ cursors

  copies : (number : Number) (source : ℕ) (next : CopyPhase) → Rests (copy_offer number source next)
  copies number source copy.Target = refl
  copies number source (copy.Load target field) = refl
  copies number source (copy.Put target field value) = refl
  copies number source (copy.Swing target) = refl

  looks : (next : LookPhase) → Rests (look_offer next)
  looks (look.Load who number) = refl
  looks (look.Abandon who number slot) = refl
  looks (look.Help who number slot next) = copies number slot next

  adds : (words : List ℕ) (next : AddPhase) → Moves (phase.Add next) Go (add_offer words next)
  adds words (add.FindSlot coll from slot tried) = refl
  adds words (add.ClaimSlot coll from slot tried seen) = refl
  adds words (add.DropSlot coll slot) = refl
  adds words (add.FindEntry coll slot entry tried) = refl
  adds words (add.ClaimEntry coll slot entry tried incarnation stamp) = refl
  adds words (add.StoreBack slot number) = refl
  adds words (add.StoreField slot number field) = refl
  adds words (add.StoreValid slot number) = refl
  adds words (add.StoreLive slot number) = refl

  removes : (epoch : ℕ) (next : RemovePhase) → Rests (remove_offer epoch next)
  removes epoch (remove.LeaveSlot slot number) = refl
  removes epoch (remove.FreeEntry number) = refl

  goes_on : (next : ScanPhase) → Rests (scan_offer pass next)
  goes_on (scan.Directory number coll slot) = refl
  goes_on (scan.Back number coll slot) = refl
  goes_on (scan.End number) = refl

  counts : (next : CountPhase) → Rests (count_offer next)
  counts (walk.Directory coll slot count) = refl
  counts (walk.Back coll slot count) = refl
  counts (walk.Entry coll slot count number) = refl

  begins : (epoch : ℕ) (next : BeginPhase) → Rests (begin_offer epoch next)
  begins epoch (begin.Count next) = counts next
  begins epoch (begin.Nothing coll) = refl
  begins epoch (begin.SourceDirectory moves) = refl
  begins epoch (begin.SourceBack moves) = refl
  begins epoch (begin.SourceEntry moves number) = refl
  begins epoch (begin.TargetDirectory moves number) = refl
  begins epoch (begin.ClaimTarget moves number seen) = refl
  begins epoch (begin.BlankField moves number field) = refl
  begins epoch (begin.StoreBack moves number) = refl
  begins epoch (begin.StoreForward moves number) = refl
  begins epoch (begin.StoreIncoming moves number) = refl
  begins epoch (begin.Freeze moves number) = refl
  begins epoch (begin.GiveUp moves) = refl

  finishes : (epoch : ℕ) (next : FinishPhase) → Rests (finish_offer epoch next)
  finishes epoch (finish.Directory targets) = refl
  finishes epoch (finish.Back targets) = refl
  finishes epoch (finish.Entry targets number) = refl
  finishes epoch (finish.Lock targets number source) = refl
  finishes epoch (finish.Move targets number source next) = copies number source next
  finishes epoch (finish.Settle targets source) = refl
  finishes epoch (finish.LeaveSource targets source) = refl
  finishes epoch (finish.GiveUp targets gone) = refl
  finishes epoch (finish.End targets) = refl

  cancels : (epoch : ℕ) (next : CancelPhase) → Rests (cancel_offer epoch next)
  cancels epoch (cancel.Directory coll slot) = refl
  cancels epoch (cancel.Back coll slot) = refl
  cancels epoch (cancel.Entry coll slot number) = refl
  cancels epoch (cancel.Unfreeze coll slot number source) = refl
  cancels epoch (cancel.GiveUp coll slot) = refl
  cancels epoch cancel.End = refl

  entering : (section : Section) → IfSome (go_offer pass stand section phase.Entering) Rests
  entering Outside = tt
  entering (Loaded seen) = refl
  entering (Announced seen) = refl
  entering (Again seen epoch) = refl
  entering (Lasting epoch) = refl
  entering (Inside epoch calm) = tt

  go : (section : Section) (now : Phase) → IfSome (go_offer pass stand section now) (Moves now Go)
  go section phase.Idle = tt
  go section phase.Entering = entering section
  go section (phase.Advancing epoch other) = refl
  go section (phase.Ready epoch) = refl
  go section (phase.Look next) = looks next
  go section (phase.Add next) = adds stand.words next
  go section (phase.Remove next) = removes (epoch_of section) next
  go section (phase.Scan next) = goes_on next
  go section (phase.Begin next) = begins (epoch_of section) next
  go section (phase.Finish next) = finishes (epoch_of section) next
  go section (phase.Cancel next) = cancels (epoch_of section) next
  go section (phase.Survey next) = counts next

  either : (b : Bool) (o p : Offer) → Rests o → Rests p → Rests (if b then o else p)
  either true o p x y = x
  either false o p x y = y

  start : (section : Section) (call : Call) → IfSome (start_offer shape pass stand section call) Rests
  start section call.Enter = if_outside Rests section _ (λ e. refl)
  start section call.Leave = if_inside Rests section _ (λ own calm e. refl)
  start section call.Advance = if_outside Rests section _ (λ e. refl)
  start section (call.Add coll from words) = if_inside Rests section _ (λ own calm e. if_test Rests (takes shape coll from words) _ (λ t. refl))
  start section (call.Look number) = if_inside Rests section _ (λ own calm e. either (has_place shape (place.Entry number.coll number.entry)) _ _ refl refl)
  start section (call.Read number field) = if_inside Rests section _ (λ own calm e. if_held Rests (held_slot stand.held number) _ (λ slot is. if_test Rests (nat_lt field (width_of shape number.coll)) _ (λ t. refl)))
  start section (call.Write number field value) = if_inside Rests section _ (λ own calm e. if_held Rests (held_slot stand.held number) _ (λ slot is. if_test Rests (nat_lt field (width_of shape number.coll) && is_value value) _ (λ t. refl)))
  start section (call.Remove number) = if_inside Rests section _ (λ own calm e. if_held Rests (held_slot stand.held number) _ (λ slot is. refl))
  start section (call.Scan coll) = if_inside Rests section _ (λ own calm e. if_test Rests (nat_lt coll (length shape.colls)) _ (λ t. refl))
  start section (call.Next number) = if_inside Rests section _ (λ own calm e. if_begun Rests (scan_of stand.scans number) _ (λ begun is. either (is_over shape begun) _ _ refl refl))
  start section (call.Begin coll) = if_inside Rests section _ (λ own calm e. if_test Rests (nat_lt coll (length shape.colls)) _ (λ t. refl))
  start section call.Finish = if_inside Rests section _ (λ own calm e. if_owned Rests stand.round _ (λ owned is. either (is_early (epoch_of section) owned.bound) _ _ refl refl))
  start section call.Cancel = if_inside Rests section _ (λ own calm e. if_owned Rests stand.round _ (λ owned is. refl))
  start section (call.Survey coll) = if_inside Rests section _ (λ own calm e. if_test Rests (nat_lt coll (length shape.colls)) _ (λ t. refl))
  start section call.Note = if_outside Rests section _ (λ e. refl)
  start section (call.Learn other note) = if_outside Rests section _ (λ e. refl)

  offers : (section : Section) (now : Phase) (choice : Choice) → IfSome (offer shape pass stand section now choice) (Moves now choice)
  offers section now Go = go section now
  offers section now (Start call) = if_idle (Moves now (Start call)) now (start_offer shape pass stand section call)
      (λ e. subst (λ (p : Phase). IfSome (start_offer shape pass stand section call) (Moves p (Start call))) (sym e) (start section call))

  -- the cursors follow from the operation
  pub cursors-by : (section : Section) (now : Phase) (choice : Choice) (o : Offer) → offer shape pass stand section now choice ≡ Some o → Moves now choice o
  cursors-by section now choice o is = subst (λ (x : Option Offer). IfSome x (Moves now choice)) is (offers section now choice)
