-- What each kind of step does to its word.
use Rattle.std.proofs.Common.{◌≡◌, ℕ, Bool, true, false, Option, Some, List, length, refl, sym, subst}
use Rattle.std.specs.Prelude.{IfSome, nat_lt, ◌&&◌, if◌then◌else◌}
use Rattle.smc_words.specs.declared.number.Number.{Number}
use Rattle.smc_shape.specs.Layout.{Layout, width_of}
use Rattle.smc_core.specs.declared.call.Call.{Call}
use Rattle.smc_core.specs.declared.call.Call.TheVariants as call
use Rattle.smc_core.specs.declared.call.Choice.{Choice}
use Rattle.smc_core.specs.declared.call.Choice.TheVariants.{Start, Go}
use Rattle.smc_core.specs.declared.local.Stand.{Stand}
use Rattle.smc_core.specs.declared.op.Offer.{Offer}
use Rattle.smc_core.specs.declared.phase.Phase.{Phase}
use Rattle.smc_core.specs.declared.phase.Phase.TheVariants as phase
use Rattle.smc_core.specs.declared.phase.moves.BeginPhase.{BeginPhase}
use Rattle.smc_core.specs.declared.phase.moves.BeginPhase.TheVariants as begin
use Rattle.smc_core.specs.declared.phase.moves.CancelPhase.{CancelPhase}
use Rattle.smc_core.specs.declared.phase.moves.CancelPhase.TheVariants as cancel
use Rattle.smc_core.specs.declared.phase.moves.CountPhase.{CountPhase}
use Rattle.smc_core.specs.declared.phase.moves.CountPhase.TheVariants as walk
use Rattle.smc_core.specs.declared.phase.moves.FinishPhase.{FinishPhase}
use Rattle.smc_core.specs.declared.phase.moves.FinishPhase.TheVariants as finish
use Rattle.smc_core.specs.declared.phase.objects.AddPhase.{AddPhase}
use Rattle.smc_core.specs.declared.phase.objects.AddPhase.TheVariants as add
use Rattle.smc_core.specs.declared.phase.objects.CopyPhase.{CopyPhase}
use Rattle.smc_core.specs.declared.phase.objects.CopyPhase.TheVariants as copy
use Rattle.smc_core.specs.declared.phase.objects.LookPhase.{LookPhase}
use Rattle.smc_core.specs.declared.phase.objects.LookPhase.TheVariants as look
use Rattle.smc_core.specs.declared.phase.objects.RemovePhase.{RemovePhase}
use Rattle.smc_core.specs.declared.phase.objects.RemovePhase.TheVariants as remove
use Rattle.smc_core.specs.declared.phase.objects.ScanPhase.{ScanPhase}
use Rattle.smc_core.specs.declared.phase.objects.ScanPhase.TheVariants as scan
use Rattle.smc_core.specs.declared.section.Section.{Section}
use Rattle.smc_core.specs.declared.section.Section.TheVariants.{Outside, Loaded, Announced, Again, Lasting, Inside}
use Rattle.smc_core.specs.Add.{is_value, takes, add_offer}
use Rattle.smc_core.specs.Begin.{begin_offer}
use Rattle.smc_core.specs.Cancel.{cancel_offer}
use Rattle.smc_core.specs.Count.{count_offer}
use Rattle.smc_core.specs.Finish.{finish_offer, is_early}
use Rattle.smc_core.specs.Look.{copy_offer, look_offer}
use Rattle.smc_core.specs.Offer.{go_offer, start_offer, offer, held_slot}
use Rattle.smc_core.specs.Remove.{remove_offer}
use Rattle.smc_core.specs.Row.{has_place}
use Rattle.smc_core.specs.Scan.{scan_offer, is_over, scan_of}
use Rattle.smc_core.specs.Section.{epoch_of}
use Rattle.smc_shape.specs.declared.place.Place.TheVariants as place
use Rattle.smc_rules.proofs.OfferLaws.{if_idle, if_outside, if_inside, if_test, if_held, if_begun, if_owned}
use Rattle.smc_region.specs.Acts.{IsOfKind}

module _ (shape : Layout) (pass : ℕ) (stand : Stand) where
  -- the offer does what its kind says
  abbrev Does : Offer → Type 0
  Does o = IsOfKind o.kind o.op

  copies : (number : Number) (source : ℕ) (next : CopyPhase) → Does (copy_offer number source next)
  copies number source copy.Target = (refl, refl)
  copies number source (copy.Load target field) = (refl, refl)
  copies number source (copy.Put target field value) = (refl, refl)
  copies number source (copy.Swing target) = (refl, refl)

  looks : (next : LookPhase) → Does (look_offer next)
  looks (look.Load who number) = (refl, refl)
  looks (look.Abandon who number slot) = (refl, refl)
  looks (look.Help who number slot next) = copies number slot next

  adds : (words : List ℕ) (next : AddPhase) → Does (add_offer words next)
  adds words (add.FindSlot coll from slot tried) = (refl, refl)
  adds words (add.ClaimSlot coll from slot tried seen) = (refl, refl)
  adds words (add.DropSlot coll slot) = (refl, refl)
  adds words (add.FindEntry coll slot entry tried) = (refl, refl)
  adds words (add.ClaimEntry coll slot entry tried incarnation stamp) = (refl, refl)
  adds words (add.StoreBack slot number) = (refl, refl)
  adds words (add.StoreField slot number field) = (refl, refl)
  adds words (add.StoreValid slot number) = (refl, refl)
  adds words (add.StoreLive slot number) = (refl, refl)

  removes : (epoch : ℕ) (next : RemovePhase) → Does (remove_offer epoch next)
  removes epoch (remove.LeaveSlot slot number) = (refl, refl)
  removes epoch (remove.FreeEntry number) = (refl, refl)

  goes_on : (next : ScanPhase) → Does (scan_offer pass next)
  goes_on (scan.Directory number coll slot) = (refl, refl)
  goes_on (scan.Back number coll slot) = (refl, refl)
  goes_on (scan.End number) = (refl, refl)

  counts : (next : CountPhase) → Does (count_offer next)
  counts (walk.Directory coll slot count) = (refl, refl)
  counts (walk.Back coll slot count) = (refl, refl)
  counts (walk.Entry coll slot count number) = (refl, refl)

  begins : (epoch : ℕ) (next : BeginPhase) → Does (begin_offer epoch next)
  begins epoch (begin.Count next) = counts next
  begins epoch (begin.Nothing coll) = (refl, refl)
  begins epoch (begin.SourceDirectory moves) = (refl, refl)
  begins epoch (begin.SourceBack moves) = (refl, refl)
  begins epoch (begin.SourceEntry moves number) = (refl, refl)
  begins epoch (begin.TargetDirectory moves number) = (refl, refl)
  begins epoch (begin.ClaimTarget moves number seen) = (refl, refl)
  begins epoch (begin.BlankField moves number field) = (refl, refl)
  begins epoch (begin.StoreBack moves number) = (refl, refl)
  begins epoch (begin.StoreForward moves number) = (refl, refl)
  begins epoch (begin.StoreIncoming moves number) = (refl, refl)
  begins epoch (begin.Freeze moves number) = (refl, refl)
  begins epoch (begin.GiveUp moves) = (refl, refl)

  finishes : (epoch : ℕ) (next : FinishPhase) → Does (finish_offer epoch next)
  finishes epoch (finish.Directory targets) = (refl, refl)
  finishes epoch (finish.Back targets) = (refl, refl)
  finishes epoch (finish.Entry targets number) = (refl, refl)
  finishes epoch (finish.Lock targets number source) = (refl, refl)
  finishes epoch (finish.Move targets number source next) = copies number source next
  finishes epoch (finish.Settle targets source) = (refl, refl)
  finishes epoch (finish.LeaveSource targets source) = (refl, refl)
  finishes epoch (finish.GiveUp targets gone) = (refl, refl)
  finishes epoch (finish.End targets) = (refl, refl)

  cancels : (epoch : ℕ) (next : CancelPhase) → Does (cancel_offer epoch next)
  cancels epoch (cancel.Directory coll slot) = (refl, refl)
  cancels epoch (cancel.Back coll slot) = (refl, refl)
  cancels epoch (cancel.Entry coll slot number) = (refl, refl)
  cancels epoch (cancel.Unfreeze coll slot number source) = (refl, refl)
  cancels epoch (cancel.GiveUp coll slot) = (refl, refl)
  cancels epoch cancel.End = (refl, refl)

  entering : (section : Section) → IfSome (go_offer pass stand section phase.Entering) Does
  entering Outside = tt
  entering (Loaded seen) = (refl, refl)
  entering (Announced seen) = (refl, refl)
  entering (Again seen epoch) = (refl, refl)
  entering (Lasting epoch) = (refl, refl)
  entering (Inside epoch calm) = tt

  go : (section : Section) (now : Phase) → IfSome (go_offer pass stand section now) Does
  go section phase.Idle = tt
  go section phase.Entering = entering section
  go section (phase.Advancing epoch other) = (refl, refl)
  go section (phase.Ready epoch) = (refl, refl)
  go section (phase.Look next) = looks next
  go section (phase.Add next) = adds stand.words next
  go section (phase.Remove next) = removes (epoch_of section) next
  go section (phase.Scan next) = goes_on next
  go section (phase.Begin next) = begins (epoch_of section) next
  go section (phase.Finish next) = finishes (epoch_of section) next
  go section (phase.Cancel next) = cancels (epoch_of section) next
  go section (phase.Survey next) = counts next

  either : (b : Bool) (o p : Offer) → Does o → Does p → Does (if b then o else p)
  either true o p x y = x
  either false o p x y = y

  start : (section : Section) (call : Call) → IfSome (start_offer shape pass stand section call) Does
  start section call.Enter = if_outside Does section _ (λ e. (refl, refl))
  start section call.Leave = if_inside Does section _ (λ own calm e. (refl, refl))
  start section call.Advance = if_outside Does section _ (λ e. (refl, refl))
  start section (call.Add coll from words) = if_inside Does section _ (λ own calm e. if_test Does (takes shape coll from words) _ (λ t. (refl, refl)))
  start section (call.Look number) = if_inside Does section _ (λ own calm e. either (has_place shape (place.Entry number.coll number.entry)) _ _ (refl, refl) (refl, refl))
  start section (call.Read number field) = if_inside Does section _ (λ own calm e. if_held Does (held_slot stand.held number) _ (λ slot is. if_test Does (nat_lt field (width_of shape number.coll)) _ (λ t. (refl, refl))))
  start section (call.Write number field value) = if_inside Does section _ (λ own calm e. if_held Does (held_slot stand.held number) _ (λ slot is. if_test Does (nat_lt field (width_of shape number.coll) && is_value value) _ (λ t. (refl, refl))))
  start section (call.Remove number) = if_inside Does section _ (λ own calm e. if_held Does (held_slot stand.held number) _ (λ slot is. (refl, refl)))
  start section (call.Scan coll) = if_inside Does section _ (λ own calm e. if_test Does (nat_lt coll (length shape.colls)) _ (λ t. (refl, refl)))
  start section (call.Next number) = if_inside Does section _ (λ own calm e. if_begun Does (scan_of stand.scans number) _ (λ begun is. either (is_over shape begun) _ _ (refl, refl) (refl, refl)))
  start section (call.Begin coll) = if_inside Does section _ (λ own calm e. if_test Does (nat_lt coll (length shape.colls)) _ (λ t. (refl, refl)))
  start section call.Finish = if_inside Does section _ (λ own calm e. if_owned Does stand.round _ (λ owned is. either (is_early (epoch_of section) owned.bound) _ _ (refl, refl) (refl, refl)))
  start section call.Cancel = if_inside Does section _ (λ own calm e. if_owned Does stand.round _ (λ owned is. (refl, refl)))
  start section (call.Survey coll) = if_inside Does section _ (λ own calm e. if_test Does (nat_lt coll (length shape.colls)) _ (λ t. (refl, refl)))
  start section call.Note = if_outside Does section _ (λ e. (refl, refl))
  start section (call.Learn other note) = if_outside Does section _ (λ e. (refl, refl))

  offers : (section : Section) (now : Phase) (choice : Choice) → IfSome (offer shape pass stand section now choice) Does
  offers section now Go = go section now
  offers section now (Start call) = if_idle Does now (start_offer shape pass stand section call)
      (λ e. subst (λ (p : Phase). IfSome (start_offer shape pass stand section call) Does) (sym e) (start section call))

  -- each offer does what its kind says
  pub does-kind : (section : Section) (now : Phase) (choice : Choice) (o : Offer) → offer shape pass stand section now choice ≡ Some o → Does o
  does-kind section now choice o is = subst (λ (x : Option Offer). IfSome x Does) is (offers section now choice)
