-- What an offered step stores, puts or expects fits its place.
use Rattle.std.proofs.Common.{◌≡◌, ◌<◌, ◌≤◌, ℕ, Bool, true, false, nat_lt, Option, Some, None, List, length, refl, subst, arith}
use Rattle.std.proofs.lemmas.Bool.{ltb-true, cond_both}
use Rattle.smc_words.specs.declared.layout.TheConstants.{ENTRIES}
use Rattle.smc_words.specs.declared.number.Number.{Number}
use Rattle.smc_shape.specs.Layout.{Layout, IsShape}
use Rattle.smc_shape.specs.declared.place.Place.TheVariants as place
use Rattle.smc_core.specs.declared.call.Call.{Call}
use Rattle.smc_core.specs.declared.call.Call.TheVariants as call
use Rattle.smc_core.specs.declared.call.Choice.{Choice}
use Rattle.smc_core.specs.declared.call.Choice.TheVariants.{Start, Go}
use Rattle.smc_core.specs.declared.local.Owned.{Owned}
use Rattle.smc_core.specs.declared.local.Scan.{Scan}
use Rattle.smc_core.specs.declared.local.Stand.{Stand}
use Rattle.smc_core.specs.declared.op.Offer.{Offer}
use Rattle.smc_core.specs.declared.phase.Phase.{Phase}
use Rattle.smc_core.specs.declared.phase.Phase.TheVariants as phase
use Rattle.smc_core.specs.declared.phase.moves.BeginPhase.{BeginPhase}
use Rattle.smc_core.specs.declared.phase.moves.BeginPhase.TheVariants as begin
use Rattle.smc_core.specs.declared.phase.moves.CancelPhase.{CancelPhase}
use Rattle.smc_core.specs.declared.phase.moves.CancelPhase.TheVariants as cancel
use Rattle.smc_core.specs.declared.phase.moves.CountPhase.{CountPhase}
use Rattle.smc_core.specs.declared.phase.moves.CountPhase.TheVariants as walk
use Rattle.smc_core.specs.declared.phase.moves.FinishPhase.{FinishPhase}
use Rattle.smc_core.specs.declared.phase.moves.FinishPhase.TheVariants as finish
use Rattle.smc_core.specs.declared.phase.objects.AddPhase.{AddPhase}
use Rattle.smc_core.specs.declared.phase.objects.AddPhase.TheVariants as add
use Rattle.smc_core.specs.declared.phase.objects.CopyPhase.{CopyPhase}
use Rattle.smc_core.specs.declared.phase.objects.CopyPhase.TheVariants as copy
use Rattle.smc_core.specs.declared.phase.objects.LookPhase.{LookPhase}
use Rattle.smc_core.specs.declared.phase.objects.LookPhase.TheVariants as look
use Rattle.smc_core.specs.declared.phase.objects.RemovePhase.{RemovePhase}
use Rattle.smc_core.specs.declared.phase.objects.RemovePhase.TheVariants as remove
use Rattle.smc_core.specs.declared.phase.objects.ScanPhase.{ScanPhase}
use Rattle.smc_core.specs.declared.phase.objects.ScanPhase.TheVariants as scan
use Rattle.smc_core.specs.declared.section.Section.{Section}
use Rattle.smc_core.specs.declared.section.Section.TheVariants.{Outside, Loaded, Announced, Again, Lasting, Inside}
use Rattle.smc_core.specs.declared.section.TheConstants.{LAST_EPOCH}
use Rattle.smc_core.specs.Add.{takes, add_offer}
use Rattle.smc_core.specs.Begin.{round_offer, begin_offer}
use Rattle.smc_core.specs.Cancel.{cancel_offer}
use Rattle.smc_core.specs.Count.{count_offer}
use Rattle.smc_core.specs.Finish.{finish_offer, finish_start, is_early}
use Rattle.smc_core.specs.Look.{copy_offer, look_offer}
use Rattle.smc_core.specs.Offer.{offer, go_offer, start_offer, when_idle, when_outside, when_inside, when_held, when_begun, when_owned, held_slot, look_start}
use Rattle.smc_core.specs.Remove.{remove_offer}
use Rattle.smc_core.specs.Row.{has_place}
use Rattle.smc_core.specs.Scan.{scan_offer, scan_of, next_offer, is_over}
use Rattle.smc_core.specs.Section.{epoch_of, entering_offer}
use Rattle.smc_core.specs.Step.{when}
use Rattle.smc_automaton.specs.Fits.{FitsSection, FitsStand}
use Rattle.smc_automaton.specs.FitsPhase.{HasIncarnation, FitsCopy, FitsLook, FitsAdd, FitsRemove, FitsBegin, FitsFinish, FitsCancel, FitsPhase}
use Rattle.smc_automaton.specs.FitsWord.{FitsOp}

-- what is offered, if anything is, has words that fit
abbrev OfferFits : Option Offer → Type 0
OfferFits None = Unit {0}
OfferFits (Some offered) = FitsOp offered.op

-- the epoch of a section that lasts is not above the last one
pub epoch-last : (section : Section) → FitsSection section → epoch_of section ≤ LAST_EPOCH
epoch-last Outside fits = omega arith
epoch-last (Loaded seen) fits = omega arith
epoch-last (Announced seen) fits = omega arith
epoch-last (Again seen epoch) fits = omega arith
epoch-last (Lasting epoch) fits = fits
epoch-last (Inside epoch calm) fits = fits

copy-words : (number : Number) (source : ℕ) (next : CopyPhase) → HasIncarnation number → source < ENTRIES → FitsCopy next → FitsOp (copy_offer number source next).op
copy-words number source copy.Target has here fits = tt
copy-words number source (copy.Load target field) has here fits = tt
copy-words number source (copy.Put target field value) has here fits = (tt, tt)
copy-words number source (copy.Swing target) has here fits = ((has, here), (has, fits))

look-words : (next : LookPhase) → FitsLook next → FitsOp (look_offer next).op
look-words (look.Load who number) fits = tt
look-words (look.Abandon who number slot) fits = ((fits.1, fits.2), (fits.1, fits.2))
look-words (look.Help who number slot next) fits = copy-words number slot next fits.1 fits.2 fits.3

add-words : (shape : Layout) (words : List ℕ) (next : AddPhase) → FitsAdd shape words next → FitsOp (add_offer words next).op
add-words shape words (add.FindSlot coll from slot tried) fits = tt
add-words shape words (add.ClaimSlot coll from slot tried seen) fits = (fits.5, tt)
add-words shape words (add.FindEntry coll slot entry tried) fits = tt
add-words shape words (add.ClaimEntry coll slot entry tried incarnation stamp) fits = ((omega (arith, fits.5), fits.6), fits.5)
add-words shape words (add.DropSlot coll slot) fits = tt
add-words shape words (add.StoreBack slot number) fits = fits.1
add-words shape words (add.StoreField slot number field) fits = tt
add-words shape words (add.StoreValid slot number) fits = tt
add-words shape words (add.StoreLive slot number) fits = (fits.1.incarnation, fits.0)

remove-words : (epoch : ℕ) (next : RemovePhase) → epoch ≤ LAST_EPOCH → FitsRemove next → FitsOp (remove_offer epoch next).op
remove-words epoch (remove.LeaveSlot slot number) last fits = omega (arith, last)
remove-words epoch (remove.FreeEntry number) last fits = (fits, omega (arith, last))

scan-words : (pass : ℕ) (next : ScanPhase) → FitsOp (scan_offer pass next).op
scan-words pass (scan.Directory number_of_scan coll slot) = tt
scan-words pass (scan.Back number_of_scan coll slot) = tt
scan-words pass (scan.End number_of_scan) = tt

count-words : (next : CountPhase) → FitsOp (count_offer next).op
count-words (walk.Directory coll slot count) = tt
count-words (walk.Back coll slot count) = tt
count-words (walk.Entry coll slot count number) = tt

begin-words : (epoch : ℕ) (next : BeginPhase) → epoch ≤ LAST_EPOCH → FitsBegin next → FitsOp (begin_offer epoch next).op
begin-words epoch (begin.Count next) last fits = count-words next
begin-words epoch (begin.Nothing coll) last fits = tt
begin-words epoch (begin.SourceDirectory moves) last fits = tt
begin-words epoch (begin.SourceBack moves) last fits = tt
begin-words epoch (begin.SourceEntry moves number) last fits = tt
begin-words epoch (begin.TargetDirectory moves number) last fits = tt
begin-words epoch (begin.ClaimTarget moves number seen) last fits = (fits.2, tt)
begin-words epoch (begin.BlankField moves number field) last fits = tt
begin-words epoch (begin.StoreBack moves number) last fits = fits.1
begin-words epoch (begin.StoreForward moves number) last fits = omega (arith, fits.0.0, fits.0.1, fits.0.2)
begin-words epoch (begin.StoreIncoming moves number) last fits = tt
begin-words epoch (begin.Freeze moves number) last fits = ((fits.1.incarnation, fits.0.0), (fits.1.incarnation, fits.0.0))
begin-words epoch (begin.GiveUp moves) last fits = omega (arith, last)

finish-words : (epoch : ℕ) (next : FinishPhase) → epoch ≤ LAST_EPOCH → FitsFinish next → FitsOp (finish_offer epoch next).op
finish-words epoch (finish.Directory targets) last fits = tt
finish-words epoch (finish.Back targets) last fits = tt
finish-words epoch (finish.Entry targets number) last fits = tt
finish-words epoch (finish.Lock targets number source) last fits = ((fits.1, fits.2), (fits.1, fits.2))
finish-words epoch (finish.Move targets number source next) last fits = copy-words number source next fits.1 fits.2 fits.3
finish-words epoch (finish.Settle targets source) last fits = (tt, tt)
finish-words epoch (finish.LeaveSource targets source) last fits = omega (arith, last)
finish-words epoch (finish.GiveUp targets gone) last fits = omega (arith, last)
finish-words epoch (finish.End targets) last fits = tt

cancel-words : (epoch : ℕ) (next : CancelPhase) → epoch ≤ LAST_EPOCH → FitsCancel next → FitsOp (cancel_offer epoch next).op
cancel-words epoch (cancel.Directory coll slot) last fits = tt
cancel-words epoch (cancel.Back coll slot) last fits = tt
cancel-words epoch (cancel.Entry coll slot number) last fits = tt
cancel-words epoch (cancel.Unfreeze coll slot number source) last fits = ((fits.1, fits.2), (fits.1, fits.2))
cancel-words epoch (cancel.GiveUp coll slot) last fits = omega (arith, last)
cancel-words epoch cancel.End last fits = tt

entering-words : (pass : ℕ) (section : Section) → FitsSection section → OfferFits (entering_offer pass section)
entering-words pass Outside fits = tt
entering-words pass (Loaded seen) fits = fits
entering-words pass (Announced seen) fits = tt
entering-words pass (Again seen epoch) fits = fits.1
entering-words pass (Lasting epoch) fits = tt
entering-words pass (Inside epoch calm) fits = tt

go-words : (shape : Layout) (pass : ℕ) (stand : Stand) (section : Section) (phase : Phase)
    → FitsSection section → FitsPhase shape stand.words phase → OfferFits (go_offer pass stand section phase)
go-words shape pass stand section phase.Idle here fits = tt
go-words shape pass stand section phase.Entering here fits = entering-words pass section here
go-words shape pass stand section (phase.Advancing epoch other) here fits = tt
go-words shape pass stand section (phase.Ready epoch) here fits = (omega (arith, fits), omega (arith, fits))
go-words shape pass stand section (phase.Look next) here fits = look-words next fits
go-words shape pass stand section (phase.Add next) here fits = add-words shape stand.words next fits
go-words shape pass stand section (phase.Remove next) here fits = remove-words (epoch_of section) next (epoch-last section here) fits
go-words shape pass stand section (phase.Scan next) here fits = scan-words pass next
go-words shape pass stand section (phase.Begin next) here fits = begin-words (epoch_of section) next (epoch-last section here) fits
go-words shape pass stand section (phase.Finish next) here fits = finish-words (epoch_of section) next (epoch-last section here) fits
go-words shape pass stand section (phase.Cancel next) here fits = cancel-words (epoch_of section) next (epoch-last section here) fits
go-words shape pass stand section (phase.Survey next) here fits = count-words next

outside-words : (section : Section) (offered : Option Offer) → OfferFits offered → OfferFits (when_outside section offered)
outside-words Outside offered fits = fits
outside-words (Loaded seen) offered fits = tt
outside-words (Announced seen) offered fits = tt
outside-words (Again seen epoch) offered fits = tt
outside-words (Lasting epoch) offered fits = tt
outside-words (Inside epoch calm) offered fits = tt

inside-words : (section : Section) (offered : Option Offer) → OfferFits offered → OfferFits (when_inside section offered)
inside-words Outside offered fits = tt
inside-words (Loaded seen) offered fits = tt
inside-words (Announced seen) offered fits = tt
inside-words (Again seen epoch) offered fits = tt
inside-words (Lasting epoch) offered fits = tt
inside-words (Inside epoch calm) offered fits = fits

idle-words : (phase : Phase) (offered : Option Offer) → OfferFits offered → OfferFits (when_idle phase offered)
idle-words phase.Idle offered fits = fits
idle-words _ offered fits = tt

when-words : (test : Bool) (offered : Offer) → (test ≡ true → FitsOp offered.op) → OfferFits (when test offered)
when-words true offered fits = fits refl
when-words false offered fits = tt

held-words : (slot : Option ℕ) (offered : ℕ → Option Offer) → ((slot : ℕ) → OfferFits (offered slot)) → OfferFits (when_held slot offered)
held-words None offered fits = tt
held-words (Some slot) offered fits = fits slot

begun-words : (begun : Option Scan) (offered : Scan → Offer) → ((begun : Scan) → FitsOp (offered begun).op) → OfferFits (when_begun begun offered)
begun-words None offered fits = tt
begun-words (Some begun) offered fits = fits begun

owned-words : (owned : Option Owned) (offered : Owned → Offer) → ((owned : Owned) → FitsOp (offered owned).op) → OfferFits (when_owned owned offered)
owned-words None offered fits = tt
owned-words (Some owned) offered fits = fits owned

look_start-words : (shape : Layout) (pass : ℕ) (number : Number) → FitsOp (look_start shape pass number).op
look_start-words shape pass number =
    cond_both (has_place shape (place.Entry number.coll number.entry)) _ _ (λ (offered : Offer). FitsOp offered.op) (λ _. tt) (λ _. tt)

next_offer-words : (shape : Layout) (pass : ℕ) (begun : Scan) → FitsOp (next_offer shape pass begun).op
next_offer-words shape pass begun = cond_both (is_over shape begun) _ _ (λ (offered : Offer). FitsOp offered.op) (λ _. tt) (λ _. tt)

finish_start-words : (pass epoch : ℕ) (owned : Owned) → FitsOp (finish_start pass epoch owned).op
finish_start-words pass epoch owned = cond_both (is_early epoch owned.bound) _ _ (λ (offered : Offer). FitsOp offered.op) (λ _. tt) (λ _. tt)

-- the round that a begin opens fits the round word
round-words : (shape : Layout) (pass epoch coll : ℕ) → IsShape shape → pass < shape.passes → epoch ≤ LAST_EPOCH → coll < length shape.colls → FitsOp (round_offer pass epoch coll).op
round-words shape pass epoch coll valid known last there = (
  tt,
  record {
    begun = omega arith;
    bound = omega (arith, last);
    pass = omega (arith, known, valid.passes);
    coll = omega (arith, there, valid.colls);
  },
)

module _ (shape : Layout) (pass : ℕ) (stand : Stand) (valid : IsShape shape) (known : pass < shape.passes) where
  start-words : (section : Section) (call : Call) → FitsSection section → OfferFits (start_offer shape pass stand section call)
  start-words section call.Enter here = outside-words section _ tt
  start-words section call.Leave here = inside-words section _ (omega arith)
  start-words section call.Advance here = outside-words section _ tt
  start-words section (call.Add coll from words) here = inside-words section _ (when-words (takes shape coll from words) _ (λ _. tt))
  start-words section (call.Look number) here = inside-words section _ (look_start-words shape pass number)
  start-words section (call.Read number field) here = inside-words section _ (held-words (held_slot stand.held number) _ (λ slot. when-words _ _ (λ _. tt)))
  start-words section (call.Write number field value) here = inside-words section _ (held-words (held_slot stand.held number) _ (λ slot. when-words _ _ (λ _. tt)))
  start-words section (call.Remove number) here = inside-words section _ (held-words (held_slot stand.held number) _ (λ slot. tt))
  start-words section (call.Scan coll) here = inside-words section _ (when-words (nat_lt coll (length shape.colls)) _ (λ _. tt))
  start-words section (call.Next number) here = inside-words section _ (begun-words (scan_of stand.scans number) _ (λ begun. next_offer-words shape pass begun))
  start-words section (call.Begin coll) here =
      inside-words section _ (when-words (nat_lt coll (length shape.colls)) _ (λ there. round-words shape pass (epoch_of section) coll valid known (epoch-last section here) (ltb-true coll (length shape.colls) there)))
  start-words section call.Finish here = inside-words section _ (owned-words stand.round _ (λ owned. finish_start-words pass (epoch_of section) owned))
  start-words section call.Cancel here = inside-words section _ (owned-words stand.round _ (λ owned. tt))
  start-words section (call.Survey coll) here = inside-words section _ (when-words (nat_lt coll (length shape.colls)) _ (λ _. tt))
  start-words section call.Note here = outside-words section _ tt
  start-words section (call.Learn other note) here = outside-words section _ tt

  offer-words : (choice : Choice) → FitsStand shape stand → OfferFits (offer shape pass stand stand.section stand.phase choice)
  offer-words Go fits = go-words shape pass stand stand.section stand.phase fits.section fits.phase
  offer-words (Start call) fits = idle-words stand.phase _ (start-words stand.section call fits.section)

  -- the words of the operation that is offered fit
  pub offered-words : (choice : Choice) (offered : Offer) → FitsStand shape stand
      → offer shape pass stand stand.section stand.phase choice ≡ Some offered → FitsOp offered.op
  offered-words choice offered fits offers = subst OfferFits offers (offer-words choice fits)
