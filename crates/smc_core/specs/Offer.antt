-- The one step that a pass offers for a choice.
use Rattle.std.specs.Prelude.{ℕ, ◌+◌, ◌&&◌, nat_lt, Option, Some, None, List, [], ◌∷◌, length, if◌then◌else◌}
use Rattle.smc_words.specs.declared.number.Number.{Number}
use Rattle.smc_shape.specs.Layout.{Layout, width_of}
use Rattle.smc_shape.specs.declared.place.Place.TheVariants as place
use Rattle.smc_core.specs.declared.call.Call.{Call}
use Rattle.smc_core.specs.declared.call.Call.TheVariants as call
use Rattle.smc_core.specs.declared.call.Choice.{Choice}
use Rattle.smc_core.specs.declared.call.Choice.TheVariants.{Start, Go}
use Rattle.smc_core.specs.declared.kind.Kind.TheVariants as kind
use Rattle.smc_core.specs.declared.local.Held.{Held}
use Rattle.smc_core.specs.declared.local.Owned.{Owned}
use Rattle.smc_core.specs.declared.local.Scan.{Scan}
use Rattle.smc_core.specs.declared.local.Stand.{Stand}
use Rattle.smc_core.specs.declared.op.Offer.{Offer}
use Rattle.smc_core.specs.declared.op.Op.TheVariants.{Load, Store, Exchange, MarkGone}
use Rattle.smc_core.specs.declared.phase.Phase.{Phase}
use Rattle.smc_core.specs.declared.phase.Phase.TheVariants as phase
use Rattle.smc_core.specs.declared.phase.moves.CancelPhase.TheVariants as cancel
use Rattle.smc_core.specs.declared.phase.moves.CountPhase.TheVariants as walk
use Rattle.smc_core.specs.declared.phase.objects.LookPhase.TheVariants as look
use Rattle.smc_core.specs.declared.phase.objects.Seeker.TheVariants as seeker
use Rattle.smc_core.specs.declared.section.Section.{Section}
use Rattle.smc_core.specs.declared.section.Section.TheVariants.{Outside, Inside}
use Rattle.smc_core.specs.declared.word.Word.TheVariants as word
use Rattle.smc_core.specs.Add.{is_value, takes, add_offer}
use Rattle.smc_core.specs.Begin.{round_offer, begin_offer}
use Rattle.smc_core.specs.Cancel.{cancel_offer}
use Rattle.smc_core.specs.Count.{count_offer, no_count}
use Rattle.smc_core.specs.Finish.{finish_offer, finish_start}
use Rattle.smc_core.specs.Look.{look_offer}
use Rattle.smc_core.specs.Remove.{remove_offer}
use Rattle.smc_core.specs.Row.{has_place}
use Rattle.smc_core.specs.Scan.{scan_offer, scan_of, next_offer}
use Rattle.smc_core.specs.Section.{epoch_of, entering_offer}
use Rattle.smc_core.specs.Step.{step, when}
use Rattle.smc_core.specs.Words.{same_number}

-- the step that goes on with the call in progress
abbrev pub go_offer : ℕ → Stand → Section → Phase → Option Offer
go_offer pass stand section phase.Idle = None
go_offer pass stand section phase.Entering = entering_offer pass section
go_offer pass stand section (phase.Advancing epoch other) = Some (step kind.LoadSection (Load (place.Section other)))
go_offer pass stand section (phase.Ready epoch) = Some (step kind.AdvanceEpoch (Exchange place.Epoch (word.Plain epoch) (word.Plain (epoch + 1))))
go_offer pass stand section (phase.Look next) = Some (look_offer next)
go_offer pass stand section (phase.Add next) = Some (add_offer stand.words next)
go_offer pass stand section (phase.Remove next) = Some (remove_offer (epoch_of section) next)
go_offer pass stand section (phase.Scan next) = Some (scan_offer pass next)
go_offer pass stand section (phase.Begin next) = Some (begin_offer (epoch_of section) next)
go_offer pass stand section (phase.Finish next) = Some (finish_offer (epoch_of section) next)
go_offer pass stand section (phase.Cancel next) = Some (cancel_offer (epoch_of section) next)
go_offer pass stand section (phase.Survey next) = Some (count_offer next)

-- it is offered where no call is in progress
abbrev pub when_idle : Phase → Option Offer → Option Offer
when_idle phase.Idle offer = offer
when_idle _ offer = None

-- it is offered outside a section
abbrev pub when_outside : Section → Option Offer → Option Offer
when_outside Outside offer = offer
when_outside _ offer = None

-- it is offered inside a section
abbrev pub when_inside : Section → Option Offer → Option Offer
when_inside (Inside epoch calm) offer = offer
when_inside _ offer = None

-- the slot in which a section holds an object, if it does
abbrev pub held_slot : List Held → Number → Option ℕ
held_slot [] number = None
held_slot (first ∷ later) number = if same_number first.number number then Some first.slot else held_slot later number

-- it is offered where the object is held, by its slot
abbrev pub when_held : Option ℕ → (ℕ → Option Offer) → Option Offer
when_held None offer = None
when_held (Some slot) offer = offer slot

-- it is offered where the section has begun the scan
abbrev pub when_begun : Option Scan → (Scan → Offer) → Option Offer
when_begun None offer = None
when_begun (Some scan) offer = Some (offer scan)

-- it is offered where the pass owns a round
abbrev pub when_owned : Option Owned → (Owned → Offer) → Option Offer
when_owned None offer = None
when_owned (Some round) offer = Some (offer round)

-- the first step of looking a number up: its entry, or, where the region has none of this number, the own word
abbrev pub look_start : Layout → ℕ → Number → Offer
look_start shape pass number = if has_place shape (place.Entry number.coll number.entry) then look_offer (look.Load seeker.Caller number) else step kind.LoadSection (Load (place.Section pass))

-- the first step of a call, where the call may be made
abbrev pub start_offer : Layout → ℕ → Stand → Section → Call → Option Offer
start_offer shape pass stand section call.Enter = when_outside section (Some (step kind.LoadEpoch (Load place.Epoch)))
start_offer shape pass stand section call.Leave = when_inside section (Some (step kind.Leave (Store (place.Section pass) (word.Plain 0))))
start_offer shape pass stand section call.Advance = when_outside section (Some (step kind.StartAdvance (Load place.Epoch)))
start_offer shape pass stand section (call.Add coll from words) = when_inside section (when (takes shape coll from words) (step kind.LoadDirectory (Load (place.Directory coll from))))
start_offer shape pass stand section (call.Look number) = when_inside section (Some (look_start shape pass number))
start_offer shape pass stand section (call.Read number field) = when_inside section (when_held (held_slot stand.held number) (λ slot. when (nat_lt field (width_of shape number.coll)) (step kind.LoadField (Load (place.Field number.coll slot field)))))
start_offer shape pass stand section (call.Write number field value) = when_inside section (when_held (held_slot stand.held number) (λ slot. when (nat_lt field (width_of shape number.coll) && is_value value) (step kind.WriteField (Store (place.Field number.coll slot field) (word.Plain value)))))
start_offer shape pass stand section (call.Remove number) = when_inside section (when_held (held_slot stand.held number) (λ slot. Some (step kind.MarkGone (MarkGone number.coll number.entry))))
start_offer shape pass stand section (call.Scan coll) = when_inside section (when (nat_lt coll (length shape.colls)) (step kind.LoadSection (Load (place.Section pass))))
start_offer shape pass stand section (call.Next scan) = when_inside section (when_begun (scan_of stand.scans scan) (λ begun. next_offer shape pass begun))
start_offer shape pass stand section (call.Begin coll) = when_inside section (when (nat_lt coll (length shape.colls)) (round_offer pass (epoch_of section) coll))
start_offer shape pass stand section call.Finish = when_inside section (when_owned stand.round (λ owned. finish_start pass (epoch_of section) owned))
start_offer shape pass stand section call.Cancel = when_inside section (when_owned stand.round (λ owned. cancel_offer (epoch_of section) (cancel.Directory owned.coll 0)))
start_offer shape pass stand section (call.Survey coll) = when_inside section (when (nat_lt coll (length shape.colls)) (count_offer (walk.Directory coll 0 no_count)))
start_offer shape pass stand section call.Note = when_outside section (Some (step kind.LoadEpoch (Load place.Epoch)))
start_offer shape pass stand section (call.Learn other note) = when_outside section (Some (step kind.LoadEpoch (Load place.Epoch)))

-- the one step that the pass offers for the choice
abbrev pub offer : Layout → ℕ → Stand → Section → Phase → Choice → Option Offer
offer shape pass stand section phase Go = go_offer pass stand section phase
offer shape pass stand section phase (Start call) = when_idle phase (start_offer shape pass stand section call)
