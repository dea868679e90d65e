-- What a call in progress has to do with slots and entries: what it has claimed, what it owes, what it copies.
use Rattle.std.specs.Prelude.{ℕ, nat_lt, Bool, true, false, Option, Some, None}
use Rattle.smc_words.specs.declared.number.Number.{Number}
use Rattle.smc_core.specs.declared.phase.Phase.{Phase}
use Rattle.smc_core.specs.declared.phase.Phase.TheVariants as phase
use Rattle.smc_core.specs.declared.phase.moves.BeginPhase.{BeginPhase}
use Rattle.smc_core.specs.declared.phase.moves.BeginPhase.TheVariants as begin
use Rattle.smc_core.specs.declared.phase.moves.CancelPhase.{CancelPhase}
use Rattle.smc_core.specs.declared.phase.moves.CancelPhase.TheVariants as cancel
use Rattle.smc_core.specs.declared.phase.moves.FinishPhase.{FinishPhase}
use Rattle.smc_core.specs.declared.phase.moves.FinishPhase.TheVariants as finish
use Rattle.smc_core.specs.declared.phase.moves.Walk.{Walk}
use Rattle.smc_core.specs.declared.phase.objects.AddPhase.{AddPhase}
use Rattle.smc_core.specs.declared.phase.objects.AddPhase.TheVariants as add
use Rattle.smc_core.specs.declared.phase.objects.CopyPhase.{CopyPhase}
use Rattle.smc_core.specs.declared.phase.objects.CopyPhase.TheVariants as copy
use Rattle.smc_core.specs.declared.phase.objects.LookPhase.TheVariants as look
use Rattle.smc_core.specs.declared.phase.objects.RemovePhase.TheVariants as remove

-- a slot of a collection
abbrev pub Slot : Type 0
Slot = ℕ × ℕ

-- the slot that an add has claimed, until it stores that it is valid or free
abbrev pub add_claim : AddPhase → Option Slot
add_claim (add.FindEntry coll slot entry tried) = Some (coll, slot)
add_claim (add.ClaimEntry coll slot entry tried incarnation stamp) = Some (coll, slot)
add_claim (add.DropSlot coll slot) = Some (coll, slot)
add_claim (add.StoreBack slot number) = Some (number.coll, slot)
add_claim (add.StoreField slot number field) = Some (number.coll, slot)
add_claim (add.StoreValid slot number) = Some (number.coll, slot)
add_claim _ = None

-- the target that a begin has claimed, until it stores that an object is to move there
abbrev pub begin_claim : BeginPhase → Option Slot
begin_claim (begin.BlankField moves number field) = Some (moves.coll, moves.target)
begin_claim (begin.StoreBack moves number) = Some (moves.coll, moves.target)
begin_claim (begin.StoreForward moves number) = Some (moves.coll, moves.target)
begin_claim (begin.StoreIncoming moves number) = Some (moves.coll, moves.target)
begin_claim _ = None

-- the slot that a call has claimed
abbrev pub claimed_slot : Phase → Option Slot
claimed_slot (phase.Add next) = add_claim next
claimed_slot (phase.Begin next) = begin_claim next
claimed_slot _ = None

-- the number for which an add has claimed an entry, until its object is live
abbrev pub add_number : AddPhase → Option Number
add_number (add.StoreBack slot number) = Some number
add_number (add.StoreField slot number field) = Some number
add_number (add.StoreValid slot number) = Some number
add_number (add.StoreLive slot number) = Some number
add_number _ = None

-- the number for which a call has claimed an entry
abbrev pub claimed_number : Phase → Option Number
claimed_number (phase.Add next) = add_number next
claimed_number _ = None

-- the source that a finish owes from the step that locks its object on, or the target that it gives up
abbrev pub finish_owes : FinishPhase → Option Slot
finish_owes (finish.Move targets number source next) = Some (targets.coll, source)
finish_owes (finish.Settle targets source) = Some (targets.coll, source)
finish_owes (finish.LeaveSource targets source) = Some (targets.coll, source)
finish_owes (finish.GiveUp targets gone) = Some (targets.coll, targets.slot)
finish_owes _ = None

-- the slot that a call is to store as limbo, or as free, before it ends
abbrev pub owed_slot : Phase → Option Slot
owed_slot (phase.Add (add.DropSlot coll slot)) = Some (coll, slot)
owed_slot (phase.Remove (remove.LeaveSlot slot number)) = Some (number.coll, slot)
owed_slot (phase.Begin (begin.GiveUp moves)) = Some (moves.coll, moves.target)
owed_slot (phase.Finish next) = finish_owes next
owed_slot (phase.Cancel (cancel.GiveUp coll slot)) = Some (coll, slot)
owed_slot _ = None

-- the number whose entry a call is to store as free before it ends
abbrev pub owed_number : Phase → Option Number
owed_number (phase.Remove (remove.LeaveSlot slot number)) = Some number
owed_number (phase.Remove (remove.FreeEntry number)) = Some number
owed_number _ = None

-- the walk of a begin over sources, from the end of its count on
abbrev pub sources_of : BeginPhase → Option Walk
sources_of (begin.SourceDirectory moves) = Some moves
sources_of (begin.SourceBack moves) = Some moves
sources_of (begin.SourceEntry moves number) = Some moves
sources_of (begin.TargetDirectory moves number) = Some moves
sources_of (begin.ClaimTarget moves number seen) = Some moves
sources_of (begin.BlankField moves number field) = Some moves
sources_of (begin.StoreBack moves number) = Some moves
sources_of (begin.StoreForward moves number) = Some moves
sources_of (begin.StoreIncoming moves number) = Some moves
sources_of (begin.Freeze moves number) = Some moves
sources_of (begin.GiveUp moves) = Some moves
sources_of (begin.Count next) = None
sources_of (begin.Nothing coll) = None

-- the same walk, where it has a target too
abbrev pub targets_of : BeginPhase → Option Walk
targets_of (begin.SourceDirectory moves) = None
targets_of (begin.SourceBack moves) = None
targets_of (begin.SourceEntry moves number) = None
targets_of next = sources_of next

-- the walk of a begin in progress over sources, and over targets
abbrev pub walk_over_sources : Phase → Option Walk
walk_over_sources (phase.Begin next) = sources_of next
walk_over_sources _ = None

abbrev pub walk_over_targets : Phase → Option Walk
walk_over_targets (phase.Begin next) = targets_of next
walk_over_targets _ = None

-- whether a begin still counts
abbrev pub is_counting : Phase → Bool
is_counting (phase.Begin (begin.Count next)) = true
is_counting _ = false

-- a finish or a cancel is at this slot: those below it are passed
abbrev pub finish_place : FinishPhase → Option ℕ
finish_place (finish.Directory targets) = Some targets.slot
finish_place (finish.Back targets) = Some targets.slot
finish_place (finish.Entry targets number) = Some targets.slot
finish_place (finish.Lock targets number source) = Some targets.slot
finish_place (finish.Move targets number source next) = Some targets.slot
finish_place (finish.Settle targets source) = Some targets.slot
finish_place (finish.LeaveSource targets source) = Some targets.slot
finish_place (finish.GiveUp targets gone) = Some targets.slot
finish_place (finish.End targets) = None

abbrev pub cancel_place : CancelPhase → Option ℕ
cancel_place (cancel.Directory coll slot) = Some slot
cancel_place (cancel.Back coll slot) = Some slot
cancel_place (cancel.Entry coll slot number) = Some slot
cancel_place (cancel.Unfreeze coll slot number source) = Some slot
cancel_place (cancel.GiveUp coll slot) = Some slot
cancel_place cancel.End = None

-- whether a walk at this place has passed the slot; one at its end has passed each
abbrev pub is_behind : ℕ → Option ℕ → Bool
is_behind slot None = true
is_behind slot (Some place) = nat_lt slot place

-- whether a finish or a cancel in progress has passed the slot
abbrev pub has_passed : Phase → ℕ → Bool
has_passed (phase.Finish next) slot = is_behind slot (finish_place next)
has_passed (phase.Cancel next) slot = is_behind slot (cancel_place next)
has_passed _ slot = false

-- the target of the move that a finish has locked and not yet settled
abbrev pub locked_target : Phase → Option ℕ
locked_target (phase.Finish (finish.Move targets number source next)) = Some targets.slot
locked_target (phase.Finish (finish.Settle targets source)) = Some targets.slot
locked_target _ = None

-- whether a call is a finish in progress
abbrev pub is_finish : Phase → Bool
is_finish (phase.Finish next) = true
is_finish _ = false

-- what is being copied: the object, from which slot, and how far
pub record Copying : Type 0 where
  pub number : Number
  pub source : ℕ
  pub next : CopyPhase

-- what a call copies, from the step that sees or makes the entry locked until its swing
abbrev pub copying_of : Phase → Option Copying
copying_of (phase.Look (look.Help who number slot next)) = Some (record { number = number; source = slot; next = next })
copying_of (phase.Finish (finish.Move targets number source next)) = Some (record { number = number; source = source; next = next })
copying_of _ = None

-- the target, once it is loaded
abbrev pub loaded_target : CopyPhase → Option ℕ
loaded_target copy.Target = None
loaded_target (copy.Load target field) = Some target
loaded_target (copy.Put target field value) = Some target
loaded_target (copy.Swing target) = Some target

-- how many fields are copied, of a record of this width
abbrev pub copied : ℕ → CopyPhase → ℕ
copied width copy.Target = 0
copied width (copy.Load target field) = field
copied width (copy.Put target field value) = field
copied width (copy.Swing target) = width

-- the field that is loaded and not yet put, with its word
abbrev pub loaded_field : CopyPhase → Option (ℕ × ℕ)
loaded_field (copy.Put target field value) = Some (field, value)
loaded_field _ = None
