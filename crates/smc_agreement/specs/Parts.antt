-- What a call in progress knows of slots and entries: each function tells it for the phases in which it is known.
use Rattle.std.specs.Prelude.{ℕ, ◌<◌, ◌≤◌, ◌≡◌, ◌+◌, true, Option, Some, None}
use Rattle.smc_words.specs.declared.number.Number.{Number}
use Rattle.smc_core.specs.declared.local.Owned.{Owned}
use Rattle.smc_core.specs.declared.phase.Phase.{Phase}
use Rattle.smc_core.specs.declared.phase.Phase.TheVariants as phase
use Rattle.smc_core.specs.declared.phase.moves.BeginPhase.{BeginPhase}
use Rattle.smc_core.specs.declared.phase.moves.BeginPhase.TheVariants as begin
use Rattle.smc_core.specs.declared.phase.moves.CancelPhase.{CancelPhase}
use Rattle.smc_core.specs.declared.phase.moves.CancelPhase.TheVariants as cancel
use Rattle.smc_core.specs.declared.phase.moves.CountPhase.{CountPhase}
use Rattle.smc_core.specs.declared.phase.moves.CountPhase.TheVariants as walk
use Rattle.smc_core.specs.declared.phase.moves.FinishPhase.{FinishPhase}
use Rattle.smc_core.specs.declared.phase.moves.FinishPhase.TheVariants as finish
use Rattle.smc_core.specs.declared.phase.moves.Targets.{Targets}
use Rattle.smc_core.specs.declared.phase.moves.Walk.{Walk}
use Rattle.smc_core.specs.declared.phase.objects.AddPhase.{AddPhase}
use Rattle.smc_core.specs.declared.phase.objects.AddPhase.TheVariants as add
use Rattle.smc_core.specs.declared.phase.objects.CopyPhase.{CopyPhase}
use Rattle.smc_core.specs.declared.phase.objects.CopyPhase.TheVariants as copy
use Rattle.smc_core.specs.declared.phase.objects.LookPhase.TheVariants as look
use Rattle.smc_core.specs.declared.phase.objects.RemovePhase.TheVariants as remove
use Rattle.smc_core.specs.declared.section.Section.{Section}
use Rattle.smc_core.specs.declared.section.Section.TheVariants.{Inside}
use Rattle.smc_core.specs.Ripe.{is_ripe_slot}
use Rattle.smc_core.specs.Section.{epoch_of}
use Rattle.smc_rules.specs.Memory.{Memory}
use Rattle.smc_rules.specs.Reads.{forward_in}
use Rattle.smc_rules.specs.Calls.{Slot, sources_of, finish_place, cancel_place}

-- ---- where a call is made, and by whom

-- the section is one in which calls are made
abbrev pub IsWithin : Section → Type 0
IsWithin (Inside epoch calm) = Unit {0}
IsWithin _ = ⊥

-- the pass owns a round
abbrev pub Owns : Option Owned → Type 0
Owns None = ⊥
Owns (Some owned) = Unit {0}

-- it owns a round of this collection, or of any where none is named
abbrev pub OwnsIn : Option ℕ → Option Owned → Type 0
OwnsIn coll None = ⊥
OwnsIn None (Some owned) = Unit {0}
OwnsIn (Some coll) (Some owned) = owned.coll ≡ coll

-- it has begun one of this collection, in a section at this epoch
abbrev pub HasBegun : ℕ → ℕ → Option Owned → Type 0
HasBegun epoch coll None = ⊥
HasBegun epoch coll (Some owned) = (owned.bound ≡ epoch + 1) × (owned.coll ≡ coll)

-- the collection of a counting walk, and that of a begin
abbrev pub count_coll : CountPhase → ℕ
count_coll (walk.Directory coll slot count) = coll
count_coll (walk.Back coll slot count) = coll
count_coll (walk.Entry coll slot count number) = coll

abbrev pub begin_coll : BeginPhase → ℕ
begin_coll (begin.Count next) = count_coll next
begin_coll (begin.Nothing coll) = coll
begin_coll (begin.SourceDirectory moves) = moves.coll
begin_coll (begin.SourceBack moves) = moves.coll
begin_coll (begin.SourceEntry moves number) = moves.coll
begin_coll (begin.TargetDirectory moves number) = moves.coll
begin_coll (begin.ClaimTarget moves number seen) = moves.coll
begin_coll (begin.BlankField moves number field) = moves.coll
begin_coll (begin.StoreBack moves number) = moves.coll
begin_coll (begin.StoreForward moves number) = moves.coll
begin_coll (begin.StoreIncoming moves number) = moves.coll
begin_coll (begin.Freeze moves number) = moves.coll
begin_coll (begin.GiveUp moves) = moves.coll

-- it may finish one of this collection, in a section at this epoch
abbrev pub MayFinish : ℕ → ℕ → Option Owned → Type 0
MayFinish epoch coll None = ⊥
MayFinish epoch coll (Some owned) = (owned.coll ≡ coll) × (owned.bound + 2 ≤ epoch)

-- the walk of a finish over targets
abbrev pub finish_targets : FinishPhase → Targets
finish_targets (finish.Directory targets) = targets
finish_targets (finish.Back targets) = targets
finish_targets (finish.Entry targets number) = targets
finish_targets (finish.Lock targets number source) = targets
finish_targets (finish.Move targets number source next) = targets
finish_targets (finish.Settle targets source) = targets
finish_targets (finish.LeaveSource targets source) = targets
finish_targets (finish.GiveUp targets gone) = targets
finish_targets (finish.End targets) = targets

-- the collection of a cancel, until its last step
abbrev pub cancel_coll : CancelPhase → Option ℕ
cancel_coll (cancel.Directory coll slot) = Some coll
cancel_coll (cancel.Back coll slot) = Some coll
cancel_coll (cancel.Entry coll slot number) = Some coll
cancel_coll (cancel.Unfreeze coll slot number source) = Some coll
cancel_coll (cancel.GiveUp coll slot) = Some coll
cancel_coll cancel.End = None

-- what a call has seen and means to claim was ripe for a section at this epoch
abbrev pub IsRipeAdd : ℕ → AddPhase → Type 0
IsRipeAdd epoch (add.ClaimSlot coll from slot tried seen) = is_ripe_slot epoch seen ≡ true
IsRipeAdd epoch (add.ClaimEntry coll slot entry tried incarnation stamp) = stamp + 2 ≤ epoch
IsRipeAdd epoch _ = Unit {0}

abbrev pub IsRipeTarget : ℕ → BeginPhase → Type 0
IsRipeTarget epoch (begin.ClaimTarget moves number seen) = is_ripe_slot epoch seen ≡ true
IsRipeTarget epoch _ = Unit {0}

-- what a call in progress knows of its section, of its round and of what it means to claim
abbrev pub CallKnows : Section → Option Owned → Phase → Type 0
CallKnows section owned (phase.Add next) = IsWithin section × IsRipeAdd (epoch_of section) next
CallKnows section owned (phase.Look next) = IsWithin section
CallKnows section owned (phase.Remove next) = IsWithin section
CallKnows section owned (phase.Scan next) = IsWithin section
CallKnows section owned (phase.Survey next) = IsWithin section
CallKnows section owned (phase.Begin next) = IsWithin section × HasBegun (epoch_of section) (begin_coll next) owned × IsRipeTarget (epoch_of section) next
CallKnows section owned (phase.Finish next) = IsWithin section × MayFinish (epoch_of section) (finish_targets next).coll owned
CallKnows section owned (phase.Cancel next) = IsWithin section × OwnsIn (cancel_coll next) owned
CallKnows section owned _ = Unit {0}

-- ---- slots

-- a slot that names an object as its owner: which, and of which object
abbrev pub named_by : Phase → Option (ℕ × Number)
named_by (phase.Add (add.StoreField slot number field)) = Some (slot, number)
named_by (phase.Add (add.StoreValid slot number)) = Some (slot, number)
named_by (phase.Add (add.StoreLive slot number)) = Some (slot, number)
named_by (phase.Begin (begin.StoreForward moves number)) = Some (moves.target, number)
named_by (phase.Begin (begin.StoreIncoming moves number)) = Some (moves.target, number)
named_by (phase.Begin (begin.Freeze moves number)) = Some (moves.target, number)
named_by (phase.Finish (finish.Entry targets number)) = Some (targets.slot, number)
named_by (phase.Finish (finish.Lock targets number source)) = Some (targets.slot, number)
named_by (phase.Cancel (cancel.Entry coll slot number)) = Some (slot, number)
named_by (phase.Cancel (cancel.Unfreeze coll slot number source)) = Some (slot, number)
named_by _ = None

-- a slot to which an object is to move
abbrev pub target_of : Phase → Option Slot
target_of (phase.Begin (begin.Freeze moves number)) = Some (moves.coll, moves.target)
target_of (phase.Begin (begin.GiveUp moves)) = Some (moves.coll, moves.target)
target_of (phase.Finish (finish.Back targets)) = Some (targets.coll, targets.slot)
target_of (phase.Finish (finish.Entry targets number)) = Some (targets.coll, targets.slot)
target_of (phase.Finish (finish.Lock targets number source)) = Some (targets.coll, targets.slot)
target_of (phase.Finish (finish.GiveUp targets gone)) = Some (targets.coll, targets.slot)
target_of (phase.Cancel (cancel.Back coll slot)) = Some (coll, slot)
target_of (phase.Cancel (cancel.Entry coll slot number)) = Some (coll, slot)
target_of (phase.Cancel (cancel.Unfreeze coll slot number source)) = Some (coll, slot)
target_of (phase.Cancel (cancel.GiveUp coll slot)) = Some (coll, slot)
target_of _ = None

-- a slot in which an object is about to be live
abbrev pub lives_in : Phase → Option (ℕ × Number)
lives_in (phase.Add (add.StoreLive slot number)) = Some (slot, number)
lives_in _ = None

-- a source that has its target in its forwarding word: source and target
abbrev pub leads_from : Phase → Option (Slot × ℕ)
leads_from (phase.Begin (begin.StoreIncoming moves number)) = Some ((moves.coll, moves.source), moves.target)
leads_from (phase.Begin (begin.Freeze moves number)) = Some ((moves.coll, moves.source), moves.target)
leads_from (phase.Begin (begin.GiveUp moves)) = Some ((moves.coll, moves.source), moves.target)
leads_from (phase.Finish (finish.Move targets number source next)) = Some ((targets.coll, source), targets.slot)
leads_from _ = None

-- the source of a begin, from the step that sees it unmarked to the step that freezes it, and its object
abbrev pub origin_of : Phase → Option (ℕ × Number)
origin_of (phase.Begin (begin.TargetDirectory moves number)) = Some (moves.source, number)
origin_of (phase.Begin (begin.ClaimTarget moves number seen)) = Some (moves.source, number)
origin_of (phase.Begin (begin.BlankField moves number field)) = Some (moves.source, number)
origin_of (phase.Begin (begin.StoreBack moves number)) = Some (moves.source, number)
origin_of (phase.Begin (begin.StoreForward moves number)) = Some (moves.source, number)
origin_of (phase.Begin (begin.StoreIncoming moves number)) = Some (moves.source, number)
origin_of (phase.Begin (begin.Freeze moves number)) = Some (moves.source, number)
origin_of _ = None

-- the same source, while its forwarding word is still to be stored
abbrev pub unled_source : Phase → Option Slot
unled_source (phase.Begin (begin.TargetDirectory moves number)) = Some (moves.coll, moves.source)
unled_source (phase.Begin (begin.ClaimTarget moves number seen)) = Some (moves.coll, moves.source)
unled_source (phase.Begin (begin.BlankField moves number field)) = Some (moves.coll, moves.source)
unled_source (phase.Begin (begin.StoreBack moves number)) = Some (moves.coll, moves.source)
unled_source (phase.Begin (begin.StoreForward moves number)) = Some (moves.coll, moves.source)
unled_source _ = None

-- a target that is about to be given up
abbrev pub given_up_by : Phase → Option Slot
given_up_by (phase.Begin (begin.GiveUp moves)) = Some (moves.coll, moves.target)
given_up_by (phase.Finish (finish.GiveUp targets gone)) = Some (targets.coll, targets.slot)
given_up_by (phase.Cancel (cancel.GiveUp coll slot)) = Some (coll, slot)
given_up_by _ = None

-- a slot in which an object was seen frozen, and the object
abbrev pub tried_by : Phase → Option (ℕ × Number)
tried_by (phase.Finish (finish.Lock targets number source)) = Some (source, number)
tried_by (phase.Cancel (cancel.Unfreeze coll slot number source)) = Some (source, number)
tried_by _ = None

-- the object of a first remove, and the slot that it still has to leave
abbrev pub removed_by : Phase → Option Number
removed_by (phase.Remove (remove.LeaveSlot slot number)) = Some number
removed_by (phase.Remove (remove.FreeEntry number)) = Some number
removed_by _ = None

abbrev pub leaving_of : Phase → Option (ℕ × Number)
leaving_of (phase.Remove (remove.LeaveSlot slot number)) = Some (slot, number)
leaving_of _ = None

-- the object whose slot it has left
abbrev pub freeing_of : Phase → Option Number
freeing_of (phase.Remove (remove.FreeEntry number)) = Some number
freeing_of _ = None

-- the source that a finish owes from the step that locks its object on
abbrev pub source_left : Phase → Option Slot
source_left (phase.Finish (finish.Move targets number source next)) = Some (targets.coll, source)
source_left (phase.Finish (finish.Settle targets source)) = Some (targets.coll, source)
source_left (phase.Finish (finish.LeaveSource targets source)) = Some (targets.coll, source)
source_left _ = None

-- the same after the swing
abbrev pub swung_source : Phase → Option Slot
swung_source (phase.Finish (finish.Settle targets source)) = Some (targets.coll, source)
swung_source (phase.Finish (finish.LeaveSource targets source)) = Some (targets.coll, source)
swung_source _ = None

-- a move that is to be settled: source and target
abbrev pub settled_by : Phase → Option (Slot × ℕ)
settled_by (phase.Finish (finish.Settle targets source)) = Some ((targets.coll, source), targets.slot)
settled_by _ = None

-- a target that was settled
abbrev pub settled_target : Phase → Option Slot
settled_target (phase.Finish (finish.LeaveSource targets source)) = Some (targets.coll, targets.slot)
settled_target _ = None

-- the target of the move that a finish has locked and not yet settled
abbrev pub moving_to : Phase → Option Slot
moving_to (phase.Finish (finish.Move targets number source next)) = Some (targets.coll, targets.slot)
moving_to (phase.Finish (finish.Settle targets source)) = Some (targets.coll, targets.slot)
moving_to _ = None

-- a move that a finish has locked: target and object
abbrev pub locks_of : Phase → Option (ℕ × Number)
locks_of (phase.Finish (finish.Move targets number source next)) = Some (targets.slot, number)
locks_of _ = None

-- ---- copies

-- the object that is copied
abbrev pub copied_by : Phase → Option Number
copied_by (phase.Look (look.Help who number slot next)) = Some number
copied_by (phase.Finish (finish.Move targets number source next)) = Some number
copied_by _ = None

-- the slot from which a look-up means to abandon a move, and the object
abbrev pub abandons_from : Phase → Option (ℕ × Number)
abandons_from (phase.Look (look.Abandon who number slot)) = Some (slot, number)
abandons_from _ = None

-- the target of a copy, once it is loaded; before that, what the forwarding word of the source says
abbrev pub aim_of : Memory → ℕ → ℕ → CopyPhase → ℕ
aim_of memory coll source copy.Target = forward_in memory coll source
aim_of memory coll source (copy.Load target field) = target
aim_of memory coll source (copy.Put target field value) = target
aim_of memory coll source (copy.Swing target) = target

-- ---- walks of the owner of a round

-- an object in this slot that has a target already is behind the walk of a begin over sources
abbrev pub BegunBelow : ℕ → Option Walk → Type 0
BegunBelow slot None = Unit {0}
BegunBelow slot (Some moves) = slot < moves.source

abbrev pub IsBegunAt : ℕ → BeginPhase → Type 0
IsBegunAt slot (begin.Freeze moves number) = slot ≤ moves.source
IsBegunAt slot (begin.GiveUp moves) = slot ≤ moves.source
IsBegunAt slot next = BegunBelow slot (sources_of next)

abbrev pub HasMet : Phase → ℕ → Type 0
HasMet (phase.Begin next) slot = IsBegunAt slot next
HasMet _ slot = Unit {0}

-- a slot that a walk at this place may still meet; a walk at its end meets none
abbrev pub IsAhead : ℕ → Option ℕ → Type 0
IsAhead slot None = ⊥
IsAhead slot (Some place) = place ≤ slot

abbrev pub IsWalking : Option Walk → Type 0
IsWalking None = ⊥
IsWalking (Some moves) = Unit {0}

-- a target that the owner of the round, in this call, may still meet
abbrev pub MayMeet : Phase → ℕ → Type 0
MayMeet (phase.Begin next) slot = IsWalking (sources_of next)
MayMeet (phase.Finish next) slot = IsAhead slot (finish_place next)
MayMeet (phase.Cancel next) slot = IsAhead slot (cancel_place next)
MayMeet _ slot = Unit {0}
