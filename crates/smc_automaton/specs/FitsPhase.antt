-- The ranges that the parts of each call in progress keep.
use Rattle.std.specs.Prelude.{◌≡◌, ℕ, ◌+◌, ◌<◌, ◌≤◌, List, length}
use Rattle.smc_words.specs.declared.layout.TheConstants.{COLLECTIONS, ENTRIES, EPOCHS, INCARNATIONS, PASSES}
use Rattle.smc_words.specs.declared.number.Number.{Number}
use Rattle.smc_words.specs.Dir.{FitsDir}
use Rattle.smc_words.specs.Number.{FitsNumber}
use Rattle.smc_shape.specs.Layout.{Layout, width_of}
use Rattle.smc_shape.specs.declared.coll.TheConstants.{MAX_WIDTH}
use Rattle.smc_core.specs.declared.phase.Phase.{Phase}
use Rattle.smc_core.specs.declared.phase.Phase.TheVariants as phase
use Rattle.smc_core.specs.declared.phase.moves.BeginPhase.{BeginPhase}
use Rattle.smc_core.specs.declared.phase.moves.BeginPhase.TheVariants as begin
use Rattle.smc_core.specs.declared.phase.moves.CancelPhase.{CancelPhase}
use Rattle.smc_core.specs.declared.phase.moves.CancelPhase.TheVariants as cancel
use Rattle.smc_core.specs.declared.phase.moves.Count.{Count}
use Rattle.smc_core.specs.declared.phase.moves.CountPhase.{CountPhase}
use Rattle.smc_core.specs.declared.phase.moves.CountPhase.TheVariants as walk
use Rattle.smc_core.specs.declared.phase.moves.FinishPhase.{FinishPhase}
use Rattle.smc_core.specs.declared.phase.moves.FinishPhase.TheVariants as finish
use Rattle.smc_core.specs.declared.phase.moves.Targets.{Targets}
use Rattle.smc_core.specs.declared.phase.moves.Walk.{Walk}
use Rattle.smc_core.specs.declared.phase.objects.AddPhase.{AddPhase}
use Rattle.smc_core.specs.declared.phase.objects.AddPhase.TheVariants as add
use Rattle.smc_core.specs.declared.phase.objects.CopyPhase.{CopyPhase}
use Rattle.smc_core.specs.declared.phase.objects.CopyPhase.TheVariants as copy
use Rattle.smc_core.specs.declared.phase.objects.LookPhase.{LookPhase}
use Rattle.smc_core.specs.declared.phase.objects.LookPhase.TheVariants as look
use Rattle.smc_core.specs.declared.phase.objects.RemovePhase.{RemovePhase}
use Rattle.smc_core.specs.declared.phase.objects.RemovePhase.TheVariants as remove
use Rattle.smc_core.specs.declared.phase.objects.ScanPhase.{ScanPhase}
use Rattle.smc_core.specs.declared.phase.objects.ScanPhase.TheVariants as scan
use Rattle.smc_core.specs.declared.phase.objects.Seeker.{Seeker}
use Rattle.smc_core.specs.declared.phase.objects.Seeker.TheVariants as seeker
use Rattle.smc_core.specs.declared.section.TheConstants.{LAST_EPOCH}

-- the incarnation of a number fits the word of an entry
abbrev pub HasIncarnation : Number → Type 0
HasIncarnation number = number.incarnation < INCARNATIONS

-- a step of copying keeps a slot and a field
abbrev pub FitsCopy : CopyPhase → Type 0
FitsCopy copy.Target = Unit {0}
FitsCopy (copy.Load target field) = (target < ENTRIES) × (field < MAX_WIDTH)
FitsCopy (copy.Put target field value) = (target < ENTRIES) × (field < MAX_WIDTH)
FitsCopy (copy.Swing target) = target < ENTRIES

-- a scan that looks is at a slot
abbrev pub FitsSeeker : Seeker → Type 0
FitsSeeker seeker.Caller = Unit {0}
FitsSeeker (seeker.Scan number_of_scan coll slot) = slot < ENTRIES

-- a look-up that meets a move has found the number's incarnation in its entry
abbrev pub FitsLook : LookPhase → Type 0
FitsLook (look.Load who number) = FitsSeeker who
FitsLook (look.Abandon who number slot) = FitsSeeker who × HasIncarnation number × (slot < ENTRIES)
FitsLook (look.Help who number slot next) = FitsSeeker who × HasIncarnation number × (slot < ENTRIES) × FitsCopy next

-- an add has a word for each field of a record of its collection
abbrev pub HasWords : Layout → List ℕ → ℕ → Type 0
HasWords shape words coll = length words ≡ width_of shape coll

-- an add keeps indices, and an incarnation that is not the last one
abbrev pub FitsAdd : Layout → List ℕ → AddPhase → Type 0
FitsAdd shape words (add.FindSlot coll from slot tried) = (coll < COLLECTIONS) × HasWords shape words coll × (from < ENTRIES) × (slot < ENTRIES) × (tried < ENTRIES)
FitsAdd shape words (add.ClaimSlot coll from slot tried seen) = (coll < COLLECTIONS) × HasWords shape words coll × (from < ENTRIES) × (slot < ENTRIES) × (tried < ENTRIES) × FitsDir seen
FitsAdd shape words (add.FindEntry coll slot entry tried) = (coll < COLLECTIONS) × HasWords shape words coll × (slot < ENTRIES) × (entry < ENTRIES) × (tried < ENTRIES)
FitsAdd shape words (add.ClaimEntry coll slot entry tried incarnation stamp) = (coll < COLLECTIONS) × HasWords shape words coll × (slot < ENTRIES) × (entry < ENTRIES) × (tried < ENTRIES) × (incarnation + 1 < INCARNATIONS) × (stamp < EPOCHS)
FitsAdd shape words (add.DropSlot coll slot) = slot < ENTRIES
FitsAdd shape words (add.StoreBack slot number) = (slot < ENTRIES) × FitsNumber number × HasWords shape words number.coll
FitsAdd shape words (add.StoreField slot number field) = (slot < ENTRIES) × FitsNumber number × HasWords shape words number.coll × (field < MAX_WIDTH) × (field < length words)
FitsAdd shape words (add.StoreValid slot number) = (slot < ENTRIES) × FitsNumber number
FitsAdd shape words (add.StoreLive slot number) = (slot < ENTRIES) × FitsNumber number

-- a first remove has marked the entry of its number
abbrev pub FitsRemove : RemovePhase → Type 0
FitsRemove (remove.LeaveSlot slot number) = HasIncarnation number
FitsRemove (remove.FreeEntry number) = HasIncarnation number

-- a scan on its way is at a slot
abbrev pub FitsScan : ScanPhase → Type 0
FitsScan (scan.Directory number_of_scan coll slot) = slot < ENTRIES
FitsScan (scan.Back number_of_scan coll slot) = slot < ENTRIES
FitsScan (scan.End number_of_scan) = Unit {0}

-- of so many slots each has at most one object, and each block that counts has one
abbrev pub FitsCount : ℕ → Count → Type 0
FitsCount slots count = (count.objects ≤ slots) × (count.blocks ≤ count.objects)

-- a counting walk has counted the slots below its own
abbrev pub FitsCounting : CountPhase → Type 0
FitsCounting (walk.Directory coll slot count) = (slot < ENTRIES) × FitsCount slot count
FitsCounting (walk.Back coll slot count) = (slot < ENTRIES) × FitsCount slot count
FitsCounting (walk.Entry coll slot count number) = (slot < ENTRIES) × FitsCount slot count

-- sources are behind the kept blocks and targets in them, and each move took a target
abbrev pub FitsWalk : Walk → Type 0
FitsWalk moves = (moves.source < ENTRIES) × (moves.kept ≤ moves.source) × (moves.target ≤ moves.kept) × (moves.moves ≤ moves.target)

-- the same, and a target is left
abbrev pub FitsTarget : Walk → Type 0
FitsTarget moves = (moves.source < ENTRIES) × (moves.kept ≤ moves.source) × (moves.target < moves.kept) × (moves.moves ≤ moves.target)

-- a begin keeps a count or a walk, and an owner that fits the word of a slot
abbrev pub FitsBegin : BeginPhase → Type 0
FitsBegin (begin.Count next) = FitsCounting next
FitsBegin (begin.Nothing coll) = Unit {0}
FitsBegin (begin.SourceDirectory moves) = FitsWalk moves
FitsBegin (begin.SourceBack moves) = FitsWalk moves
FitsBegin (begin.SourceEntry moves number) = FitsWalk moves × FitsNumber number
FitsBegin (begin.TargetDirectory moves number) = FitsTarget moves × FitsNumber number
FitsBegin (begin.ClaimTarget moves number seen) = FitsTarget moves × FitsNumber number × FitsDir seen
FitsBegin (begin.BlankField moves number field) = FitsTarget moves × FitsNumber number × (field < MAX_WIDTH)
FitsBegin (begin.StoreBack moves number) = FitsTarget moves × FitsNumber number
FitsBegin (begin.StoreForward moves number) = FitsTarget moves × FitsNumber number
FitsBegin (begin.StoreIncoming moves number) = FitsTarget moves × FitsNumber number
FitsBegin (begin.Freeze moves number) = FitsTarget moves × FitsNumber number
FitsBegin (begin.GiveUp moves) = FitsTarget moves

-- each target that has an end is a slot that was passed
abbrev pub FitsTargets : Targets → Type 0
FitsTargets targets = (targets.slot < ENTRIES) × (targets.moved + targets.abandoned + targets.gone ≤ targets.slot)

-- a finish keeps its targets, and the slot that an entry has named
abbrev pub FitsFinish : FinishPhase → Type 0
FitsFinish (finish.Directory targets) = FitsTargets targets
FitsFinish (finish.Back targets) = FitsTargets targets
FitsFinish (finish.Entry targets number) = FitsTargets targets × HasIncarnation number
FitsFinish (finish.Lock targets number source) = FitsTargets targets × HasIncarnation number × (source < ENTRIES)
FitsFinish (finish.Move targets number source next) = FitsTargets targets × HasIncarnation number × (source < ENTRIES) × FitsCopy next
FitsFinish (finish.Settle targets source) = FitsTargets targets
FitsFinish (finish.LeaveSource targets source) = FitsTargets targets
FitsFinish (finish.GiveUp targets gone) = FitsTargets targets
FitsFinish (finish.End targets) = Unit {0}

-- so does a cancel
abbrev pub FitsCancel : CancelPhase → Type 0
FitsCancel (cancel.Directory coll slot) = slot < ENTRIES
FitsCancel (cancel.Back coll slot) = slot < ENTRIES
FitsCancel (cancel.Entry coll slot number) = (slot < ENTRIES) × HasIncarnation number
FitsCancel (cancel.Unfreeze coll slot number source) = (slot < ENTRIES) × HasIncarnation number × (source < ENTRIES)
FitsCancel (cancel.GiveUp coll slot) = slot < ENTRIES
FitsCancel cancel.End = Unit {0}

-- a call in progress, with the words of the latest add: an advance is at an epoch that is not the last one
abbrev pub FitsPhase : Layout → List ℕ → Phase → Type 0
FitsPhase shape words phase.Idle = Unit {0}
FitsPhase shape words phase.Entering = Unit {0}
FitsPhase shape words (phase.Advancing epoch other) = (epoch < LAST_EPOCH) × (other < PASSES)
FitsPhase shape words (phase.Ready epoch) = epoch < LAST_EPOCH
FitsPhase shape words (phase.Look next) = FitsLook next
FitsPhase shape words (phase.Add next) = FitsAdd shape words next
FitsPhase shape words (phase.Remove next) = FitsRemove next
FitsPhase shape words (phase.Scan next) = FitsScan next
FitsPhase shape words (phase.Begin next) = FitsBegin next
FitsPhase shape words (phase.Finish next) = FitsFinish next
FitsPhase shape words (phase.Cancel next) = FitsCancel next
FitsPhase shape words (phase.Survey next) = FitsCounting next
