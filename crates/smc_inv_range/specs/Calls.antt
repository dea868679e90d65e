-- What each call in progress keeps: the slots, the entries and the numbers that it remembers are of the region.
use Rattle.std.specs.Prelude.{◌≡◌, ℕ, ◌+◌, ◌<◌, ◌≤◌, ◌^◌, IsTrue, Option, Some, None, List, length, All}
use Rattle.smc_words.specs.declared.layout.TheConstants.{EPOCHS, INCARNATIONS}
use Rattle.smc_words.specs.declared.number.Number.{Number}
use Rattle.smc_words.specs.Dir.{FitsDir}
use Rattle.smc_shape.specs.Layout.{Layout, width_of, entries_of}
use Rattle.smc_core.specs.declared.local.Held.{Held}
use Rattle.smc_core.specs.declared.local.Owned.{Owned}
use Rattle.smc_core.specs.declared.local.Stand.{Stand}
use Rattle.smc_core.specs.declared.phase.Phase.{Phase}
use Rattle.smc_core.specs.declared.phase.Phase.TheVariants as phase
use Rattle.smc_core.specs.declared.phase.moves.BeginPhase.{BeginPhase}
use Rattle.smc_core.specs.declared.phase.moves.BeginPhase.TheVariants as begin
use Rattle.smc_core.specs.declared.phase.moves.CancelPhase.{CancelPhase}
use Rattle.smc_core.specs.declared.phase.moves.CancelPhase.TheVariants as cancel
use Rattle.smc_core.specs.declared.phase.moves.CountPhase.{CountPhase}
use Rattle.smc_core.specs.declared.phase.moves.CountPhase.TheVariants as walk
use Rattle.smc_core.specs.declared.phase.moves.FinishPhase.{FinishPhase}
use Rattle.smc_core.specs.declared.phase.moves.FinishPhase.TheVariants as finish
use Rattle.smc_core.specs.declared.phase.moves.Targets.{Targets}
use Rattle.smc_core.specs.declared.phase.moves.Walk.{Walk}
use Rattle.smc_core.specs.declared.phase.objects.AddPhase.{AddPhase}
use Rattle.smc_core.specs.declared.phase.objects.AddPhase.TheVariants as add
use Rattle.smc_core.specs.declared.phase.objects.CopyPhase.{CopyPhase}
use Rattle.smc_core.specs.declared.phase.objects.CopyPhase.TheVariants as copy
use Rattle.smc_core.specs.declared.phase.objects.LookPhase.{LookPhase}
use Rattle.smc_core.specs.declared.phase.objects.LookPhase.TheVariants as look
use Rattle.smc_core.specs.declared.phase.objects.RemovePhase.{RemovePhase}
use Rattle.smc_core.specs.declared.phase.objects.RemovePhase.TheVariants as remove
use Rattle.smc_core.specs.declared.phase.objects.ScanPhase.{ScanPhase}
use Rattle.smc_core.specs.declared.phase.objects.ScanPhase.TheVariants as scan
use Rattle.smc_core.specs.declared.phase.objects.Seeker.{Seeker}
use Rattle.smc_core.specs.declared.phase.objects.Seeker.TheVariants as seeker
use Rattle.smc_core.specs.declared.section.Section.{Section}
use Rattle.smc_core.specs.declared.section.Section.TheVariants.{Outside, Loaded, Announced, Again, Lasting, Inside}
use Rattle.smc_core.specs.declared.section.TheConstants.{LAST_EPOCH}
use Rattle.smc_core.specs.Add.{has_no_blank}
use Rattle.smc_rules.specs.State.{State}
use Rattle.smc_inv_range.specs.Ranges.{IsNamed, IsNumberOf, IsSlot, InMemory}

-- a step of copying has its target and its field within the collection
abbrev pub InCopy : Layout → ℕ → CopyPhase → Type 0
InCopy shape coll copy.Target = Unit {0}
InCopy shape coll (copy.Load target field) = IsSlot shape coll target × (field < width_of shape coll)
InCopy shape coll (copy.Put target field value) = IsSlot shape coll target × (field < width_of shape coll) × (value < 2 ^ 64)
InCopy shape coll (copy.Swing target) = IsSlot shape coll target

-- a scan that looks an object up is at a slot
abbrev pub InSeeker : Layout → Seeker → Type 0
InSeeker shape seeker.Caller = Unit {0}
InSeeker shape (seeker.Scan number_of_scan coll slot) = IsSlot shape coll slot

-- a look-up has an entry, and from the first mark of a round on a slot
abbrev pub InLook : Layout → LookPhase → Type 0
InLook shape (look.Load who number) = InSeeker shape who × (number.entry < entries_of shape number.coll)
InLook shape (look.Abandon who number slot) = InSeeker shape who × IsNamed shape number × IsSlot shape number.coll slot
InLook shape (look.Help who number slot next) = InSeeker shape who × IsNamed shape number × IsSlot shape number.coll slot × InCopy shape number.coll next

-- the words are a record of the collection, none of them blank
pub record IsRecordOf (shape : Layout) (coll : ℕ) (words : List ℕ) : Type 0 where
  pub width : length words ≡ width_of shape coll
  pub values : IsTrue (has_no_blank words)

-- an add has its words, and what it has found of a slot and an entry
abbrev pub InAdd : Layout → List ℕ → AddPhase → Type 0
InAdd shape words (add.FindSlot coll from slot tried) = IsRecordOf shape coll words × IsSlot shape coll from × IsSlot shape coll slot
InAdd shape words (add.ClaimSlot coll from slot tried seen) = IsRecordOf shape coll words × IsSlot shape coll from × IsSlot shape coll slot × FitsDir seen
InAdd shape words (add.FindEntry coll slot entry tried) = IsRecordOf shape coll words × IsSlot shape coll slot × (entry < entries_of shape coll)
InAdd shape words (add.ClaimEntry coll slot entry tried incarnation stamp) =
    IsRecordOf shape coll words × IsSlot shape coll slot × (entry < entries_of shape coll) × (incarnation + 1 < INCARNATIONS) × (stamp < EPOCHS)
InAdd shape words (add.DropSlot coll slot) = IsSlot shape coll slot
InAdd shape words (add.StoreBack slot number) = IsRecordOf shape number.coll words × IsSlot shape number.coll slot × IsNumberOf shape number.coll number
InAdd shape words (add.StoreField slot number field) =
    IsRecordOf shape number.coll words × IsSlot shape number.coll slot × IsNumberOf shape number.coll number × (field < width_of shape number.coll)
InAdd shape words (add.StoreValid slot number) = IsSlot shape number.coll slot × IsNumberOf shape number.coll number
InAdd shape words (add.StoreLive slot number) = IsSlot shape number.coll slot × IsNumberOf shape number.coll number

-- a first remove has its object's slot and entry
abbrev pub InRemove : Layout → RemovePhase → Type 0
InRemove shape (remove.LeaveSlot slot number) = IsSlot shape number.coll slot × IsNamed shape number
InRemove shape (remove.FreeEntry number) = IsNamed shape number

-- a scan on its way is at a slot
abbrev pub InScan : Layout → ScanPhase → Type 0
InScan shape (scan.Directory number_of_scan coll slot) = IsSlot shape coll slot
InScan shape (scan.Back number_of_scan coll slot) = IsSlot shape coll slot
InScan shape (scan.End number_of_scan) = Unit {0}

-- a counting walk is at a slot
abbrev pub InCount : Layout → CountPhase → Type 0
InCount shape (walk.Directory coll slot count) = IsSlot shape coll slot
InCount shape (walk.Back coll slot count) = IsSlot shape coll slot
InCount shape (walk.Entry coll slot count number) = IsSlot shape coll slot × IsNumberOf shape coll number

-- a begin is at a source behind the kept slots
abbrev pub AtSource : Layout → Walk → Type 0
AtSource shape moves = IsSlot shape moves.coll moves.source × (moves.kept ≤ moves.source)

-- it has found an object there
abbrev pub WithObject : Layout → Walk → Number → Type 0
WithObject shape moves number = AtSource shape moves × IsNumberOf shape moves.coll number

-- it is at a target for it, among the kept slots
abbrev pub AtTarget : Layout → Walk → Number → Type 0
AtTarget shape moves number = WithObject shape moves number × (moves.target < moves.kept)

-- a begin counts, or is at a source and at a target
abbrev pub InBegin : Layout → BeginPhase → Type 0
InBegin shape (begin.Count next) = InCount shape next
InBegin shape (begin.Nothing coll) = Unit {0}
InBegin shape (begin.SourceDirectory moves) = AtSource shape moves
InBegin shape (begin.SourceBack moves) = AtSource shape moves
InBegin shape (begin.SourceEntry moves number) = WithObject shape moves number
InBegin shape (begin.TargetDirectory moves number) = AtTarget shape moves number
InBegin shape (begin.ClaimTarget moves number seen) = AtTarget shape moves number × FitsDir seen
InBegin shape (begin.BlankField moves number field) = AtTarget shape moves number × (field < width_of shape moves.coll)
InBegin shape (begin.StoreBack moves number) = AtTarget shape moves number
InBegin shape (begin.StoreForward moves number) = AtTarget shape moves number
InBegin shape (begin.StoreIncoming moves number) = AtTarget shape moves number
InBegin shape (begin.Freeze moves number) = AtTarget shape moves number
InBegin shape (begin.GiveUp moves) = AtSource shape moves × (moves.target < moves.kept)

-- a walk over targets is at a slot
abbrev pub AtSlot : Layout → Targets → Type 0
AtSlot shape targets = IsSlot shape targets.coll targets.slot

-- a finish is at a target, and has its object and its source
abbrev pub InFinish : Layout → FinishPhase → Type 0
InFinish shape (finish.Directory targets) = AtSlot shape targets
InFinish shape (finish.Back targets) = AtSlot shape targets
InFinish shape (finish.Entry targets number) = AtSlot shape targets × IsNumberOf shape targets.coll number
InFinish shape (finish.Lock targets number source) = AtSlot shape targets × IsNumberOf shape targets.coll number × IsSlot shape targets.coll source
InFinish shape (finish.Move targets number source next) =
    AtSlot shape targets × IsNumberOf shape targets.coll number × IsSlot shape targets.coll source × InCopy shape number.coll next
InFinish shape (finish.Settle targets source) = AtSlot shape targets × IsSlot shape targets.coll source
InFinish shape (finish.LeaveSource targets source) = AtSlot shape targets × IsSlot shape targets.coll source
InFinish shape (finish.GiveUp targets gone) = AtSlot shape targets
InFinish shape (finish.End targets) = Unit {0}

-- so has a cancel
abbrev pub InCancel : Layout → CancelPhase → Type 0
InCancel shape (cancel.Directory coll slot) = IsSlot shape coll slot
InCancel shape (cancel.Back coll slot) = IsSlot shape coll slot
InCancel shape (cancel.Entry coll slot number) = IsSlot shape coll slot × IsNumberOf shape coll number
InCancel shape (cancel.Unfreeze coll slot number source) = IsSlot shape coll slot × IsNumberOf shape coll number × IsSlot shape coll source
InCancel shape (cancel.GiveUp coll slot) = IsSlot shape coll slot
InCancel shape cancel.End = Unit {0}

-- a call in progress, with the words of the latest add; an advance is at a pass of the region, and not at the last epoch
abbrev pub InPhase : Layout → List ℕ → Phase → Type 0
InPhase shape words phase.Idle = Unit {0}
InPhase shape words phase.Entering = Unit {0}
InPhase shape words (phase.Advancing epoch other) = (epoch < LAST_EPOCH) × (other < shape.passes)
InPhase shape words (phase.Ready epoch) = epoch < LAST_EPOCH
InPhase shape words (phase.Look next) = InLook shape next
InPhase shape words (phase.Add next) = InAdd shape words next
InPhase shape words (phase.Remove next) = InRemove shape next
InPhase shape words (phase.Scan next) = InScan shape next
InPhase shape words (phase.Begin next) = InBegin shape next
InPhase shape words (phase.Finish next) = InFinish shape next
InPhase shape words (phase.Cancel next) = InCancel shape next
InPhase shape words (phase.Survey next) = InCount shape next

-- no epoch that a section has seen is above the last one
abbrev pub InSection : Section → Type 0
InSection Outside = Unit {0}
InSection (Loaded seen) = seen ≤ LAST_EPOCH
InSection (Announced seen) = seen ≤ LAST_EPOCH
InSection (Again seen epoch) = (seen ≤ LAST_EPOCH) × (epoch ≤ LAST_EPOCH)
InSection (Lasting epoch) = epoch ≤ LAST_EPOCH
InSection (Inside epoch calm) = epoch ≤ LAST_EPOCH

-- what is held stands in a slot of its collection, and has an entry
abbrev pub IsHeldWithin : Layout → Held → Type 0
IsHeldWithin shape pair = IsNamed shape pair.number × IsSlot shape pair.number.coll pair.slot

-- a round that is owned is one of a collection of the region
abbrev pub InOwned : Layout → Option Owned → Type 0
InOwned shape None = Unit {0}
InOwned shape (Some owned) = owned.coll < length shape.colls

-- where a pass stands, each part is within the region
pub record InStand (shape : Layout) (stand : Stand) : Type 0 where
  pub section : InSection stand.section
  pub phase : InPhase shape stand.words stand.phase
  pub held : All (IsHeldWithin shape) stand.held
  pub round : InOwned shape stand.round

-- so do all words and all passes
pub record Ranges (shape : Layout) (state : State) : Type 0 where
  pub memory : InMemory shape state.memory
  pub stands : (pass : ℕ) → pass < shape.passes → InStand shape (state.stands pass)
