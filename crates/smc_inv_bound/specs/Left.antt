-- How many steps a call in progress takes at most until it ends, this one included.
--
-- It is counted by how wide a record of each collection is taken to be: `wide` says that. On any machine a word may name
-- an object of any collection, so there each record counts as one of the greatest width.
use Rattle.std.specs.Prelude.{◌≡◌, ℕ, ◌+◌, ◌-◌, ◌*◌, ◌<◌, ◌≤◌, Option, Some, None, slice_get}
use Rattle.smc_words.specs.declared.number.Number.{Number}
use Rattle.smc_shape.specs.Layout.{Layout, IsShape, slots_of, entries_of, width_of}
use Rattle.smc_shape.specs.declared.coll.TheConstants.{MAX_WIDTH}
use Rattle.smc_core.specs.declared.call.Choice.TheVariants.{Go}
use Rattle.smc_core.specs.declared.local.Local.{Local}
use Rattle.smc_core.specs.declared.phase.Phase.{Phase}
use Rattle.smc_core.specs.declared.phase.Phase.TheVariants as phase
use Rattle.smc_core.specs.declared.phase.moves.BeginPhase.{BeginPhase}
use Rattle.smc_core.specs.declared.phase.moves.BeginPhase.TheVariants as begin
use Rattle.smc_core.specs.declared.phase.moves.CancelPhase.{CancelPhase}
use Rattle.smc_core.specs.declared.phase.moves.CancelPhase.TheVariants as cancel
use Rattle.smc_core.specs.declared.phase.moves.CountPhase.{CountPhase}
use Rattle.smc_core.specs.declared.phase.moves.CountPhase.TheVariants as walk
use Rattle.smc_core.specs.declared.phase.moves.FinishPhase.{FinishPhase}
use Rattle.smc_core.specs.declared.phase.moves.FinishPhase.TheVariants as finish
use Rattle.smc_core.specs.declared.phase.moves.Targets.{Targets}
use Rattle.smc_core.specs.declared.phase.moves.Walk.{Walk}
use Rattle.smc_core.specs.declared.phase.objects.AddPhase.{AddPhase}
use Rattle.smc_core.specs.declared.phase.objects.AddPhase.TheVariants as add
use Rattle.smc_core.specs.declared.phase.objects.CopyPhase.{CopyPhase}
use Rattle.smc_core.specs.declared.phase.objects.CopyPhase.TheVariants as copy
use Rattle.smc_core.specs.declared.phase.objects.LookPhase.{LookPhase}
use Rattle.smc_core.specs.declared.phase.objects.LookPhase.TheVariants as look
use Rattle.smc_core.specs.declared.phase.objects.RemovePhase.{RemovePhase}
use Rattle.smc_core.specs.declared.phase.objects.RemovePhase.TheVariants as remove
use Rattle.smc_core.specs.declared.phase.objects.ScanPhase.{ScanPhase}
use Rattle.smc_core.specs.declared.phase.objects.ScanPhase.TheVariants as scan
use Rattle.smc_core.specs.declared.phase.objects.Seeker.{Seeker}
use Rattle.smc_core.specs.declared.phase.objects.Seeker.TheVariants as seeker
use Rattle.smc_core.specs.declared.section.Section.{Section}
use Rattle.smc_core.specs.declared.section.Section.TheVariants.{Outside, Loaded, Announced, Again, Lasting, Inside}
use Rattle.smc_core.specs.declared.word.Word.{Word}
use Rattle.smc_core.specs.Machine.{Machine, Steps}
use Rattle.smc_core.specs.Words.{back_of}

-- the slots of a collection behind this one
abbrev pub slots_behind : Layout → ℕ → ℕ → ℕ
slots_behind shape coll slot = slots_of shape coll - (slot + 1)

-- copying a record of this width: the target, each field loaded and put, the swing
abbrev pub copy_left : ℕ → CopyPhase → ℕ
copy_left width copy.Target = 2 * width + 2
copy_left width (copy.Load target field) = 2 * (width - (field + 1)) + 3
copy_left width (copy.Put target field value) = 2 * (width - (field + 1)) + 2
copy_left width (copy.Swing target) = 1

-- a scan that has passed this slot: each slot behind it, and the end
abbrev pub scan_rest : Layout → (ℕ → ℕ) → ℕ → ℕ → ℕ
scan_rest shape wide coll slot = (2 * wide coll + 6) * slots_behind shape coll slot + 1

-- what is left after a look-up, by who looks
abbrev pub seeker_left : Layout → (ℕ → ℕ) → Seeker → ℕ
seeker_left shape wide seeker.Caller = 0
seeker_left shape wide (seeker.Scan number coll slot) = scan_rest shape wide coll slot

-- a look-up: the entry, abandoning, helping
abbrev pub look_left : Layout → (ℕ → ℕ) → LookPhase → ℕ
look_left shape wide (look.Load who number) = 2 * wide number.coll + 4 + seeker_left shape wide who
look_left shape wide (look.Abandon who number slot) = 2 * wide number.coll + 3 + seeker_left shape wide who
look_left shape wide (look.Help who number slot next) = copy_left (wide number.coll) next + seeker_left shape wide who

-- a scan on its way
abbrev pub scan_left : Layout → (ℕ → ℕ) → ScanPhase → ℕ
scan_left shape wide (scan.Directory number coll slot) = 2 * wide coll + 6 + scan_rest shape wide coll slot
scan_left shape wide (scan.Back number coll slot) = 2 * wide coll + 5 + scan_rest shape wide coll slot
scan_left shape wide (scan.End number) = 1

-- storing an object: its fields from this one on, that the slot is valid, the live entry
abbrev pub store_left : Layout → ℕ → ℕ → ℕ
store_left shape coll field = width_of shape coll - field + 2

-- seeking an entry after so many: each is loaded and exchanged; then the slot is given back, or the object is stored
abbrev pub entry_left : Layout → ℕ → ℕ → ℕ
entry_left shape coll tried = 2 * (entries_of shape coll - (tried + 1)) + width_of shape coll + 3

-- an add
abbrev pub add_left : Layout → AddPhase → ℕ
add_left shape (add.FindSlot coll from slot tried) = 2 * (slots_of shape coll - (tried + 1)) + 2 + (2 + entry_left shape coll 0)
add_left shape (add.ClaimSlot coll from slot tried seen) = 2 * (slots_of shape coll - (tried + 1)) + 1 + (2 + entry_left shape coll 0)
add_left shape (add.FindEntry coll slot entry tried) = entry_left shape coll tried + 2
add_left shape (add.ClaimEntry coll slot entry tried incarnation stamp) = entry_left shape coll tried + 1
add_left shape (add.DropSlot coll slot) = 1
add_left shape (add.StoreBack slot number) = store_left shape number.coll 0 + 1
add_left shape (add.StoreField slot number field) = store_left shape number.coll (field + 1) + 1
add_left shape (add.StoreValid slot number) = 2
add_left shape (add.StoreLive slot number) = 1

-- a first remove
abbrev pub remove_left : RemovePhase → ℕ
remove_left (remove.LeaveSlot slot number) = 2
remove_left (remove.FreeEntry number) = 1

-- a walk that counts: three words of each slot
abbrev pub count_left : Layout → CountPhase → ℕ
count_left shape (walk.Directory coll slot count) = 3 * slots_behind shape coll slot + 3
count_left shape (walk.Back coll slot count) = 3 * slots_behind shape coll slot + 2
count_left shape (walk.Entry coll slot count number) = 3 * slots_behind shape coll slot + 1

-- the collection of such a walk
abbrev pub counted_coll : CountPhase → ℕ
counted_coll (walk.Directory coll slot count) = coll
counted_coll (walk.Back coll slot count) = coll
counted_coll (walk.Entry coll slot count number) = coll

-- a begin after its count: for each source its three words, the blank fields, and five steps more; for each target two
abbrev pub moves_left : Layout → (ℕ → ℕ) → ℕ → ℕ
moves_left shape wide coll = (wide coll + 10) * slots_of shape coll + 1

-- a begin that is done with this source and its target
abbrev pub sources_left : Layout → (ℕ → ℕ) → Walk → ℕ
sources_left shape wide moves = (wide moves.coll + 8) * slots_behind shape moves.coll moves.source + 2 * (moves.kept - (moves.target + 1))

-- a begin that has not looked at this target
abbrev pub source_left : Layout → (ℕ → ℕ) → Walk → ℕ
source_left shape wide moves = (wide moves.coll + 8) * slots_behind shape moves.coll moves.source + 2 * (moves.kept - moves.target)

abbrev pub begin_left : Layout → (ℕ → ℕ) → BeginPhase → ℕ
begin_left shape wide (begin.Count next) = count_left shape next + moves_left shape wide (counted_coll next)
begin_left shape wide (begin.Nothing coll) = 1
begin_left shape wide (begin.SourceDirectory moves) = source_left shape wide moves + (wide moves.coll + 8)
begin_left shape wide (begin.SourceBack moves) = source_left shape wide moves + (wide moves.coll + 7)
begin_left shape wide (begin.SourceEntry moves number) = source_left shape wide moves + (wide moves.coll + 6)
begin_left shape wide (begin.TargetDirectory moves number) = sources_left shape wide moves + 2 + (wide moves.coll + 5)
begin_left shape wide (begin.ClaimTarget moves number seen) = sources_left shape wide moves + 1 + (wide moves.coll + 5)
begin_left shape wide (begin.BlankField moves number field) = sources_left shape wide moves + (wide moves.coll - (field + 1)) + 6
begin_left shape wide (begin.StoreBack moves number) = sources_left shape wide moves + 5
begin_left shape wide (begin.StoreForward moves number) = sources_left shape wide moves + 4
begin_left shape wide (begin.StoreIncoming moves number) = sources_left shape wide moves + 3
begin_left shape wide (begin.Freeze moves number) = sources_left shape wide moves + 2
begin_left shape wide (begin.GiveUp moves) = sources_left shape wide moves + 1

-- a finish that has passed this target: each slot behind it, and the end
abbrev pub targets_left : Layout → (ℕ → ℕ) → Targets → ℕ
targets_left shape wide targets = (2 * wide targets.coll + 8) * slots_behind shape targets.coll targets.slot + 1

-- a finish; from its owner on a target counts by the owner's record
abbrev pub finish_left : Layout → (ℕ → ℕ) → FinishPhase → ℕ
finish_left shape wide (finish.Directory targets) = targets_left shape wide targets + (2 * wide targets.coll + 8)
finish_left shape wide (finish.Back targets) = targets_left shape wide targets + (2 * wide targets.coll + 7)
finish_left shape wide (finish.Entry targets number) = targets_left shape wide targets + (2 * wide number.coll + 6)
finish_left shape wide (finish.Lock targets number source) = targets_left shape wide targets + (2 * wide number.coll + 5)
finish_left shape wide (finish.Move targets number source next) = targets_left shape wide targets + 2 + copy_left (wide number.coll) next
finish_left shape wide (finish.Settle targets source) = targets_left shape wide targets + 2
finish_left shape wide (finish.LeaveSource targets source) = targets_left shape wide targets + 1
finish_left shape wide (finish.GiveUp targets gone) = targets_left shape wide targets + 1
finish_left shape wide (finish.End targets) = 1

-- a cancel
abbrev pub cancel_left : Layout → CancelPhase → ℕ
cancel_left shape (cancel.Directory coll slot) = 5 * slots_behind shape coll slot + 6
cancel_left shape (cancel.Back coll slot) = 5 * slots_behind shape coll slot + 5
cancel_left shape (cancel.Entry coll slot number) = 5 * slots_behind shape coll slot + 4
cancel_left shape (cancel.Unfreeze coll slot number source) = 5 * slots_behind shape coll slot + 3
cancel_left shape (cancel.GiveUp coll slot) = 5 * slots_behind shape coll slot + 2
cancel_left shape cancel.End = 1

-- an enter, by how far it has come
abbrev pub enter_left : Section → ℕ
enter_left (Loaded seen) = 4
enter_left (Announced seen) = 3
enter_left (Again seen epoch) = 2
enter_left (Lasting epoch) = 1
enter_left Outside = 0
enter_left (Inside epoch calm) = 0

-- the call in progress; there is none where nothing is left
abbrev pub steps_left : Layout → (ℕ → ℕ) → Section → Phase → ℕ
steps_left shape wide section phase.Idle = 0
steps_left shape wide section phase.Entering = enter_left section
steps_left shape wide section (phase.Advancing epoch other) = shape.passes - (other + 1) + 2
steps_left shape wide section (phase.Ready epoch) = 1
steps_left shape wide section (phase.Look next) = look_left shape wide next
steps_left shape wide section (phase.Add next) = add_left shape next
steps_left shape wide section (phase.Remove next) = remove_left next
steps_left shape wide section (phase.Scan next) = scan_left shape wide next
steps_left shape wide section (phase.Begin next) = begin_left shape wide next
steps_left shape wide section (phase.Finish next) = finish_left shape wide next
steps_left shape wide section (phase.Cancel next) = cancel_left shape next
steps_left shape wide section (phase.Survey next) = count_left shape next

-- no record counts as narrower than it is
abbrev pub CountsWidths : Layout → (ℕ → ℕ) → Type 0
CountsWidths shape wide = (coll : ℕ) → width_of shape coll ≤ wide coll

-- the record of the owner that the word names counts as no wider than one of this collection
abbrev pub CountsOwner : (ℕ → ℕ) → ℕ → Word → Type 0
CountsOwner wide coll w = (owner : Number) → back_of w ≡ Some owner → wide owner.coll ≤ wide coll

-- so does the record of each owner that a scan or a finish is shown on its way
abbrev pub CountsOwners : (ℕ → ℕ) → Phase → Word → Type 0
CountsOwners wide (phase.Scan (scan.Back number coll slot)) w = CountsOwner wide coll w
CountsOwners wide (phase.Finish (finish.Back targets)) w = CountsOwner wide targets.coll w
CountsOwners wide _ w = Unit {0}

-- each record counts as one of the greatest width
abbrev pub widest : ℕ → ℕ
widest coll = MAX_WIDTH

-- the call in progress of a pass, if there is such a pass
abbrev pub left_in : Layout → (ℕ → ℕ) → Option Local → ℕ
left_in shape wide None = 0
left_in shape wide (Some l) = steps_left shape wide l.stand.section l.stand.phase

-- the call in progress of this pass of a machine
abbrev pub left_of : Layout → (ℕ → ℕ) → Machine → ℕ → ℕ
left_of shape wide m pass = left_in shape wide (slice_get m.locals pass)

-- a step that goes on with a call leaves fewer steps
abbrev pub CallsEnd : Type 0
CallsEnd = (shape : Layout) (m next : Machine) (pass : ℕ) → IsShape shape → Steps shape m pass Go next → left_of shape widest next pass < left_of shape widest m pass
