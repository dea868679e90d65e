-- Begin: a round is opened, the objects are counted, and those that stand too high get a target and are frozen.
use Rattle.std.specs.Prelude.{ℕ, ◌+◌, ◌*◌, ◌==◌, ◌&&◌, nat_lt, nat_le, Bool, false, Option, Some, None, if◌then◌else◌}
use Rattle.smc_words.specs.declared.layout.TheConstants.{BLANK}
use Rattle.smc_words.specs.declared.dir.Dir.TheVariants as dir
use Rattle.smc_words.specs.declared.number.Number.{Number}
use Rattle.smc_words.specs.declared.round.RoundWord.{RoundWord}
use Rattle.smc_shape.specs.Layout.{Layout, slots_of, width_of}
use Rattle.smc_shape.specs.declared.coll.TheConstants.{BLOCK_SLOTS}
use Rattle.smc_shape.specs.declared.place.Place.TheVariants as place
use Rattle.smc_core.specs.declared.change.Change.{Change}
use Rattle.smc_core.specs.declared.done.Done.TheVariants as done
use Rattle.smc_core.specs.declared.kind.Kind.TheVariants as kind
use Rattle.smc_core.specs.declared.op.Offer.{Offer}
use Rattle.smc_core.specs.declared.op.Op.TheVariants.{Load, Store, Exchange}
use Rattle.smc_core.specs.declared.phase.Phase.TheVariants as phase
use Rattle.smc_core.specs.declared.phase.moves.BeginPhase.{BeginPhase}
use Rattle.smc_core.specs.declared.phase.moves.BeginPhase.TheVariants as begin
use Rattle.smc_core.specs.declared.phase.moves.Count.{Count}
use Rattle.smc_core.specs.declared.phase.moves.CountPhase.TheVariants as walk
use Rattle.smc_core.specs.declared.phase.moves.Counting.{Counting}
use Rattle.smc_core.specs.declared.phase.moves.Counting.TheVariants.{Walks, Counted}
use Rattle.smc_core.specs.declared.phase.moves.Walk.{Walk}
use Rattle.smc_core.specs.declared.word.State.{State}
use Rattle.smc_core.specs.declared.word.State.TheVariants as state
use Rattle.smc_core.specs.declared.word.Word.{Word}
use Rattle.smc_core.specs.declared.word.Word.TheVariants as word
use Rattle.smc_core.specs.Count.{count_offer, counting, blocks_for, no_count, is_valid}
use Rattle.smc_core.specs.Ripe.{is_ripe_slot}
use Rattle.smc_core.specs.Step.{step, goes, ends}
use Rattle.smc_core.specs.Words.{dir_of, back_of, state_of, same_word}

-- the first step of a begin: the round word is exchanged from none to this pass's round, bound one above the section
abbrev pub round_offer : ℕ → ℕ → ℕ → Offer
round_offer pass epoch coll = step kind.OpenRound (Exchange place.Round (word.Round None) (word.Round (Some (record { bound = epoch + 1; pass = pass; coll = coll }))))

-- what that step changes: where another round was seen, the call ends as busy
abbrev pub round_seen : ℕ → Option RoundWord → Change
round_seen coll None = goes (phase.Begin (begin.Count (walk.Directory coll 0 no_count)))
round_seen coll (Some round) = ends (done.Busy round.bound round.pass round.coll)

-- the step of a begin, in a section at this epoch
abbrev pub begin_offer : ℕ → BeginPhase → Offer
begin_offer epoch (begin.Count next) = count_offer next
begin_offer epoch (begin.Nothing coll) = step kind.CloseRound (Store place.Round (word.Round None))
begin_offer epoch (begin.SourceDirectory moves) = step kind.LoadDirectory (Load (place.Directory moves.coll moves.source))
begin_offer epoch (begin.SourceBack moves) = step kind.LoadBack (Load (place.Back moves.coll moves.source))
begin_offer epoch (begin.SourceEntry moves number) = step kind.LoadEntry (Load (place.Entry number.coll number.entry))
begin_offer epoch (begin.TargetDirectory moves number) = step kind.LoadDirectory (Load (place.Directory moves.coll moves.target))
begin_offer epoch (begin.ClaimTarget moves number seen) = step kind.ClaimSlot (Exchange (place.Directory moves.coll moves.target) (word.Directory seen) (word.Directory dir.Claimed))
begin_offer epoch (begin.BlankField moves number field) = step kind.StoreField (Store (place.Field moves.coll moves.target field) (word.Plain BLANK))
begin_offer epoch (begin.StoreBack moves number) = step kind.StoreBack (Store (place.Back moves.coll moves.target) (word.Back (Some number)))
begin_offer epoch (begin.StoreForward moves number) = step kind.StoreForward (Store (place.Forward moves.coll moves.source) (word.Forward moves.target))
begin_offer epoch (begin.StoreIncoming moves number) = step kind.StoreIncoming (Store (place.Directory moves.coll moves.target) (word.Directory dir.Incoming))
begin_offer epoch (begin.Freeze moves number) = step kind.Freeze (Exchange (place.Entry number.coll number.entry) (word.Entry (state.Present number.incarnation moves.source)) (word.Entry (state.Frozen number.incarnation moves.source)))
begin_offer epoch (begin.GiveUp moves) = step kind.LeaveSlot (Store (place.Directory moves.coll moves.target) (word.Directory (dir.Limbo (epoch + 1))))

-- whether the entry has the object in this slot, with no mark
abbrev pub is_source : Number → ℕ → State → Bool
is_source number slot (state.Present incarnation there) = incarnation == number.incarnation && there == slot
is_source number slot _ = false

-- the call ends with a round
abbrev pub ends_round : ℕ → Walk → Change
ends_round epoch moves = ends (done.Round moves.coll (epoch + 1) moves.moves)

-- the walk looks at its source, or, where no slot is left, the call ends
abbrev pub to_source : Layout → ℕ → Walk → Change
to_source shape epoch moves = if nat_lt moves.source (slots_of shape moves.coll) then goes (phase.Begin (begin.SourceDirectory moves)) else ends_round epoch moves

-- it looks at the next source
abbrev pub next_source : Layout → ℕ → Walk → Change
next_source shape epoch moves = to_source shape epoch (record moves { source = moves.source + 1 })

-- it looks at its target for this object, or, where none is left, the call ends
abbrev pub to_target : ℕ → Walk → Number → Change
to_target epoch moves number = if nat_lt moves.target moves.kept then goes (phase.Begin (begin.TargetDirectory moves number)) else ends_round epoch moves

-- no slot is looked at twice for a target
abbrev pub past_target : Walk → Walk
past_target moves = record moves { target = moves.target + 1 }

-- one more entry is frozen
abbrev pub with_move : Walk → Walk
with_move moves = record moves { moves = moves.moves + 1 }

-- the walk over sources begins at the first slot above the kept blocks
abbrev pub first_walk : ℕ → ℕ → Walk
first_walk coll kept = record { coll = coll; source = kept; target = 0; kept = kept; moves = 0 }

-- after the count: where there are no more blocks than needed, the round is given up
abbrev pub begin_counted : Layout → ℕ → ℕ → Count → Change
begin_counted shape epoch coll count =
    if nat_le count.blocks (blocks_for count.objects) then goes (phase.Begin (begin.Nothing coll))
    else to_source shape epoch (first_walk coll (blocks_for count.objects * BLOCK_SLOTS))

-- the count goes on, or is done
abbrev pub begin_counting : Layout → ℕ → Counting → Change
begin_counting shape epoch (Walks next) = goes (phase.Begin (begin.Count next))
begin_counting shape epoch (Counted coll count) = begin_counted shape epoch coll count

-- the entry of the source's owner is loaded; a source without one is passed
abbrev pub source_owner : Layout → ℕ → Walk → Option Number → Change
source_owner shape epoch moves None = next_source shape epoch moves
source_owner shape epoch moves (Some number) = goes (phase.Begin (begin.SourceEntry moves number))

-- the field of the target is blanked next, or, where it is none, the target gets its owner
abbrev pub blank_field : Layout → Walk → Number → ℕ → BeginPhase
blank_field shape moves number field = if nat_lt field (width_of shape moves.coll) then begin.BlankField moves number field else begin.StoreBack moves number

-- what a step of a begin changes, in a section at this epoch
abbrev pub begin_change : Layout → ℕ → BeginPhase → Word → Change
begin_change shape epoch (begin.Count next) w = begin_counting shape epoch (counting shape next w)
begin_change shape epoch (begin.Nothing coll) w = ends (done.Nothing coll)
begin_change shape epoch (begin.SourceDirectory moves) w = if is_valid (dir_of w) then goes (phase.Begin (begin.SourceBack moves)) else next_source shape epoch moves
begin_change shape epoch (begin.SourceBack moves) w = source_owner shape epoch moves (back_of w)
begin_change shape epoch (begin.SourceEntry moves number) w = if is_source number moves.source (state_of w) then to_target epoch moves number else next_source shape epoch moves
begin_change shape epoch (begin.TargetDirectory moves number) w = if is_ripe_slot epoch (dir_of w) then goes (phase.Begin (begin.ClaimTarget moves number (dir_of w))) else to_target epoch (past_target moves) number
begin_change shape epoch (begin.ClaimTarget moves number seen) w = if same_word w (word.Directory seen) then goes (phase.Begin (blank_field shape moves number 0)) else to_target epoch (past_target moves) number
begin_change shape epoch (begin.BlankField moves number field) w = goes (phase.Begin (blank_field shape moves number (field + 1)))
begin_change shape epoch (begin.StoreBack moves number) w = goes (phase.Begin (begin.StoreForward moves number))
begin_change shape epoch (begin.StoreForward moves number) w = goes (phase.Begin (begin.StoreIncoming moves number))
begin_change shape epoch (begin.StoreIncoming moves number) w = goes (phase.Begin (begin.Freeze moves number))
begin_change shape epoch (begin.Freeze moves number) w = if same_word w (word.Entry (state.Present number.incarnation moves.source)) then next_source shape epoch (with_move (past_target moves)) else goes (phase.Begin (begin.GiveUp moves))
begin_change shape epoch (begin.GiveUp moves) w = next_source shape epoch (past_target moves)
