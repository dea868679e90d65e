-- Finish: each target gets its object, or is given up.
use Rattle.std.specs.Prelude.{ℕ, ◌+◌, ◌==◌, nat_lt, not, Bool, true, false, Option, Some, None, if◌then◌else◌}
use Rattle.smc_words.specs.declared.dir.Dir.{Dir}
use Rattle.smc_words.specs.declared.dir.Dir.TheVariants as dir
use Rattle.smc_words.specs.declared.number.Number.{Number}
use Rattle.smc_shape.specs.Layout.{Layout, slots_of}
use Rattle.smc_shape.specs.declared.place.Place.TheVariants as place
use Rattle.smc_core.specs.declared.change.Change.{Change}
use Rattle.smc_core.specs.declared.done.Done.TheVariants as done
use Rattle.smc_core.specs.declared.kind.Kind.TheVariants as kind
use Rattle.smc_core.specs.declared.local.Owned.{Owned}
use Rattle.smc_core.specs.declared.op.Offer.{Offer}
use Rattle.smc_core.specs.declared.op.Op.TheVariants.{Load, Store, Exchange}
use Rattle.smc_core.specs.declared.phase.Phase.TheVariants as phase
use Rattle.smc_core.specs.declared.phase.moves.FinishPhase.{FinishPhase}
use Rattle.smc_core.specs.declared.phase.moves.FinishPhase.TheVariants as finish
use Rattle.smc_core.specs.declared.phase.moves.Targets.{Targets}
use Rattle.smc_core.specs.declared.phase.objects.CopyPhase.{CopyPhase}
use Rattle.smc_core.specs.declared.phase.objects.CopyPhase.TheVariants as copy
use Rattle.smc_core.specs.declared.word.State.{State}
use Rattle.smc_core.specs.declared.word.State.TheVariants as state
use Rattle.smc_core.specs.declared.word.Word.{Word}
use Rattle.smc_core.specs.declared.word.Word.TheVariants as word
use Rattle.smc_core.specs.Look.{copy_offer, copy_next}
use Rattle.smc_core.specs.Step.{step, goes, ends}
use Rattle.smc_core.specs.Words.{dir_of, back_of, state_of, same_word, has_object}

-- whether a section at this epoch is too early to finish a round with this bound
abbrev pub is_early : ℕ → ℕ → Bool
is_early epoch bound = nat_lt epoch (bound + 2)

-- whether a directory word says that an object is to move here
abbrev pub is_incoming : Dir → Bool
is_incoming dir.Incoming = true
is_incoming _ = false

-- the walk over targets begins at the first slot
abbrev pub first_target : ℕ → Targets
first_target coll = record { coll = coll; slot = 0; moved = 0; abandoned = 0; gone = 0 }

-- the step of a finish, in a section at this epoch
abbrev pub finish_offer : ℕ → FinishPhase → Offer
finish_offer epoch (finish.Directory targets) = step kind.LoadDirectory (Load (place.Directory targets.coll targets.slot))
finish_offer epoch (finish.Back targets) = step kind.LoadBack (Load (place.Back targets.coll targets.slot))
finish_offer epoch (finish.Entry targets number) = step kind.LoadEntry (Load (place.Entry number.coll number.entry))
finish_offer epoch (finish.Lock targets number source) = step kind.Lock (Exchange (place.Entry number.coll number.entry) (word.Entry (state.Frozen number.incarnation source)) (word.Entry (state.Locked number.incarnation source)))
finish_offer epoch (finish.Move targets number source next) = copy_offer number source next
finish_offer epoch (finish.Settle targets source) = step kind.Settle (Exchange (place.Directory targets.coll targets.slot) (word.Directory dir.Incoming) (word.Directory dir.Valid))
finish_offer epoch (finish.LeaveSource targets source) = step kind.LeaveSlot (Store (place.Directory targets.coll source) (word.Directory (dir.Limbo (epoch + 1))))
finish_offer epoch (finish.GiveUp targets gone) = step kind.LeaveSlot (Store (place.Directory targets.coll targets.slot) (word.Directory (dir.Limbo (epoch + 1))))
finish_offer epoch (finish.End targets) = step kind.CloseRound (Store place.Round (word.Round None))

-- the walk goes on with the next slot, or, where each was passed, to its end
abbrev pub next_target : Layout → Targets → FinishPhase
next_target shape targets = if nat_lt (targets.slot + 1) (slots_of shape targets.coll) then finish.Directory (record targets { slot = targets.slot + 1 }) else finish.End targets

-- one more target has got its object
abbrev pub with_moved : Targets → Targets
with_moved targets = record targets { moved = targets.moved + 1 }

-- one more target was given up: its object is gone, or was left where it is
abbrev pub with_given_up : Bool → Targets → Targets
with_given_up true targets = record targets { gone = targets.gone + 1 }
with_given_up false targets = record targets { abandoned = targets.abandoned + 1 }

-- the entry of the target's owner is loaded; a target without one is given up
abbrev pub target_owner : Targets → Option Number → FinishPhase
target_owner targets None = finish.GiveUp targets true
target_owner targets (Some number) = finish.Entry targets number

-- a target is given up, by the last that was seen of the entry of its object
abbrev pub give_up : Targets → Number → State → FinishPhase
give_up targets number seen = finish.GiveUp targets (not (has_object number.incarnation seen))

-- the slot in which the entry has the object frozen, if it has
abbrev pub frozen_slot : Number → State → Option ℕ
frozen_slot number (state.Frozen incarnation slot) = if incarnation == number.incarnation then Some slot else None
frozen_slot number _ = None

-- by the entry: a frozen object is to be locked
abbrev pub lock : Targets → Number → State → Option ℕ → FinishPhase
lock targets number seen None = give_up targets number seen
lock targets number seen (Some source) = finish.Lock targets number source

-- after a step of copying: after the swing, whatever it saw, the target is settled
abbrev pub move : Layout → Targets → Number → ℕ → CopyPhase → Word → FinishPhase
move shape targets number source (copy.Swing target) w = finish.Settle targets source
move shape targets number source next w = finish.Move targets number source (copy_next shape number.coll next w)

-- where a step leaves a finish that goes on
abbrev pub finish_next : Layout → FinishPhase → Word → FinishPhase
finish_next shape (finish.Directory targets) w = if is_incoming (dir_of w) then finish.Back targets else next_target shape targets
finish_next shape (finish.Back targets) w = target_owner targets (back_of w)
finish_next shape (finish.Entry targets number) w = lock targets number (state_of w) (frozen_slot number (state_of w))
finish_next shape (finish.Lock targets number source) w = if same_word w (word.Entry (state.Frozen number.incarnation source)) then finish.Move targets number source copy.Target else give_up targets number (state_of w)
finish_next shape (finish.Move targets number source next) w = move shape targets number source next w
finish_next shape (finish.Settle targets source) w = finish.LeaveSource targets source
finish_next shape (finish.LeaveSource targets source) w = next_target shape (with_moved targets)
finish_next shape (finish.GiveUp targets gone) w = next_target shape (with_given_up gone targets)
finish_next shape (finish.End targets) w = finish.End targets

-- what a step of a finish changes
abbrev pub finish_change : Layout → FinishPhase → Word → Change
finish_change shape (finish.End targets) w = ends (done.Finished targets.moved targets.abandoned targets.gone)
finish_change shape next w = goes (phase.Finish (finish_next shape next w))

-- the first step of a finish: of a section that is too early the own word, else the directory word of the first slot
abbrev pub finish_start : ℕ → ℕ → Owned → Offer
finish_start pass epoch owned = if is_early epoch owned.bound then step kind.LoadSection (Load (place.Section pass)) else finish_offer epoch (finish.Directory (first_target owned.coll))

-- what that step changes
abbrev pub finish_started : Layout → ℕ → Owned → Word → Change
finish_started shape epoch owned w = if is_early epoch owned.bound then ends (done.Early epoch owned.bound) else finish_change shape (finish.Directory (first_target owned.coll)) w
