-- Cancel: every frozen object is tried once to be unfrozen, and every target is given up.
use Rattle.std.specs.Prelude.{ℕ, ◌+◌, nat_lt, Option, Some, None, if◌then◌else◌}
use Rattle.smc_words.specs.declared.dir.Dir.TheVariants as dir
use Rattle.smc_words.specs.declared.number.Number.{Number}
use Rattle.smc_shape.specs.Layout.{Layout, slots_of}
use Rattle.smc_shape.specs.declared.place.Place.TheVariants as place
use Rattle.smc_core.specs.declared.change.Change.{Change}
use Rattle.smc_core.specs.declared.done.Done.TheVariants as done
use Rattle.smc_core.specs.declared.kind.Kind.TheVariants as kind
use Rattle.smc_core.specs.declared.op.Offer.{Offer}
use Rattle.smc_core.specs.declared.op.Op.TheVariants.{Load, Store, Exchange}
use Rattle.smc_core.specs.declared.phase.Phase.TheVariants as phase
use Rattle.smc_core.specs.declared.phase.moves.CancelPhase.{CancelPhase}
use Rattle.smc_core.specs.declared.phase.moves.CancelPhase.TheVariants as cancel
use Rattle.smc_core.specs.declared.word.State.TheVariants as state
use Rattle.smc_core.specs.declared.word.Word.{Word}
use Rattle.smc_core.specs.declared.word.Word.TheVariants as word
use Rattle.smc_core.specs.Finish.{is_incoming, frozen_slot}
use Rattle.smc_core.specs.Step.{step, goes, ends}
use Rattle.smc_core.specs.Words.{dir_of, back_of, state_of}

-- the step of a cancel, in a section at this epoch
abbrev pub cancel_offer : ℕ → CancelPhase → Offer
cancel_offer epoch (cancel.Directory coll slot) = step kind.LoadDirectory (Load (place.Directory coll slot))
cancel_offer epoch (cancel.Back coll slot) = step kind.LoadBack (Load (place.Back coll slot))
cancel_offer epoch (cancel.Entry coll slot number) = step kind.LoadEntry (Load (place.Entry number.coll number.entry))
cancel_offer epoch (cancel.Unfreeze coll slot number source) = step kind.Unfreeze (Exchange (place.Entry number.coll number.entry) (word.Entry (state.Frozen number.incarnation source)) (word.Entry (state.Present number.incarnation source)))
cancel_offer epoch (cancel.GiveUp coll slot) = step kind.LeaveSlot (Store (place.Directory coll slot) (word.Directory (dir.Limbo (epoch + 1))))
cancel_offer epoch cancel.End = step kind.CloseRound (Store place.Round (word.Round None))

-- the walk goes on with the next slot, or, where each was passed, to its end
abbrev pub next_cancelled : Layout → ℕ → ℕ → CancelPhase
next_cancelled shape coll slot = if nat_lt (slot + 1) (slots_of shape coll) then cancel.Directory coll (slot + 1) else cancel.End

-- the entry of the target's owner is loaded; a target without one is given up
abbrev pub cancel_owner : ℕ → ℕ → Option Number → CancelPhase
cancel_owner coll slot None = cancel.GiveUp coll slot
cancel_owner coll slot (Some number) = cancel.Entry coll slot number

-- a frozen object is to be unfrozen
abbrev pub unfreeze : ℕ → ℕ → Number → Option ℕ → CancelPhase
unfreeze coll slot number None = cancel.GiveUp coll slot
unfreeze coll slot number (Some source) = cancel.Unfreeze coll slot number source

-- where a step leaves a cancel that goes on
abbrev pub cancel_next : Layout → CancelPhase → Word → CancelPhase
cancel_next shape (cancel.Directory coll slot) w = if is_incoming (dir_of w) then cancel.Back coll slot else next_cancelled shape coll slot
cancel_next shape (cancel.Back coll slot) w = cancel_owner coll slot (back_of w)
cancel_next shape (cancel.Entry coll slot number) w = unfreeze coll slot number (frozen_slot number (state_of w))
cancel_next shape (cancel.Unfreeze coll slot number source) w = cancel.GiveUp coll slot
cancel_next shape (cancel.GiveUp coll slot) w = next_cancelled shape coll slot
cancel_next shape cancel.End w = cancel.End

-- what a step of a cancel changes
abbrev pub cancel_change : Layout → CancelPhase → Word → Change
cancel_change shape cancel.End w = ends done.Cancelled
cancel_change shape next w = goes (phase.Cancel (cancel_next shape next w))
