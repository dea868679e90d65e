-- Remove: the entry is marked, and the first to do so leaves the slot and the entry for later use.
use Rattle.std.specs.Prelude.{ℕ, ◌+◌, true, false, if◌then◌else◌}
use Rattle.smc_words.specs.declared.dir.Dir.TheVariants as dir
use Rattle.smc_words.specs.declared.number.Number.{Number}
use Rattle.smc_shape.specs.declared.place.Place.TheVariants as place
use Rattle.smc_model.specs.declared.event.Event.TheVariants as event
use Rattle.smc_core.specs.declared.change.Change.{Change}
use Rattle.smc_core.specs.declared.done.Done.TheVariants as done
use Rattle.smc_core.specs.declared.kind.Kind.TheVariants as kind
use Rattle.smc_core.specs.declared.op.Offer.{Offer}
use Rattle.smc_core.specs.declared.op.Op.TheVariants.{Store}
use Rattle.smc_core.specs.declared.phase.Phase.TheVariants as phase
use Rattle.smc_core.specs.declared.phase.objects.RemovePhase.{RemovePhase}
use Rattle.smc_core.specs.declared.phase.objects.RemovePhase.TheVariants as remove
use Rattle.smc_core.specs.declared.word.State.{State}
use Rattle.smc_core.specs.declared.word.State.TheVariants as state
use Rattle.smc_core.specs.declared.word.Word.TheVariants as word
use Rattle.smc_core.specs.Step.{step, goes, goes_telling, ends, tells}
use Rattle.smc_core.specs.Words.{is_gone}

-- the step of a first remove, in a section at this epoch: what it leaves has the stamp one above
abbrev pub remove_offer : ℕ → RemovePhase → Offer
remove_offer epoch (remove.LeaveSlot slot number) = step kind.LeaveSlot (Store (place.Directory number.coll slot) (word.Directory (dir.Limbo (epoch + 1))))
remove_offer epoch (remove.FreeEntry number) = step kind.FreeEntry (Store (place.Entry number.coll number.entry) (word.Entry (state.Free number.incarnation (epoch + 1))))

-- by the entry that was marked: where it had the mark the remove is late
abbrev pub mark_seen : Number → ℕ → State → Change
mark_seen number slot seen = if is_gone seen then tells (event.Remove number false) done.Late else goes_telling (event.Remove number true) (phase.Remove (remove.LeaveSlot slot number))

-- what a step of a first remove changes
abbrev pub remove_change : RemovePhase → Change
remove_change (remove.LeaveSlot slot number) = goes (phase.Remove (remove.FreeEntry number))
remove_change (remove.FreeEntry number) = ends done.First
