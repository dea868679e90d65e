-- What is true of all that happened in a region: its one order, and what logs and answers tell of the world at their places.
use Rattle.std.specs.Prelude.{◌≡◌, ℕ, ◌<◌, ◌≤◌, IsSome, Some, List, ◌∷◌, ◌++◌, slice_get}
use Rattle.smc_words.specs.declared.number.Number.{Number}
use Rattle.smc_shape.specs.Layout.{Layout, IsShape, slots_of}
use Rattle.smc_model.specs.declared.event.Cause.{Cause}
use Rattle.smc_model.specs.declared.event.Event.{Event}
use Rattle.smc_model.specs.declared.event.Event.TheVariants.{Add}
use Rattle.smc_model.specs.World.{World, Present, count_of, empty_world, object_of}
use Rattle.smc_core.specs.declared.local.Local.{Local}
use Rattle.smc_core.specs.declared.local.Opening.{Opening}
use Rattle.smc_core.specs.declared.phase.Phase.TheVariants.{Idle}
use Rattle.smc_core.specs.Count.{blocks_for}
use Rattle.smc_core.specs.Machine.{Machine}
use Rattle.smc_rules.specs.History.{History, history_order}
use Rattle.smc_rules.specs.Reads.{object}
use Rattle.smc_trace.specs.Named.{refuses}
use Rattle.smc_trace.specs.Trace.{CallEnd, IsTrace}
use Rattle.smc_calls.specs.Laws.{IsMadeAlong}
use Rattle.smc_epochs.specs.Epochs.{CountsEpochs}
use Rattle.smc_alone.specs.Calm.{IsCalm, has_round}
use Rattle.smc_alone.specs.Drives.{Drove, Surveyed}
use Rattle.smc_alone.specs.Laws.{DidAlone}
use Rattle.smc_alone.specs.Ripening.{LetsRipen}
use Rattle.smc_chronicle.specs.Places.{EventPlace, GivenSeldom, world_at}

-- what each world of the order keeps to
pub record FitsRegion (shape : Layout) (opening : Opening) (world : World) : Type 0 where
  -- no more objects are present than there are slots
  pub within : (coll : ℕ) → count_of world coll ≤ slots_of shape coll
  -- each entry has at most one present number
  pub one_number : (coll entry a b : ℕ) → Present world (object a entry coll) → Present world (object b entry coll) → a ≡ b
  -- and has left out no incarnation
  pub none_left_out : (coll entry a b : ℕ) → IsSome (object_of world (object a entry coll)) → opening.incarnation < b → b ≤ a
      → IsSome (object_of world (object b entry coll))

-- what is true of a history
pub record Chronicle (shape : Layout) (opening : Opening) (m : Machine) (h : History shape opening empty_world m) : Type 0 where
  -- each idle pass has one trace, and has made its calls in the steps, one after the other
  pub traces : (pass : ℕ) (l : Local) → slice_get m.locals pass ≡ Some l → l.stand.phase ≡ Idle → IsMadeAlong shape h.start pass h.steps m l
  -- each event of a trace has its place in the order
  pub places : (pass : ℕ) (l : Local) (before : List CallEnd) (end : CallEnd) (after : List CallEnd) (event : Event) → slice_get m.locals pass ≡ Some l
      → IsTrace l (before ++ end ∷ after) → end.event ≡ Some event → (at : EventPlace (history_order h) pass before) × (at.event ≡ event)
  -- the world at each place fits the region
  pub fits : (earlier later : List (ℕ × Event)) → history_order h ≡ earlier ++ later → FitsRegion shape opening (world_at earlier)
  -- an add that was made has found room
  pub room : (earlier later : List (ℕ × Event)) (pass coll : ℕ) (number : Number) (words : List ℕ)
      → history_order h ≡ earlier ++ (pass, Add number coll words) ∷ later → count_of (world_at earlier) coll < slots_of shape coll
  -- an add that was refused, alone, behind calls that let all ripen, has found as many objects present as there are slots
  pub full : (pass coll : ℕ) (before tried : List CallEnd) (cause : Cause) → DidAlone m.locals pass before (tried ++ refuses coll cause) → LetsRipen tried
      → (at : EventPlace (history_order h) pass (before ++ tried)) → GivenSeldom opening coll at.earlier
      → count_of (world_at at.earlier) coll ≡ slots_of shape coll
  -- a survey that was alone tells how many objects are present at its place
  pub surveyed : (pass coll objects blocks : ℕ) (before calls : List CallEnd) → DidAlone m.locals pass before calls → Surveyed coll objects blocks calls
      → (at : EventPlace (history_order h) pass (before ++ calls)) → objects ≡ count_of (world_at at.earlier) coll
  -- behind a drive, alone with it, also the fewest blocks for them
  pub packed : (pass coll objects blocks : ℕ) (before drove calls : List CallEnd) → DidAlone m.locals pass before (drove ++ calls) → Drove coll drove
      → Surveyed coll objects blocks calls → (at : EventPlace (history_order h) pass (before ++ (drove ++ calls)))
      → (objects ≡ count_of (world_at at.earlier) coll) × (blocks ≡ blocks_for objects)
  -- no other pass holds up a call that was alone
  pub calm : (pass : ℕ) (before calls : List CallEnd) (end : CallEnd) (later : List CallEnd) → DidAlone m.locals pass before (calls ++ end ∷ later)
      → IsCalm pass (has_round (before ++ calls)) end.done
  -- the epoch is counted by answers
  pub epochs : CountsEpochs shape opening m

-- so it is of every history of a region that opened without objects
abbrev pub HistoriesHaveChronicles : Type 0
HistoriesHaveChronicles = (shape : Layout) (opening : Opening) (m : Machine) → IsShape shape → (h : History shape opening empty_world m)
    → Chronicle shape opening m h
