-- What the rules speak of: the memory of a region, and where each of its passes stands.
use Rattle.std.specs.Prelude.{◌≡◌, ℕ, ◌<◌, ◌==◌, Bool, IsTrue, Option, Some, None, List, length, slice_get, if◌then◌else◌}
use Rattle.smc_shape.specs.Layout.{Layout}
use Rattle.smc_shape.specs.declared.place.Place.{Place}
use Rattle.smc_model.specs.declared.event.Event.{Event}
use Rattle.smc_model.specs.World.{World, empty_world, world_after}
use Rattle.smc_core.specs.declared.call.Choice.{Choice}
use Rattle.smc_core.specs.declared.change.Change.{Change}
use Rattle.smc_core.specs.declared.local.Local.{Local}
use Rattle.smc_core.specs.declared.local.Opening.{Opening}
use Rattle.smc_core.specs.declared.local.Stand.{Stand}
use Rattle.smc_core.specs.declared.op.Offer.{Offer}
use Rattle.smc_core.specs.declared.op.Op.{Op}
use Rattle.smc_core.specs.declared.word.Word.{Word}
use Rattle.smc_core.specs.Change.{change}
use Rattle.smc_core.specs.Local.{fresh, stand_after}
use Rattle.smc_core.specs.Machine.{first_word}
use Rattle.smc_core.specs.Offer.{offer}
use Rattle.smc_core.specs.Row.{OpFits, place_of}
use Rattle.smc_rules.specs.Memory.{Memory, apply, seen}
use Rattle.smc_rules.specs.Mirror.{MirrorsAt}

-- a region at one moment, as data: what its places say, where its passes stand, and the plain world that the events up
-- to now have made
pub record State : Type 0 where
  pub memory : Memory
  pub stands : ℕ → Stand
  pub world : World

-- the world after a step that tells this event, or none
abbrev pub world_told : World → Option Event → World
world_told world None = world
world_told world (Some event) = world_after world event

-- where the passes stand once this one stands here
abbrev pub put_stand : (ℕ → Stand) → ℕ → Stand → ℕ → Stand
put_stand stands pass stand other = if other == pass then stand else stands other

-- what a pass that stands here offers for the choice
abbrev pub stand_offer : Layout → ℕ → Stand → Choice → Option Offer
stand_offer shape pass stand choice = offer shape pass stand stand.section stand.phase choice

-- what a step that shows this word changes in a pass that stands here
abbrev pub stand_change : Layout → ℕ → Stand → Choice → ℕ → Word → Change
stand_change shape pass stand choice told w = change shape pass stand stand.section stand.phase choice told w

-- where the pass stands then
abbrev pub stand_then : Layout → ℕ → Stand → Choice → ℕ → Word → Stand
stand_then shape pass stand choice told w = stand_after shape pass stand choice w (stand_change shape pass stand choice told w)

-- the state after a step of this pass by this operation, which shows this word
abbrev pub state_after : Layout → State → ℕ → Choice → ℕ → Op → Word → State
state_after shape state pass choice told op w = record {
  memory = apply op state.memory;
  stands = put_stand state.stands pass (stand_then shape pass (state.stands pass) choice told w);
  world = world_told state.world (stand_change shape pass (state.stands pass) choice told w).event;
}

-- the state in which a region begins
abbrev pub first_state : Layout → Opening → State
first_state shape opening = record { memory = first_word opening; stands = λ pass. (fresh shape).stand; world = empty_world }

-- the state stands behind the row and the local states: at these places the row mirrors its memory
pub record Backs (shape : Layout) (these : Place → Bool) (row : List ℕ) (locals : List Local) (state : State) : Type 0 where
  pub mirrors : MirrorsAt shape these row state.memory
  pub count : length locals ≡ shape.passes
  pub same : (pass : ℕ) (l : Local) → slice_get locals pass ≡ Some l → state.stands pass ≡ l.stand

-- each step keeps the rule: an operation on a mirrored place fits, and the rule holds after the step, whatever word is
-- shown by a place that is not mirrored
pub record IsKept (shape : Layout) (these : Place → Bool) (Rule : State → Type 0) : Type 0 where
  pub fits : (state : State) (pass : ℕ) (choice : Choice) (offered : Offer) → pass < shape.passes → Rule state
      → stand_offer shape pass (state.stands pass) choice ≡ Some offered
      → IsTrue (these (place_of offered.op)) → OpFits shape offered.op
  pub kept : (state : State) (pass : ℕ) (choice : Choice) (offered : Offer) (told : ℕ) (w : Word) → pass < shape.passes → Rule state
      → stand_offer shape pass (state.stands pass) choice ≡ Some offered
      → (IsTrue (these (place_of offered.op)) → w ≡ seen offered.op state.memory)
      → Rule (state_after shape state pass choice told offered.op w)

-- some state stands behind the row and the local states, and has the rule
pub record Backed (shape : Layout) (these : Place → Bool) (Rule : State → Type 0) (row : List ℕ) (locals : List Local) : Type 0 where
  pub state : State
  pub backs : Backs shape these row locals state
  pub rule : Rule state
