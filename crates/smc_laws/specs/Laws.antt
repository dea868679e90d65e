-- What holds in the state of every history of a region: from each start, after every list of steps.
use Rattle.std.specs.Prelude.{◌≡◌, ◌≢◌, ℕ, ◌<◌, Some, IsSomeAnd}
use Rattle.smc_words.specs.declared.dir.Dir.TheVariants as dir
use Rattle.smc_words.specs.declared.number.Number.{Number}
use Rattle.smc_shape.specs.Layout.{Layout}
use Rattle.smc_model.specs.World.{empty_world}
use Rattle.smc_core.specs.declared.call.Choice.{Choice}
use Rattle.smc_core.specs.declared.local.Opening.{Opening}
use Rattle.smc_core.specs.declared.op.Offer.{Offer}
use Rattle.smc_core.specs.declared.word.State.TheVariants as state
use Rattle.smc_core.specs.Played.{Schedule, shape_of, played}
use Rattle.smc_inv_epoch.specs.Epochs.{opening_of}
use Rattle.smc_rules.specs.Calls.{Copying, copying_of}
use Rattle.smc_rules.specs.EpochRule.{EpochRule}
use Rattle.smc_rules.specs.History.{History, history_state}
use Rattle.smc_rules.specs.Memory.{seen}
use Rattle.smc_rules.specs.Reads.{state_for, dir_in, forward_in}
use Rattle.smc_rules.specs.RelocationRule.{Holds, RelocationRule}
use Rattle.smc_rules.specs.SlotRule.{SlotRule}
use Rattle.smc_rules.specs.State.{State, stand_offer, stand_change}

-- all three rules of one state
pub record AllRules (shape : Layout) (opening : Opening) (s : State) : Type 0 where
  pub epochs : EpochRule shape s
  pub slots : SlotRule shape opening s
  pub moves : RelocationRule shape s

-- the relocation rule does not speak of the opening
abbrev pub Relocation : Layout → Opening → State → Type 0
Relocation shape opening s = RelocationRule shape s

-- where a schedule has led, if all of it can be played, there is a history from the empty world, in whose state all three rules hold
abbrev pub HoldAfter : Schedule → Type 0
HoldAfter s = IsSomeAnd (played s) (λ m. (h : History (shape_of s) (opening_of s) empty_world m) × AllRules (shape_of s) (opening_of s) (history_state h))

-- a step that finds an object which its section holds finds it in the same slot
abbrev pub KeepsPlaces : Layout → Opening → State → Type 0
KeepsPlaces shape opening s = (pass : ℕ) (choice : Choice) (offered : Offer) (told slot there : ℕ) (number : Number) → pass < shape.passes
    → stand_offer shape pass (s.stands pass) choice ≡ Some offered → Holds (s.stands pass) number slot
    → (stand_change shape pass (s.stands pass) choice told (seen offered.op s.memory)).holds ≡ Some (record { number = number; slot = there }) → there ≡ slot

-- what a section holds, or a call copies, is claimed by nobody: neither its slots nor its entry
pub record LeavesAlone (shape : Layout) (opening : Opening) (s : State) : Type 0 where
  pub held_slot : (pass slot : ℕ) (number : Number) → pass < shape.passes → Holds (s.stands pass) number slot → dir_in s.memory number.coll slot ≢ dir.Claimed
  pub held_entry : (pass slot incarnation : ℕ) (number : Number) → pass < shape.passes → Holds (s.stands pass) number slot → state_for s.memory number ≢ state.Claimed incarnation
  pub source : (pass : ℕ) (c : Copying) → pass < shape.passes → copying_of (s.stands pass).phase ≡ Some c → dir_in s.memory c.number.coll c.source ≢ dir.Claimed
  pub target : (pass : ℕ) (c : Copying) → pass < shape.passes → copying_of (s.stands pass).phase ≡ Some c
      → dir_in s.memory c.number.coll (forward_in s.memory c.number.coll c.source) ≢ dir.Claimed
