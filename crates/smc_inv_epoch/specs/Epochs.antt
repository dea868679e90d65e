-- What each step keeps, and what it comes to.
use Rattle.std.specs.Prelude.{Bool, true, false, IsSomeAnd}
use Rattle.smc_shape.specs.Layout.{Layout, IsShape}
use Rattle.smc_shape.specs.declared.place.Place.{Place}
use Rattle.smc_shape.specs.declared.place.Place.TheVariants as place
use Rattle.smc_core.specs.declared.local.Opening.{Opening}
use Rattle.smc_core.specs.Machine.{Machine}
use Rattle.smc_model.specs.World.{World}
use Rattle.smc_rules.specs.History.{History}
use Rattle.smc_core.specs.Played.{Schedule, shape_of, played}
use Rattle.smc_rules.specs.EpochAgreement.{EpochAgreement}
use Rattle.smc_rules.specs.EpochRule.{EpochRule}
use Rattle.smc_rules.specs.State.{State, IsKept, Backed}

-- the places of the epoch, the round and the section words
abbrev pub is_first : Place → Bool
is_first place.Epoch = true
is_first place.Round = true
is_first (place.Section pass) = true
is_first _ = false

-- the epoch rule, with what it needs to be kept
pub record Epochs (shape : Layout) (state : State) : Type 0 where
  pub rule : EpochRule shape state
  pub agrees : EpochAgreement shape state

-- each step of each kind keeps it, whatever an entry, a directory word, an owner, a target or a field says
abbrev pub EpochsAreKept : Type 0
EpochsAreKept = (shape : Layout) → IsShape shape → IsKept shape is_first (Epochs shape)

-- the opening of a schedule's region
abbrev pub opening_of : Schedule → Opening
opening_of s = record { epoch = s.epoch; incarnation = s.incarnation }

-- the epoch rule holds where a schedule has led, if all of it can be played
abbrev pub HoldsAfter : Schedule → Type 0
HoldsAfter s = IsSomeAnd (played s) (λ m. Backed (shape_of s) is_first (EpochRule (shape_of s)) m.row m.locals)

-- behind the machine of every history stands a state that has the epoch rule; the row mirrors its epoch, its round and
-- its section words
abbrev pub EpochRuleHolds : Type 0
EpochRuleHolds = (shape : Layout) (opening : Opening) (first : World) (m : Machine) → IsShape shape → History shape opening first m
    → Backed shape is_first (EpochRule shape) m.row m.locals
